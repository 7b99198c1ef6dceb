use Rattle.std.proofs.Common.{◌∙◌, ◌∷◌, List, ap}
use Rattle.grammar_table.specs.declared.symbols.Nonterminal.TheVariants.{File}
use Rattle.grammar_table.specs.declared.symbols.Symbol.{Symbol}
use Rattle.grammar_table.specs.declared.symbols.Symbol.TheVariants.{Phrase}
use Rattle.grammar_table.proofs.Steps.{first_run}
use Rattle.grammar_table.proofs.run.Run.new.Goals as goal

pub returns : goal.returns
returns c = first_run _ _ _ c.new-2.ensures c.new.ensures (c.in_ok-push.ensures ∙ ap (λ (l : List Symbol). Phrase File ∷ l) c.new-stack.ensures)
