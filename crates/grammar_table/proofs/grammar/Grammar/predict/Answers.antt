use Rattle.std.proofs.Common.{◌∙◌, List, ap, drop}
use denote.Enum.Declared.{tag_of}
use Rattle.std.specs.Prelude.{slice_index}
use Rattle.grammar_table.specs.contracts.symbols.Nonterminal as nonterminal
use Rattle.grammar_table.specs.declared.productions.Head.{Head}
use Rattle.grammar_table.specs.Choices.{pick, place}
use Rattle.grammar_table.proofs.Firsts.{chosen_from}
use Rattle.grammar_table.proofs.grammar.Grammar.predict.Goals as goal

pub returns : goal.returns
returns c =
    let at = tag_of nonterminal.the_type c.args.phrase in
    let first = slice_index c.self.inside.firsts at in
    c.choose.ensures
    ∙ ap (λ (hs : List Head). pick at (place c.args.next) first (drop first hs)) c.rows.ensures.heads
    ∙ chosen_from c.self.inside.firsts c.args.phrase (place c.args.next) c.self.invariant
