use Rattle.std.proofs.Common.{◌∙◌, List, ap, drop, map, sym}
use Rattle.std.specs.Borrow.{Bor}
use Rattle.std.proofs.lemmas.List.{drop-map, take_rest}
use denote.Enum.Declared.{tag_of}
use Rattle.grammar_table.specs.contracts.symbols.Nonterminal as nonterminal
use Rattle.grammar_table.specs.declared.productions.Head.{Head}
use Rattle.grammar_table.specs.declared.symbols.Symbol.{Symbol}
use Rattle.grammar_table.specs.Choices.{pick}
use Rattle.grammar_table.proofs.choices.choose.Goals as goal

pub returns-then-front-rows : goal.returns-then-front-rows
returns-then-front-rows c =
    let at = tag_of nonterminal.the_type c.args.phrase in
    c.among.ensures
    ∙ ap (λ (l : List (Head × Bor (List Symbol))). pick at c.place.result c.args.first (map (λ r. r.0) l)) (take_rest c.args.rows.now c.args.first)
    ∙ ap (λ (l : List Head). pick at c.place.result c.args.first l) (sym (drop-map (λ (r : Head × Bor (List Symbol)). r.0) c.args.first c.args.rows.now))
    ∙ ap (λ p. pick at p c.args.first (drop c.args.first (map (λ r. r.0) c.args.rows.now))) c.place.ensures.value
