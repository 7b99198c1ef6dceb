use Rattle.std.proofs.Common.{List, ℕ, refl, sym, ap, ◌∙◌, length}
use Rattle.ada_text.specs.declared.token.Token.{Token}
use Rattle.grammar_table.specs.Answers.{start}
use Rattle.grammar_table.specs.Productions.{productions}
use Rattle.tree_parts.specs.Parts.{source_unit_from}
use Rattle.ada_tree.specs.Moves.{woven}
use Rattle.ada_tree.specs.Trees.{parts_of}
use Rattle.ada_tree.proofs.Derived.{spells_made, takes_all}
use Rattle.ada_tree.proofs.building.build.Goals as goal

pub parts_of-requires : goal.parts_of-requires
parts_of-requires c =
    takes_all productions c.args.derivation.now.productions c.args.tokens.now c.in_ok-moves.moves c.requires refl (c.in_ok-moves.ensures ∙ ap (λ (d : List ℕ). woven productions d start) c.as_slice.ensures)
    ∙ ap length (sym c.as_slice-2.ensures)

pub returns : goal.returns
returns c =
    spells_made productions c.args.derivation.now.productions c.args.tokens.now c.in_ok-moves.moves c.in_ok-parts.parts c.in_ok-tree.tree c.requires refl (c.in_ok-moves.ensures ∙ ap (λ (d : List ℕ). woven productions d start) c.as_slice.ensures)
    (c.in_ok-parts.ensures ∙ ap (λ (ts : List Token). parts_of c.in_ok-moves.moves ts) c.as_slice-2.ensures)
    (c.in_ok-tree.ensures ∙ ap source_unit_from c.unit.ensures.value)
