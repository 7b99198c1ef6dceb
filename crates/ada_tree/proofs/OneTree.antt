-- A list of tokens has at most one tree.
use Rattle.std.proofs.Common.{◌≡◌, sym, ◌∙◌, ap, List, [], ◌∷◌}
use Rattle.ada_text.specs.declared.token.Token.{Token}
use Rattle.ada_syntax.specs.declared.units.SourceUnit.{SourceUnit}
use Rattle.grammar_table.specs.Answers.{start}
use Rattle.grammar_table.specs.Parses.{Step}
use Rattle.grammar_table.proofs.Only.{start_consistent}
use Rattle.grammar_table.proofs.Parsing.{same_parse}
use Rattle.tree_parts.specs.declared.parts.Part.TheVariants as part
use Rattle.tree_parts.specs.declared.unit_parts.UnitPart.TheVariants as unit_part
use Rattle.ada_tree.specs.Moves.{moves_of}
use Rattle.ada_tree.specs.Trees.{Spells, parts_of}

one_unit : (u v : SourceUnit) → part.Unit (unit_part.SourceUnit u) ∷ [] ≡ part.Unit (unit_part.SourceUnit v) ∷ [] → u ≡ v
one_unit u v e = cc

pub one_tree : (u v : SourceUnit) (ts : List Token) → Spells u ts → Spells v ts → u ≡ v
one_tree u v ts a b =
    let steps : a.0 ≡ b.0 = same_parse start a.0 b.0 start_consistent a.1 b.1 (a.2 ∙ sym b.2) in
    one_unit u v (sym a.3 ∙ ap (λ (s : List Step). parts_of (moves_of s) ts) steps ∙ b.3)
