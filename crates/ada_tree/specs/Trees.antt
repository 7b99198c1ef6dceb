-- The tree that a list of tokens spells.
use Rattle.std.specs.Prelude.{◌≡◌, List, [], ◌∷◌, drop}
use Rattle.ada_text.specs.declared.token.Token.{Token}
use Rattle.ada_syntax.specs.declared.units.SourceUnit.{SourceUnit}
use Rattle.grammar_table.specs.Answers.{start, terminals}
use Rattle.grammar_table.specs.Parses.{Parses, Step, taken}
use Rattle.grammar_table.specs.Productions.{productions}
use Rattle.tree_parts.specs.declared.parts.Part.{Part}
use Rattle.tree_parts.specs.declared.parts.Part.TheVariants as part
use Rattle.tree_parts.specs.declared.unit_parts.UnitPart.TheVariants as unit_part
use Rattle.ada_tree.specs.declared.weave.Move.{Move}
use Rattle.ada_tree.specs.declared.weave.Move.TheVariants.{Take, Expand}
use Rattle.ada_tree.specs.Made.{made, rule_at}
use Rattle.tree_parts.specs.Missing.{nothing}
use Rattle.ada_tree.specs.Moves.{moves_of}

abbrev pub first_token : List Token → Token
first_token [] = nothing
first_token (t ∷ ts) = t

-- the tokens after a move
abbrev pub tokens_after : Move → List Token → List Token
tokens_after Take ts = drop 1 ts
tokens_after (Expand k) ts = ts

-- the parts from a move on, where the second list has those after it
abbrev pub with_move : Move → List Token → List Part → List Part
with_move Take ts ps = part.Token (first_token ts) ∷ ps
with_move (Expand k) ts ps = made (rule_at k) ps

-- the parts that the rest of a parse has: a token is a part, and a production makes one part of those of its right side
abbrev pub parts_of : List Move → List Token → List Part
parts_of [] ts = []
parts_of (m ∷ ms) ts = with_move m ts (parts_of ms (tokens_after m ts))

-- the steps make a tree of the tokens
abbrev pub IsTree : SourceUnit → List Step → List Token → Type 0
IsTree u steps ts = parts_of (moves_of steps) ts ≡ part.Unit (unit_part.SourceUnit u) ∷ []

-- these tokens are this tree
abbrev pub Spells : SourceUnit → List Token → Type 0
Spells u ts = (steps : List Step) × Parses productions start steps × (taken steps ≡ terminals ts) × IsTree u steps ts
