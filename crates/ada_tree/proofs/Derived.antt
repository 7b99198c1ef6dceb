-- What the moves of a derivation make.
use Rattle.std.proofs.Common.{◌≡◌, ◌≤◌, ◌+◌, refl, sym, ◌∙◌, ap, subst, ℕ, suc, List, [], ◌∷◌, ◌++◌, length, drop, append_assoc, arith}
use Rattle.std.proofs.lemmas.List.{drop-drop}
use Rattle.ada_text.specs.declared.token.Token.{Token}
use Rattle.ada_syntax.specs.declared.units.SourceUnit.{SourceUnit}
use Rattle.grammar_table.specs.Answers.{Derives, start, terminals}
use Rattle.grammar_table.specs.Parses.{Production, Step, take, expand, taken}
use Rattle.grammar_table.specs.Productions.{productions}
use Rattle.tree_parts.specs.declared.parts.Part.{Part}
use Rattle.tree_parts.specs.declared.parts.Part.TheVariants as part
use Rattle.tree_parts.specs.declared.unit_parts.UnitPart.TheVariants as unit_part
use Rattle.ada_tree.specs.declared.weave.Move.{Move}
use Rattle.ada_tree.specs.declared.weave.Move.TheVariants.{Take, Expand}
use Rattle.ada_tree.specs.Moves.{moves_of, takes, woven}
use Rattle.tree_parts.specs.Parts.{first, source_unit_of}
use Rattle.ada_tree.specs.Trees.{Spells, parts_of, tokens_after, with_move}
use Rattle.ada_tree.proofs.Total.{has_tree}
use Rattle.ada_tree.proofs.Weaving.{woven_parse}

-- a take for each token
takes_taken : (steps : List Step) → takes (moves_of steps) ≡ length (taken steps)
takes_taken [] = refl
takes_taken (take t e ∷ steps) = ap suc (takes_taken steps)
takes_taken (expand k ∷ steps) = takes_taken steps

length_terminals : (ts : List Token) → length (terminals ts) ≡ length ts
length_terminals [] = refl
length_terminals (t ∷ ts) = ap suc (length_terminals ts)

-- the moves that are woven are those of the derivation's parse
pub moves_are : (g : List Production) (d : List ℕ) (ts : List Token) (ms : List Move) (h : Derives productions (terminals ts) d) → g ≡ productions → ms ≡ woven g d start → ms ≡ moves_of h.0
moves_are g d ts ms (steps, p, t, u, s) same is =
    is ∙ ap (λ (x : List Production). woven x d start) same ∙ ap (λ (x : List ℕ). woven productions x start) (sym u) ∙ woven_parse productions start steps p

pub takes_all : (g : List Production) (d : List ℕ) (ts : List Token) (ms : List Move) → Derives productions (terminals ts) d → g ≡ productions → ms ≡ woven g d start → takes ms ≡ length ts
takes_all g d ts ms h same is =
    ap takes (moves_are g d ts ms h same is) ∙ takes_taken h.0 ∙ ap length h.2 ∙ length_terminals ts

pub spells_made : (g : List Production) (d : List ℕ) (ts : List Token) (ms : List Move) (ps : List Part) (u : SourceUnit) → Derives productions (terminals ts) d → g ≡ productions → ms ≡ woven g d start → ps ≡ parts_of ms ts → u ≡ source_unit_of (first ps) → Spells u ts
spells_made g d ts ms ps u h same is parts unit =
    let moves : ms ≡ moves_of h.0 = moves_are g d ts ms h same is in
    let all : ps ≡ parts_of (moves_of h.0) ts = parts ∙ ap (λ (x : List Move). parts_of x ts) moves in
    let of_all : u ≡ source_unit_of (first (parts_of (moves_of h.0) ts)) = unit ∙ ap (λ (x : List Part). source_unit_of (first x)) all in
    (h.0, h.1, h.2, subst (λ (v : SourceUnit). parts_of (moves_of h.0) ts ≡ part.Unit (unit_part.SourceUnit v) ∷ []) (sym of_all) (has_tree h.0 ts h.1))

pub takes_append : (ms : List Move) (m : Move) → takes (ms ++ m ∷ []) ≡ takes ms + takes (m ∷ [])
takes_append [] m = omega arith
takes_append (Take ∷ ms) m = omega (arith, takes_append ms m)
takes_append (Expand k ∷ ms) m = takes_append ms m

-- the tokens after a move are those before it without the one that it takes
after_move : (m : Move) (before left : ℕ) (ts : List Token) → before + takes (m ∷ []) ≡ left → tokens_after m (drop before ts) ≡ drop left ts
after_move Take before left ts e = drop-drop 1 before ts ∙ ap (λ (n : ℕ). drop n ts) e
after_move (Expand k) before left ts e =
    let same : before ≡ left = omega (arith, e) in
    ap (λ (n : ℕ). drop n ts) same

-- a turn from the last move to the one before it
pub turned : (new old done all : List Move) (last : Move) (left before : ℕ) (ts : List Token) (ps qs : List Part) → old ≡ new ++ last ∷ [] → left ≡ takes old → left ≤ length ts → old ++ done ≡ all → ps ≡ parts_of done (drop left ts) → before + takes (last ∷ []) ≡ left → qs ≡ with_move last (drop before ts) ps → (before ≡ takes new) × (before ≤ length ts) × ((x : List Move) × (new ++ x ≡ all) × (qs ≡ parts_of x (drop before ts)))
turned new old done all last left before ts ps qs popped is within joined parts taken put =
    let count : takes old ≡ takes new + takes (last ∷ []) = ap takes popped ∙ takes_append new last in
    let rest : tokens_after last (drop before ts) ≡ drop left ts = after_move last before left ts taken in (
      omega (arith, count, taken, is),
      omega (arith, within, taken),
      (
        last ∷ done,
        sym (append_assoc new (last ∷ []) done) ∙ ap (λ (l : List Move). l ++ done) (sym popped) ∙ joined,
        put ∙ ap (λ (l : List Part). with_move last (drop before ts) l) (parts ∙ ap (λ (l : List Token). parts_of done l) (sym rest)),
      ),
    )
