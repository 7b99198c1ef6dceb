-- Each parse of a file has a tree.
use Rattle.std.proofs.Common.{◌≡◌, ◌≤◌, ◌+◌, refl, sym, ◌∙◌, ap, subst, ℕ, zero, suc, Bool, true, false, List, [], ◌∷◌, ◌++◌, map, length, Some, if◌then◌else◌, arith, length-append}
use Rattle.ada_text.specs.declared.token.Token.{Token}
use Rattle.grammar_table.specs.Answers.{start}
use Rattle.grammar_table.specs.Parses.{Production, Parses, Step, take, expand, left_of, right_of}
use Rattle.grammar_table.specs.Productions.{productions}
use Rattle.grammar_table.specs.declared.symbols.Nonterminal.{Nonterminal}
use Rattle.grammar_table.specs.declared.symbols.Nonterminal.TheVariants as non
use Rattle.grammar_table.specs.declared.symbols.Symbol.{Symbol}
use Rattle.grammar_table.specs.declared.symbols.Symbol.TheVariants.{Token as token, Phrase}
use Rattle.tree_parts.specs.declared.parts.Part.{Part}
use Rattle.tree_parts.specs.declared.parts.Part.TheVariants as part
use Rattle.tree_parts.specs.declared.unit_parts.UnitPart.TheVariants as unit_part
use Rattle.ada_tree.specs.declared.rules.Rule.{Rule}
use Rattle.ada_tree.specs.Made.{made, rule_among, rule_at, rules as table}
use Rattle.ada_tree.specs.Moves.{moves_of}
use Rattle.tree_parts.specs.Parts.{after, first, source_unit_of}
use Rattle.ada_tree.specs.Trees.{parts_of}
use Rattle.ada_tree.proofs.Arities.{arity, made_one, length-after}

abbrev symbols_in : Production → ℕ
symbols_in p = length p.right

-- a rule takes as many parts as its production has symbols
arities_fit : map symbols_in productions ≡ map arity table
unfolding productions table
arities_fit = refl

arity_among : (ps : List Production) (rs : List Rule) (k : ℕ) (n : Nonterminal) → map symbols_in ps ≡ map arity rs → left_of ps k ≡ Some n → length (right_of ps k) ≡ arity (rule_among rs k)
arity_among [] rs k n e h = cc
arity_among (p ∷ ps) [] k n e h = cc
arity_among (p ∷ ps) (r ∷ rs) zero n e h = cc
arity_among (p ∷ ps) (r ∷ rs) (suc k) n e h = arity_among ps rs k n (cc) h

pub arity_at : (k : ℕ) (n : Nonterminal) → left_of productions k ≡ Some n → length (right_of productions k) ≡ arity (rule_at k)
unfolding rule_at
arity_at k n h = arity_among productions table k n arities_fit h

-- what is left of a parse has a part for each symbol
pub parts_for_symbols : (ss : List Symbol) (steps : List Step) (ts : List Token) → Parses productions ss steps → length (parts_of (moves_of steps) ts) ≡ length ss
parts_for_symbols [] [] ts p = refl
parts_for_symbols [] (s ∷ steps) ts p = absurd p
parts_for_symbols (token t e ∷ ss) [] ts p = absurd p
parts_for_symbols (token t e ∷ ss) (take u f ∷ steps) ts p = ap suc (parts_for_symbols ss steps _ p.2)
parts_for_symbols (token t e ∷ ss) (expand k ∷ steps) ts p = absurd p
parts_for_symbols (Phrase n ∷ ss) [] ts p = absurd p
parts_for_symbols (Phrase n ∷ ss) (take u f ∷ steps) ts p = absurd p
parts_for_symbols (Phrase n ∷ ss) (expand k ∷ steps) ts p =
    let parts : List Part = parts_of (moves_of steps) ts in
    let all : length parts ≡ length (right_of productions k ++ ss) = parts_for_symbols (right_of productions k ++ ss) steps ts p.1 in
    let fits : length (right_of productions k) ≡ arity (rule_at k) = arity_at k n p.0 in
    let both : length (right_of productions k ++ ss) ≡ length (right_of productions k) + length ss = length-append (right_of productions k) ss in
    let enough : arity (rule_at k) ≤ length parts = omega arith in
    let left : arity (rule_at k) + length (after (arity (rule_at k)) parts) ≡ length parts = length-after (arity (rule_at k)) parts enough in
    let one : length (after (arity (rule_at k)) parts) ≡ length ss = omega arith in
    ap length (made_one (rule_at k) parts enough) ∙ ap suc one

abbrev is_file : Nonterminal → Bool
is_file non.File = true
is_file _ = false

abbrev tail : List Production → List Production
tail [] = []
tail (p ∷ ps) = ps

abbrev no_file : List Production → Bool
no_file [] = true
no_file (p ∷ ps) = if is_file p.left then false else no_file ps

file_later : (ps : List Production) (k : ℕ) → no_file ps ≡ true → left_of ps k ≡ Some non.File → ⊥
file_later [] k h e = cc
file_later (p ∷ ps) zero h e =
    let q : p.left ≡ non.File = cc in
    let r : false ≡ true = subst (λ (n : Nonterminal). (if is_file n then false else no_file ps) ≡ true) q h in
    cc
file_later (p ∷ ps) (suc k) h e =
    let no_more : no_file ps ≡ true = elim (is_file p.left) as (λ b. (if b then false else no_file ps) ≡ true → no_file ps ≡ true) [ true ↦ λ x. cc | false ↦ λ x. x ] h in
    file_later ps k no_more e

later_none : no_file (tail productions) ≡ true
unfolding productions
later_none = refl

-- the first production alone is that of a file
file_first : (ps : List Production) (k : ℕ) → no_file (tail ps) ≡ true → left_of ps k ≡ Some non.File → k ≡ 0
file_first [] k h e = cc
file_first (p ∷ ps) zero h e = refl
file_first (p ∷ ps) (suc k) h e = absurd (file_later ps k h e)

one_part : (ps : List Part) → length ps ≡ 1 → ps ≡ first ps ∷ []
one_part [] h = absurd (omega (arith, h))
one_part (p ∷ []) h = refl
one_part (p ∷ q ∷ ps) h = absurd (omega (arith, h))

abbrev IsFile : Part → Type 0
IsFile p = p ≡ part.Unit (unit_part.SourceUnit (source_unit_of p))

file_made : (ps : List Part) → IsFile (first (made (rule_at 0) ps))
unfolding rule_at table
file_made ps = refl

pub has_tree : (steps : List Step) (ts : List Token) → Parses productions start steps → parts_of (moves_of steps) ts ≡ part.Unit (unit_part.SourceUnit (source_unit_of (first (parts_of (moves_of steps) ts)))) ∷ []
has_tree [] ts p = absurd p
has_tree (take t e ∷ steps) ts p = absurd p
has_tree (expand k ∷ steps) ts p =
    let zeroth : k ≡ 0 = file_first productions k later_none p.0 in
    let file : IsFile (first (made (rule_at k) (parts_of (moves_of steps) ts))) = subst (λ (j : ℕ). IsFile (first (made (rule_at j) (parts_of (moves_of steps) ts)))) (sym zeroth) (file_made (parts_of (moves_of steps) ts)) in
    one_part (parts_of (moves_of (expand k ∷ steps)) ts) (parts_for_symbols start (expand k ∷ steps) ts p) ∙ ap (λ q. q ∷ []) file
