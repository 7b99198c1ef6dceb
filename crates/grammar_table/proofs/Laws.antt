-- The table is LL(1): the next token, or the end, says which production replaces a phrase.
use Rattle.std.proofs.Common.{◌≡◌, ℕ, zero, suc, ◌+◌, ◌<◌, ◌≤◌, Bool, true, false, List, [], ◌∷◌, ◌++◌, Option, Some, None, refl, sym, ap, ◌∙◌, subst, drop, arith}
use Rattle.std.specs.Prelude.{◌==◌, ◌&&◌, nat_lt, map, if◌then◌else◌}
use Rattle.std.proofs.lemmas.Bool.{false≢true}
use Rattle.std.proofs.lemmas.Bool.Decides.{nat_tests}
use denote.Enum.Declared.{tag_of, rowss}
use denote.Enum.Bare.{tag_one}
use denote.Enum.Enum.{tag_below}
use Rattle.ada_text.specs.contracts.delimiters.Delimiter as delimiter
use Rattle.ada_text.specs.contracts.reserved.Reserved as reserved
use Rattle.grammar_table.specs.contracts.symbols.Nonterminal as nonterminal
use Rattle.grammar_table.specs.declared.productions.Head.{Head}
use Rattle.grammar_table.specs.declared.productions.TheConstants.{ROWS}
use Rattle.grammar_table.specs.declared.symbols.Nonterminal.{Nonterminal}
use Rattle.grammar_table.specs.declared.symbols.Nonterminal.TheVariants.{File}
use Rattle.grammar_table.specs.declared.symbols.Symbol.{Symbol}
use Rattle.grammar_table.specs.declared.symbols.Symbol.TheVariants.{Token, Phrase}
use Rattle.grammar_table.specs.declared.symbols.Terminal.{Terminal}
use Rattle.grammar_table.specs.declared.symbols.Terminal.TheVariants.{Identifier, Number, Word, Mark}
use Rattle.grammar_table.specs.Choices.{place, has, heads, first_of, choices_from, choices_of, among, expression_start, statement_start, after_expression, after_relation, after_simple, after_term, after_factor, follow_set, follows}
use Rattle.grammar_table.specs.Parses.{Production, left_of, right_of}
use Rattle.grammar_table.specs.Productions.{production, productions}
use Rattle.grammar_table.proofs.Checks.{and_left, and_right, implies, below, at_members, at_choices, AheadIn, ahead_passes, FollowIn, follow_in, follow_passes, is_number, number_is, is_chosen, is_lighter, is_good, are_good, good_at}
use Rattle.grammar_table.proofs.Weights.{lead, all_empty, weight, may_be_empty}

-- the test of the whole table
all_good : are_good 0 productions ≡ true
unfolding productions heads first_of choices_of has expression_start statement_start after_expression after_relation after_simple after_term after_factor follow_set below at_members at_choices is_chosen is_lighter is_good weight may_be_empty
all_good = refl

good : (k : ℕ) (n : Nonterminal) → left_of productions k ≡ Some n → is_good k n (right_of productions k) ≡ true
good k n is =
    let same : 0 + k ≡ k = omega arith in
    subst (λ (j : ℕ). is_good j n (right_of productions k) ≡ true) same (good_at productions 0 k n all_good is)

pub chosen : (k : ℕ) (n : Nonterminal) (p : ℕ) → left_of productions k ≡ Some n → p < 128 → AheadIn n (right_of productions k) p → among (choices_of n) p ≡ Some k
unfolding is_good is_chosen
chosen k n p is h a =
    number_is k (among (choices_of n) p) (ahead_passes n (right_of productions k) (λ p. is_number k (among (choices_of n) p)) p (and_left (is_chosen k n (right_of productions k)) (follow_in n (right_of productions k) && is_lighter n (right_of productions k)) (good k n is)) h a)

pub may_follow : (k : ℕ) (n : Nonterminal) → left_of productions k ≡ Some n → FollowIn n (right_of productions k)
unfolding is_good
may_follow k n is =
    follow_passes n (right_of productions k) (and_left (follow_in n (right_of productions k)) (is_lighter n (right_of productions k)) (and_right (is_chosen k n (right_of productions k)) (follow_in n (right_of productions k) && is_lighter n (right_of productions k)) (good k n is)))

pub lighter : (k : ℕ) (n : Nonterminal) → left_of productions k ≡ Some n → is_lighter n (right_of productions k) ≡ true
unfolding is_good
lighter k n is =
    and_right (follow_in n (right_of productions k)) (is_lighter n (right_of productions k)) (and_right (is_chosen k n (right_of productions k)) (follow_in n (right_of productions k) && is_lighter n (right_of productions k)) (good k n is))

-- the end may follow a file
pub end_follows : follows File 0 ≡ true
unfolding has follow_set
end_follows = refl

-- ---- a phrase is replaced by a production of its own

-- the rows are the productions
pub listed : map (λ r. production r.0.left r.1.now) ROWS ≡ productions
unfolding productions
listed = refl

-- the left side of row k
abbrev left_at : List Head → ℕ → Option Nonterminal
left_at [] k = None
left_at (h ∷ hs) zero = Some h.left
left_at (h ∷ hs) (suc k) = left_at hs k

left_same : {A : Type 0} (rs : List A) (p : A → Production) (h : A → Head) (k : ℕ) → ((r : A) → (p r).left ≡ (h r).left) → left_of (map p rs) k ≡ left_at (map h rs) k
left_same [] p h k same = refl
left_same (r ∷ rs) p h zero same = ap Some (same r)
left_same (r ∷ rs) p h (suc k) same = left_same rs p h k same

left_dropped : (f : ℕ) (hs : List Head) (i : ℕ) → left_at (drop f hs) i ≡ left_at hs (f + i)
left_dropped zero hs i = let e : i ≡ 0 + i = omega arith in ap (left_at hs) e
left_dropped (suc f) [] i = refl
left_dropped (suc f) (h ∷ hs) i = let e : suc (f + i) ≡ suc f + i = omega arith in left_dropped f hs i ∙ ap (left_at (h ∷ hs)) e

-- the nonterminal whose name has this place
abbrev pub is_at : ℕ → Option Nonterminal → Bool
is_at i None = false
is_at i (Some n) = tag_of nonterminal.the_type n == i

passed : (j i : ℕ) → (j == i) ≡ true → j ≡ i
passed j i e = grind (arith, nat_tests)

pub tag_is : (i : ℕ) (o : Option Nonterminal) (n : Nonterminal) → i ≡ tag_of nonterminal.the_type n → is_at i o ≡ true → o ≡ Some n
tag_is i None n same e = absurd (false≢true e)
tag_is i (Some m) n same e =
    ap Some (tag_one nonterminal.the_type tt m n (passed (tag_of nonterminal.the_type m) i e ∙ same))

-- what is chosen among rows of a nonterminal is one of them; they count from j
abbrev Own : ℕ → ℕ → List Head → ℕ → Type 0
Own at j hs k = (i : ℕ) × (k ≡ j + i) × (is_at at (left_at hs i) ≡ true)

own_next : (at j k : ℕ) (h : Head) (hs : List Head) → Own at (suc j) hs k → Own at j (h ∷ hs) k
own_next at j k h hs w = let e : j + suc w.0 ≡ suc j + w.0 = omega arith in (suc w.0, w.1 ∙ sym e, w.2)

number_one : (j k : ℕ) → Path (Option ℕ) (Some j) (Some k) → j ≡ k
number_one j k e = cc

own_tests : (at j p k : ℕ) (h : Head) (hs : List Head) (mine here : Bool) → (tag_of nonterminal.the_type h.left == at) ≡ mine → has h.before p ≡ here
    → (among (choices_from at (suc j) hs) p ≡ Some k → Own at (suc j) hs k)
    → among (if mine then record { production = j; before = h.before } ∷ choices_from at (suc j) hs else []) p ≡ Some k → Own at j (h ∷ hs) k
own_tests at j p k h hs true true m t more e =
    let same : j ≡ k = number_one j k (sym (ap (λ b. if b then Some j else among (choices_from at (suc j) hs) p) t) ∙ e) in
    let start : j + 0 ≡ j = omega arith in
    (0, sym same ∙ sym start, m)
own_tests at j p k h hs true false m t more e =
    own_next at j k h hs (more (sym (ap (λ b. if b then Some j else among (choices_from at (suc j) hs) p) t) ∙ e))
own_tests at j p k h hs false here m t more e = cc

own_from : (hs : List Head) (at j p k : ℕ) → among (choices_from at j hs) p ≡ Some k → Own at j hs k
own_from [] at j p k e = cc
own_from (h ∷ hs) at j p k e =
    own_tests at j p k h hs (tag_of nonterminal.the_type h.left == at) (has h.before p) refl refl (own_from hs at (suc j) p k) e

pub own : (n : Nonterminal) (p k : ℕ) → among (choices_of n) p ≡ Some k → left_of productions k ≡ Some n
unfolding choices_of heads
own n p k is =
    let at = tag_of nonterminal.the_type n in
    let w = own_from (drop (first_of at) heads) at (first_of at) p k is in
    let place : left_of productions k ≡ left_at (drop (first_of at) heads) w.0 =
    ap (λ (g : List Production). left_of g k) (sym listed) ∙ left_same ROWS (λ r. production r.0.left r.1.now) (λ r. r.0) k (λ r. refl) ∙ ap (left_at heads) w.1 ∙ sym (left_dropped (first_of at) heads w.0) in
    tag_is at (left_of productions k) n refl (ap (is_at at) place ∙ w.2)

-- places are below 128, and tell tokens apart
word_below : (t : ℕ) → t < 73 → 3 + t < 128
word_below t h = omega arith

mark_below : (t : ℕ) → t < 23 → 76 + t < 128
mark_below t h = omega arith

pub place_below : (a : Option Terminal) → place a < 128
place_below None = omega arith
place_below (Some Identifier) = omega arith
place_below (Some Number) = omega arith
place_below (Some (Word w)) = word_below (tag_of reserved.the_type w) (tag_below (rowss reserved.the_type.parts) (reserved.the_type.to w))
place_below (Some (Mark m)) = mark_below (tag_of delimiter.the_type m) (tag_below (rowss delimiter.the_type.parts) (delimiter.the_type.to m))

-- the lead falls where a phrase is replaced
lead_append : (rs ss : List Symbol) → lead (rs ++ ss) ≤ lead rs + (if all_empty rs then lead ss else 0)
lead_append [] ss = omega arith
lead_append (Token t e ∷ rs) ss = omega arith
lead_append (Phrase m ∷ rs) ss = one_more (weight m) (may_be_empty m) (all_empty rs) (lead (rs ++ ss)) (lead rs) (lead ss) (lead_append rs ss)
  where
    one_more : (w : ℕ) (b d : Bool) (x y z : ℕ) → x ≤ y + (if d then z else 0) → w + (if b then x else 0) ≤ w + (if b then y else 0) + (if b && d then z else 0)
    one_more w true d x y z h = omega arith
    one_more w false d x y z h = omega arith

falls_by : (a b : Bool) (x y z w : ℕ) → x ≤ y + (if a then z else 0) → (nat_lt y w && implies a b) ≡ true → x < w + (if b then z else 0)
falls_by true true x y z w h e = let lower : y < w = grind (arith, nat_tests) in omega arith
falls_by true false x y z w h e = absurd (false≢true (and_right (nat_lt y w) false e))
falls_by false true x y z w h e = let lower : y < w = grind (arith, nat_tests) in omega arith
falls_by false false x y z w h e = let lower : y < w = grind (arith, nat_tests) in omega arith

pub lead_falls : (n : Nonterminal) (k : ℕ) (ss : List Symbol) → left_of productions k ≡ Some n → lead (right_of productions k ++ ss) < lead (Phrase n ∷ ss)
unfolding is_lighter
lead_falls n k ss is =
    falls_by (all_empty (right_of productions k)) (may_be_empty n) (lead (right_of productions k ++ ss)) (lead (right_of productions k)) (lead ss) (weight n) (lead_append (right_of productions k) ss) (lighter k n is)
