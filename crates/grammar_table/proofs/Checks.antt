-- Tests of the tables, and what they show.
use Rattle.std.proofs.Common.{◌≡◌, ℕ, zero, suc, ◌+◌, ◌<◌, ◌≤◌, Bool, true, false, List, [], ◌∷◌, Option, Some, None, refl, sym, ap, subst, inl, inr, arith}
use Rattle.std.specs.Prelude.{◌==◌, ◌&&◌, nat_lt, is_some}
use Rattle.std.proofs.lemmas.Bool.{cases_lt, false≢true}
use Rattle.std.proofs.lemmas.Bool.Decides.{nat_tests}
use Rattle.grammar_table.specs.declared.symbols.Nonterminal.{Nonterminal}
use Rattle.grammar_table.specs.declared.symbols.Symbol.{Symbol}
use Rattle.grammar_table.specs.declared.symbols.Symbol.TheVariants.{Token, Phrase}
use Rattle.grammar_table.specs.Choices.{Choice, place, has, among, choices_of, follow_set, follows}
use Rattle.grammar_table.specs.Parses.{Production, left_of, right_of}
use Rattle.grammar_table.proofs.Weights.{lead, all_empty, weight, may_be_empty}

pub and_left : (a b : Bool) → (a && b) ≡ true → a ≡ true
and_left true b e = refl
and_left false b e = absurd (false≢true e)

pub and_right : (a b : Bool) → (a && b) ≡ true → b ≡ true
and_right true b e = e
and_right false b e = absurd (false≢true e)

abbrev pub implies : Bool → Bool → Bool
implies true b = b
implies false b = true

-- a test passes at each number below n
unfoldable pub below : ℕ → (ℕ → Bool) → Bool
below zero P = true
below (suc n) P = P n && below n P

last_below : (n p : ℕ) → p < suc n → n ≤ p → n ≡ p
last_below n p h k = omega arith

pub below_all : (n p : ℕ) (P : ℕ → Bool) → below n P ≡ true → p < n → P p ≡ true
unfolding below
below_all zero p P e h = absurd (omega arith)
below_all (suc n) p P e h = elim (cases_lt p n) [
  | inl low ↦ below_all n p P (and_right (P n) (below n P) e) low
  | inr high ↦ subst (λ (k : ℕ). P k ≡ true) (last_below n p h high) (and_left (P n) (below n P) e)
]

-- a test passes at each member of a set
unfoldable pub at_members : ℕ → (ℕ → Bool) → Bool
at_members set Q = below 128 (λ p. let q = Q p in implies (has set p) q)

-- and before each token that one of these choices has
unfoldable pub at_choices : List Choice → (ℕ → Bool) → Bool
at_choices row Q = below 128 (λ p. let q = Q p in implies (is_some (among row p)) q)

pub members_pass : (set : ℕ) (Q : ℕ → Bool) (p : ℕ) → at_members set Q ≡ true → p < 128 → has set p ≡ true → Q p ≡ true
unfolding at_members
members_pass set Q p e h is =
    subst (λ (b : Bool). implies b (Q p) ≡ true) is (below_all 128 p (λ p. let q = Q p in implies (has set p) q) e h)

pub choices_pass : (row : List Choice) (Q : ℕ → Bool) (p k : ℕ) → at_choices row Q ≡ true → p < 128 → among row p ≡ Some k → Q p ≡ true
unfolding at_choices
choices_pass row Q p k e h is =
    subst (λ (o : Option ℕ). implies (is_some o) (Q p) ≡ true) is (below_all 128 p (λ p. let q = Q p in implies (is_some (among row p)) q) e h)

-- a place that may stand first where these symbols stand before what follows a phrase
abbrev pub AheadIn : Nonterminal → List Symbol → ℕ → Type 0
AheadIn n [] p = follows n p ≡ true
AheadIn n (Token t e ∷ ss) p = p ≡ place (Some t)
AheadIn n (Phrase m ∷ ss) p = (k : ℕ) × (among (choices_of m) p ≡ Some k)

abbrev pub at_ahead : Nonterminal → List Symbol → (ℕ → Bool) → Bool
at_ahead n [] Q = at_members (follow_set n) Q
at_ahead n (Token t e ∷ ss) Q = Q (place (Some t))
at_ahead n (Phrase m ∷ ss) Q = at_choices (choices_of m) Q

pub ahead_passes : (n : Nonterminal) (ss : List Symbol) (Q : ℕ → Bool) (p : ℕ) → at_ahead n ss Q ≡ true → p < 128 → AheadIn n ss p → Q p ≡ true
ahead_passes n [] Q p e h a = members_pass (follow_set n) Q p e h a
ahead_passes n (Token t f ∷ ss) Q p e h a = subst (λ (k : ℕ). Q k ≡ true) (sym a) e
ahead_passes n (Phrase m ∷ ss) Q p e h a = choices_pass (choices_of m) Q p a.0 e h a.1

-- what stands behind each phrase of these symbols may follow it
abbrev pub FollowIn : Nonterminal → List Symbol → Type 0
FollowIn n [] = Unit {0}
FollowIn n (Token t e ∷ ss) = FollowIn n ss
FollowIn n (Phrase m ∷ ss) = ((p : ℕ) → p < 128 → AheadIn n ss p → follows m p ≡ true) × FollowIn n ss

abbrev pub follow_in : Nonterminal → List Symbol → Bool
follow_in n [] = true
follow_in n (Token t e ∷ ss) = follow_in n ss
follow_in n (Phrase m ∷ ss) = (let set = follow_set m in at_ahead n ss (λ p. has set p)) && follow_in n ss

pub follow_passes : (n : Nonterminal) (ss : List Symbol) → follow_in n ss ≡ true → FollowIn n ss
follow_passes n [] e = tt
follow_passes n (Token t f ∷ ss) e = follow_passes n ss e
follow_passes n (Phrase m ∷ ss) e = (
  λ p h a. ahead_passes n ss (λ p. has (follow_set m) p) p (and_left (at_ahead n ss (λ p. has (follow_set m) p)) (follow_in n ss) e) h a,
  follow_passes n ss (and_right (at_ahead n ss (λ p. has (follow_set m) p)) (follow_in n ss) e),
)

abbrev pub is_number : ℕ → Option ℕ → Bool
is_number k None = false
is_number k (Some j) = j == k

pub number_is : (k : ℕ) (o : Option ℕ) → is_number k o ≡ true → o ≡ Some k
number_is k None e = absurd (false≢true e)
number_is k (Some j) e = let same : j ≡ k = grind (arith, nat_tests) in ap Some same

-- a production is chosen before each token that it may begin with
unfoldable pub is_chosen : ℕ → Nonterminal → List Symbol → Bool
is_chosen k n ss = let row = choices_of n in at_ahead n ss (λ p. is_number k (among row p))

-- and its phrases are lighter than its left side
unfoldable pub is_lighter : Nonterminal → List Symbol → Bool
is_lighter n ss = nat_lt (lead ss) (weight n) && implies (all_empty ss) (may_be_empty n)

unfoldable pub is_good : ℕ → Nonterminal → List Symbol → Bool
is_good k n ss = is_chosen k n ss && (follow_in n ss && is_lighter n ss)

-- each production is good; the numbers count from k
abbrev pub are_good : ℕ → List Production → Bool
are_good k [] = true
are_good k (p ∷ ps) = is_good k p.left p.right && are_good (suc k) ps

same_left : (m n : Nonterminal) → Path (Option Nonterminal) (Some m) (Some n) → m ≡ n
same_left m n e = cc

past_zero : (i : ℕ) → i + 0 ≡ i
past_zero i = omega arith

past_suc : (i k : ℕ) → i + suc k ≡ suc i + k
past_suc i k = omega arith

pub good_at : (ps : List Production) (i k : ℕ) (n : Nonterminal) → are_good i ps ≡ true → left_of ps k ≡ Some n → is_good (i + k) n (right_of ps k) ≡ true
good_at [] i k n e is = cc
good_at (p ∷ ps) i zero n e is =
    subst (λ (m : Nonterminal). is_good (i + 0) m p.right ≡ true) (same_left p.left n is) (subst (λ (j : ℕ). is_good j p.left p.right ≡ true) (sym (past_zero i)) (and_left (is_good i p.left p.right) (are_good (suc i) ps) e))
good_at (p ∷ ps) i (suc k) n e is =
    subst (λ (j : ℕ). is_good j n (right_of ps k) ≡ true) (sym (past_suc i k)) (good_at ps (suc i) k n (and_right (is_good i p.left p.right) (are_good (suc i) ps) e) is)
