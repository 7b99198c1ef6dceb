-- Lists of numbers: what is in them, and how many there can be.
use Rattle.std.proofs.Common.{◌≡◌, inl, inr, ℕ, ◌+◌, ◌<◌, ◌≤◌, refl, sym, ◌∙◌, subst, true, false, List, [], ◌∷◌, ◌++◌, length, arith}
use Rattle.std.specs.Prelude.{◌==◌, if◌then◌else◌}
use Rattle.std.proofs.lemmas.Bool.{cases_Bool, cond_both, eq-eqb, eqb-false, eqb-true, false≢true, ne_eqb, or_cases, or_from, or_left, or_parts, or_right}
use Rattle.name_library.specs.Library.{contains}

-- it holds of each
abbrev pub Each : (ℕ → Type 0) → List ℕ → Type 0
Each P [] = Unit {0}
Each P (n ∷ ns) = P n × Each P ns

-- each is among the first
abbrev pub Within : List ℕ → List ℕ → Type 0
Within ys = Each (λ n. contains n ys ≡ true)

abbrev pub Distinct : List ℕ → Type 0
Distinct [] = Unit {0}
Distinct (n ∷ ns) = (contains n ns ≡ false) × Distinct ns

pub each_at : (P : ℕ → Type 0) (ns : List ℕ) (n : ℕ) → Each P ns → contains n ns ≡ true → P n
each_at P [] n h c = absurd (false≢true c)
each_at P (m ∷ ms) n h c = elim (or_cases (n == m) (contains n ms) c) [ inl e ↦ subst P (sym (eqb-true n m e)) h.0 | inr r ↦ each_at P ms n h.1 r ]

pub each_more : (P : ℕ → Type 0) (ns : List ℕ) (n : ℕ) → Each P ns → P n → Each P (ns ++ n ∷ [])
each_more P [] n h p = (p, tt)
each_more P (m ∷ ms) n h p = (h.0, each_more P ms n h.1 p)

pub contains_self : (n : ℕ) (ns : List ℕ) → contains n (n ∷ ns) ≡ true
contains_self n ns = or_left (n == n) (contains n ns) (eq-eqb n n refl)

pub contains_left : (n : ℕ) (xs ys : List ℕ) → contains n xs ≡ true → contains n (xs ++ ys) ≡ true
contains_left n [] ys h = absurd (false≢true h)
contains_left n (x ∷ xs) ys h = elim (or_cases (n == x) (contains n xs) h) [
  | inl e ↦ or_left (n == x) (contains n (xs ++ ys)) e
  | inr r ↦ or_right (n == x) (contains n (xs ++ ys)) (contains_left n xs ys r)
]

pub contains_last : (n : ℕ) (xs : List ℕ) → contains n (xs ++ n ∷ []) ≡ true
contains_last n [] = contains_self n []
contains_last n (x ∷ xs) = or_right (n == x) (contains n (xs ++ n ∷ [])) (contains_last n xs)

turned : (n m : ℕ) → (n == m) ≡ false → (m == n) ≡ false
turned n m h = ne_eqb m n (λ e. eqb-false n m h (sym e))

contains_not : (m n : ℕ) (xs : List ℕ) → contains m xs ≡ false → (m == n) ≡ false → contains m (xs ++ n ∷ []) ≡ false
contains_not m n [] h e = or_from (m == n) false e refl
contains_not m n (x ∷ xs) h e = let p = or_parts (m == x) (contains m xs) h in or_from (m == x) (contains m (xs ++ n ∷ [])) p.0 (contains_not m n xs p.1 e)

pub distinct_more : (xs : List ℕ) (n : ℕ) → Distinct xs → contains n xs ≡ false → Distinct (xs ++ n ∷ [])
distinct_more [] n d h = (refl, tt)
distinct_more (x ∷ xs) n d h =
    let p = or_parts (n == x) (contains n xs) h in
    (contains_not x n xs d.0 (turned n x p.0), distinct_more xs n d.1 p.1)

pub some_length : (n : ℕ) (ns : List ℕ) → contains n ns ≡ true → 0 < length ns
some_length n [] h = absurd (false≢true h)
some_length n (m ∷ ms) h = omega arith

-- ---- distinct numbers among others are at most as many

without : ℕ → List ℕ → List ℕ
without n [] = []
without n (y ∷ ys) = if n == y then ys else y ∷ without n ys

count_without : (n : ℕ) (ys : List ℕ) → contains n ys ≡ true → length (without n ys) + 1 ≡ length ys
unfolding without
count_without n [] h = absurd (false≢true h)
count_without n (y ∷ ys) h = cond_both (n == y) ys (y ∷ without n ys) (λ (zs : List ℕ). length zs + 1 ≡ length (y ∷ ys)) (λ e. omega arith) (λ e. elim (or_cases (n == y) (contains n ys) h) [
  | inl q ↦ absurd (false≢true (sym e ∙ q))
  | inr r ↦ let rest : length (without n ys) + 1 ≡ length ys = count_without n ys r in omega (arith, rest)
])

stays_without : (n m : ℕ) (ys : List ℕ) → contains m ys ≡ true → (m == n) ≡ false → contains m (without n ys) ≡ true
unfolding without
stays_without n m [] h d = absurd (false≢true h)
stays_without n m (y ∷ ys) h d = cond_both (n == y) ys (y ∷ without n ys) (λ (zs : List ℕ). contains m zs ≡ true) (λ e. elim (or_cases (m == y) (contains m ys) h) [
  | inl q ↦ absurd (eqb-false m n d (eqb-true m y q ∙ sym (eqb-true n y e)))
  | inr r ↦ r
]) (λ e. elim (or_cases (m == y) (contains m ys) h) [
  | inl q ↦ or_left (m == y) (contains m (without n ys)) q
  | inr r ↦ or_right (m == y) (contains m (without n ys)) (stays_without n m ys r d)
])

within_without : (x : ℕ) (xs ys : List ℕ) → contains x xs ≡ false → Within ys xs → Within (without x ys) xs
within_without x [] ys h w = tt
within_without x (m ∷ ms) ys h w =
    let p = or_parts (x == m) (contains x ms) h in
    (stays_without x m ys w.0 (turned x m p.0), within_without x ms ys p.1 w.1)

pub at_most : (xs ys : List ℕ) → Distinct xs → Within ys xs → length xs ≤ length ys
at_most [] ys d w = omega arith
at_most (x ∷ xs) ys d w =
    let rest : length xs ≤ length (without x ys) = at_most xs (without x ys) d.1 (within_without x xs ys d.0 w.1) in
    omega (arith, rest, count_without x ys w.0)

-- distinct numbers that are as many are all of the others
pub all_there : (xs ys : List ℕ) (n : ℕ) → Distinct xs → Within ys xs → length ys ≤ length xs → contains n ys ≡ true → contains n xs ≡ true
all_there xs ys n d w l h = elim (cases_Bool (contains n xs)) [
  | inl e ↦ e
  | inr e ↦ absurd (let more : length (n ∷ xs) ≤ length ys = at_most (n ∷ xs) ys (e, d) (h, w) in omega (arith, more))
]
