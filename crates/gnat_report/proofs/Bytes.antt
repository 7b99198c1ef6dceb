-- Texts that lack a byte.
use Rattle.std.proofs.Common.{◌≡◌, ◌≢◌, refl, arith, ℕ, zero, suc, Bool, true, false, cond, eqb, List, [], ◌∷◌, ◌++◌, All}
use Rattle.std.proofs.lemmas.Bool.{eqb-false}

abbrev pub Lacks : ℕ → List ℕ → Type 0
Lacks b [] = Unit {0}
Lacks b (c ∷ cs) = (c ≢ b) × Lacks b cs

-- the same as a test
abbrev pub lacks : ℕ → List ℕ → Bool
lacks b [] = true
lacks b (c ∷ cs) = cond (eqb c b) false (lacks b cs)

pub Lacks-from_test : (b : ℕ) (xs : List ℕ) → lacks b xs ≡ true → Lacks b xs
Lacks-from_test b [] h = tt
Lacks-from_test b (c ∷ cs) h =
    let by : (t : Bool) → eqb c b ≡ t → cond t false (lacks b cs) ≡ true → Lacks b (c ∷ cs)
    = λ t. elim t as (λ t. eqb c b ≡ t → cond t false (lacks b cs) ≡ true → Lacks b (c ∷ cs))
    [ true ↦ λ e g. absurd cc | false ↦ λ e g. (eqb-false c b e, Lacks-from_test b cs g) ] in
    by (eqb c b) refl h

pub Lacks-from_All : (P : ℕ → Type 0) (b : ℕ) → ((c : ℕ) → P c → c ≢ b) → (xs : List ℕ) → All P xs → Lacks b xs
Lacks-from_All P b differ [] h = tt
Lacks-from_All P b differ (x ∷ xs) h =
    (differ x (h zero 0 (omega arith)), Lacks-from_All P b differ xs (λ k d lt. h (suc k) d (omega arith)))

pub Lacks-append : (b : ℕ) (xs ys : List ℕ) → Lacks b xs → Lacks b ys → Lacks b (xs ++ ys)
Lacks-append b [] ys p q = q
Lacks-append b (x ∷ xs) ys p q = (p.0, Lacks-append b xs ys p.1 q)

-- two texts are equal up to their first byte b, and after it
pub same_at_first : (b : ℕ) (xs ys us vs : List ℕ) → Lacks b xs → Lacks b ys → xs ++ b ∷ us ≡ ys ++ b ∷ vs → (xs ≡ ys) × (us ≡ vs)
same_at_first b [] [] us vs p q e = (refl, cc)
same_at_first b [] (y ∷ ys) us vs p q e = let f : y ≡ b = cc in absurd (q.0 f)
same_at_first b (x ∷ xs) [] us vs p q e = let f : x ≡ b = cc in absurd (p.0 f)
same_at_first b (x ∷ xs) (y ∷ ys) us vs p q e =
    let f : x ≡ y = cc in
    let rest : xs ++ b ∷ us ≡ ys ++ b ∷ vs = cc in
    let r = same_at_first b xs ys us vs p.1 q.1 rest in
    let g : xs ≡ ys = r.0 in
    (cc, r.1)

-- a text that lacks b, and then another byte, doesn't begin with b
pub begins_without : (b c : ℕ) (xs us vs : List ℕ) → Lacks b xs → c ≢ b → xs ++ c ∷ us ≡ b ∷ vs → ⊥
begins_without b c [] us vs p q e = q cc
begins_without b c (x ∷ xs) us vs p q e = p.0 cc
