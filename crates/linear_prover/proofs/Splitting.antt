-- Forms split by the sign of a coefficient, and counted.
use Rattle.std.proofs.Common.{◌≡◌, refl, sym, ◌∙◌, ap, ℕ, suc, ◌+◌, ◌<◌, ◌≤◌, Bool, true, false, List, [], ◌∷◌, ◌++◌, map, length, get_or, drop, arith, cond}
use Rattle.std.specs.Prelude.{if◌then◌else◌}
use Rattle.std.specs.List.{filter}
use Rattle.std.proofs.lemmas.List.{map-append}
use Rattle.std.proofs.lemmas.List.Elements.{filter-append}
use Rattle.linear_prover.specs.Machine.{Made}
use Rattle.linear_prover.specs.View.{made_of}
use Rattle.linear_prover.specs.declared.machine.MadeForm.{MadeForm}
use Rattle.linear_prover.proofs.Steps.{at_next, at_end}

more : (p : Made → Bool) (ys : List MadeForm) (x : MadeForm) (olds news : List Made) → olds ≡ filter p (map made_of ys) → news ≡ olds ++ (if p (made_of x) then made_of x ∷ [] else []) → news ≡ filter p (map made_of (ys ++ x ∷ []))
more p ys x olds news e f =
    f ∙ ap (λ (zs : List Made). zs ++ (if p (made_of x) then made_of x ∷ [] else [])) e
    ∙ sym (ap (filter p) (map-append made_of ys (x ∷ [])) ∙ filter-append p (map made_of ys) (made_of x ∷ []))

-- ---- counts

count_in : (p : Made → Bool) (xs : List MadeForm) (i : ℕ) (x : MadeForm) (n w : ℕ) → i < length xs → x ≡ get_or xs i x → p (made_of x) ≡ true → n + length (filter p (map made_of (drop i xs))) ≡ w → (n + 1) + length (filter p (map made_of (drop (i + 1) xs))) ≡ w
count_in p xs i x n w h e t k =
    let here = at_next (λ (ys : List MadeForm). length (filter p (map made_of ys))) xs i x _ h e refl in
    let longer = ap (λ (c : Bool). length (cond c (made_of x ∷ filter p (map made_of (drop (i + 1) xs))) (filter p (map made_of (drop (i + 1) xs))))) t in
    one_more n (length (filter p (map made_of (drop (i + 1) xs)))) _ _ w here longer k
  where
    one_more : (n a b c w : ℕ) → c ≡ b → c ≡ suc a → n + b ≡ w → (n + 1) + a ≡ w
    one_more n a b c w e f g = omega arith

count_out : (p : Made → Bool) (xs : List MadeForm) (i : ℕ) (x : MadeForm) (n w : ℕ) → i < length xs → x ≡ get_or xs i x → p (made_of x) ≡ false → n + length (filter p (map made_of (drop i xs))) ≡ w → n + length (filter p (map made_of (drop (i + 1) xs))) ≡ w
count_out p xs i x n w h e t k =
    let here = at_next (λ (ys : List MadeForm). length (filter p (map made_of ys))) xs i x _ h e refl in
    let same = ap (λ (c : Bool). length (cond c (made_of x ∷ filter p (map made_of (drop (i + 1) xs))) (filter p (map made_of (drop (i + 1) xs))))) t in
    ap (λ (m : ℕ). n + m) (sym same ∙ here) ∙ k

pub count_end : (p : Made → Bool) (xs : List MadeForm) (i n w : ℕ) → length xs ≤ i → n + length (filter p (map made_of (drop i xs))) ≡ w → n ≡ w
count_end p xs i n w h k =
    let none = at_end (λ (ys : List MadeForm). length (filter p (map made_of ys))) xs i _ h refl in omega arith

count_by : (p : Made → Bool) (b : Bool) (xs : List MadeForm) (i : ℕ) (x : MadeForm) (n m w : ℕ) → i < length xs → x ≡ get_or xs i x → p (made_of x) ≡ b → m ≡ (if b then n + 1 else n) → n + length (filter p (map made_of (drop i xs))) ≡ w → m + length (filter p (map made_of (drop (i + 1) xs))) ≡ w
count_by p true xs i x n m w h e t f k = ap (λ (j : ℕ). j + length (filter p (map made_of (drop (i + 1) xs)))) f ∙ count_in p xs i x n w h e t k
count_by p false xs i x n m w h e t f k = ap (λ (j : ℕ). j + length (filter p (map made_of (drop (i + 1) xs)))) f ∙ count_out p xs i x n w h e t k

pub count_next : (p : Made → Bool) (b : Bool) (xs : List MadeForm) (i : ℕ) (x : MadeForm) (n m w : ℕ) → i < length xs → x ≡ get_or xs i x → b ≡ p (made_of x) → m ≡ (if b then n + 1 else n) → n + length (filter p (map made_of (drop i xs))) ≡ w → m + length (filter p (map made_of (drop (i + 1) xs))) ≡ w
count_next p b xs i x n m w h e t f k = count_by p b xs i x n m w h e (sym t) f k

pub count_bound : (b : Bool) (i n m : ℕ) → m ≡ (if b then n + 1 else n) → n ≤ i → m ≤ i + 1
count_bound true i n m e h = omega arith
count_bound false i n m e h = omega arith
