-- Tightening keeps the whole numbers at which a form is at least 0.
use Rattle.std.proofs.Common.{◌≡◌, refl, sym, ◌∙◌, ap, ap₂, ℕ, zero, suc, ◌+◌, ◌-◌, ◌*◌, ◌/◌, ◌%◌, ◌<◌, ◌⊎◌, inl, inr, Bool, true, false, ◌↔◌, List, [], ◌∷◌, map, arith, ℤ, pos, negsuc, neg_ℤ, ◌+ℤ◌, ◌*ℤ◌, ◌≤ℤ◌}
use Rattle.std.specs.Prelude.{if◌then◌else◌, unsigned_abs}
use Rattle.std.proofs.Math.Nat.{mod-eq_of_lt, mod_self, suc-mod}
use Rattle.std.proofs.lemmas.Nat.{mod_below}
use Rattle.std.proofs.lemmas.Bool.{cases_lt, and_parts, eqb-true}
use Rattle.std.proofs.lemmas.Int.{ints}
use Rattle.std.proofs.Math.IntN.{zero-*ℤ, *ℤ_comm, pos-*ℤ-pos, negsuc-*ℤ-pos}
use Rattle.ada_values.proofs.Division.{Turns, turns}
use Rattle.logic_terms.specs.Value.{Value, as_number}
use Rattle.logic_terms.specs.Meaning.{World, meaning}
use Rattle.linear_forms.specs.Form.{Monomial, monomial, Form, monomials_value, form_value, floor, divides_all, greatest_to, divisor, divided, tightened, total}
use Rattle.linear_forms.proofs.Integers.{add_mul, mul_assoc}

-- ---- one division

full : (q r n : ℕ) → Turns q r n → r ≡ 0 → q ≡ n
full q r n (inl t) e = t.1
full q r n (inr t) e = absurd (omega arith)

-- what is left of a number after division
left_over : ℤ → ℕ → ℕ
left_over (pos a) n = a % suc n
left_over (negsuc a) n = n - a % suc n

left_below : (c : ℤ) (n : ℕ) → left_over c n < suc n
unfolding left_over
left_below (pos a) n = mod_below a (suc n) (omega arith)
left_below (negsuc a) n = omega arith

up_split : (a n p : ℕ) (z : ℤ) → z ≡ pos p → p + a % suc n ≡ a → pos a ≡ z +ℤ pos (a % suc n)
up_split a n p z e f = omega (arith, ints)

down_split : (a n p r : ℕ) (z : ℤ) → z ≡ neg_ℤ (pos p) → p + r ≡ a + suc n → r < suc n → negsuc a ≡ z +ℤ pos (n - r)
down_split a n p r z e f g = omega (arith, ints)

quotient_of : (a n : ℕ) → a / suc n * suc n + a % suc n ≡ a
quotient_of a n = grind arith

next_quotient : (a n : ℕ) → suc (a / suc n) * suc n + a % suc n ≡ a + suc n
next_quotient a n = let e = quotient_of a n in grind (arith, e)

split : (c : ℤ) (n : ℕ) → c ≡ (floor c (suc n) *ℤ pos (suc n)) +ℤ pos (left_over c n)
unfolding left_over
split (pos a) n = up_split a n _ _ (pos-*ℤ-pos (a / suc n) (suc n)) (quotient_of a n)
split (negsuc a) n = down_split a n _ (a % suc n) _ (negsuc-*ℤ-pos (a / suc n) (suc n)) (next_quotient a n) (mod_below a (suc n) (omega arith))

none_left : (c : ℤ) (n : ℕ) → unsigned_abs c % suc n ≡ 0 → left_over c n ≡ 0
unfolding left_over
none_left (pos a) n h = h
none_left (negsuc a) n h = let e = full (a % suc n) (suc a % suc n) n (turns a n) h in omega arith

exactly : (c z : ℤ) (r : ℕ) → c ≡ z +ℤ pos r → r ≡ 0 → z ≡ c
exactly c z r e f = omega (arith, ints)

pub floor_exact : (c : ℤ) (n : ℕ) → unsigned_abs c % suc n ≡ 0 → floor c (suc n) *ℤ pos (suc n) ≡ c
floor_exact c n h = exactly c _ _ (split c n) (none_left c n h)

-- ---- the sum

swapped : (a b k : ℤ) → (a *ℤ b) *ℤ k ≡ (a *ℤ k) *ℤ b
swapped a b k = mul_assoc a b k ∙ ap (λ (x : ℤ). a *ℤ x) (*ℤ_comm b k) ∙ sym (mul_assoc a k b)

monomials_divided : (w : World) (vs : List Value) (n : ℕ) (ms : List Monomial) → divides_all (suc n) ms ≡ true → monomials_value w vs (map (λ m. monomial (floor m.coefficient (suc n)) m.variable) ms) *ℤ pos (suc n) ≡ monomials_value w vs ms
monomials_divided w vs n [] h = zero-*ℤ (pos (suc n))
monomials_divided w vs n (m ∷ ms) h =
    let e = and_parts _ _ h in
    add_mul (floor m.coefficient (suc n) *ℤ as_number (meaning w vs m.variable)) (monomials_value w vs (map (λ m. monomial (floor m.coefficient (suc n)) m.variable) ms)) (pos (suc n))
    ∙ ap₂ (λ (x y : ℤ). x +ℤ y)
    (swapped (floor m.coefficient (suc n)) (as_number (meaning w vs m.variable)) (pos (suc n))
    ∙ ap (λ (x : ℤ). x *ℤ as_number (meaning w vs m.variable)) (floor_exact m.coefficient n (eqb-true _ _ e.0)))
    (monomials_divided w vs n ms e.1)

-- ---- solutions

up_both : (x z : ℤ) (k p r : ℕ) → x ≡ z +ℤ pos r → z ≡ pos p → (pos 0 ≤ℤ x) ↔ (pos 0 ≤ℤ pos k)
up_both x z k p r e f = (λ h. omega (arith, ints), λ h. omega (arith, ints))

down_both : (x z : ℤ) (k p r : ℕ) → x ≡ z +ℤ pos r → z ≡ neg_ℤ (pos p) → r < p → (pos 0 ≤ℤ x) ↔ (pos 0 ≤ℤ negsuc k)
down_both x z k p r e f g = (λ h. absurd (omega (arith, ints)), λ h. absurd (omega (arith, ints)))

more_than : (k n r : ℕ) → r < suc n → r < suc k * suc n
more_than k n r h = grind arith

same_sign : (x t : ℤ) (n r : ℕ) → x ≡ (t *ℤ pos (suc n)) +ℤ pos r → r < suc n → (pos 0 ≤ℤ x) ↔ (pos 0 ≤ℤ t)
same_sign x (pos k) n r e h = up_both x _ k _ r e (pos-*ℤ-pos k (suc n))
same_sign x (negsuc k) n r e h = down_both x _ k _ r e (negsuc-*ℤ-pos k (suc n)) (more_than k n r h)

in_one : (c x q y : ℤ) (r : ℕ) (z : ℤ) → c ≡ q +ℤ pos r → y ≡ x → z ≡ q +ℤ y → c +ℤ x ≡ z +ℤ pos r
in_one c x q y r z e f g = omega (arith, ints)

divided_solutions : (w : World) (vs : List Value) (n : ℕ) (f : Form) → divides_all (suc n) f.monomials ≡ true → (pos 0 ≤ℤ form_value w vs f) ↔ (pos 0 ≤ℤ form_value w vs (divided (suc n) f))
divided_solutions w vs n f h =
    same_sign (form_value w vs f) (form_value w vs (divided (suc n) f)) n (left_over f.constant n)
    (in_one f.constant (monomials_value w vs f.monomials) (floor f.constant (suc n) *ℤ pos (suc n)) _ (left_over f.constant n) _
    (split f.constant n) (monomials_divided w vs n f.monomials h)
    (add_mul (floor f.constant (suc n)) (monomials_value w vs (map (λ m. monomial (floor m.coefficient (suc n)) m.variable) f.monomials)) (pos (suc n))))
    (left_below f.constant n)

greatest_by : (b : Bool) (n g k : ℕ) (ms : List Monomial) → divides_all (suc n) ms ≡ b → (k ≡ suc g → divides_all (suc g) ms ≡ true) → (if b then suc n else k) ≡ suc g → divides_all (suc g) ms ≡ true
greatest_by true n g k ms d h e = ap (λ (x : ℕ). divides_all x ms) (sym e) ∙ d
greatest_by false n g k ms d h e = h e

pub greatest_divides : (n g : ℕ) (ms : List Monomial) → greatest_to n ms ≡ suc g → divides_all (suc g) ms ≡ true
greatest_divides zero g ms e = absurd (omega arith)
greatest_divides (suc n) g ms e =
    greatest_by (divides_all (suc n) ms) n g (greatest_to n ms) ms refl (greatest_divides n g ms) e

solutions_at : (w : World) (vs : List Value) (k : ℕ) (f : Form) → divisor f.monomials ≡ k → (pos 0 ≤ℤ form_value w vs f) ↔ (pos 0 ≤ℤ form_value w vs (divided k f))
solutions_at w vs zero f e = (λ h. h, λ h. h)
solutions_at w vs (suc n) f e = divided_solutions w vs n f (greatest_divides (total f.monomials) n f.monomials e)

pub tightened_solutions : (w : World) (vs : List Value) (f : Form) → (pos 0 ≤ℤ form_value w vs f) ↔ (pos 0 ≤ℤ form_value w vs (tightened f))
tightened_solutions w vs f = solutions_at w vs (divisor f.monomials) f refl
