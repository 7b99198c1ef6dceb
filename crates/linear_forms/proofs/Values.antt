-- The values of sums and products of forms, and of the form of a term.
use Rattle.std.proofs.Common.{◌≡◌, refl, sym, ◌∙◌, ap, ap₂, Bool, true, false, List, [], ◌∷◌, ◌++◌, arith, ℤ, pos, ◌+ℤ◌, ◌*ℤ◌}
use Rattle.std.specs.Prelude.{if◌then◌else◌}
use Rattle.std.proofs.lemmas.Int.{ints}
use Rattle.std.proofs.Math.IntN.{zero-*ℤ, *ℤ-zero, *ℤ_comm}
use Rattle.logic_terms.specs.Node.{mul, arith as compute_by, Node, op2}
use Rattle.logic_terms.specs.Value.{Value, as_number}
use Rattle.logic_terms.specs.Meaning.{World, meaning}
use Rattle.logic_terms.specs.Text.{precedes}
use Rattle.linear_forms.specs.Form.{Monomial, Form, monomials_value, form_value, gathered, scaled, combined, multiples, products, multiplied}
use Rattle.linear_forms.proofs.Sums.{no_more, gathered_sum, scaled_sum, combined_sum}
use Rattle.linear_forms.proofs.Integers.{add_mul, mul_add, mul_mul}

abbrev at : World → List Value → Node → ℤ
at w vs v = as_number (meaning w vs v)

-- ---- sums

summed : (k a x b y z : ℤ) → z ≡ x +ℤ y → k ≡ a +ℤ b → (k +ℤ z) ≡ ((a +ℤ x) +ℤ (b +ℤ y))
summed k a x b y z e f = omega (arith, ints)

pub combined_value : (w : World) (vs : List Value) (m : ℤ) (a : Form) (n : ℤ) (b : Form) → form_value w vs (combined m a n b) ≡ (m *ℤ form_value w vs a) +ℤ (n *ℤ form_value w vs b)
combined_value w vs m a n b =
    summed _ (m *ℤ a.constant) (m *ℤ monomials_value w vs a.monomials) (n *ℤ b.constant) (n *ℤ monomials_value w vs b.monomials) _
    (combined_sum (at w vs) m a n b) refl
    ∙ ap₂ (λ (x y : ℤ). x +ℤ y) (sym (mul_add m a.constant (monomials_value w vs a.monomials))) (sym (mul_add n b.constant (monomials_value w vs b.monomials)))

-- ---- products

shift : (a x y z : ℤ) → x ≡ y +ℤ z → a +ℤ x ≡ (a +ℤ y) +ℤ z
shift a x y z e = omega (arith, ints)

appended_value : (w : World) (vs : List Value) (ms ns : List Monomial) → monomials_value w vs (ms ++ ns) ≡ monomials_value w vs ms +ℤ monomials_value w vs ns
appended_value w vs [] ns = no_more (monomials_value w vs ns)
appended_value w vs (m ∷ ms) ns = shift _ _ _ _ (appended_value w vs ms ns)

product_by : (w : World) (vs : List Value) (b : Bool) (u v : Node) → at w vs (if b then op2 (compute_by mul) v u else op2 (compute_by mul) u v) ≡ at w vs u *ℤ at w vs v
product_by w vs true u v = *ℤ_comm (at w vs v) (at w vs u)
product_by w vs false u v = refl

multiples_value : (w : World) (vs : List Value) (m : Monomial) (ns : List Monomial) → monomials_value w vs (multiples m ns) ≡ (m.coefficient *ℤ at w vs m.variable) *ℤ monomials_value w vs ns
multiples_value w vs m [] = sym (*ℤ-zero (m.coefficient *ℤ at w vs m.variable))
multiples_value w vs m (n ∷ ns) =
    ap₂ (λ (x y : ℤ). x +ℤ y)
    (ap (λ (x : ℤ). (m.coefficient *ℤ n.coefficient) *ℤ x) (product_by w vs (precedes n.variable m.variable) m.variable n.variable)
    ∙ mul_mul m.coefficient n.coefficient (at w vs m.variable) (at w vs n.variable))
    (multiples_value w vs m ns)
    ∙ sym (mul_add (m.coefficient *ℤ at w vs m.variable) (n.coefficient *ℤ at w vs n.variable) (monomials_value w vs ns))

pub products_value : (w : World) (vs : List Value) (ms ns : List Monomial) → monomials_value w vs (products ms ns) ≡ monomials_value w vs ms *ℤ monomials_value w vs ns
products_value w vs [] ns = sym (zero-*ℤ (monomials_value w vs ns))
products_value w vs (m ∷ ms) ns =
    appended_value w vs (multiples m ns) (products ms ns)
    ∙ ap₂ (λ (x y : ℤ). x +ℤ y) (multiples_value w vs m ns) (products_value w vs ms ns)
    ∙ sym (add_mul (m.coefficient *ℤ at w vs m.variable) (monomials_value w vs ms) (monomials_value w vs ns))

multiplied_out : (a x b y : ℤ) → (a +ℤ x) *ℤ (b +ℤ y) ≡ ((a *ℤ b) +ℤ (a *ℤ y)) +ℤ ((b *ℤ x) +ℤ (x *ℤ y))
multiplied_out a x b y =
    add_mul a x (b +ℤ y) ∙ ap₂ (λ (u v : ℤ). u +ℤ v) (mul_add a b y) (mul_add x b y ∙ ap (λ (u : ℤ). u +ℤ (x *ℤ y)) (*ℤ_comm x b))

four : (k p q r x y z g h f : ℤ) → z ≡ r +ℤ h → h ≡ q +ℤ g → g ≡ p +ℤ pos 0 → p ≡ x → q ≡ y → r ≡ f → (k +ℤ z) ≡ ((k +ℤ x) +ℤ (y +ℤ f))
four k p q r x y z g h f e1 e2 e3 e4 e5 e6 = omega (arith, ints)

pub multiplied_value : (w : World) (vs : List Value) (a b : Form) → form_value w vs (multiplied a b) ≡ form_value w vs a *ℤ form_value w vs b
multiplied_value w vs a b =
    four (a.constant *ℤ b.constant) _ _ _ (a.constant *ℤ monomials_value w vs b.monomials) (b.constant *ℤ monomials_value w vs a.monomials) _ _ _ (monomials_value w vs a.monomials *ℤ monomials_value w vs b.monomials)
    (gathered_sum (at w vs) (products a.monomials b.monomials) (gathered (scaled b.constant a.monomials) (gathered (scaled a.constant b.monomials) [])))
    (gathered_sum (at w vs) (scaled b.constant a.monomials) (gathered (scaled a.constant b.monomials) []))
    (gathered_sum (at w vs) (scaled a.constant b.monomials) [])
    (scaled_sum (at w vs) a.constant b.monomials) (scaled_sum (at w vs) b.constant a.monomials)
    (products_value w vs a.monomials b.monomials)
    ∙ sym (multiplied_out a.constant (monomials_value w vs a.monomials) b.constant (monomials_value w vs b.monomials))
