-- Sums of monomials, whatever the values of the variables, and the coefficients of sums.
use Rattle.std.proofs.Common.{◌≡◌, refl, sym, ◌∙◌, ap, ap₂, Bool, true, false, List, [], ◌∷◌, arith, ℤ, pos, ◌+ℤ◌, ◌*ℤ◌}
use Rattle.std.specs.Prelude.{if◌then◌else◌}
use Rattle.std.proofs.lemmas.Int.{ints}
use Rattle.std.proofs.Math.IntN.{zero-*ℤ, *ℤ-zero, *ℤ_comm, suc_ℤ-*ℤ}
use Rattle.logic_terms.specs.Node.{Node}
use Rattle.logic_terms.specs.Value.{same_int}
use Rattle.logic_terms.specs.Same.{same_node}
use Rattle.logic_terms.proofs.SameNodes.{same_int-is, same_node-is}
use Rattle.logic_terms.specs.Text.{precedes}
use Rattle.linear_forms.specs.Form.{Monomial, monomial, Form, sum_at, kept, with_monomial, gathered, scaled, combined}
use Rattle.linear_forms.specs.Ordered.{coefficient_of}
use Rattle.linear_forms.proofs.Integers.{add_mul, mul_add, mul_assoc}

kept_by : (f : Node → ℤ) (b : Bool) (c : ℤ) (v : Node) (ms : List Monomial) → (b ≡ true → c ≡ pos 0) → sum_at f (if b then ms else monomial c v ∷ ms) ≡ (c *ℤ f v) +ℤ sum_at f ms
kept_by f true c v ms h =
    let none : c *ℤ f v ≡ pos 0 = ap (λ (x : ℤ). x *ℤ f v) (h refl) ∙ zero-*ℤ (f v) in
    omega (arith, ints)
kept_by f false c v ms h = refl

kept_sum : (f : Node → ℤ) (c : ℤ) (v : Node) (ms : List Monomial) → sum_at f (kept c v ms) ≡ (c *ℤ f v) +ℤ sum_at f ms
kept_sum f c v ms = kept_by f (same_int c (pos 0)) c v ms (same_int-is c (pos 0))

merged_sum : (x a b r : ℤ) (s : ℤ) → s ≡ a +ℤ b → x ≡ s +ℤ r → x ≡ b +ℤ (a +ℤ r)
merged_sum x a b r s e f = omega (arith, ints)

passed_sum : (x a b r : ℤ) → x ≡ a +ℤ r → b +ℤ x ≡ a +ℤ (b +ℤ r)
passed_sum x a b r e = omega (arith, ints)

with_by : (f : Node → ℤ) (s p : Bool) (c : ℤ) (v : Node) (m : Monomial) (ms rest : List Monomial) → (s ≡ true → v ≡ m.variable) → sum_at f rest ≡ (c *ℤ f v) +ℤ sum_at f ms → sum_at f (if s then kept (m.coefficient +ℤ c) m.variable ms else if p then kept c v (m ∷ ms) else m ∷ rest) ≡ (c *ℤ f v) +ℤ sum_at f (m ∷ ms)
with_by f true p c v m ms rest h e =
    merged_sum _ (m.coefficient *ℤ f m.variable) (c *ℤ f v) _ _
    (add_mul m.coefficient c (f m.variable) ∙ ap (λ (u : Node). (m.coefficient *ℤ f m.variable) +ℤ (c *ℤ f u)) (sym (h refl)))
    (kept_sum f (m.coefficient +ℤ c) m.variable ms)
with_by f false true c v m ms rest h e = kept_sum f c v (m ∷ ms)
with_by f false false c v m ms rest h e = passed_sum _ _ (m.coefficient *ℤ f m.variable) _ e

with_sum : (f : Node → ℤ) (c : ℤ) (v : Node) (ms : List Monomial) → sum_at f (with_monomial c v ms) ≡ (c *ℤ f v) +ℤ sum_at f ms
with_sum f c v [] = kept_sum f c v []
with_sum f c v (m ∷ ms) =
    with_by f (same_node v m.variable) (precedes v m.variable) c v m ms (with_monomial c v ms) (same_node-is v m.variable) (with_sum f c v ms)

regrouped : (x a b c y : ℤ) → x ≡ b +ℤ y → y ≡ a +ℤ c → x ≡ (a +ℤ b) +ℤ c
regrouped x a b c y e f = omega (arith, ints)

pub no_more : (x : ℤ) → x ≡ pos 0 +ℤ x
no_more x = omega (arith, ints)

pub gathered_sum : (f : Node → ℤ) (ns ms : List Monomial) → sum_at f (gathered ns ms) ≡ sum_at f ns +ℤ sum_at f ms
gathered_sum f [] ms = no_more (sum_at f ms)
gathered_sum f (n ∷ ns) ms =
    regrouped _ _ _ _ _ (gathered_sum f ns (with_monomial n.coefficient n.variable ms)) (with_sum f n.coefficient n.variable ms)

pub scaled_sum : (f : Node → ℤ) (c : ℤ) (ms : List Monomial) → sum_at f (scaled c ms) ≡ c *ℤ sum_at f ms
scaled_sum f c [] = sym (*ℤ-zero c)
scaled_sum f c (m ∷ ms) =
    ap₂ (λ (x y : ℤ). x +ℤ y) (mul_assoc c m.coefficient (f m.variable)) (scaled_sum f c ms)
    ∙ sym (mul_add c (m.coefficient *ℤ f m.variable) (sum_at f ms))

both : (x y a b : ℤ) (z g : ℤ) → z ≡ y +ℤ g → g ≡ x +ℤ pos 0 → x ≡ a → y ≡ b → z ≡ a +ℤ b
both x y a b z g e f h i = omega (arith, ints)

pub combined_sum : (f : Node → ℤ) (m : ℤ) (a : Form) (n : ℤ) (b : Form) → sum_at f (combined m a n b).monomials ≡ (m *ℤ sum_at f a.monomials) +ℤ (n *ℤ sum_at f b.monomials)
combined_sum f m a n b =
    both _ _ _ _ _ _
    (gathered_sum f (scaled n b.monomials) (gathered (scaled m a.monomials) []))
    (gathered_sum f (scaled m a.monomials) [])
    (scaled_sum f m a.monomials) (scaled_sum f n b.monomials)

-- ---- coefficients

-- 1 for the variable, 0 for any other
abbrev unit : Node → Node → ℤ
unit v u = if same_node v u then pos 1 else pos 0

once_more : (x y z : ℤ) → x ≡ y +ℤ z → y ≡ pos 0 → x ≡ z
once_more x y z e f = omega (arith, ints)

once : (s : Bool) (c : ℤ) → (if s then c else pos 0) ≡ c *ℤ (if s then pos 1 else pos 0)
once true c = sym (*ℤ_comm c (pos 1) ∙ once_more _ _ c (suc_ℤ-*ℤ (pos 0) c) (zero-*ℤ c))
once false c = sym (*ℤ-zero c)

coefficient_is : (v : Node) (ms : List Monomial) → coefficient_of v ms ≡ sum_at (unit v) ms
coefficient_is v [] = refl
coefficient_is v (m ∷ ms) = ap₂ (λ (x y : ℤ). x +ℤ y) (once (same_node v m.variable) m.coefficient) (coefficient_is v ms)

pub combined_coefficient : (v : Node) (m : ℤ) (a : Form) (n : ℤ) (b : Form) → coefficient_of v (combined m a n b).monomials ≡ (m *ℤ coefficient_of v a.monomials) +ℤ (n *ℤ coefficient_of v b.monomials)
combined_coefficient v m a n b =
    coefficient_is v (combined m a n b).monomials
    ∙ combined_sum (unit v) m a n b
    ∙ sym (ap₂ (λ (x y : ℤ). (m *ℤ x) +ℤ (n *ℤ y)) (coefficient_is v a.monomials) (coefficient_is v b.monomials))
