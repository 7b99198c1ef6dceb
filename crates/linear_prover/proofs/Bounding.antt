-- A value between the bounds of forms makes them at least 0.
use Rattle.std.proofs.Common.{◌≡◌, ◌≢◌, refl, sym, ◌∙◌, ap, ap₂, subst, ℕ, zero, suc, ◌+◌, ◌*◌, ◌/◌, ◌<◌, ◌≤◌, Bool, true, false, List, [], ◌∷◌, arith}
use Rattle.std.specs.Prelude.{if◌then◌else◌, ℤ, pos, negsuc, neg_ℤ, ◌+ℤ◌, ◌*ℤ◌, ◌≤ℤ◌, int_lt, Option, Some, None}
use Rattle.std.proofs.lemmas.Int.{ints}
use Rattle.std.proofs.lemmas.Bool.{false≢true}
use Rattle.std.proofs.Math.Nat.{div-mul-le_self, lt-div-mul-add}
use Rattle.std.proofs.Math.IntN.{zero-*ℤ, *ℤ-zero, *ℤ_comm, pos-*ℤ-pos, negsuc-*ℤ-pos}
use Rattle.logic_terms.specs.Node.{Node}
use Rattle.logic_terms.specs.Same.{same_node}
use Rattle.logic_terms.proofs.SameNodes.{same_node-is}
use Rattle.logic_terms.specs.Text.{precedes}
use Rattle.logic_terms.proofs.TextOrder.{precedes_itself}
use Rattle.linear_forms.specs.Form.{Monomial, Form, sum_at, floor}
use Rattle.linear_forms.specs.Fits.{fits}
use Rattle.linear_forms.specs.Ordered.{PrecedesAll, AreOrdered, IsOrdered}
use Rattle.linear_forms.proofs.Integers.{add_mul}
use Rattle.linear_prover.specs.Forms.{coefficient}
use Rattle.linear_prover.specs.Values.{Known, value_in, narrow, with_some, sum_without, Range, range, greater, lesser, bounded, bounded_by, bounded_by_all, is_at_least, nearest}
use Rattle.linear_prover.specs.Points.{AreAll}
use Rattle.linear_prover.proofs.Steps.{if_true}

-- ---- sums

other_by : (s : Bool) (v u : Node) → same_node v u ≡ s → precedes v u ≡ true → s ≡ false
other_by true v u h p = absurd (false≢true (sym (precedes_itself v) ∙ ap (precedes v) (same_node-is v u h) ∙ p))
other_by false v u h p = refl

pub other : (v u : Node) → precedes v u ≡ true → same_node v u ≡ false
other v u p = other_by (same_node v u) v u refl p

pub absent : (v : Node) (ms : List Monomial) → PrecedesAll v ms → coefficient v ms ≡ pos 0
absent v [] a = refl
absent v (m ∷ ms) a = ap (λ (b : Bool). if b then m.coefficient else coefficient v ms) (other v m.variable a.0) ∙ absent v ms a.1

absent_along : (v u : Node) (ms : List Monomial) → same_node v u ≡ true → PrecedesAll u ms → coefficient v ms ≡ pos 0
absent_along v u ms e a = ap (λ (n : Node). coefficient n ms) (same_node-is v u e) ∙ absent u ms a

-- the other variables have the values that are known
abbrev pub Agrees : (Node → ℤ) → Node → List Known → List Monomial → Type 0
Agrees g v ks ms = AreAll (λ m. same_node v m.variable ≡ false → g m.variable ≡ value_in ks m.variable) ms

some_same : (x y : ℤ) → Some x ≡ Some y → x ≡ y
some_same x y e = cc

narrow_by : (b : Bool) (z x : ℤ) → (if b then Some z else None) ≡ Some x → z ≡ x
narrow_by true z x e = cc
narrow_by false z x e = cc

narrow_same : (z x : ℤ) → narrow z ≡ Some x → z ≡ x
narrow_same z x e = narrow_by (fits z) z x e

passes : {A B : Type 0} (o : Option A) (f : A → Option B) (y : B) → with_some o f ≡ Some y → (x : A) × (o ≡ Some x) × (f x ≡ Some y)
passes None f y e = cc
passes (Some x) f y e = (x, refl, e)

summed_up : (y k z c s q : ℤ) → y +ℤ k ≡ z +ℤ s → k ≡ pos 0 → q ≡ c → y +ℤ c ≡ z +ℤ (q +ℤ s)
summed_up y k z c s q e f g = omega (arith, ints)

none_of : (k g : ℤ) → k ≡ pos 0 → k *ℤ g ≡ pos 0
none_of k g e = ap (λ (x : ℤ). x *ℤ g) e ∙ zero-*ℤ g

moved : (y k u z q s : ℤ) → y +ℤ k ≡ u +ℤ s → z +ℤ q ≡ u → y +ℤ k ≡ z +ℤ (q +ℤ s)
moved y k u z q s e f = omega (arith, ints)

sum_by : (b : Bool) (g : Node → ℤ) (v : Node) (ks : List Known) (z y : ℤ) (m : Monomial) (ms : List Monomial) → same_node v m.variable ≡ b → AreOrdered (m ∷ ms) → Agrees g v ks (m ∷ ms) → ((x : ℤ) → sum_without v ks x ms ≡ Some y → y +ℤ (coefficient v ms *ℤ g v) ≡ x +ℤ sum_at g ms) → with_some (if b then Some z else with_some (narrow (m.coefficient *ℤ value_in ks m.variable)) (λ x. narrow (z +ℤ x))) (λ x. sum_without v ks x ms) ≡ Some y → y +ℤ ((if b then m.coefficient else coefficient v ms) *ℤ g v) ≡ z +ℤ ((m.coefficient *ℤ g m.variable) +ℤ sum_at g ms)
sum_by true g v ks z y m ms t o a rest e =
    summed_up y (coefficient v ms *ℤ g v) z (m.coefficient *ℤ g v) (sum_at g ms) (m.coefficient *ℤ g m.variable) (rest z e)
    (none_of (coefficient v ms) (g v) (absent_along v m.variable ms t o.1))
    (ap (λ (n : Node). m.coefficient *ℤ g n) (sym (same_node-is v m.variable t)))
sum_by false g v ks z y m ms t o a rest e =
    let p = passes (with_some (narrow (m.coefficient *ℤ value_in ks m.variable)) (λ x. narrow (z +ℤ x))) (λ x. sum_without v ks x ms) y e in
    let q = passes (narrow (m.coefficient *ℤ value_in ks m.variable)) (λ x. narrow (z +ℤ x)) p.0 p.1 in
    moved y (coefficient v ms *ℤ g v) p.0 z (m.coefficient *ℤ g m.variable) (sum_at g ms) (rest p.0 p.2)
    (ap (λ (x : ℤ). z +ℤ x) (ap (λ (x : ℤ). m.coefficient *ℤ x) (a.0 t) ∙ narrow_same _ _ q.1) ∙ narrow_same _ _ q.2)

pub sum_is : (g : Node → ℤ) (v : Node) (ks : List Known) (z y : ℤ) (ms : List Monomial) → AreOrdered ms → Agrees g v ks ms → sum_without v ks z ms ≡ Some y → y +ℤ (coefficient v ms *ℤ g v) ≡ z +ℤ sum_at g ms
sum_is g v ks z y [] o a e = ap₂ (λ (p q : ℤ). p +ℤ q) (sym (some_same z y e)) (zero-*ℤ (g v))
sum_is g v ks z y (m ∷ ms) o a e =
    sum_by (same_node v m.variable) g v ks z y m ms refl o a (λ x h. sum_is g v ks x y ms o.2 a.1 h) e

-- ---- division

below_pos : (a n q : ℕ) (z : ℤ) → z ≡ pos q → q ≤ a → z ≤ℤ pos a
below_pos a n q z e h = omega (arith, ints)

below_negsuc : (a q : ℕ) (z : ℤ) → z ≡ neg_ℤ (pos q) → suc a ≤ q → z ≤ℤ negsuc a
below_negsuc a q z e h = omega (arith, ints)

next_above : (a n : ℕ) → suc a ≤ suc (a / suc n) * suc n
next_above a n = let h : a < a / suc n * suc n + suc n = lt-div-mul-add (omega arith) in grind (arith, h)

pub floor_below : (z : ℤ) (n : ℕ) → (floor z (suc n) *ℤ pos (suc n)) ≤ℤ z
floor_below (pos a) n = below_pos a n _ _ (pos-*ℤ-pos (a / suc n) (suc n)) (div-mul-le_self a (suc n))
floor_below (negsuc a) n = below_negsuc a _ _ (negsuc-*ℤ-pos (a / suc n) (suc n)) (next_above a n)

product_up : (d : ℤ) (n : ℕ) → pos 0 ≤ℤ d → pos 0 ≤ℤ (d *ℤ pos n)
product_up (pos m) n h = rw (pos-*ℤ-pos m n) (omega (arith, ints))
product_up (negsuc m) n h = absurd (omega (arith, ints))

collected : (s a b y t : ℤ) → s ≡ a +ℤ b → pos 0 ≤ℤ s → a ≤ℤ y → b ≡ t → pos 0 ≤ℤ (y +ℤ t)
collected s a b y t e h k f = omega (arith, ints)

lower_holds : (y x : ℤ) (n : ℕ) → neg_ℤ (floor y (suc n)) ≤ℤ x → pos 0 ≤ℤ (y +ℤ (pos (suc n) *ℤ x))
lower_holds y x n h =
    let d : pos 0 ≤ℤ (floor y (suc n) +ℤ x) = omega (arith, ints) in
    collected _ _ (x *ℤ pos (suc n)) y (pos (suc n) *ℤ x) (add_mul (floor y (suc n)) x (pos (suc n))) (product_up _ (suc n) d) (floor_below y n) (*ℤ_comm x (pos (suc n)))

negated_product : (n : ℕ) (x : ℤ) → neg_ℤ x *ℤ pos (suc n) ≡ negsuc n *ℤ x
negated_product n (pos zero) = zero-*ℤ (pos (suc n)) ∙ sym (*ℤ-zero (negsuc n))
negated_product n (pos (suc m)) = negsuc-*ℤ-pos m (suc n) ∙ ap (λ (k : ℕ). neg_ℤ (pos k)) (turned m n) ∙ sym (negsuc-*ℤ-pos n (suc m))
  where
    turned : (a b : ℕ) → suc a * suc b ≡ suc b * suc a
    turned a b = grind arith
negated_product n (negsuc m) = pos-*ℤ-pos (suc m) (suc n) ∙ both m n
  where
    both : (a b : ℕ) → pos (suc a * suc b) ≡ negsuc b *ℤ negsuc a
    both a b = grind (arith, ints)

upper_holds : (y x : ℤ) (n : ℕ) → x ≤ℤ floor y (suc n) → pos 0 ≤ℤ (y +ℤ (negsuc n *ℤ x))
upper_holds y x n h =
    let d : pos 0 ≤ℤ (floor y (suc n) +ℤ neg_ℤ x) = omega (arith, ints) in
    collected _ _ (neg_ℤ x *ℤ pos (suc n)) y (negsuc n *ℤ x) (add_mul (floor y (suc n)) (neg_ℤ x) (pos (suc n))) (product_up _ (suc n) d) (floor_below y n) (negated_product n x)

-- ---- ranges

abbrev pub Above : ℤ → Option ℤ → Type 0
Above x None = Unit {0}
Above x (Some l) = l ≤ℤ x

abbrev pub Below : ℤ → Option ℤ → Type 0
Below x None = Unit {0}
Below x (Some u) = x ≤ℤ u

pub record Within (x : ℤ) (r : Range) : Type 0 where
  pub lower : Above x r.lower
  pub upper : Below x r.upper

above_greater : (x b : ℤ) (o : Option ℤ) → greater b o ≤ℤ x → (b ≤ℤ x) × Above x o
above_greater x b None h = (h, tt)
above_greater x b (Some l) h = by (int_lt b l) refl h
  where
    by : (t : Bool) → int_lt b l ≡ t → (if t then l else b) ≤ℤ x → (b ≤ℤ x) × (l ≤ℤ x)
    by true e k = (let f : b ≤ℤ l = grind (arith, ints, e) in omega (arith, ints), k)
    by false e k = (k, let f : l ≤ℤ b = grind (arith, ints, e) in omega (arith, ints))

below_lesser : (x b : ℤ) (o : Option ℤ) → x ≤ℤ lesser b o → (x ≤ℤ b) × Below x o
below_lesser x b None h = (h, tt)
below_lesser x b (Some u) h = by (int_lt u b) refl h
  where
    by : (t : Bool) → int_lt u b ≡ t → x ≤ℤ (if t then u else b) → (x ≤ℤ b) × (x ≤ℤ u)
    by true e k = (let f : u ≤ℤ b = grind (arith, ints, e) in omega (arith, ints), k)
    by false e k = (k, let f : b ≤ℤ u = grind (arith, ints, e) in omega (arith, ints))

abbrev pub AtLeast : ℤ → ℤ → ℤ → Type 0
AtLeast c y x = pos 0 ≤ℤ (y +ℤ (c *ℤ x))

raised_range : (c y x : ℤ) (n : ℕ) (r q : Range) → c ≡ pos (suc n) → with_some (narrow (neg_ℤ (floor y (suc n)))) (λ b. Some (range (Some (greater b r.lower)) r.upper)) ≡ Some q → Within x q → AtLeast c y x × Within x r
raised_range c y x n r q e f w =
    let p = passes (narrow (neg_ℤ (floor y (suc n)))) (λ b. Some (range (Some (greater b r.lower)) r.upper)) q f in
    let k : range (Some (greater p.0 r.lower)) r.upper ≡ q = same _ q p.2 in
    let v = subst (Within x) (sym k) w in
    let h = above_greater x p.0 r.lower v.lower in
    let low : neg_ℤ (floor y (suc n)) ≤ℤ x = subst (λ (z : ℤ). z ≤ℤ x) (sym (narrow_same _ _ p.1)) h.0 in
    (subst (λ (z : ℤ). AtLeast z y x) (sym e) (lower_holds y x n low), record { lower = h.1; upper = v.upper })
  where
    same : (a b : Range) → Some a ≡ Some b → a ≡ b
    same a b g = cc

lowered_range : (c y x : ℤ) (n : ℕ) (r q : Range) → c ≡ negsuc n → Some (range r.lower (Some (lesser (floor y (suc n)) r.upper))) ≡ Some q → Within x q → AtLeast c y x × Within x r
lowered_range c y x n r q e f w =
    let k : range r.lower (Some (lesser (floor y (suc n)) r.upper)) ≡ q = same _ q f in
    let v = subst (Within x) (sym k) w in
    let h = below_lesser x (floor y (suc n)) r.upper v.upper in
    (subst (λ (z : ℤ). AtLeast z y x) (sym e) (upper_holds y x n h.0), record { lower = v.lower; upper = h.1 })
  where
    same : (a b : Range) → Some a ≡ Some b → a ≡ b
    same a b g = cc

above_zero : (k : ℕ) → int_lt (pos 0) (pos (suc k)) ≡ true
above_zero k = grind (arith, ints)

pub bounded_holds : (c y x : ℤ) (r q : Range) → c ≢ pos 0 → bounded c y r ≡ Some q → Within x q → AtLeast c y x × Within x r
bounded_holds (pos zero) y x r q n e w = absurd (n refl)
bounded_holds (pos (suc k)) y x r q n e w = raised_range (pos (suc k)) y x k r q refl (sym (if_true _ _ _ (above_zero k)) ∙ e) w
bounded_holds (negsuc k) y x r q n e w = lowered_range (negsuc k) y x k r q refl e w

-- ---- forms

-- the value of a form is at least 0, where g gives the variables' values
abbrev pub Meets : (Node → ℤ) → Form → Type 0
Meets g f = pos 0 ≤ℤ (f.constant +ℤ sum_at g f.monomials)

abbrev pub Fine : (Node → ℤ) → Node → List Known → Form → Type 0
Fine g v ks f = IsOrdered f × (coefficient v f.monomials ≢ pos 0) × Agrees g v ks f.monomials

form_holds : (g : Node → ℤ) (v : Node) (ks : List Known) (f : Form) (r q : Range) → Fine g v ks f → bounded_by v ks f r ≡ Some q → Within (g v) q → Meets g f × Within (g v) r
form_holds g v ks f r q d e w =
    let p = passes (sum_without v ks f.constant f.monomials) (λ z. bounded (coefficient v f.monomials) z r) q e in
    let h = bounded_holds (coefficient v f.monomials) p.0 (g v) r q d.1 p.2 w in
    (subst (λ (z : ℤ). pos 0 ≤ℤ z) (sum_is g v ks f.constant p.0 f.monomials d.0 d.2 p.1) h.0, h.1)

pub forms_hold : (g : Node → ℤ) (v : Node) (ks : List Known) (fs : List Form) (r q : Range) → AreAll (Fine g v ks) fs → bounded_by_all v ks fs r ≡ Some q → Within (g v) q → AreAll (Meets g) fs × Within (g v) r
forms_hold g v ks [] r q a e w = (tt, subst (Within (g v)) (sym (same r q e)) w)
  where
    same : (x y : Range) → Some x ≡ Some y → x ≡ y
    same x y h = cc
forms_hold g v ks (f ∷ fs) r q a e w =
    let p = passes (bounded_by v ks f r) (bounded_by_all v ks fs) q e in
    let h = forms_hold g v ks fs p.0 q a.1 p.2 w in
    let k = form_holds g v ks f r p.0 a.0 p.1 h.1 in
    ((k.0, h.0), k.1)

-- ---- the nearest number

lesser_below : (x : ℤ) (o : Option ℤ) → Below (lesser x o) o
lesser_below x None = tt
lesser_below x (Some u) = by (int_lt u x) refl
  where
    by : (t : Bool) → int_lt u x ≡ t → (if t then u else x) ≤ℤ u
    by true e = omega (arith, ints)
    by false e = grind (arith, ints, e)

least_above : (x : ℤ) (o : Option ℤ) → is_at_least x o ≡ true → Above x o
least_above x None e = tt
least_above x (Some l) e = grind (arith, ints, e)

nearest_by : (b : Bool) (x y : ℤ) → (if b then Some x else None) ≡ Some y → (b ≡ true) × (x ≡ y)
nearest_by true x y e = (refl, cc)
nearest_by false x y e = cc

pub nearest_within : (r : Range) (x : ℤ) → nearest r ≡ Some x → Within x r
nearest_within r x e =
    let z = lesser (greater (pos 0) r.lower) r.upper in
    let p = nearest_by (is_at_least z r.lower) z x e in
    subst (λ (y : ℤ). Within y r) p.1 (record { lower = least_above z r.lower p.0; upper = lesser_below (greater (pos 0) r.lower) r.upper })
