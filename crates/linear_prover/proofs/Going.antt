-- What is so of each state of the run: the forms that stand are in order and have no variable that is not left.
use Rattle.std.proofs.Common.{◌≡◌, ◌≢◌, refl, sym, ◌∙◌, ap, ap₂, subst, ℕ, zero, suc, ◌+◌, ◌*◌, ◌/◌, ◌%◌, Bool, true, false, List, [], ◌∷◌, map, arith}
use Rattle.std.specs.Prelude.{if◌then◌else◌, ◌&&◌, ◌==◌, ℤ, pos, negsuc, neg_ℤ, ◌+ℤ◌, ◌*ℤ◌, int_lt, unsigned_abs}
use Rattle.std.proofs.lemmas.Int.{ints}
use Rattle.std.proofs.lemmas.Bool.{and_parts, eqb-true, false≢true}
use Rattle.std.proofs.Math.IntN.{*ℤ_comm, pos-*ℤ-pos, negsuc-*ℤ-pos}
use Rattle.logic_terms.specs.Node.{Node}
use Rattle.logic_terms.specs.Value.{same_int}
use Rattle.logic_terms.specs.Same.{same_node}
use Rattle.logic_terms.proofs.SameNodes.{same_node-is}
use Rattle.logic_terms.specs.Text.{precedes}
use Rattle.linear_forms.specs.Form.{Monomial, monomial, Form, kept, with_monomial, gathered, scaled, combined, floor, divides_all, greatest_to, total, divisor, divided, tightened}
use Rattle.linear_forms.specs.Fits.{fits, combining_fits}
use Rattle.linear_forms.specs.Ordered.{PrecedesAll, AreOrdered, IsOrdered, coefficient_of}
use Rattle.linear_forms.proofs.Tightening.{greatest_divides}
use Rattle.linear_forms.proofs.Ordering.{combined_ordered, tightened_ordered}
use Rattle.linear_forms.proofs.Sums.{combined_coefficient}
use Rattle.cert_lines.specs.Line.{Step, sum_of, tighten}
use Rattle.linear_prover.specs.Forms.{coefficient, is_constant, same_form, stands, factor}
use Rattle.linear_prover.specs.Machine.{Made, made, State, Answer, wide, steps_out, Running, goes_on, ends, and_then, each, next, with_line, repeats, placed, appended}
use Rattle.linear_prover.specs.Elimination.{is_positive, is_negative, summed, paired, all_paired}
use Rattle.linear_prover.specs.Points.{AreAll}
use Rattle.linear_prover.proofs.Holding.{all_append, going, kept_constant, kept_form}
use Rattle.linear_prover.proofs.Bounding.{absent}
use Rattle.linear_prover.proofs.Solving.{Bound}

abbrev pub Uses : List Node → List Monomial → Type 0
Uses us ms = AreAll (λ m. stands m.variable us ≡ true) ms

-- a form that may stand while the variables us are left
abbrev pub Solid : List Node → Form → Type 0
Solid us f = IsOrdered f × (is_constant f.monomials ≡ false) × Uses us f.monomials

-- us are left for the forms that stand; the forms set aside had those in ws
pub record Sound (all us ws : List Node) (s : State) : Type 0 where
  pub standing : AreAll (λ x. Solid us x.body) s.standing
  pub bound : Bound all ws s.eliminated

never : {P : Type 0} (a : Answer) (b : ℕ) (t : State) → ends a b ≡ goes_on t → P
never a b t e = cc

-- ---- a form is placed

constant_sound : (all us ws : List Node) (b : Bool) (x : Made) (s t : State) → kept_constant b x s ≡ goes_on t → Sound all us ws s → Sound all us ws t × (t.left ≡ s.left)
constant_sound all us ws true x s t e h = never _ _ t e
constant_sound all us ws false x s t e h = (subst (Sound all us ws) (going s t e) h, sym (ap (λ (u : State). u.left) (going s t e)))

form_sound : (all us ws : List Node) (b : Bool) (x : Made) (s t : State) → Solid us x.body → kept_form b x s ≡ goes_on t → Sound all us ws s → Sound all us ws t × (t.left ≡ s.left)
form_sound all us ws true x s t d e h = (subst (Sound all us ws) (going s t e) h, sym (ap (λ (u : State). u.left) (going s t e)))
form_sound all us ws false x s t d e h =
    (subst (Sound all us ws) (going _ t e) (record { standing = all_append _ s.standing (x ∷ []) h.standing (d, tt); bound = h.bound }), sym (ap (λ (u : State). u.left) (going _ t e)))

placed_by : (all us ws : List Node) (b : Bool) (x : Made) (s t : State) → is_constant x.body.monomials ≡ b → IsOrdered x.body → Uses us x.body.monomials → (if b then kept_constant (int_lt x.body.constant (pos 0)) x s else kept_form (repeats x.body s.standing) x s) ≡ goes_on t → Sound all us ws s → Sound all us ws t × (t.left ≡ s.left)
placed_by all us ws true x s t c o u e h = constant_sound all us ws (int_lt x.body.constant (pos 0)) x s t e h
placed_by all us ws false x s t c o u e h = form_sound all us ws (repeats x.body s.standing) x s t (o, c, u) e h

placed_sound : (all us ws : List Node) (x : Made) (s t : State) → IsOrdered x.body → Uses us x.body.monomials → placed x s ≡ goes_on t → Sound all us ws s → Sound all us ws t × (t.left ≡ s.left)
placed_sound all us ws x s t o u e h = placed_by all us ws (is_constant x.body.monomials) x s t refl o u e h

quotients_use : (us : List Node) (n : ℕ) (ms : List Monomial) → Uses us ms → Uses us (map (λ m. monomial (floor m.coefficient (suc n)) m.variable) ms)
quotients_use us n [] u = tt
quotients_use us n (m ∷ ms) u = (u.0, quotients_use us n ms u.1)

divided_uses : (us : List Node) (k : ℕ) (f : Form) → Uses us f.monomials → Uses us (divided k f).monomials
divided_uses us zero f u = u
divided_uses us (suc n) f u = quotients_use us n f.monomials u

noted_sound : (all us ws : List Node) (l : Step) (s : State) → Sound all us ws s → Sound all us ws (with_line l s)
noted_sound all us ws l s h = record { standing = h.standing; bound = h.bound }

appended_by : (all us ws : List Node) (b : Bool) (f : Form) (k : ℕ) (s t : State) → IsOrdered (tightened f) → Uses us (tightened f).monomials → (if b then placed (made (tightened f) k) s else placed (made (tightened f) (next s)) (with_line (tighten k) s)) ≡ goes_on t → Sound all us ws s → Sound all us ws t × (t.left ≡ s.left)
appended_by all us ws true f k s t o u e h = placed_sound all us ws (made (tightened f) k) s t o u e h
appended_by all us ws false f k s t o u e h = placed_sound all us ws (made (tightened f) (next s)) (with_line (tighten k) s) t o u e (noted_sound all us ws (tighten k) s h)

pub appended_sound : (all us ws : List Node) (f : Form) (k : ℕ) (s t : State) → IsOrdered f → Uses us f.monomials → appended f k s ≡ goes_on t → Sound all us ws s → Sound all us ws t × (t.left ≡ s.left)
appended_sound all us ws f k s t o u e h =
    appended_by all us ws (same_form (tightened f) f) f k s t (tightened_ordered f o) (divided_uses us (divisor f.monomials) f u) e h

-- ---- loops

abbrev pub Goes : List Node → List Node → List Node → (State → Running) → Type 0
Goes all us ws f = (s t : State) → f s ≡ goes_on t → Sound all us ws s → Sound all us ws t × (t.left ≡ s.left)

pub each_sound : {A : Type 0} (all us ws : List Node) (P : A → Type 0) (f : A → State → Running) → ((x : A) → P x → Goes all us ws (f x)) → (xs : List A) → AreAll P xs → Goes all us ws (each f xs)
each_sound all us ws P f k [] a s t e h = (subst (Sound all us ws) (going s t e) h, sym (ap (λ (u : State). u.left) (going s t e)))
each_sound {A} all us ws P f k (x ∷ xs) a s t e h = first (λ u g w. each_sound all us ws P f k xs a.1 u t g w) (f x s) refl e
  where
    first : ((u : State) → each f xs u ≡ goes_on t → Sound all us ws u → Sound all us ws t × (t.left ≡ u.left)) → (r : Running) → f x s ≡ r → and_then r (each f xs) ≡ goes_on t → Sound all us ws t × (t.left ≡ s.left)
    first m (goes_on u) c g =
        let p = k x a.0 s u c h in let q = m u g p.0 in (q.0, q.1 ∙ p.1)
    first m (ends b d) c g = never b d t g

-- ---- sums without a variable

kept_uses : (us : List Node) (b : Bool) (c : ℤ) (v : Node) (ms : List Monomial) → stands v us ≡ true → Uses us ms → Uses us (if b then ms else monomial c v ∷ ms)
kept_uses us true c v ms e u = u
kept_uses us false c v ms e u = (e, u)

with_by : (us : List Node) (s p : Bool) (c : ℤ) (v : Node) (m : Monomial) (ms rest : List Monomial) → stands v us ≡ true → Uses us (m ∷ ms) → Uses us rest → Uses us (if s then kept (m.coefficient +ℤ c) m.variable ms else if p then kept c v (m ∷ ms) else m ∷ rest)
with_by us true p c v m ms rest e u w = kept_uses us (same_int (m.coefficient +ℤ c) (pos 0)) (m.coefficient +ℤ c) m.variable ms u.0 u.1
with_by us false true c v m ms rest e u w = kept_uses us (same_int c (pos 0)) c v (m ∷ ms) e u
with_by us false false c v m ms rest e u w = (u.0, w)

with_uses : (us : List Node) (c : ℤ) (v : Node) (ms : List Monomial) → stands v us ≡ true → Uses us ms → Uses us (with_monomial c v ms)
with_uses us c v [] e u = kept_uses us (same_int c (pos 0)) c v [] e tt
with_uses us c v (m ∷ ms) e u = with_by us (same_node v m.variable) (precedes v m.variable) c v m ms (with_monomial c v ms) e u (with_uses us c v ms e u.1)

gathered_uses : (us : List Node) (ns ms : List Monomial) → Uses us ns → Uses us ms → Uses us (gathered ns ms)
gathered_uses us [] ms u w = w
gathered_uses us (n ∷ ns) ms u w = gathered_uses us ns _ u.1 (with_uses us n.coefficient n.variable ms u.0 w)

scaled_uses : (us : List Node) (c : ℤ) (ms : List Monomial) → Uses us ms → Uses us (scaled c ms)
scaled_uses us c [] u = tt
scaled_uses us c (m ∷ ms) u = (u.0, scaled_uses us c ms u.1)

combined_uses : (us : List Node) (m : ℤ) (f : Form) (n : ℤ) (g : Form) → Uses us f.monomials → Uses us g.monomials → Uses us (combined m f n g).monomials
combined_uses us m f n g u w = gathered_uses us _ _ (scaled_uses us n g.monomials w) (gathered_uses us _ [] (scaled_uses us m f.monomials u) tt)

added_none : (c z : ℤ) → z ≡ pos 0 → c +ℤ z ≡ c
added_none c z e = omega (arith, ints)

none_added : (z : ℤ) → pos 0 +ℤ z ≡ z
none_added z = omega (arith, ints)

coefficients_by : (b : Bool) (v : Node) (m : Monomial) (ms : List Monomial) → same_node v m.variable ≡ b → PrecedesAll m.variable ms → coefficient_of v ms ≡ coefficient v ms → ((if b then m.coefficient else pos 0) +ℤ coefficient_of v ms) ≡ (if b then m.coefficient else coefficient v ms)
coefficients_by true v m ms e p h = added_none m.coefficient _ (h ∙ ap (λ (n : Node). coefficient n ms) (same_node-is v m.variable e) ∙ absent m.variable ms p)
coefficients_by false v m ms e p h = none_added _ ∙ h

pub coefficients_same : (v : Node) (ms : List Monomial) → AreOrdered ms → coefficient_of v ms ≡ coefficient v ms
coefficients_same v [] o = refl
coefficients_same v (m ∷ ms) o = coefficients_by (same_node v m.variable) v m ms refl o.1 (coefficients_same v ms o.2)

abbrev Lacks : Node → List Monomial → Type 0
Lacks v ms = AreAll (λ m. same_node v m.variable ≡ false) ms

lacks_by : (b : Bool) (c r : ℤ) → c ≢ pos 0 → (if b then c else r) ≡ pos 0 → (b ≡ false) × (r ≡ pos 0)
lacks_by true c r n e = absurd (n e)
lacks_by false c r n e = (refl, e)

pub lacks : (v : Node) (ms : List Monomial) → AreOrdered ms → coefficient v ms ≡ pos 0 → Lacks v ms
lacks v [] o e = tt
lacks v (m ∷ ms) o e =
    let p = lacks_by (same_node v m.variable) m.coefficient (coefficient v ms) o.0 e in (p.0, lacks v ms o.2 p.1)

-- the variables us are those of ws other than v
abbrev pub Lessened : Node → List Node → List Node → Type 0
Lessened v ws us = (u : Node) → same_node v u ≡ false → stands u ws ≡ true → stands u us ≡ true

pub lessened_uses : (v : Node) (ws us : List Node) → Lessened v ws us → (ms : List Monomial) → Lacks v ms → Uses ws ms → Uses us ms
lessened_uses v ws us k [] a u = tt
lessened_uses v ws us k (m ∷ ms) a u = (k m.variable a.0 u.0, lessened_uses v ws us k ms a.1 u.1)

-- ---- the least combination

same_greatest : (n : ℕ) (ms ns : List Monomial) → ((d : ℕ) → divides_all d ms ≡ divides_all d ns) → greatest_to n ms ≡ greatest_to n ns
same_greatest zero ms ns h = refl
same_greatest (suc n) ms ns h = ap₂ (λ (b : Bool) (k : ℕ). if b then suc n else k) (h (suc n)) (same_greatest n ms ns h)

two_turned : (a b : Bool) → (a && (b && true)) ≡ (b && (a && true))
two_turned true true = refl
two_turned true false = refl
two_turned false true = refl
two_turned false false = refl

total_turned : (a b : ℕ) → a + (b + 0) ≡ b + (a + 0)
total_turned a b = omega arith

divisor_turned : (v : Node) (a b : ℤ) → divisor (monomial a v ∷ monomial b v ∷ []) ≡ divisor (monomial b v ∷ monomial a v ∷ [])
divisor_turned v a b =
    same_greatest (total (monomial a v ∷ monomial b v ∷ [])) (monomial a v ∷ monomial b v ∷ []) (monomial b v ∷ monomial a v ∷ []) (λ d. two_turned (unsigned_abs a % d == 0) (unsigned_abs b % d == 0))
    ∙ ap (λ (n : ℕ). greatest_to n (monomial b v ∷ monomial a v ∷ [])) (total_turned (unsigned_abs a) (unsigned_abs b))

whole_quotient : (x n : ℕ) → x % suc n ≡ 0 → x ≡ x / suc n * suc n
whole_quotient x n e = grind (arith, e)

crossed : (a b p q g : ℕ) → a ≡ p * g → b ≡ q * g → q * a ≡ b * p
crossed a b p q g e f = ap (λ (x : ℕ). q * x) e ∙ turned p q g ∙ ap (λ (x : ℕ). x * p) (sym f)
  where
    turned : (p q g : ℕ) → q * (p * g) ≡ (q * g) * p
    turned p q g = grind arith

quotients_cross : (g : ℕ) (v : Node) (a b : ℤ) → divisor (monomial a v ∷ monomial b v ∷ []) ≡ g → (unsigned_abs b / g) * unsigned_abs a ≡ unsigned_abs b * (unsigned_abs a / g)
quotients_cross zero v a b e = grind arith
quotients_cross (suc n) v a b e =
    let ms = monomial a v ∷ monomial b v ∷ [] in
    let d = and_parts _ _ (greatest_divides (total ms) n ms e) in
    let k = and_parts _ _ d.1 in
    crossed _ _ _ _ (suc n) (whole_quotient (unsigned_abs a) n (eqb-true _ _ d.0)) (whole_quotient (unsigned_abs b) n (eqb-true _ _ k.0))

cancels : (p q : ℕ) (x y : ℤ) → x ≡ pos p → y ≡ neg_ℤ (pos q) → p ≡ q → x +ℤ y ≡ pos 0
cancels p q x y e f g = omega (arith, ints)

opposite : (a b : ℤ) (p q : ℕ) → int_lt (pos 0) a ≡ true → int_lt b (pos 0) ≡ true → p * unsigned_abs a ≡ unsigned_abs b * q → (pos p *ℤ a) +ℤ (pos q *ℤ b) ≡ pos 0
opposite (pos a) (negsuc b) p q h k e =
    cancels _ _ _ _ (pos-*ℤ-pos p a) (*ℤ_comm (pos q) (negsuc b) ∙ negsuc-*ℤ-pos b q) e
opposite (negsuc a) b p q h k e = absurd (false≢true h)
opposite (pos a) (pos b) p q h k e = absurd (none b k)
  where
    none : (n : ℕ) → int_lt (pos n) (pos 0) ≡ true → ⊥
    none n e = grind (arith, ints, e)

combined_vanishes : (v : Node) (x y : Form) → IsOrdered x → IsOrdered y → int_lt (pos 0) (coefficient v x.monomials) ≡ true → int_lt (coefficient v y.monomials) (pos 0) ≡ true → coefficient v (combined (factor v x y) x (factor v y x) y).monomials ≡ pos 0
combined_vanishes v x y o q h k =
    let a = coefficient v x.monomials in let b = coefficient v y.monomials in
    let f = factor v x y in let g = factor v y x in
    sym (coefficients_same v (combined f x g y).monomials (combined_ordered f x g y))
    ∙ combined_coefficient v f x g y
    ∙ ap₂ (λ (p r : ℤ). (f *ℤ p) +ℤ (g *ℤ r)) (coefficients_same v x.monomials o) (coefficients_same v y.monomials q)
    ∙ opposite a b _ _ h k
    (quotients_cross (divisor (monomial a v ∷ monomial b v ∷ [])) v a b refl
    ∙ ap (λ (d : ℕ). unsigned_abs b * (unsigned_abs a / d)) (divisor_turned v a b))

-- ---- pairs

summed_by : (all us ws : List Node) (b : Bool) (f : Form) (l : Step) (s t : State) → IsOrdered f → Uses us f.monomials → (if b then appended f (next s) (with_line l s) else ends wide s.budget) ≡ goes_on t → Sound all us ws s → Sound all us ws t × (t.left ≡ s.left)
summed_by all us ws true f l s t o u e h = appended_sound all us ws f (next s) (with_line l s) t o u e (noted_sound all us ws l s h)
summed_by all us ws false f l s t o u e h = never _ _ t e

paired_by : (all us ws : List Node) (b : Bool) (m : ℤ) (x : Made) (n : ℤ) (y : Made) (k : ℕ) (s t : State) → Uses us (combined m x.body n y.body).monomials → (if b then ends steps_out 0 else summed m x n y (record s { budget = k })) ≡ goes_on t → Sound all us ws s → Sound all us ws t × (t.left ≡ s.left)
paired_by all us ws true m x n y k s t u e h = never _ _ t e
paired_by all us ws false m x n y k s t u e h =
    summed_by all us ws (fits m && (fits n && combining_fits m x.body n y.body)) (combined m x.body n y.body) (sum_of x.number m y.number n) (record s { budget = k }) t (combined_ordered m x.body n y.body) u e (record { standing = h.standing; bound = h.bound })

-- a form that had v, of which there are others in ws
abbrev pub Had : List Node → Made → Type 0
Had ws x = IsOrdered x.body × Uses ws x.body.monomials

paired_sound : (all us ws : List Node) (v : Node) (x y : Made) → Lessened v ws us → Had ws x × (is_positive v x ≡ true) → Had ws y × (is_negative v y ≡ true) → Goes all us ws (paired v x y)
paired_sound all us ws v x y l p q s t e h =
    let f = factor v x.body y.body in let g = factor v y.body x.body in
    let none = combined_vanishes v x.body y.body p.0.0 q.0.0 p.1 q.1 in
    let used = lessened_uses v ws us l (combined f x.body g y.body).monomials (lacks v _ (combined_ordered f x.body g y.body) none) (combined_uses ws f x.body g y.body p.0.1 q.0.1) in
    paired_by all us ws (s.budget == 0) f x g y _ s t used e h

pub all_paired_sound : (all us ws : List Node) (v : Node) (xs ys : List Made) → Lessened v ws us → AreAll (λ x. Had ws x × (is_positive v x ≡ true)) xs → AreAll (λ y. Had ws y × (is_negative v y ≡ true)) ys → Goes all us ws (all_paired v xs ys)
all_paired_sound all us ws v xs ys l a b =
    each_sound all us ws (λ x. Had ws x × (is_positive v x ≡ true)) (λ x. each (λ y. paired v x y) ys)
    (λ x p. each_sound all us ws (λ y. Had ws y × (is_negative v y ≡ true)) (λ y. paired v x y) (λ y q. paired_sound all us ws v x y l p q) ys b) xs a
