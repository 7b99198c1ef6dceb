-- Forms stay in order.
use Rattle.std.proofs.Common.{◌≡◌, ◌≢◌, refl, sym, ◌∙◌, ap, ap₂, ℕ, zero, suc, ◌%◌, Bool, true, false, List, [], ◌∷◌, map, arith, ℤ, pos, negsuc, ◌+ℤ◌, ◌*ℤ◌}
use Rattle.std.specs.Prelude.{if◌then◌else◌, unsigned_abs}
use Rattle.std.proofs.lemmas.Bool.{and_parts, eqb-true, false≢true}
use Rattle.std.specs.declared.cmp.Ordering.{Ordering}
use Rattle.std.specs.declared.cmp.Ordering.TheVariants.{Less, Equal, Greater}
use Rattle.std.specs.Ordering.{ordering_reverse}
use Rattle.std.proofs.lemmas.Int.{ints}
use Rattle.std.proofs.Math.IntN.{zero-*ℤ}
use Rattle.logic_terms.specs.Node.{Node, mul, add, sub, arith as compute_by, num, op2}
use Rattle.logic_terms.specs.Value.{same_int}
use Rattle.logic_terms.specs.Same.{same_node}
use Rattle.logic_terms.proofs.SameNodes.{same_node-is, same_node-refl}
use Rattle.logic_terms.specs.Text.{node_text, text_order, is_less, precedes}
use Rattle.logic_terms.proofs.Apart.{texts_apart}
use Rattle.logic_terms.proofs.TextOrder.{total_order, precedes_chain, precedes_itself, precedes_neither, same_texts}
use Rattle.linear_forms.specs.Form.{Monomial, monomial, Form, form, kept, with_monomial, gathered, scaled, combined, products, multiplied, form_of_node, floor, divides_all, divisor, divided, tightened, total}
use Rattle.linear_forms.specs.Ordered.{PrecedesAll, AreOrdered, IsOrdered, coefficient_of}
use Rattle.linear_forms.proofs.Tightening.{floor_exact, greatest_divides}

-- ---- the order of variables

same_if : (u v : Node) → u ≡ v → same_node u v ≡ true
same_if u v e = ap (same_node u) (sym e) ∙ same_node-refl u

back_by : (p : Bool) (v u : Node) → same_node v u ≡ false → precedes v u ≡ false → precedes u v ≡ p → p ≡ true
back_by true v u f g h = refl
back_by false v u f g h = absurd (false≢true (sym f ∙ same_if v u (precedes_neither v u g h)))

-- of two variables that are not the same, one precedes the other
pub precedes_back : (v u : Node) → same_node v u ≡ false → precedes v u ≡ false → precedes u v ≡ true
precedes_back v u f g = back_by (precedes u v) v u f g refl

-- ---- sums

kept_by : (b : Bool) (c : ℤ) (v : Node) (ms : List Monomial) → (b ≡ false → c ≢ pos 0) → PrecedesAll v ms → AreOrdered ms → AreOrdered (if b then ms else monomial c v ∷ ms)
kept_by true c v ms h all o = o
kept_by false c v ms h all o = (h refl, all, o)

not_zero : (c : ℤ) → same_int c (pos 0) ≡ false → c ≢ pos 0
not_zero c h e = false≢true (sym h ∙ ap (λ (x : ℤ). same_int x (pos 0)) e)

kept_ordered : (c : ℤ) (v : Node) (ms : List Monomial) → PrecedesAll v ms → AreOrdered ms → AreOrdered (kept c v ms)
kept_ordered c v ms all o = kept_by (same_int c (pos 0)) c v ms (not_zero c) all o

kept_all_by : (b : Bool) (u : Node) (c : ℤ) (v : Node) (ms : List Monomial) → precedes u v ≡ true → PrecedesAll u ms → PrecedesAll u (if b then ms else monomial c v ∷ ms)
kept_all_by true u c v ms p all = all
kept_all_by false u c v ms p all = (p, all)

kept_all : (u : Node) (c : ℤ) (v : Node) (ms : List Monomial) → precedes u v ≡ true → PrecedesAll u ms → PrecedesAll u (kept c v ms)
kept_all u c v ms p all = kept_all_by (same_int c (pos 0)) u c v ms p all

with_all_by : (s p : Bool) (u : Node) (c : ℤ) (v : Node) (m : Monomial) (ms rest : List Monomial) → precedes u v ≡ true → PrecedesAll u (m ∷ ms) → PrecedesAll u rest → PrecedesAll u (if s then kept (m.coefficient +ℤ c) m.variable ms else if p then kept c v (m ∷ ms) else m ∷ rest)
with_all_by true p u c v m ms rest h all more = kept_all u (m.coefficient +ℤ c) m.variable ms all.0 all.1
with_all_by false true u c v m ms rest h all more = kept_all u c v (m ∷ ms) h all
with_all_by false false u c v m ms rest h all more = (all.0, more)

with_all : (u : Node) (c : ℤ) (v : Node) (ms : List Monomial) → precedes u v ≡ true → PrecedesAll u ms → PrecedesAll u (with_monomial c v ms)
with_all u c v [] h all = kept_all u c v [] h all
with_all u c v (m ∷ ms) h all =
    with_all_by (same_node v m.variable) (precedes v m.variable) u c v m ms (with_monomial c v ms) h all (with_all u c v ms h all.1)

all_after : (v u : Node) (ms : List Monomial) → precedes v u ≡ true → PrecedesAll u ms → PrecedesAll v ms
all_after v u [] h all = tt
all_after v u (m ∷ ms) h all = (precedes_chain v u m.variable h all.0, all_after v u ms h all.1)

with_by : (s p : Bool) (c : ℤ) (v : Node) (m : Monomial) (ms rest : List Monomial) → same_node v m.variable ≡ s → precedes v m.variable ≡ p → AreOrdered (m ∷ ms) → (precedes m.variable v ≡ true → PrecedesAll m.variable rest) → AreOrdered rest → AreOrdered (if s then kept (m.coefficient +ℤ c) m.variable ms else if p then kept c v (m ∷ ms) else m ∷ rest)
with_by true p c v m ms rest f g o all more = kept_ordered (m.coefficient +ℤ c) m.variable ms o.1 o.2
with_by false true c v m ms rest f g o all more = kept_ordered c v (m ∷ ms) (g, all_after v m.variable ms g o.1) o
with_by false false c v m ms rest f g o all more = (o.0, all (precedes_back v m.variable f g), more)

with_ordered : (c : ℤ) (v : Node) (ms : List Monomial) → AreOrdered ms → AreOrdered (with_monomial c v ms)
with_ordered c v [] o = kept_ordered c v [] tt tt
with_ordered c v (m ∷ ms) o =
    with_by (same_node v m.variable) (precedes v m.variable) c v m ms (with_monomial c v ms) refl refl o
    (λ h. with_all m.variable c v ms h o.1) (with_ordered c v ms o.2)

gathered_ordered : (ns ms : List Monomial) → AreOrdered ms → AreOrdered (gathered ns ms)
gathered_ordered [] ms o = o
gathered_ordered (n ∷ ns) ms o = gathered_ordered ns _ (with_ordered n.coefficient n.variable ms o)

pub combined_ordered : (m : ℤ) (a : Form) (n : ℤ) (b : Form) → IsOrdered (combined m a n b)
combined_ordered m a n b = gathered_ordered (scaled n b.monomials) _ (gathered_ordered (scaled m a.monomials) [] tt)

multiplied_ordered : (a b : Form) → IsOrdered (multiplied a b)
multiplied_ordered a b =
    gathered_ordered (products a.monomials b.monomials) _
    (gathered_ordered (scaled b.constant a.monomials) _ (gathered_ordered (scaled a.constant b.monomials) [] tt))

one_is_some : pos 1 ≢ pos 0
one_is_some e = cc

pub node_ordered : (t : Node) → IsOrdered (form_of_node t)
node_ordered (num n) = tt
node_ordered (op2 (compute_by add) a b) = combined_ordered (pos 1) (form_of_node a) (pos 1) (form_of_node b)
node_ordered (op2 (compute_by sub) a b) = combined_ordered (pos 1) (form_of_node a) (negsuc 0) (form_of_node b)
node_ordered (op2 (compute_by mul) a b) = multiplied_ordered (form_of_node a) (form_of_node b)
node_ordered v = (one_is_some, tt, tt)

-- ---- tightening

abbrev quotients : ℕ → List Monomial → List Monomial
quotients n ms = map (λ m. monomial (floor m.coefficient (suc n)) m.variable) ms

quotients_all : (v : Node) (n : ℕ) (ms : List Monomial) → PrecedesAll v ms → PrecedesAll v (quotients n ms)
quotients_all v n [] all = tt
quotients_all v n (m ∷ ms) all = (all.0, quotients_all v n ms all.1)

quotient_some : (c : ℤ) (n : ℕ) → unsigned_abs c % suc n ≡ 0 → c ≢ pos 0 → floor c (suc n) ≢ pos 0
quotient_some c n d h e = h (sym (floor_exact c n d) ∙ ap (λ (x : ℤ). x *ℤ pos (suc n)) e ∙ zero-*ℤ (pos (suc n)))

quotients_ordered : (n : ℕ) (ms : List Monomial) → divides_all (suc n) ms ≡ true → AreOrdered ms → AreOrdered (quotients n ms)
quotients_ordered n [] d o = tt
quotients_ordered n (m ∷ ms) d o =
    let e = and_parts _ _ d in
    (quotient_some m.coefficient n (eqb-true _ _ e.0) o.0, quotients_all m.variable n ms o.1, quotients_ordered n ms e.1 o.2)

divided_ordered : (k : ℕ) (f : Form) → divisor f.monomials ≡ k → IsOrdered f → IsOrdered (divided k f)
divided_ordered zero f e o = o
divided_ordered (suc n) f e o = quotients_ordered n f.monomials (greatest_divides (total f.monomials) n f.monomials e) o

pub tightened_ordered : (f : Form) → IsOrdered f → IsOrdered (tightened f)
tightened_ordered f o = divided_ordered (divisor f.monomials) f refl o

-- ---- one spelling

absent_by : (s : Bool) (c rest : ℤ) → s ≡ false → rest ≡ pos 0 → (if s then c else pos 0) +ℤ rest ≡ pos 0
absent_by true c rest h e = absurd (false≢true (sym h))
absent_by false c rest h e = omega (arith, ints)

other_by : (s : Bool) (v u : Node) → same_node v u ≡ s → precedes v u ≡ true → s ≡ false
other_by true v u h p = absurd (false≢true (sym (precedes_itself v) ∙ ap (precedes v) (same_node-is v u h) ∙ p))
other_by false v u h p = refl

other : (v u : Node) → precedes v u ≡ true → same_node v u ≡ false
other v u p = other_by (same_node v u) v u refl p

absent : (v : Node) (ms : List Monomial) → PrecedesAll v ms → coefficient_of v ms ≡ pos 0
absent v [] all = refl
absent v (m ∷ ms) all = absent_by (same_node v m.variable) m.coefficient _ (other v m.variable all.0) (absent v ms all.1)

first_by : (s : Bool) (c rest : ℤ) → s ≡ true → rest ≡ pos 0 → (if s then c else pos 0) +ℤ rest ≡ c
first_by true c rest h e = omega (arith, ints)
first_by false c rest h e = absurd (false≢true h)

first : (m : Monomial) (ms : List Monomial) → PrecedesAll m.variable ms → coefficient_of m.variable (m ∷ ms) ≡ m.coefficient
first m ms all = first_by (same_node m.variable m.variable) m.coefficient _ (same_node-refl m.variable) (absent m.variable ms all)

abbrev SameCoefficients : List Monomial → List Monomial → Type 0
SameCoefficients ms ns = (v : Node) → coefficient_of v ms ≡ coefficient_of v ns

not_less : (m n : Monomial) (ms ns : List Monomial) → AreOrdered (m ∷ ms) → AreOrdered (n ∷ ns) → SameCoefficients (m ∷ ms) (n ∷ ns) → precedes m.variable n.variable ≡ true → ⊥
not_less m n ms ns o q e p =
    o.0 (sym (first m ms o.1) ∙ e m.variable ∙ absent m.variable (n ∷ ns) (p, all_after m.variable n.variable ns p q.1))

cancelled : (x y a b : ℤ) → x ≡ y → x +ℤ a ≡ y +ℤ b → a ≡ b
cancelled x y a b e f = omega (arith, ints)

monomials_same : (m n : Monomial) → m.variable ≡ n.variable → m.coefficient ≡ n.coefficient → m ≡ n
monomials_same m n e f = ap₂ monomial f e

lists_same : (m n : Monomial) (ms ns : List Monomial) → m ≡ n → ms ≡ ns → m ∷ ms ≡ n ∷ ns
lists_same m n ms ns e f = cc

heads_equal : (m n : Monomial) (ms ns : List Monomial) → AreOrdered (m ∷ ms) → AreOrdered (n ∷ ns) → SameCoefficients (m ∷ ms) (n ∷ ns) → m.variable ≡ n.variable → m ≡ n
heads_equal m n ms ns o q e h =
    monomials_same m n h
    (sym (first m ms o.1) ∙ e m.variable ∙ ap (λ (v : Node). coefficient_of v (n ∷ ns)) h ∙ first n ns q.1)

tails_equal : (m n : Monomial) (ms ns : List Monomial) → SameCoefficients (m ∷ ms) (n ∷ ns) → m ≡ n → SameCoefficients ms ns
tails_equal m n ms ns e h v =
    cancelled (if same_node v m.variable then m.coefficient else pos 0) (if same_node v n.variable then n.coefficient else pos 0) _ _
    (ap (λ (k : Monomial). if same_node v k.variable then k.coefficient else pos 0) h) (e v)

by_order : (r : Ordering) (m n : Monomial) (ms ns : List Monomial) → text_order (node_text m.variable) (node_text n.variable) ≡ r → AreOrdered (m ∷ ms) → AreOrdered (n ∷ ns) → SameCoefficients (m ∷ ms) (n ∷ ns) → m ≡ n
by_order Less m n ms ns h o q e = absurd (not_less m n ms ns o q e (ap is_less h))
by_order Equal m n ms ns h o q e = heads_equal m n ms ns o q e (texts_apart _ _ (same_texts _ _ h))
by_order Greater m n ms ns h o q e =
    absurd (not_less n m ns ms q o (λ v. sym (e v)) (ap is_less (total_order.antisymm (node_text n.variable) (node_text m.variable) ∙ ap ordering_reverse h)))

monomials_unique : (ms ns : List Monomial) → AreOrdered ms → AreOrdered ns → SameCoefficients ms ns → ms ≡ ns
monomials_unique [] [] o q e = refl
monomials_unique [] (n ∷ ns) o q e = absurd (q.0 (sym (first n ns q.1) ∙ sym (e n.variable)))
monomials_unique (m ∷ ms) [] o q e = absurd (o.0 (sym (first m ms o.1) ∙ e m.variable))
monomials_unique (m ∷ ms) (n ∷ ns) o q e =
    let h = by_order (text_order (node_text m.variable) (node_text n.variable)) m n ms ns refl o q e in
    lists_same m n ms ns h (monomials_unique ms ns o.2 q.2 (tails_equal m n ms ns e h))

-- forms in order are known by their constants and coefficients
pub forms_unique : (f g : Form) → IsOrdered f → IsOrdered g → f.constant ≡ g.constant → SameCoefficients f.monomials g.monomials → f ≡ g
forms_unique f g o q e h = ap₂ form e (monomials_unique f.monomials g.monomials o q h)
