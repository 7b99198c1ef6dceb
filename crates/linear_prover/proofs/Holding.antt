-- Where the forms that stand after a part of the run are at least 0, so are those that stood before it.
use Rattle.std.proofs.Common.{◌≡◌, refl, sym, ap₂, subst, ℕ, zero, suc, Bool, true, false, List, [], ◌∷◌, ◌++◌, map, arith, cond}
use Rattle.std.specs.Prelude.{if◌then◌else◌, ◌&&◌, ◌||◌, not, ◌==◌, ℤ, pos, ◌+ℤ◌, ◌≤ℤ◌, int_lt, Option, Some, None, slice_get, remove}
use Rattle.std.specs.List.{filter}
use Rattle.std.proofs.lemmas.Int.{ints}
use Rattle.std.proofs.lemmas.Bool.{and_parts, false≢true}
use Rattle.logic_terms.specs.Node.{Node}
use Rattle.logic_terms.specs.Value.{Value}
use Rattle.logic_terms.specs.Meaning.{World}
use Rattle.logic_terms.proofs.SameNodes.{same_int-is, same_node-is}
use Rattle.linear_forms.specs.Form.{Monomial, monomial, Form, form, combined, tightened}
use Rattle.linear_forms.specs.Fits.{fits, combining_fits}
use Rattle.linear_forms.proofs.Tightening.{tightened_solutions}
use Rattle.cert_lines.specs.Line.{Step, sum_of, tighten}
use Rattle.linear_prover.specs.Forms.{is_constant, same_monomials, same_form, factor}
use Rattle.linear_prover.specs.Lines.{lines}
use Rattle.linear_prover.specs.Machine.{Made, made, State, Answer, refuted, wide, steps_out, Running, goes_on, ends, and_then, each, next, with_line, repeats, placed, appended}
use Rattle.linear_prover.specs.Elimination.{is_positive, is_negative, is_free, positives, negatives, summed, paired, all_paired, set_aside, eliminate, eliminate_at, fewest, eliminate_next, rounds}
use Rattle.linear_prover.specs.Points.{AreAll, IsAtLeastZero}

pub all_append : {A : Type 0} (P : A → Type 0) (xs ys : List A) → AreAll P xs → AreAll P ys → AreAll P (xs ++ ys)
all_append P [] ys a b = b
all_append P (x ∷ xs) ys a b = (a.0, all_append P xs ys a.1 b)

pub all_left : {A : Type 0} (P : A → Type 0) (xs ys : List A) → AreAll P (xs ++ ys) → AreAll P xs
all_left P [] ys a = tt
all_left P (x ∷ xs) ys a = (a.0, all_left P xs ys a.1)

pub all_right : {A : Type 0} (P : A → Type 0) (xs ys : List A) → AreAll P (xs ++ ys) → AreAll P ys
all_right P [] ys a = a
all_right P (x ∷ xs) ys a = all_right P xs ys a.1

pub all_map : {A B : Type 0} (f : A → B) (P : B → Type 0) (xs : List A) → AreAll P (map f xs) → AreAll (λ x. P (f x)) xs
all_map f P [] a = tt
all_map f P (x ∷ xs) a = (a.0, all_map f P xs a.1)

-- the forms that stand and those set aside are at least 0
pub record Holds (w : World) (vs : List Value) (s : State) : Type 0 where
  pub standing : AreAll (λ x. IsAtLeastZero w vs x.body) s.standing
  pub eliminated : AreAll (λ a. AreAll (λ f. IsAtLeastZero w vs f) a.forms) s.eliminated

-- what the machine goes on to
pub going : (s t : State) → goes_on s ≡ goes_on t → s ≡ t
going s t e = cc

never : {P : Type 0} (a : Answer) (b : ℕ) (t : State) → ends a b ≡ goes_on t → P
never a b t e = cc

-- ---- a form is placed

same_monomials-is : (ms ns : List Monomial) → same_monomials ms ns ≡ true → ms ≡ ns
same_monomials-is [] [] h = refl
same_monomials-is (m ∷ ms) (n ∷ ns) h =
    let p = and_parts _ _ h in let q = and_parts _ _ p.0 in
    ap₂ (λ x xs. x ∷ xs) (ap₂ monomial (same_int-is m.coefficient n.coefficient q.0) (same_node-is m.variable n.variable q.1)) (same_monomials-is ms ns p.1)
same_monomials-is [] (n ∷ ns) h = absurd (false≢true h)
same_monomials-is (m ∷ ms) [] h = absurd (false≢true h)

pub same_form-is : (f g : Form) → same_form f g ≡ true → f ≡ g
same_form-is f g h = let p = and_parts _ _ h in ap₂ form (same_int-is f.constant g.constant p.0) (same_monomials-is f.monomials g.monomials p.1)

or_parts : (b c : Bool) (P : Type 0) → (b ≡ true → P) → (c ≡ true → P) → (b || c) ≡ true → P
or_parts true c P f g h = f refl
or_parts false c P f g h = g h

repeated : (w : World) (vs : List Value) (f : Form) (xs : List Made) → repeats f xs ≡ true → AreAll (λ x. IsAtLeastZero w vs x.body) xs → IsAtLeastZero w vs f
repeated w vs f [] h a = absurd (false≢true h)
repeated w vs f (x ∷ xs) h a =
    or_parts (same_form f x.body) (repeats f xs) (IsAtLeastZero w vs f)
    (λ e. subst (IsAtLeastZero w vs) (sym (same_form-is f x.body e)) a.0)
    (λ e. repeated w vs f xs e a.1) h

constant_holds : (z : ℤ) → int_lt z (pos 0) ≡ false → pos 0 ≤ℤ (z +ℤ pos 0)
constant_holds z h = grind (arith, ints)

constant_form : (w : World) (vs : List Value) (f : Form) → is_constant f.monomials ≡ true → int_lt f.constant (pos 0) ≡ false → IsAtLeastZero w vs f
constant_form w vs f c h = none f.monomials c
  where
    none : (ms : List Monomial) → is_constant ms ≡ true → IsAtLeastZero w vs (form f.constant ms)
    none [] e = constant_holds f.constant h
    none (m ∷ ms) e = absurd (false≢true e)

abbrev pub kept_constant : Bool → Made → State → Running
kept_constant b x s = if b then ends (refuted (lines s.inputs x.number s.steps)) s.budget else goes_on s

abbrev pub kept_form : Bool → Made → State → Running
kept_form b x s = if b then goes_on s else goes_on (record s { standing = s.standing ++ x ∷ [] })

constant_kept : (w : World) (vs : List Value) (b : Bool) (x : Made) (s t : State) → (b ≡ false → IsAtLeastZero w vs x.body) → kept_constant b x s ≡ goes_on t → Holds w vs t → Holds w vs s × IsAtLeastZero w vs x.body
constant_kept w vs true x s t f e h = never _ _ t e
constant_kept w vs false x s t f e h = (subst (Holds w vs) (sym (going s t e)) h, f refl)

form_kept : (w : World) (vs : List Value) (b : Bool) (x : Made) (s t : State) → repeats x.body s.standing ≡ b → kept_form b x s ≡ goes_on t → Holds w vs t → Holds w vs s × IsAtLeastZero w vs x.body
form_kept w vs true x s t r e h =
    let k = subst (Holds w vs) (sym (going s t e)) h in (k, repeated w vs x.body s.standing r k.standing)
form_kept w vs false x s t r e h =
    let k = subst (Holds w vs) (sym (going _ t e)) h in
    (record { standing = all_left _ s.standing (x ∷ []) k.standing; eliminated = k.eliminated }, (all_right _ s.standing (x ∷ []) k.standing).0)

placed_by : (w : World) (vs : List Value) (b : Bool) (x : Made) (s t : State) → is_constant x.body.monomials ≡ b → (if b then kept_constant (int_lt x.body.constant (pos 0)) x s else kept_form (repeats x.body s.standing) x s) ≡ goes_on t → Holds w vs t → Holds w vs s × IsAtLeastZero w vs x.body
placed_by w vs true x s t c e h = constant_kept w vs (int_lt x.body.constant (pos 0)) x s t (constant_form w vs x.body c) e h
placed_by w vs false x s t c e h = form_kept w vs (repeats x.body s.standing) x s t refl e h

pub placed_holds : (w : World) (vs : List Value) (x : Made) (s t : State) → placed x s ≡ goes_on t → Holds w vs t → Holds w vs s × IsAtLeastZero w vs x.body
placed_holds w vs x s t e h = placed_by w vs (is_constant x.body.monomials) x s t refl e h

noted_holds : (w : World) (vs : List Value) (l : Step) (s : State) → Holds w vs (with_line l s) → Holds w vs s
noted_holds w vs l s h = record { standing = h.standing; eliminated = h.eliminated }

appended_by : (w : World) (vs : List Value) (b : Bool) (f : Form) (k : ℕ) (s t : State) → (if b then placed (made (tightened f) k) s else placed (made (tightened f) (next s)) (with_line (tighten k) s)) ≡ goes_on t → Holds w vs t → Holds w vs s × IsAtLeastZero w vs (tightened f)
appended_by w vs true f k s t e h = placed_holds w vs (made (tightened f) k) s t e h
appended_by w vs false f k s t e h =
    let p = placed_holds w vs (made (tightened f) (next s)) (with_line (tighten k) s) t e h in (noted_holds w vs (tighten k) s p.0, p.1)

pub appended_holds : (w : World) (vs : List Value) (f : Form) (k : ℕ) (s t : State) → appended f k s ≡ goes_on t → Holds w vs t → Holds w vs s × IsAtLeastZero w vs f
appended_holds w vs f k s t e h =
    let p = appended_by w vs (same_form (tightened f) f) f k s t e h in (p.0, (tightened_solutions w vs f).1 p.1)

-- ---- parts of a run

abbrev pub KeepsBack : World → List Value → (State → Running) → Type 0
KeepsBack w vs f = (s t : State) → f s ≡ goes_on t → Holds w vs t → Holds w vs s

then_by : (w : World) (vs : List Value) (r : Running) (g : State → Running) (t : State) → KeepsBack w vs g → and_then r g ≡ goes_on t → Holds w vs t → (u : State) × (r ≡ goes_on u) × Holds w vs u
then_by w vs (goes_on u) g t k e h = (u, refl, k u t e h)
then_by w vs (ends a b) g t k e h = never a b t e

pub then_keeps : (w : World) (vs : List Value) (f g : State → Running) → KeepsBack w vs f → KeepsBack w vs g → KeepsBack w vs (λ s. and_then (f s) g)
then_keeps w vs f g j k s t e h = let p = then_by w vs (f s) g t k e h in j s p.0 p.1 p.2

pub each_keeps : {A : Type 0} (w : World) (vs : List Value) (f : A → State → Running) → ((x : A) → KeepsBack w vs (f x)) → (xs : List A) → KeepsBack w vs (each f xs)
each_keeps w vs f k [] s t e h = subst (Holds w vs) (sym (going s t e)) h
each_keeps w vs f k (x ∷ xs) s t e h = then_keeps w vs (f x) (each f xs) (k x) (each_keeps w vs f k xs) s t e h

-- the inputs hold too
pub each_appended : (w : World) (vs : List Value) (xs : List Made) (s t : State) → each (λ x. appended x.body x.number) xs s ≡ goes_on t → Holds w vs t → Holds w vs s × AreAll (λ x. IsAtLeastZero w vs x.body) xs
each_appended w vs [] s t e h = (subst (Holds w vs) (sym (going s t e)) h, tt)
each_appended w vs (x ∷ xs) s t e h = first (λ u g. each_appended w vs xs u t g h) (appended x.body x.number s) refl e
  where
    first : ((u : State) → each (λ y. appended y.body y.number) xs u ≡ goes_on t → Holds w vs u × AreAll (λ y. IsAtLeastZero w vs y.body) xs) → (r : Running) → appended x.body x.number s ≡ r → and_then r (each (λ y. appended y.body y.number) xs) ≡ goes_on t → Holds w vs s × AreAll (λ y. IsAtLeastZero w vs y.body) (x ∷ xs)
    first k (goes_on u) a g =
        let p = k u g in let q = appended_holds w vs x.body x.number s u a p.0 in (q.0, (q.1, p.1))
    first k (ends a b) c g = never a b t g

-- ---- pairs

summed_by : (w : World) (vs : List Value) (b : Bool) (f : Form) (l : Step) (s t : State) → (if b then appended f (next s) (with_line l s) else ends wide s.budget) ≡ goes_on t → Holds w vs t → Holds w vs s
summed_by w vs true f l s t e h = noted_holds w vs l s (appended_holds w vs f (next s) (with_line l s) t e h).0
summed_by w vs false f l s t e h = never _ _ t e

summed_keeps : (w : World) (vs : List Value) (m : ℤ) (x : Made) (n : ℤ) (y : Made) → KeepsBack w vs (summed m x n y)
summed_keeps w vs m x n y s t e h =
    summed_by w vs (fits m && (fits n && combining_fits m x.body n y.body)) (combined m x.body n y.body) (sum_of x.number m y.number n) s t e h

paired_by : (w : World) (vs : List Value) (b : Bool) (m : ℤ) (x : Made) (n : ℤ) (y : Made) (k : ℕ) (s t : State) → (if b then ends steps_out 0 else summed m x n y (record s { budget = k })) ≡ goes_on t → Holds w vs t → Holds w vs s
paired_by w vs true m x n y k s t e h = never _ _ t e
paired_by w vs false m x n y k s t e h =
    let p = summed_keeps w vs m x n y (record s { budget = k }) t e h in record { standing = p.standing; eliminated = p.eliminated }

paired_keeps : (w : World) (vs : List Value) (v : Node) (x y : Made) → KeepsBack w vs (paired v x y)
paired_keeps w vs v x y s t e h = paired_by w vs (s.budget == 0) (factor v x.body y.body) x (factor v y.body x.body) y _ s t e h

all_paired_keeps : (w : World) (vs : List Value) (v : Node) (xs ys : List Made) → KeepsBack w vs (all_paired v xs ys)
all_paired_keeps w vs v xs ys = each_keeps w vs (λ x. each (λ y. paired v x y) ys) (λ x. each_keeps w vs (λ y. paired v x y) (paired_keeps w vs v x) ys) xs

-- ---- variables

split_by : (P : Made → Type 0) (b c : Bool) (x : Made) → AreAll P (cond b (x ∷ []) []) → AreAll P (cond c (x ∷ []) []) → AreAll P (cond (not b && not c) (x ∷ []) []) → P x
split_by P true c x a d e = a.0
split_by P false true x a d e = d.0
split_by P false false x a d e = e.0

head_of : (P : Made → Type 0) (b : Bool) (x : Made) (xs : List Made) → AreAll P (cond b (x ∷ xs) xs) → AreAll P (cond b (x ∷ []) []) × AreAll P xs
head_of P true x xs a = ((a.0, tt), a.1)
head_of P false x xs a = (tt, a)

joined : (P : Made → Type 0) (v : Node) (xs : List Made) → AreAll P (positives v xs) → AreAll P (negatives v xs) → AreAll P (filter (is_free v) xs) → AreAll P xs
joined P v [] a b c = tt
joined P v (x ∷ xs) a b c =
    let p = head_of P (is_positive v x) x (positives v xs) a in
    let q = head_of P (is_negative v x) x (negatives v xs) b in
    let r = head_of P (is_free v x) x (filter (is_free v) xs) c in
    (split_by P (is_positive v x) (is_negative v x) x p.0 q.0 r.0, joined P v xs p.1 q.1 r.1)

aside_holds : (w : World) (vs : List Value) (v : Node) (xs : List Made) (s t : State) → set_aside v xs s ≡ goes_on t → Holds w vs t → Holds w vs s × AreAll (λ x. IsAtLeastZero w vs x.body) xs
aside_holds w vs v xs s t e h =
    let k = subst (Holds w vs) (sym (going _ t e)) h in
    (record { standing = k.standing; eliminated = k.eliminated.1 }, all_map (λ (x : Made). x.body) (λ f. IsAtLeastZero w vs f) xs k.eliminated.0)

pub eliminate_keeps : (w : World) (vs : List Value) (v : Node) → KeepsBack w vs (eliminate v)
eliminate_keeps w vs v s t e h = first (all_paired v (positives v s.standing) (negatives v s.standing) (record s { standing = filter (is_free v) s.standing })) refl e
  where
    first : (r : Running) → all_paired v (positives v s.standing) (negatives v s.standing) (record s { standing = filter (is_free v) s.standing }) ≡ r → and_then r (set_aside v (positives v s.standing ++ negatives v s.standing)) ≡ goes_on t → Holds w vs s
    first (goes_on u) a g =
        let p = aside_holds w vs v (positives v s.standing ++ negatives v s.standing) u t g h in
        let q = all_paired_keeps w vs v (positives v s.standing) (negatives v s.standing) _ u a p.0 in
        record {
          standing = joined (λ x. IsAtLeastZero w vs x.body) v s.standing (all_left _ (positives v s.standing) (negatives v s.standing) p.1) (all_right _ (positives v s.standing) (negatives v s.standing) p.1) q.standing;
          eliminated = q.eliminated;
        }
    first (ends a b) c g = never a b t g

eliminate_at_keeps : (w : World) (vs : List Value) (i : ℕ) (o : Option Node) → KeepsBack w vs (eliminate_at i o)
eliminate_at_keeps w vs i None s t e h = subst (Holds w vs) (sym (going s t e)) h
eliminate_at_keeps w vs i (Some v) s t e h =
    let p = eliminate_keeps w vs v (record s { left = remove s.left i }) t e h in record { standing = p.standing; eliminated = p.eliminated }

eliminate_next_keeps : (w : World) (vs : List Value) → KeepsBack w vs eliminate_next
eliminate_next_keeps w vs s t e h = eliminate_at_keeps w vs (fewest s) (slice_get s.left (fewest s)) s t e h

pub rounds_keeps : (w : World) (vs : List Value) (n : ℕ) → KeepsBack w vs (rounds n)
rounds_keeps w vs zero s t e h = subst (Holds w vs) (sym (going s t e)) h
rounds_keeps w vs (suc n) s t e h = then_keeps w vs eliminate_next (rounds n) (eliminate_next_keeps w vs) (rounds_keeps w vs n) s t e h
