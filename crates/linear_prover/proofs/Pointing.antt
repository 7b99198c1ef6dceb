-- The numbers of a point make each input at least 0.
use Rattle.std.proofs.Common.{◌≡◌, ◌≢◌, refl, sym, ◌∙◌, ap, subst, ℕ, zero, suc, ◌<◌, Bool, true, false, List, [], ◌∷◌, ◌++◌, map, length, arith}
use Rattle.std.specs.Prelude.{if◌then◌else◌, ◌&&◌, ◌||◌, not, ℤ, pos, negsuc, int_lt, Option, Some, slice_get, remove}
use Rattle.std.specs.List.{filter}
use Rattle.std.proofs.lemmas.Int.{ints}
use Rattle.std.proofs.lemmas.Bool.{false≢true}
use Rattle.std.proofs.lemmas.List.{length-map}
use Rattle.logic_terms.specs.Node.{Node}
use Rattle.logic_terms.specs.Same.{same_node}
use Rattle.logic_terms.proofs.SameNodes.{same_node-refl}
use Rattle.logic_terms.specs.Value.{Value, as_number}
use Rattle.logic_terms.specs.Meaning.{World, meaning}
use Rattle.linear_forms.specs.Form.{Monomial, Form}
use Rattle.linear_forms.specs.Ordered.{IsOrdered}
use Rattle.linear_prover.specs.Forms.{coefficient, is_constant, stands, variables_of}
use Rattle.linear_prover.specs.Machine.{Made, Aside, State, Answer, point, Running, goes_on, ends, and_then, appended}
use Rattle.linear_prover.specs.Elimination.{is_positive, is_negative, is_free, positives, negatives, all_paired, set_aside, pairs, eliminate, eliminate_at, fewest, first_least, eliminate_next, rounds}
use Rattle.linear_prover.specs.Values.{value_in, chosen}
use Rattle.linear_prover.specs.Decided.{Decided, decided, numbered_from, at_start, entered, finished, decide_of}
use Rattle.linear_prover.specs.Points.{AreAll, Gives, IsAtLeastZero, number_of}
use Rattle.linear_prover.proofs.Holding.{Holds, going, all_append, rounds_keeps, each_appended}
use Rattle.linear_prover.proofs.Solving.{Set, Bound, Includes, chosen_holds, number_is, stands_last}
use Rattle.linear_prover.proofs.Going.{Uses, Solid, Sound, Lessened, Had, lacks, lessened_uses, appended_sound, each_sound, all_paired_sound}
use Rattle.linear_prover.proofs.Removing.{Distinct, Removed, removed, first_below, got, variables_distinct, variables_used}
use Rattle.linear_prover.proofs.Fair.{NoPoint, each_fair, appended_fair, then_fair, rounds_fair}

-- ---- a variable is eliminated

pub all_of_filter : {A : Type 0} (P : A → Type 0) (p : A → Bool) (xs : List A) → AreAll P xs → AreAll (λ x. P x × (p x ≡ true)) (filter p xs)
all_of_filter P p [] a = tt
all_of_filter {A} P p (x ∷ xs) a = by (all_of_filter P p xs a.1) (p x) refl
  where
    by : AreAll (λ y. P y × (p y ≡ true)) (filter p xs) → (b : Bool) → p x ≡ b → AreAll (λ y. P y × (p y ≡ true)) (if b then x ∷ filter p xs else filter p xs)
    by k true e = ((a.0, e), k)
    by k false e = k

pub all_along : {A : Type 0} (P Q : A → Type 0) → ((x : A) → P x → Q x) → (xs : List A) → AreAll P xs → AreAll Q xs
all_along P Q f [] a = tt
all_along P Q f (x ∷ xs) a = (f x a.0, all_along P Q f xs a.1)

all_under : {A B : Type 0} (f : A → B) (P : B → Type 0) (xs : List A) → AreAll (λ x. P (f x)) xs → AreAll P (map f xs)
all_under f P [] a = tt
all_under f P (x ∷ xs) a = (a.0, all_under f P xs a.1)

no_sign : (c : ℤ) → (not (int_lt (pos 0) c) && not (int_lt c (pos 0))) ≡ true → c ≡ pos 0
no_sign (pos zero) e = refl
no_sign (pos (suc n)) e = grind (arith, ints, e)
no_sign (negsuc n) e = grind (arith, ints, e)

some_sign : (c : ℤ) → int_lt (pos 0) c ≡ true → c ≢ pos 0
some_sign c e h = false≢true (ap (λ (z : ℤ). int_lt (pos 0) z) (sym h) ∙ e)

some_sign' : (c : ℤ) → int_lt c (pos 0) ≡ true → c ≢ pos 0
some_sign' c e h = false≢true (ap (λ (z : ℤ). int_lt z (pos 0)) (sym h) ∙ e)

uses_along : (us ws : List Node) → ((u : Node) → stands u us ≡ true → stands u ws ≡ true) → (ms : List Monomial) → Uses us ms → Uses ws ms
uses_along us ws k [] u = tt
uses_along us ws k (m ∷ ms) u = (k m.variable u.0, uses_along us ws k ms u.1)

last_along : (us ws : List Node) (v : Node) → ((u : Node) → stands u us ≡ stands u ws) → (u : Node) → stands u (us ++ v ∷ []) ≡ stands u (ws ++ v ∷ [])
last_along us ws v k u = stands_last u v us ∙ ap (λ (b : Bool). b || (same_node u v || false)) (k u) ∙ sym (stands_last u v ws)

bound_along : (all us ws : List Node) → ((u : Node) → stands u us ≡ stands u ws) → (es : List Aside) → Bound all us es → Bound all ws es
bound_along all us ws k [] b = tt
bound_along all us ws k (a ∷ es) b = (
  sym (k a.variable) ∙ b.0,
  b.1,
  all_along (Set us a.variable) (Set ws a.variable)
      (λ f s. (s.0, s.1, uses_along (us ++ a.variable ∷ []) (ws ++ a.variable ∷ []) (λ u h. sym (last_along us ws a.variable k u) ∙ h) f.monomials s.2)) a.forms b.2,
  bound_along all (us ++ a.variable ∷ []) (ws ++ a.variable ∷ []) (last_along us ws a.variable k) es b.3,
)

free_solid : (ws us : List Node) (v : Node) → Lessened v ws us → (x : Made) → Solid ws x.body × (is_free v x ≡ true) → Solid us x.body
free_solid ws us v l x p =
    (p.0.0, p.0.1, lessened_uses v ws us l x.body.monomials (lacks v x.body.monomials p.0.0 (no_sign (coefficient v x.body.monomials) p.1)) p.0.2)

back_same : (v : Node) (us ws : List Node) → Removed v us ws → (u : Node) → stands u us ≡ stands u (ws ++ v ∷ [])
back_same v us ws r u = r.same u ∙ sym (stands_last u v ws ∙ ap (λ (b : Bool). stands u ws || b) (or_end (same_node u v)))
  where
    or_end : (b : Bool) → (b || false) ≡ b
    or_end true = refl
    or_end false = refl

left_of : (s t : State) → s ≡ t → t.left ≡ s.left
left_of s t e = sym (ap (λ (u : State). u.left) e)

eliminate_sound : (all ws us : List Node) (v : Node) (s t : State) → Removed v ws us → stands v all ≡ true → Sound all ws ws s → eliminate v (record s { left = us }) ≡ goes_on t → Sound all us us t × (t.left ≡ us)
eliminate_sound all ws us v s t r k h e =
    first (all_paired v (positives v s.standing) (negatives v s.standing) (record s { left = us; standing = filter (is_free v) s.standing })) refl e
  where
    up : AreAll (λ x. Solid ws x.body × (is_positive v x ≡ true)) (positives v s.standing)
    up = all_of_filter (λ x. Solid ws x.body) (is_positive v) s.standing h.standing

    down : AreAll (λ x. Solid ws x.body × (is_negative v x ≡ true)) (negatives v s.standing)
    down = all_of_filter (λ x. Solid ws x.body) (is_negative v) s.standing h.standing

    free : AreAll (λ x. Solid us x.body) (filter (is_free v) s.standing)
    free = all_along (λ x. Solid ws x.body × (is_free v x ≡ true)) (λ x. Solid us x.body) (free_solid ws us v r.less) (filter (is_free v) s.standing) (all_of_filter (λ x. Solid ws x.body) (is_free v) s.standing h.standing)

    within : (f : Form) → Uses ws f.monomials → Uses (us ++ v ∷ []) f.monomials
    within f u = uses_along ws (us ++ v ∷ []) (λ n q. sym (back_same v ws us r n) ∙ q) f.monomials u

    sets : AreAll (λ x. Set us v x.body) (positives v s.standing ++ negatives v s.standing)
    sets = all_append _ (positives v s.standing) (negatives v s.standing)
        (all_along (λ x. Solid ws x.body × (is_positive v x ≡ true)) (λ x. Set us v x.body) (λ x p. (p.0.0, some_sign _ p.1, within x.body p.0.2)) (positives v s.standing) up)
        (all_along (λ x. Solid ws x.body × (is_negative v x ≡ true)) (λ x. Set us v x.body) (λ x p. (p.0.0, some_sign' _ p.1, within x.body p.0.2)) (negatives v s.standing) down)

    first : (q : Running) → all_paired v (positives v s.standing) (negatives v s.standing) (record s { left = us; standing = filter (is_free v) s.standing }) ≡ q → and_then q (set_aside v (positives v s.standing ++ negatives v s.standing)) ≡ goes_on t → Sound all us us t × (t.left ≡ us)
    first (goes_on u) c g =
        let p = all_paired_sound all us ws v (positives v s.standing) (negatives v s.standing) r.less
        (all_along (λ x. Solid ws x.body × (is_positive v x ≡ true)) (λ x. Had ws x × (is_positive v x ≡ true)) (λ x d. ((d.0.0, d.0.2), d.1)) (positives v s.standing) up)
        (all_along (λ x. Solid ws x.body × (is_negative v x ≡ true)) (λ x. Had ws x × (is_negative v x ≡ true)) (λ x d. ((d.0.0, d.0.2), d.1)) (negatives v s.standing) down)
        _ u c (record { standing = free; bound = h.bound }) in
        let b = bound_along all ws (us ++ v ∷ []) (back_same v ws us r) u.eliminated p.0.bound in
        let same = going _ t g in
        (subst (Sound all us us) same (record { standing = p.0.standing; bound = (r.gone, k, all_under (λ (x : Made). x.body) (Set us v) (positives v s.standing ++ negatives v s.standing) sets, b) }), left_of _ t same ∙ p.1)
    first (ends a b) c g = never a b t g
      where
        never : {P : Type 0} (a : Answer) (b : ℕ) (t : State) → ends a b ≡ goes_on t → P
        never a b t e = cc

-- ---- rounds

pub record Going (all : List Node) (s : State) : Type 0 where
  pub distinct : Distinct s.left
  pub includes : Includes all s.left
  pub sound : Sound all s.left s.left s

going_at : (all us : List Node) (s t : State) (v : Node) → Removed v s.left us → Going all s → Sound all us us t × (t.left ≡ us) → Going all t
going_at all us s t v r g p = record {
  distinct = subst Distinct (sym p.1) r.distinct;
  includes = subst (Includes all) (sym p.1) (λ u h. g.includes u (r.same u ∙ ap (λ (b : Bool). b || same_node u v) h));
  sound = subst (λ (ws : List Node). Sound all ws ws t) (sym p.1) p.0;
}

eliminated : (all : List Node) (s t : State) (i : ℕ) (v : Node) → slice_get s.left i ≡ Some v → Going all s → eliminate v (record s { left = remove s.left i }) ≡ goes_on t → Going all t × (length s.left ≡ suc (length t.left))
eliminated all s t i v o g e =
    let r = removed s.left i v o g.distinct in
    let k : stands v all ≡ true = g.includes v (r.same v ∙ or_true (stands v (remove s.left i)) (same_node v v) (same_node-refl v)) in
    let p = eliminate_sound all s.left (remove s.left i) v s t r k g.sound e in
    (going_at all (remove s.left i) s t v r g p, r.count ∙ ap (λ (us : List Node). suc (length us)) (sym p.1))
  where
    or_true : (a b : Bool) → b ≡ true → (a || b) ≡ true
    or_true true b e = refl
    or_true false b e = e

next_going : (all : List Node) (s t : State) (n : ℕ) → length s.left ≡ suc n → Going all s → eliminate_next s ≡ goes_on t → Going all t × (length s.left ≡ suc (length t.left))
next_going all s t n l g e =
    let p = got s.left (fewest s) (below s.left l) in
    eliminated all s t (fewest s) p.0 p.1 g (ap (λ (o : Option Node). eliminate_at (fewest s) o s) (sym p.1) ∙ e)
  where
    below : (us : List Node) → length us ≡ suc n → first_least (map (λ v. pairs v s.standing) us) < length us
    below [] h = absurd (omega arith)
    below (u ∷ us) h = subst (λ (k : ℕ). first_least (map (λ v. pairs v s.standing) (u ∷ us)) < suc k) (length-map us (λ v. pairs v s.standing)) (first_below (pairs u s.standing) (map (λ v. pairs v s.standing) us))

none_left : (us : List Node) → length us ≡ 0 → us ≡ []
none_left [] e = refl
none_left (u ∷ us) e = absurd (omega arith)

rounds_going : (all : List Node) (n : ℕ) (s t : State) → length s.left ≡ n → Going all s → rounds n s ≡ goes_on t → Going all t × (t.left ≡ [])
rounds_going all zero s t l g e =
    let same = going s t e in (subst (Going all) same g, sym (ap (λ (u : State). u.left) same) ∙ none_left s.left l)
rounds_going all (suc n) s t l g e = first (λ u q h d. rounds_going all n u t q h d) (eliminate_next s) refl e
  where
    one_less : (a b : ℕ) → a ≡ suc n → a ≡ suc b → b ≡ n
    one_less a b h k = omega arith

    never : {P : Type 0} (a : Answer) (b : ℕ) (t : State) → ends a b ≡ goes_on t → P
    never a b t e = cc

    first : ((u : State) → length u.left ≡ n → Going all u → rounds n u ≡ goes_on t → Going all t × (t.left ≡ [])) → (r : Running) → eliminate_next s ≡ r → and_then r (rounds n) ≡ goes_on t → Going all t × (t.left ≡ [])
    first m (goes_on u) c d = let p = next_going all s u n l g c in m u (one_less _ _ l p.1) p.0 d
    first m (ends a b) c d = never a b t d

-- ---- the whole

nothing_stands : (w : World) (vs : List Value) (us : List Node) (xs : List Made) → us ≡ [] → AreAll (λ x. Solid us x.body) xs → AreAll (λ x. IsAtLeastZero w vs x.body) xs
nothing_stands w vs us [] e a = tt
nothing_stands w vs us (x ∷ xs) e a = absurd (none x.body.monomials a.0.1 (subst (λ (ns : List Node). Uses ns x.body.monomials) e a.0.2))
  where
    none : (ms : List Monomial) → is_constant ms ≡ false → Uses [] ms → ⊥
    none [] h u = false≢true (sym h)
    none (m ∷ ms) h u = false≢true u.0

all_numbered : (us : List Node) (k : ℕ) (fs : List Form) → AreAll IsOrdered fs → AreAll (λ f. Uses us f.monomials) fs → AreAll (λ x. IsOrdered x.body × Uses us x.body.monomials) (numbered_from k fs)
all_numbered us k [] a u = tt
all_numbered us k (f ∷ fs) a u = ((a.0, u.0), all_numbered us (suc k) fs a.1 u.1)

of_numbered : (P : Form → Type 0) (k : ℕ) (fs : List Form) → AreAll (λ x. P x.body) (numbered_from k fs) → AreAll P fs
of_numbered P k [] a = tt
of_numbered P k (f ∷ fs) a = (a.0, of_numbered P (suc k) fs a.1)

start_going : (fs : List Form) (budget : ℕ) → Sound (variables_of fs) (variables_of fs) (variables_of fs) (at_start fs budget)
start_going fs budget = record { standing = tt; bound = tt }

answers : (a c : Answer) (b d : ℕ) → decided a b ≡ decided c d → a ≡ c
answers a c b d e = ap (λ (x : Decided). x.answer) e

not_point : (a : Answer) (b : ℕ) (ns : List ℤ) → NoPoint (ends a b) → a ≡ point ns → ⊥
not_point a b ns n e = subst (λ (x : Answer). NoPoint (ends x b)) e n

two_parts : (r : Running) (f : State → Running) (t : State) → and_then r f ≡ goes_on t → (u : State) × (r ≡ goes_on u) × (f u ≡ goes_on t)
two_parts (goes_on u) f t e = (u, refl, e)
two_parts (ends a b) f t e = cc

inputs_hold : (fs : List Form) (budget : ℕ) (ns : List ℤ) (t : State) → AreAll IsOrdered fs → and_then (entered (numbered_from 0 fs) (at_start fs budget)) (rounds (length (variables_of fs))) ≡ goes_on t → chosen (variables_of fs) t.eliminated [] ≡ point ns → (w : World) (vs : List Value) → Gives w vs (variables_of fs) ns → AreAll (IsAtLeastZero w vs) fs
inputs_hold fs budget ns t o e c w vs g =
    let us = variables_of fs in
    let p = two_parts (entered (numbered_from 0 fs) (at_start fs budget)) (rounds (length us)) t e in
    let q = each_sound us us us (λ x. IsOrdered x.body × Uses us x.body.monomials) (λ x. appended x.body x.number)
    (λ x d s u k h. appended_sound us us us x.body x.number s u d.0 d.1 k h) (numbered_from 0 fs)
    (all_numbered us 0 fs o (variables_used fs)) (at_start fs budget) p.0 p.1 (start_going fs budget) in
    let begun : Going us p.0 = record {
      distinct = subst Distinct (sym q.1) (variables_distinct fs);
      includes = subst (Includes us) (sym q.1) (λ u h. h);
      sound = subst (λ (ws : List Node). Sound us ws ws p.0) (sym q.1) q.0;
    } in
    let done = rounds_going us (length us) p.0 t (ap length q.1) begun p.2 in
    let bound : Bound us [] t.eliminated = subst (λ (ws : List Node). Bound us ws t.eliminated) done.1 done.0.sound.bound in
    let found = chosen_holds us us (λ v. as_number (meaning w vs v)) t.eliminated [] ns (λ u h. absurd (false≢true h)) bound c in
    let values : (u : Node) → stands u us ≡ true → as_number (meaning w vs u) ≡ value_in found.final u =
    λ u h. g u h ∙ ap (λ (ms : List ℤ). number_of us ms u) found.numbers ∙ number_is (value_in found.final) us u h in
    let last : Holds w vs t = record { standing = nothing_stands w vs t.left t.standing done.1 done.0.sound.standing; eliminated = found.holds values } in
    of_numbered (IsAtLeastZero w vs) 0 fs (each_appended w vs (numbered_from 0 fs) (at_start fs budget) p.0 p.1 (rounds_keeps w vs (length us) p.0 t p.2 last)).1

pub points_hold : (fs : List Form) (budget : ℕ) (ns : List ℤ) (left : ℕ) → AreAll IsOrdered fs → decide_of fs budget ≡ decided (point ns) left → (w : World) (vs : List Value) → Gives w vs (variables_of fs) ns → AreAll (IsAtLeastZero w vs) fs
points_hold fs budget ns left o e w vs g =
    by (and_then (entered (numbered_from 0 fs) (at_start fs budget)) (rounds (length (variables_of fs)))) refl
    (then_fair (entered (numbered_from 0 fs) (at_start fs budget)) (rounds (length (variables_of fs))) (each_fair (λ x. appended x.body x.number) (λ x s. appended_fair x.body x.number s) (numbered_from 0 fs) (at_start fs budget)) (rounds_fair (length (variables_of fs)))) e
  where
    by : (r : Running) → and_then (entered (numbered_from 0 fs) (at_start fs budget)) (rounds (length (variables_of fs))) ≡ r → NoPoint r → finished (variables_of fs) r ≡ decided (point ns) left → AreAll (IsAtLeastZero w vs) fs
    by (goes_on t) c n d = inputs_hold fs budget ns t o c (answers _ _ _ _ d) w vs g
    by (ends a b) c n d = absurd (not_point a b ns n (answers _ _ _ _ d))
