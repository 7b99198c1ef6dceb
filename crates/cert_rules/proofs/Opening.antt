-- Rules C1, C2, C5, C13 and C14.
use Rattle.std.proofs.Common.{◌≡◌, refl, ◌∙◌, ap, ℕ, zero, suc, Bool, true, false, not, ◌&&◌, ◌||◌, List, [], ◌∷◌, Option, Some, None, arith}
use Rattle.std.proofs.lemmas.Bool.{and_parts, and_from, or_left, or_right, false≢true}
use Rattle.std.proofs.lemmas.Int.{ints, by_lt_z}
use Rattle.std.proofs.Math.IntN.{pos-*ℤ-pos}
use Rattle.std.specs.Prelude.{ℤ, pos, negsuc, ◌+ℤ◌, ◌*ℤ◌, int_le, if◌then◌else◌, ◌*◌}
use Rattle.logic_terms.specs.Node.{bit, tru, neg, arith as compute_by, mul, le, eq, conj, disj, iff, ite, Node, op1, op2, op3}
use Rattle.logic_terms.specs.Value.{Kind, Value, as_truth, as_number, same_int}
use Rattle.logic_terms.specs.Sorting.{IsWorldOf, AllHold}
use Rattle.logic_terms.specs.Meaning.{World, meaning, holds}
use Rattle.logic_terms.specs.Binding.{negated}
use Rattle.logic_terms.specs.Names.{names_nothing}
use Rattle.logic_terms.specs.Run.{Outcome, gives, wide, too_long, run, most_nodes}
use Rattle.logic_terms.proofs.SameNodes.{same_int-refl}
use Rattle.logic_terms.proofs.Runs.{Agrees, run-agrees}
use Rattle.logic_terms.proofs.Sorted.{meaning-number}
use Rattle.cert_lines.specs.Line.{opening, choice, trichotomy, product, computing}
use Rattle.cert_rules.specs.Judged.{Judged, yields, part_of}
use Rattle.cert_rules.specs.Context.{Context, signature, next_symbol, kind_in, is_formula, is_number}
use Rattle.cert_rules.specs.Clause.{AllClausesHold, equals}
use Rattle.cert_rules.specs.Opening.{hypothesis, opened, sides, one_more, compared, at_least_0, multiplied, computed}
use Rattle.cert_rules.specs.Rules.{judge, of_kind}
use Rattle.cert_rules.proofs.Names.{names_below, clause_below}
use Rattle.cert_rules.proofs.NumberedClauses.{IsSound, AllBelow, part_sound, when_sound}
use Rattle.cert_rules.proofs.Opposite.{holds-negated, negated_below}
use Rattle.cert_rules.proofs.Premises.{unless_negated, or_else, last_holds, last_below}
use Rattle.cert_rules.proofs.EqualTerms.{equals-holds, equals-below}
use Rattle.cert_rules.proofs.Sorting.{kind_below, formula_below, number_below, number_kind}

-- ---- clauses of a few literals

pub two_below : (d : ℕ) (p q : Node) → names_below d p ≡ true → names_below d q ≡ true → clause_below d (p ∷ q ∷ []) ≡ true
two_below d p q e f = and_from _ _ e (last_below _ f)

pub three_below : (d : ℕ) (p q r : Node) → names_below d p ≡ true → names_below d q ≡ true → names_below d r ≡ true → clause_below d (p ∷ q ∷ r ∷ []) ≡ true
three_below d p q r e f g = and_from _ _ e (two_below d q r f g)

-- ---- C1

pub hypothesis-sound : (w : World) (d : ℕ) (hs : List Node) (p : Node) (k : ℕ) → AllHold w hs → clause_below d hs ≡ true → holds w [] p ≡ false → names_below d p ≡ true → IsSound w d (hypothesis hs p k)
hypothesis-sound w d [] p zero h b e f =
    (last_holds _ (holds-negated w [] p ∙ ap not e), last_below _ (negated_below d p f))
hypothesis-sound w d [] p (suc k) h b e f = tt
hypothesis-sound w d (q ∷ qs) p zero h b e f = (last_holds _ h.0, last_below _ (and_parts _ _ b).0)
hypothesis-sound w d (q ∷ qs) p (suc k) h b e f = hypothesis-sound w d qs p k h.1 (and_parts _ _ b).1 e f

-- ---- C2

conj-0 : (a b : Bool) → (not (a && b) || (a || false)) ≡ true
conj-0 true true = refl
conj-0 true false = refl
conj-0 false b = refl

conj-1 : (a b : Bool) → (not (a && b) || (b || false)) ≡ true
conj-1 true true = refl
conj-1 true false = refl
conj-1 false b = refl

conj-2 : (a b : Bool) → ((a && b) || (not a || (not b || false))) ≡ true
conj-2 true true = refl
conj-2 true false = refl
conj-2 false b = refl

disj-0 : (a b : Bool) → ((a || b) || (not a || false)) ≡ true
disj-0 true b = refl
disj-0 false true = refl
disj-0 false false = refl

disj-1 : (a b : Bool) → ((a || b) || (not b || false)) ≡ true
disj-1 true b = refl
disj-1 false true = refl
disj-1 false false = refl

disj-2 : (a b : Bool) → (not (a || b) || (a || (b || false))) ≡ true
disj-2 true b = refl
disj-2 false true = refl
disj-2 false false = refl

iff-0 : (a b : Bool) → (not (if a then b else not b) || (not a || (b || false))) ≡ true
iff-0 true true = refl
iff-0 true false = refl
iff-0 false b = grind arith

iff-1 : (a b : Bool) → (not (if a then b else not b) || (a || (not b || false))) ≡ true
iff-1 true b = grind arith
iff-1 false true = refl
iff-1 false false = refl

iff-2 : (a b : Bool) → ((if a then b else not b) || (a || (b || false))) ≡ true
iff-2 true b = grind arith
iff-2 false true = refl
iff-2 false false = refl

iff-3 : (a b : Bool) → ((if a then b else not b) || (not a || (not b || false))) ≡ true
iff-3 true true = refl
iff-3 true false = refl
iff-3 false b = grind arith

bit-0 : (a : Bool) → (not a || (a || false)) ≡ true
bit-0 true = refl
bit-0 false = refl

bit-1 : (a : Bool) → (a || (not a || false)) ≡ true
bit-1 true = refl
bit-1 false = refl

opened-holds : (w : World) (p : Node) → AllClausesHold w (opened p)
opened-holds w (op2 conj p q) = (
  conj-0 (holds w [] p) (holds w [] q),
  (
    conj-1 (holds w [] p) (holds w [] q),
    (rw (holds-negated w [] p, holds-negated w [] q) (conj-2 (holds w [] p) (holds w [] q)), tt),
  ),
)
opened-holds w (op2 disj p q) = (
  rw (holds-negated w [] p) (disj-0 (holds w [] p) (holds w [] q)),
  (rw (holds-negated w [] q) (disj-1 (holds w [] p) (holds w [] q)), (disj-2 (holds w [] p) (holds w [] q), tt)),
)
opened-holds w (op2 iff p q) = (
  rw (holds-negated w [] p) (iff-0 (holds w [] p) (holds w [] q)),
  (
    rw (holds-negated w [] q) (iff-1 (holds w [] p) (holds w [] q)),
    (
      iff-2 (holds w [] p) (holds w [] q),
      (rw (holds-negated w [] p, holds-negated w [] q) (iff-3 (holds w [] p) (holds w [] q)), tt),
    ),
  ),
)
opened-holds w (op1 tru (op1 bit p)) =
    (bit-0 (holds w [] p), (rw (holds-negated w [] p) (bit-1 (holds w [] p)), tt))
opened-holds w _ = tt

opened-below : (d : ℕ) (p : Node) → names_below d p ≡ true → AllBelow d (opened p)
opened-below d (op2 conj p q) h =
    let e = and_parts _ _ h in (
      two_below d (op1 neg (op2 conj p q)) p h e.0,
      (
        two_below d (op1 neg (op2 conj p q)) q h e.1,
        (three_below d (op2 conj p q) (negated p) (negated q) h (negated_below d p e.0) (negated_below d q e.1), tt),
      ),
    )
opened-below d (op2 disj p q) h =
    let e = and_parts _ _ h in (
      two_below d (op2 disj p q) (negated p) h (negated_below d p e.0),
      (
        two_below d (op2 disj p q) (negated q) h (negated_below d q e.1),
        (three_below d (op1 neg (op2 disj p q)) p q h e.0 e.1, tt),
      ),
    )
opened-below d (op2 iff p q) h =
    let e = and_parts _ _ h in (
      three_below d (op1 neg (op2 iff p q)) (negated p) q h (negated_below d p e.0) e.1,
      (
        three_below d (op1 neg (op2 iff p q)) p (negated q) h e.0 (negated_below d q e.1),
        (
          three_below d (op2 iff p q) p q h e.0 e.1,
          (three_below d (op2 iff p q) (negated p) (negated q) h (negated_below d p e.0) (negated_below d q e.1), tt),
        ),
      ),
    )
opened-below d (op1 tru (op1 bit p)) h =
    (two_below d (op1 neg (op1 tru (op1 bit p))) p h h, (two_below d (op1 tru (op1 bit p)) (negated p) h (negated_below d p h), tt))
opened-below d _ h = tt

pub opening-sound : (c : Context) (w : World) → IsWorldOf (signature c) w → (n : ℕ) (p : Node) → IsSound w (next_symbol c) (judge c (opening n p))
opening-sound c w fits n p =
    when_sound w (next_symbol c) (is_formula c p) (part_of (opened p) n) (λ f.
    part_sound w (next_symbol c) (opened p) n (opened-holds w p) (opened-below (next_symbol c) p (formula_below c p f)))

-- a choice

chosen : (b : Bool) (x y : Value) → b ≡ true → (if b then x else y) ≡ x
chosen b x y e = rw e refl

left_out : (b : Bool) (x y : Value) → b ≡ false → (if b then x else y) ≡ y
left_out b x y e = rw e refl

sides-hold : (w : World) (k : Kind) (t : Node) → AllClausesHold w (sides k t)
sides-hold w k (op3 ite p a b) = (
  unless_negated w p _ (λ e. last_holds _ (equals-holds w k (op3 ite p a b) a (chosen _ _ _ e))),
  (or_else (holds w [] p) _ (λ e. last_holds _ (equals-holds w k (op3 ite p a b) b (left_out _ _ _ e))), tt),
)
sides-hold w k _ = tt

sides-below : (d : ℕ) (k : Kind) (t : Node) → names_below d t ≡ true → AllBelow d (sides k t)
sides-below d k (op3 ite p a b) h =
    let e = and_parts _ _ h in
    let f = and_parts _ _ e.1 in (
      two_below d (negated p) (equals k (op3 ite p a b) a) (negated_below d p e.0) (equals-below d k (op3 ite p a b) a h f.0),
      (two_below d p (equals k (op3 ite p a b) b) e.0 (equals-below d k (op3 ite p a b) b h f.1), tt),
    )
sides-below d k _ h = tt

pub of_kind-sound : (w : World) (d : ℕ) (x : Option Kind) (f : Kind → Judged (List Node)) → ((k : Kind) → x ≡ Some k → IsSound w d (f k)) → IsSound w d (of_kind x f)
of_kind-sound w d (Some k) f h = h k refl
of_kind-sound w d None f h = tt

pub choice-sound : (c : Context) (w : World) → IsWorldOf (signature c) w → (n : ℕ) (t : Node) → IsSound w (next_symbol c) (judge c (choice n t))
choice-sound c w fits n t =
    of_kind-sound w (next_symbol c) (kind_in c t) (λ k. part_of (sides k t) n) (λ k e.
    part_sound w (next_symbol c) (sides k t) n (sides-hold w k t) (sides-below (next_symbol c) k t (kind_below c t k e)))

-- ---- C5

second_true : (a b c : Bool) → b ≡ true → (a || (b || (c || false))) ≡ true
second_true a true c e = or_right a true refl
second_true a false c e = absurd (false≢true e)

third_true : (a b c : Bool) → c ≡ true → (a || (b || (c || false))) ≡ true
third_true a b true e = or_right a _ (or_right b true refl)
third_true a b false e = absurd (false≢true e)

same : (x y : ℤ) → x ≡ y → same_int x y ≡ true
same x y e = rw e (same_int-refl y)

three_ways : (x y : ℤ) → (same_int x y || (int_le (x +ℤ pos 1) y || (int_le (y +ℤ pos 1) x || false))) ≡ true
three_ways x y =
    by_lt_z x y
    (λ less. second_true (same_int x y) _ _ (grind (arith, ints)))
    (λ at_least. by_lt_z y x
    (λ more. third_true (same_int x y) _ _ (grind (arith, ints)))
    (λ at_most. or_left (same_int x y) _ (same x y (omega (arith, ints)))))

pub trichotomy-sound : (c : Context) (w : World) → IsWorldOf (signature c) w → (a b : Node) → IsSound w (next_symbol c) (judge c (trichotomy a b))
trichotomy-sound c w fits a b =
    when_sound w (next_symbol c) (is_number c a && is_number c b) (yields (compared a b)) (λ h.
    let e = and_parts _ _ h in
    let x = number_below c a e.0 in
    let y = number_below c b e.1 in (
      rw (meaning-number (signature c) w fits a (number_kind c a e.0), meaning-number (signature c) w fits b (number_kind c b e.1)) (three_ways (as_number (meaning w [] a)) (as_number (meaning w [] b))),
      three_below (next_symbol c) (op2 eq a b) (op2 le (one_more a) b) (op2 le (one_more b) a) (and_from _ _ x y) (and_from _ _ (and_from _ _ x refl) y) (and_from _ _ (and_from _ _ y refl) x),
    ))

-- ---- C13

natural : (m : ℕ) → int_le (pos 0) (pos m) ≡ true
natural m = grind (arith, ints)

last_true : (a b c : Bool) → c ≡ true → (not a || (not b || (c || false))) ≡ true
last_true a b c e = third_true (not a) (not b) c e

not_less : (x y : ℤ) → (not (int_le (pos 0) x) || (not (int_le (pos 0) y) || (int_le (pos 0) (x *ℤ y) || false))) ≡ true
not_less (pos m) (pos n) = last_true _ _ _ (ap (int_le (pos 0)) (pos-*ℤ-pos m n) ∙ natural (m * n))
not_less (pos m) (negsuc n) = or_right (not (int_le (pos 0) (pos m))) true refl
not_less (negsuc m) y = refl

pub product-sound : (c : Context) (w : World) → IsWorldOf (signature c) w → (f g : Node) → IsSound w (next_symbol c) (judge c (product f g))
product-sound c w fits f g =
    when_sound w (next_symbol c) (is_number c f && is_number c g) (yields (multiplied f g)) (λ h.
    let e = and_parts _ _ h in
    let x = number_below c f e.0 in
    let y = number_below c g e.1 in (
      not_less (as_number (meaning w [] f)) (as_number (meaning w [] g)),
      three_below (next_symbol c) (negated (at_least_0 f)) (negated (at_least_0 g)) (at_least_0 (op2 (compute_by mul) f g)) x y (and_from _ _ x y),
    ))

-- ---- C14

computed-sound : (w : World) (d : ℕ) (p : Node) (o : Outcome Value) → Agrees o (meaning w [] p) → names_below d p ≡ true → IsSound w d (computed p o)
computed-sound w d p (gives v n) e b = go (as_truth v) (ap as_truth e)
  where
    go : (t : Bool) → holds w [] p ≡ t → IsSound w d (yields ((if t then p else negated p) ∷ []))
    go true h = (last_holds _ h, last_below _ b)
    go false h = (last_holds _ (holds-negated w [] p ∙ ap not h), last_below _ (negated_below d p b))
computed-sound w d p wide e b = tt
computed-sound w d p too_long e b = tt

pub computing-sound : (c : Context) (w : World) → IsWorldOf (signature c) w → (p : Node) → IsSound w (next_symbol c) (judge c (computing p))
computing-sound c w fits p =
    when_sound w (next_symbol c) (is_formula c p && names_nothing p) (computed p (run most_nodes [] p)) (λ h.
    computed-sound w (next_symbol c) p (run most_nodes [] p) (run-agrees w most_nodes [] p) (formula_below c p (and_parts _ _ h).0))
