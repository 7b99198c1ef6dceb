-- Ranges, membership tests and choices: what is refused is the first of the broken rules.
use Rattle.std.proofs.Common.{◌≡◌, refl, ◌∙◌, Bool, List, ◌++◌, Option, Some, None}
use Rattle.std.specs.Prelude.{ℕ}
use Rattle.ada_values.specs.declared.place.Place.{Place}
use Rattle.front_codes.specs.declared.codes.Code.{Code}
use Rattle.front_codes.specs.declared.codes.Code.TheVariants as code
use Rattle.front_codes.specs.declared.codes.Refusal.{Refusal}
use Rattle.typed_units.specs.declared.statements.Choice.TheVariants as choice
use Rattle.type_base.specs.Scope.{Scope}
use Rattle.type_base.specs.declared.seen.Agreed.{Agreed}
use Rattle.type_base.specs.declared.seen.Agreed.TheVariants as agreed
use Rattle.type_base.specs.declared.seen.Demand.TheVariants as demand
use Rattle.type_base.specs.declared.seen.Seen.{Seen}
use Rattle.type_base.specs.declared.seen.Seen.TheVariants as seen
use Rattle.type_base.specs.declared.seen.Want.{Want}
use Rattle.type_base.specs.declared.seen.Want.TheVariants as want
use Rattle.type_base.specs.Demands.{agree}
use Rattle.type_base.specs.Faults.{First, fault_of, listed, operand_fault, pair_fault}
use Rattle.type_base.specs.Standard.{integer_base}
use Rattle.type_base.proofs.Firsts.{first_both, first_listed, merge, step}
use Rattle.type_base.proofs.OperatorFirsts.{agreed_fault, operand_is, pair_is}
use Rattle.typing_rules.specs.declared.prefix.Prefix.{Prefix}
use Rattle.typing_rules.specs.declared.prefix.Reach.{Reach}
use Rattle.typing_rules.specs.declared.prefix.Reach.TheVariants as reach
use Rattle.typing_rules.specs.Faults.{bound_faults, faults_of, member_agree, member_faults, ordered, range_faults, reach_fault, reach_faults, reach_faults_by, single_choice_faults, two_faults, value_choice_faults, waits_for_reach}
use Rattle.typing_rules.specs.Fits.{found_fault, with_found}
use Rattle.typing_rules.specs.Parts.{Operand, Range}
use Rattle.typing_rules.specs.Ranges.{bounds_reach, choice_by, choice_range, lone_reach, member_by, member_seen, range_choice, range_found, reach_by, reach_in, reach_of, single_choice, two_reach, value_at, want_or}
use Rattle.typing_rules.specs.Values.{place_of, seen_of}
use Rattle.typing_laws.proofs.Merging.{first_after, first_alone, first_as, first_more}
use Rattle.typing_laws.proofs.Operands.{IsFirst, Keeps, MaybeFirst, RangeFirst, Waits, both_is, keeps_by, operand_first, own_first, waiting_first, with_found_is}

-- ---- ranges

bound_first : (c : Scope) (r : Code) (o : Operand) (w : Want) → IsFirst o → First (fault_of (ordered c r o w)) (bound_faults c r o w)
bound_first c r o w h =
    let s = seen_of c o w in
    step (fault_of s) (operand_fault c.world demand.Ordered r (place_of c o) s) (fault_of (ordered c r o w)) (faults_of c o w) (operand_is c.world demand.Ordered r (place_of c o) s) (operand_first c o w h)

bounds_are : (g : Agreed) → reach_fault (bounds_reach g) ≡ agreed_fault g
bounds_are (agreed.Refused f) = refl
bounds_are agreed.Unknown = refl
bounds_are (agreed.Numbers a b) = refl
bounds_are (agreed.Typed t x y) = refl

two_first : (c : Scope) (r : Code) (w : Want) (l h : Operand) → IsFirst l → IsFirst h → First (reach_fault (two_reach c r w l h)) (two_faults c r w l h)
two_first c r w l h i j =
    let p = place_of c l in
    let q = place_of c h in
    let x = ordered c r l (want_or w h.kind) in
    let y = ordered c r h (want_or w l.kind) in
    let xs = bound_faults c r l (want_or w h.kind) in
    let ys = bound_faults c r h (want_or w l.kind) in
    step (merge (fault_of x) (fault_of y)) (pair_fault c.world r p q x y) (reach_fault (bounds_reach (agree c.world r p q x y))) (xs ++ ys)
    (bounds_are (agree c.world r p q x y) ∙ pair_is c.world r p q x y)
    (first_both (fault_of x) (fault_of y) xs ys (bound_first c r l (want_or w h.kind) i) (bound_first c r h (want_or w l.kind) j))

lone_keeps : (c : Scope) (r : Code) (q : Place) (f : Prefix) → Keeps f (reach_fault (lone_reach c r q f))
lone_keeps c r q f = keeps_by q (λ (g : Prefix). reach_fault (lone_reach c r q g)) (λ g. refl) (λ n g. refl) f

reach_by_first : (c : Scope) (r : Code) (w : Want) (l : Operand) (m : Option Operand) → IsFirst l → MaybeFirst m → First (reach_fault (reach_by c r w l m)) (reach_faults_by c r w l m)
reach_by_first c r w l (Some h) i j = two_first c r w l h i j
reach_by_first c r w l None i j =
    own_first (l.prefix w) (reach_fault (lone_reach c r (place_of c l) (l.prefix w))) (l.faults w) (lone_keeps c r (place_of c l) (l.prefix w)) (i w)

pub reach_first : (c : Scope) (r : Code) (w : Want) (g : Range) → RangeFirst g → First (reach_fault (reach_of c r w g)) (reach_faults c r w g)
reach_first c r w g h = reach_by_first c r w g.low g.high h.0 h.1

pub reach_in_first : (c : Scope) (r : Code) (t : ℕ) (g : Range) (u : Reach) (fs : List Refusal) → First (reach_fault u) fs
    → First (found_fault (reach_in c r t g u)) (fs ++ waits_for_reach u (found_fault (reach_in c r t g u)))
reach_in_first c r t g (reach.Refused f) fs h = first_alone (Some f) fs h
reach_in_first c r t g reach.Unknown fs h = first_alone None fs h
reach_in_first c r t g (reach.Between b) fs h = first_alone None fs h
reach_in_first c r t g (reach.Numbers a b) fs h =
    let v = found_fault (reach_in c r t g (reach.Numbers a b)) in first_after v fs (listed v) h (first_listed v)

pub range_first : (c : Scope) (r : Code) (g : Range) → RangeFirst g → First (found_fault (range_found c r g)) (range_faults c r g)
range_first c r g h = reach_in_first c r integer_base g (reach_of c r want.Free g) (reach_faults c r want.Free g) (reach_first c r want.Free g h)

-- ---- membership tests

member_is : (c : Scope) (p : Place) (b : Bool) (q : Place) (g : Range) (x : Seen) (u : Reach) → fault_of (member_by c p b q g x u) ≡ merge (merge (fault_of x) (reach_fault u)) (member_agree c p b q g x u)
member_is c p b q g (seen.Refused f) (reach.Refused h) = refl
member_is c p b q g (seen.Refused f) reach.Unknown = refl
member_is c p b q g (seen.Refused f) (reach.Numbers m n) = refl
member_is c p b q g (seen.Refused f) (reach.Between z) = refl
member_is c p b q g seen.Unknown (reach.Refused h) = refl
member_is c p b q g seen.Unknown reach.Unknown = refl
member_is c p b q g seen.Unknown (reach.Numbers m n) = refl
member_is c p b q g seen.Unknown (reach.Between z) = refl
member_is c p b q g (seen.Number k) (reach.Refused h) = refl
member_is c p b q g (seen.Number k) reach.Unknown = refl
member_is c p b q g (seen.Number k) (reach.Numbers m n) = refl
member_is c p b q g (seen.Number k) (reach.Between z) = refl
member_is c p b q g (seen.Typed t x) (reach.Refused h) = refl
member_is c p b q g (seen.Typed t x) reach.Unknown = refl
member_is c p b q g (seen.Typed t x) (reach.Numbers m n) = refl
member_is c p b q g (seen.Typed t x) (reach.Between z) = refl

pub member_first : (c : Scope) (p : Place) (b : Bool) (a : Operand) (g : Range) (k : Option ℕ) → IsFirst a → RangeFirst g → First (fault_of (member_seen c p b a g k)) (member_faults c p b a g k)
member_first c p b a g k h i =
    let x = ordered c code.L7 a (want_or want.Free k) in
    let u = reach_of c code.L7 (want_or want.Free a.kind) g in
    let xs = bound_faults c code.L7 a (want_or want.Free k) in
    let us = reach_faults c code.L7 (want_or want.Free a.kind) g in
    step (merge (fault_of x) (reach_fault u)) (member_agree c p b (place_of c a) g x u) (fault_of (member_by c p b (place_of c a) g x u)) (xs ++ us)
    (member_is c p b (place_of c a) g x u)
    (first_both (fault_of x) (reach_fault u) xs us (bound_first c code.L7 a (want_or want.Free k) h) (reach_first c code.L7 (want_or want.Free a.kind) g i))

-- ---- choices

value_waits : (c : Scope) (r : Code) (t : ℕ) (q : Place) (s : Seen) → Waits s (found_fault (value_at c r t q s))
value_waits c r t q (seen.Refused f) = refl
value_waits c r t q seen.Unknown = tt
value_waits c r t q (seen.Number n) = tt
value_waits c r t q (seen.Typed u x) = tt

pub value_first : (c : Scope) (t : ℕ) (o : Operand) → IsFirst o → First (found_fault (value_at c code.L16 t (place_of c o) (seen_of c o (want.Type t)))) (value_choice_faults c t o)
value_first c t o h =
    let s = seen_of c o (want.Type t) in
    waiting_first s (found_fault (value_at c code.L16 t (place_of c o) s)) (faults_of c o (want.Type t)) (value_waits c code.L16 t (place_of c o) s) (operand_first c o (want.Type t) h)

choice_keeps : (c : Scope) (r : Code) (t : ℕ) (q : Place) (f : Prefix) → Keeps f (found_fault (choice_by c r t q f))
choice_keeps c r t q f = keeps_by q (λ (g : Prefix). found_fault (choice_by c r t q g)) (λ g. refl) (λ n g. refl) f

pub single_first : (c : Scope) (t : ℕ) (o : Operand) → IsFirst o → First (found_fault (with_found choice_range (single_choice c code.L16 t o))) (single_choice_faults c t o)
single_first c t o h =
    let f = o.prefix (want.Type t) in
    let u = single_choice c code.L16 t o in
    first_as (found_fault (with_found choice_range u)) (found_fault u) (single_choice_faults c t o) (with_found_is choice_range u)
    (own_first f (found_fault u) (o.faults (want.Type t)) (choice_keeps c code.L16 t (place_of c o) f) (h (want.Type t)))

pub between_first : (c : Scope) (t : ℕ) (l h : Operand) → IsFirst l → IsFirst h
    → First (found_fault (with_found choice_range (range_choice c code.L16 t l h))) (value_choice_faults c t l ++ value_choice_faults c t h)
between_first c t l h i j =
    let x = value_at c code.L16 t (place_of c l) (seen_of c l (want.Type t)) in
    let y = value_at c code.L16 t (place_of c h) (seen_of c h (want.Type t)) in
    let u = range_choice c code.L16 t l h in
    first_more (found_fault x) (found_fault y) (found_fault (with_found choice_range u)) (value_choice_faults c t l) (value_choice_faults c t h)
    (with_found_is choice_range u ∙ both_is (λ a b. choice.Range (record { first = a; last = b })) x y) (value_first c t l i) (value_first c t h j)
