-- Ranges, membership tests and choices whose parts are known are known.
use Rattle.std.proofs.Common.{◌≡◌, refl, sym, ◌∙◌, subst, ℕ, ℤ, Bool, true, false, ◌==◌, Option, Some, None}
use Rattle.std.specs.Prelude.{if◌then◌else◌}
use Rattle.ada_values.specs.Scalars.{within}
use Rattle.ada_values.specs.declared.place.Place.{Place}
use Rattle.ada_values.specs.declared.values.Value.TheVariants as value
use Rattle.front_codes.specs.declared.codes.Code.{Code}
use Rattle.front_codes.specs.declared.codes.Code.TheVariants as code
use Rattle.front_codes.specs.declared.codes.Refusal.{Refusal}
use Rattle.typed_units.specs.declared.expressions.Expr.{Expr}
use Rattle.typed_units.specs.declared.expressions.ExprNode.{ExprNode}
use Rattle.typed_units.specs.declared.expressions.ExprNode.TheVariants as node
use Rattle.typed_units.specs.declared.statements.Choice.TheVariants as choice
use Rattle.type_base.specs.Scope.{Scope}
use Rattle.type_base.specs.declared.seen.Agreed.TheVariants as agreed
use Rattle.type_base.specs.declared.seen.Demand.{Demand}
use Rattle.type_base.specs.declared.seen.Demand.TheVariants as demand
use Rattle.type_base.specs.declared.seen.Seen.{Seen}
use Rattle.type_base.specs.declared.seen.Seen.TheVariants as seen
use Rattle.type_base.specs.declared.seen.Want.{Want}
use Rattle.type_base.specs.declared.seen.Want.TheVariants as want
use Rattle.type_base.specs.declared.world.Form.{Form}
use Rattle.type_base.specs.declared.world.Form.TheVariants as form
use Rattle.type_base.specs.declared.world.Subtype.{Subtype}
use Rattle.type_base.specs.declared.world.World.{World}
use Rattle.type_base.specs.Demands.{agree, broken, fitting, meets, operand, placed_number, refused, subtype_of, takes_numbers, with_left, with_right}
use Rattle.type_base.specs.Lookups.{form_at, form_in, type_in}
use Rattle.type_base.specs.Results.{number_in, static_truth, truth_at}
use Rattle.type_base.specs.Standard.{boolean, integer_base}
use Rattle.expression_rules.specs.Known.{IsKnown, Stands}
use Rattle.typing_rules.specs.declared.prefix.Between.{Between}
use Rattle.typing_rules.specs.declared.prefix.Found.{Found}
use Rattle.typing_rules.specs.declared.prefix.Found.TheVariants as found
use Rattle.typing_rules.specs.declared.prefix.Prefix.{Prefix}
use Rattle.typing_rules.specs.declared.prefix.Prefix.TheVariants as prefix
use Rattle.typing_rules.specs.declared.prefix.Reach.{Reach}
use Rattle.typing_rules.specs.declared.prefix.Reach.TheVariants as reach
use Rattle.typing_rules.specs.Fits.{both, refused_beside, with_found}
use Rattle.typing_rules.specs.Lookups.{type_of}
use Rattle.typing_rules.specs.Names.{typed_as}
use Rattle.typing_rules.specs.Parts.{Operand, Range}
use Rattle.typing_rules.specs.Ranges.{bounds_of_type, bounds_reach, choice_by, choice_range, found_expr, high_place, lone_reach, member_by, member_number, member_of, member_seen, member_static, member_typed, no_range, range_choice, range_found, reach_bounds, reach_by, reach_in, reach_of, reach_seen, same_truth, single_choice, static_bounds, static_number, static_value, subtype_reach, value_at, want_or, weaker, weaker_by}
use Rattle.typing_rules.specs.Values.{place_of, seen_of, value_of}
use Rattle.typing_laws.specs.Declared.{IsGiven, IsSound, IsThere}
use Rattle.typing_laws.proofs.Standing.{IsFound, IsPlaced, KindThere, boolean_there, both_found, either_known, expr_found, found_if, integer_there, itself, made_stands, no_some, number_placed, of_there, placed_known, type_stands, typed_placed, type_there, with_found_found}
use Rattle.typing_laws.proofs.KnownParts.{MaybeKnown, OperandKnown, PrefixKnown, RangeKnown, operand_known, value_known}

-- ---- contexts

pub want_given : (w : World) (v : Want) (k : Option ℕ) → IsGiven w v → KindThere w k → IsGiven w (want_or v k)
want_given w v None h i = h
want_given w v (Some t) h i = i

pub weaker_given : (w : World) (v : Want) → IsSound w → IsGiven w v → IsGiven w (weaker w v)
weaker_given w want.Free sound h = tt
weaker_given w want.Unknown sound h = h
weaker_given w (want.Type t) sound h = h
weaker_given w (want.Subtype k) sound h =
    subst (λ (m : Option Subtype). IsGiven w (weaker_by (want.Subtype k) (type_in m))) (sym h.is) (of_there w k sound h)

-- ---- operands as demanded

met_if : (w : World) (r : Code) (p : Place) (t : ℕ) (x : Expr) → Stands w t (subtype_of x) → (b : Bool) → IsPlaced w (if b then seen.Typed t x else refused r p)
met_if w r p t x h true = h
met_if w r p t x h false = tt

met_known : (w : World) (d : Demand) (r : Code) (p : Place) (t : ℕ) (x : Expr) → Stands w t (subtype_of x) → (m : Option Form) → form_at w (subtype_of x) ≡ m → IsPlaced w (fitting d r p t x m)
met_known w d r p t x h None e = no_some h.form (sym e ∙ h.is)
met_known w d r p t x h (Some f) e = met_if w r p t x h (meets d f)

pub operand_as : (w : World) (d : Demand) (r : Code) (p : Place) (s : Seen) → IsKnown w s → IsKnown w (operand w d r p s)
operand_as w d r p (seen.Refused f) h = tt
operand_as w d r p seen.Unknown h = absurd h
operand_as w d r p (seen.Number n) h = either_known w (takes_numbers d) (seen.Number n) (refused r p) tt tt
operand_as w d r p (seen.Typed t x) h = placed_known w (fitting d r p t x (form_at w (subtype_of x))) (met_known w d r p t x h (form_at w (subtype_of x)) refl)

pub truth_placed : (w : World) (r : Code) (p : Place) (s : Seen) → IsKnown w s → IsPlaced w (operand w demand.Truth r p s)
truth_placed w r p (seen.Refused f) h = tt
truth_placed w r p seen.Unknown h = absurd h
truth_placed w r p (seen.Number n) h = tt
truth_placed w r p (seen.Typed t x) h = met_known w demand.Truth r p t x h (form_at w (subtype_of x)) refl

pub truth_known : (w : World) (p : Place) (n : ExprNode Expr) → IsSound w → IsKnown w (truth_at p n)
truth_known w p n sound = made_stands w boolean boolean p n (itself w boolean (boolean_there w sound))

-- ---- ranges

abbrev pub ReachKnown : World → Reach → Type 0
ReachKnown w (reach.Refused f) = Unit {0}
ReachKnown w reach.Unknown = ⊥
ReachKnown w (reach.Numbers a b) = Unit {0}
ReachKnown w (reach.Between b) = IsThere w b.subtype

abbrev pub BetweenFound : World → Found Between → Type 0
BetweenFound w (found.Refused f) = Unit {0}
BetweenFound w found.Unknown = ⊥
BetweenFound w (found.Is b) = IsThere w b.subtype

left_reach : (w : World) (s : Seen) (y : Expr) → IsPlaced w s → ReachKnown w (bounds_reach (with_left s y))
left_reach w (seen.Refused f) y h = tt
left_reach w seen.Unknown y h = absurd h
left_reach w (seen.Number n) y h = absurd h
left_reach w (seen.Typed t x) y h = type_stands w t (subtype_of x) h

right_reach : (w : World) (t : ℕ) (x : Expr) (s : Seen) → IsThere w t → IsPlaced w s → ReachKnown w (bounds_reach (with_right t x s))
right_reach w t x (seen.Refused f) h i = tt
right_reach w t x seen.Unknown h i = absurd i
right_reach w t x (seen.Number n) h i = absurd i
right_reach w t x (seen.Typed u y) h i = h

same_reach : (w : World) (r : Code) (q : Place) (t : ℕ) (x y : Expr) (b : Bool) → IsThere w t → ReachKnown w (bounds_reach (if b then agreed.Typed t x y else agreed.Refused (broken r q)))
same_reach w r q t x y true h = h
same_reach w r q t x y false h = tt

agree_reach : (w : World) (r : Code) (p q : Place) (x y : Seen) → IsKnown w x → IsKnown w y → ReachKnown w (bounds_reach (agree w r p q x y))
agree_reach w r p q seen.Unknown y h i = absurd h
agree_reach w r p q (seen.Refused f) (seen.Refused g) h i = tt
agree_reach w r p q (seen.Refused f) seen.Unknown h i = tt
agree_reach w r p q (seen.Refused f) (seen.Number n) h i = tt
agree_reach w r p q (seen.Refused f) (seen.Typed u y) h i = tt
agree_reach w r p q (seen.Number m) (seen.Refused g) h i = tt
agree_reach w r p q (seen.Number m) seen.Unknown h i = absurd i
agree_reach w r p q (seen.Number m) (seen.Number n) h i = tt
agree_reach w r p q (seen.Number m) (seen.Typed u y) h i = left_reach w (placed_number w r q p u m) y (number_placed w r q p u m (type_stands w u (subtype_of y) i))
agree_reach w r p q (seen.Typed t x) (seen.Refused g) h i = tt
agree_reach w r p q (seen.Typed t x) seen.Unknown h i = absurd i
agree_reach w r p q (seen.Typed t x) (seen.Number n) h i = let z = type_stands w t (subtype_of x) h in right_reach w t x (placed_number w r q q t n) z (number_placed w r q q t n z)
agree_reach w r p q (seen.Typed t x) (seen.Typed u y) h i = same_reach w r q t x y (t == u) (type_stands w t (subtype_of x) h)

subtype_form : (w : World) (r : Code) (p : Place) (k : ℕ) (f : Form) → IsThere w k → ReachKnown w (subtype_reach r p k (Some f))
subtype_form w r p k (form.Number d s) h = h
subtype_form w r p k form.Truth h = tt
subtype_form w r p k (form.Array i b t) h = tt
subtype_form w r p k (form.Record i n) h = tt

subtype_known : (w : World) (r : Code) (p : Place) (k : ℕ) → IsThere w k → ReachKnown w (subtype_reach r p k (form_at w k))
subtype_known w r p k h = subst (λ (m : Option Subtype). ReachKnown w (subtype_reach r p k (form_in m))) (sym h.is) (subtype_form w r p k h.subtype.form h)

no_range_known : (w : World) (r : Code) (p : Place) (s : Seen) → IsKnown w s → ReachKnown w (no_range r p s)
no_range_known w r p (seen.Refused f) h = tt
no_range_known w r p seen.Unknown h = absurd h
no_range_known w r p (seen.Number n) h = tt
no_range_known w r p (seen.Typed t x) h = tt

lone_known : (c : Scope) (r : Code) (p : Place) (f : Prefix) → IsSound c.world → PrefixKnown c.world f → ReachKnown c.world (lone_reach c r p f)
lone_known c r p (prefix.Subtype k) sound h = subtype_known c.world r p k h
lone_known c r p (prefix.Range b) sound h = h
lone_known c r p prefix.Package sound h = tt
lone_known c r p (prefix.Routine q) sound h = no_range_known c.world r p (value_of c p (prefix.Routine q)) (value_known c p (prefix.Routine q) sound h)
lone_known c r p (prefix.Called q as') sound h = no_range_known c.world r p (value_of c p (prefix.Called q as')) (value_known c p (prefix.Called q as') sound h)
lone_known c r p (prefix.Mapping m t k) sound h = tt
lone_known c r p (prefix.Constant t x) sound h = tt
lone_known c r p (prefix.Part g) sound h = tt
lone_known c r p (prefix.Value s) sound h = no_range_known c.world r p s h

reach_by_known : (c : Scope) (r : Code) (v : Want) (l : Operand) (m : Option Operand) → IsSound c.world → IsGiven c.world v → OperandKnown c.world l → MaybeKnown c.world m → ReachKnown c.world (reach_by c r v l m)
reach_by_known c r v l (Some h) sound g i j =
    let p = place_of c l in
    let q = place_of c h in
    let u = want_or v h.kind in
    let z = want_or v l.kind in
    agree_reach c.world r p q (operand c.world demand.Ordered r p (seen_of c l u)) (operand c.world demand.Ordered r q (seen_of c h z))
    (operand_as c.world demand.Ordered r p (seen_of c l u) (operand_known c l u sound i (want_given c.world v h.kind g j.kind)))
    (operand_as c.world demand.Ordered r q (seen_of c h z) (operand_known c h z sound j (want_given c.world v l.kind g i.kind)))
reach_by_known c r v l None sound g i j = lone_known c r (place_of c l) (l.prefix v) sound (i.prefix v g)

pub reach_known : (c : Scope) (r : Code) (v : Want) (g : Range) → IsSound c.world → IsGiven c.world v → RangeKnown c.world g → ReachKnown c.world (reach_of c r v g)
reach_known c r v g sound h i = reach_by_known c r v g.low g.high sound h i.0 i.1

numbers_found : (w : World) (t : ℕ) (x y : Found Expr) → IsThere w t → IsFound x → IsFound y → BetweenFound w (both (λ a b. record { subtype = t; low = a; high = b }) x y)
numbers_found w t (found.Refused f) (found.Refused g) h i j = tt
numbers_found w t (found.Refused f) found.Unknown h i j = tt
numbers_found w t (found.Refused f) (found.Is y) h i j = tt
numbers_found w t found.Unknown y h i j = absurd i
numbers_found w t (found.Is x) (found.Refused g) h i j = tt
numbers_found w t (found.Is x) found.Unknown h i j = absurd j
numbers_found w t (found.Is x) (found.Is y) h i j = h

pub reach_in_found : (c : Scope) (r : Code) (t : ℕ) (g : Range) (u : Reach) → IsThere c.world t → ReachKnown c.world u → BetweenFound c.world (reach_in c r t g u)
reach_in_found c r t g (reach.Refused f) h i = tt
reach_in_found c r t g reach.Unknown h i = absurd i
reach_in_found c r t g (reach.Between b) h i = i
reach_in_found c r t g (reach.Numbers a b) h i =
    let p = place_of c g.low in
    let q = high_place c g g.high in
    let x = placed_number c.world r p p t a in
    let y = placed_number c.world r q q t b in
    numbers_found c.world t (found_expr x) (found_expr y) h (expr_found c.world x (number_placed c.world r p p t a h)) (expr_found c.world y (number_placed c.world r q q t b h))

pub range_known : (c : Scope) (r : Code) (g : Range) → IsSound c.world → RangeKnown c.world g → BetweenFound c.world (range_found c r g)
range_known c r g sound h = reach_in_found c r integer_base g (reach_of c r want.Free g) (integer_there c.world sound) (reach_known c r want.Free g sound tt h)

pub between_found : (w : World) (x : Found Between) → BetweenFound w x → IsFound x
between_found w (found.Refused f) h = tt
between_found w found.Unknown h = absurd h
between_found w (found.Is b) h = tt

-- ---- membership tests

static_truth_known : (w : World) (p : Place) (b : Bool) → IsSound w → IsKnown w (static_truth p b)
static_truth_known w p b sound = truth_known w p (node.Static (value.Bool b)) sound

member_static_known : (w : World) (p : Place) (is : Bool) (x : Expr) (b : Between) (n l h : Option ℤ) → IsSound w → IsKnown w (member_static p is x b n l h)
member_static_known w p is x b (Some n) (Some l) (Some h) sound = static_truth_known w p (same_truth is (within l h n)) sound
member_static_known w p is x b None l h sound = truth_known w p (node.Member is x b.low b.high) sound
member_static_known w p is x b (Some n) None h sound = truth_known w p (node.Member is x b.low b.high) sound
member_static_known w p is x b (Some n) (Some l) None sound = truth_known w p (node.Member is x b.low b.high) sound

member_of_known : (w : World) (p : Place) (is : Bool) (x : Expr) (b : Between) → IsSound w → IsKnown w (member_of p is x b)
member_of_known w p is x b sound = member_static_known w p is x b (number_in x) (number_in b.low) (number_in b.high) sound

member_typed_known : (c : Scope) (p : Place) (is : Bool) (g : Range) (t : ℕ) (x : Expr) (b : Found Between) → IsSound c.world → BetweenFound c.world b → IsKnown c.world (member_typed c p is g t x b)
member_typed_known c p is g t x (found.Refused f) sound h = tt
member_typed_known c p is g t x found.Unknown sound h = absurd h
member_typed_known c p is g t x (found.Is b) sound h =
    either_known c.world (t == type_of c.world b.subtype) (member_of p is x b) (refused code.L7 (place_of c g.low)) (member_of_known c.world p is x b sound) tt

member_number_known : (w : World) (p : Place) (is : Bool) (b : Between) (s : Seen) → IsSound w → IsPlaced w s → IsKnown w (member_number p is b s)
member_number_known w p is b (seen.Refused f) sound h = tt
member_number_known w p is b seen.Unknown sound h = absurd h
member_number_known w p is b (seen.Number n) sound h = absurd h
member_number_known w p is b (seen.Typed t x) sound h = member_of_known w p is x b sound

pub beside_known : (w : World) (f : Refusal) (s : Seen) → IsKnown w (refused_beside f s)
beside_known w f (seen.Refused g) = tt
beside_known w f seen.Unknown = tt
beside_known w f (seen.Number n) = tt
beside_known w f (seen.Typed t x) = tt

member_by_known : (c : Scope) (p : Place) (is : Bool) (q : Place) (g : Range) (x : Seen) (u : Reach) → IsSound c.world → IsKnown c.world x → ReachKnown c.world u → IsKnown c.world (member_by c p is q g x u)
member_by_known c p is q g (seen.Refused f) u sound h i = beside_known c.world f (reach_seen u)
member_by_known c p is q g seen.Unknown u sound h i = absurd h
member_by_known c p is q g (seen.Typed t x) u sound h i =
    member_typed_known c p is g t x (reach_in c code.L7 t g u) sound (reach_in_found c code.L7 t g u (type_stands c.world t (subtype_of x) h) i)
member_by_known c p is q g (seen.Number n) (reach.Refused f) sound h i = tt
member_by_known c p is q g (seen.Number n) reach.Unknown sound h i = absurd i
member_by_known c p is q g (seen.Number n) (reach.Numbers a b) sound h i = static_truth_known c.world p (same_truth is (within a b n)) sound
member_by_known c p is q g (seen.Number n) (reach.Between b) sound h i =
    member_number_known c.world p is b (placed_number c.world code.L7 q q (type_of c.world b.subtype) n) sound (number_placed c.world code.L7 q q (type_of c.world b.subtype) n (type_there c.world b.subtype sound i))

pub member_known : (c : Scope) (p : Place) (is : Bool) (a : Operand) (g : Range) (k : Option ℕ) → IsSound c.world → OperandKnown c.world a → RangeKnown c.world g → KindThere c.world k → IsKnown c.world (member_seen c p is a g k)
member_known c p is a g k sound h i j =
    let q = place_of c a in
    let u = want_or want.Free k in
    let s = operand c.world demand.Ordered code.L7 q (seen_of c a u) in
    member_by_known c p is q g s (reach_of c code.L7 (want_or want.Free a.kind) g) sound (operand_as c.world demand.Ordered code.L7 q (seen_of c a u) (operand_known c a u sound h (want_given c.world want.Free k tt j)))
    (reach_known c code.L7 (want_or want.Free a.kind) g sound (want_given c.world want.Free a.kind tt h.kind) i)

-- ---- choices

static_number_found : (r : Code) (p : Place) (n : Option ℤ) → IsFound (static_number r p n)
static_number_found r p (Some n) = tt
static_number_found r p None = tt

static_value_found : (w : World) (r : Code) (p : Place) (s : Seen) → IsKnown w s → IsFound (static_value r p s)
static_value_found w r p (seen.Refused f) h = tt
static_value_found w r p seen.Unknown h = absurd h
static_value_found w r p (seen.Number n) h = tt
static_value_found w r p (seen.Typed t x) h = static_number_found r p (number_in x)

value_at_found : (c : Scope) (r : Code) (t : ℕ) (q : Place) (s : Seen) → IsThere c.world t → IsKnown c.world s → IsFound (value_at c r t q s)
value_at_found c r t q s h i = static_value_found c.world r q (typed_as c r t q s) (placed_known c.world (typed_as c r t q s) (typed_placed c r t q s h i))

static_bounds_found : (r : Code) (p q : Place) (a b : Option ℤ) → IsFound (static_bounds r p q a b)
static_bounds_found r p q (Some a) (Some b) = tt
static_bounds_found r p q None b = tt
static_bounds_found r p q (Some a) None = tt

type_bounds_found : (c : Scope) (r : Code) (t : ℕ) (p : Place) (b : Between) → IsFound (bounds_of_type c r t p b)
type_bounds_found c r t p b =
    found_if (t == type_of c.world b.subtype) (static_bounds r p p (number_in b.low) (number_in b.high)) (found.Refused (broken r p)) (static_bounds_found r p p (number_in b.low) (number_in b.high)) tt

reach_bounds_found : (c : Scope) (r : Code) (t : ℕ) (p : Place) (u : Reach) → ReachKnown c.world u → IsFound (reach_bounds c r t p u)
reach_bounds_found c r t p (reach.Refused f) h = tt
reach_bounds_found c r t p reach.Unknown h = absurd h
reach_bounds_found c r t p (reach.Between b) h = type_bounds_found c r t p b
reach_bounds_found c r t p (reach.Numbers a b) h = tt

value_choice_found : (c : Scope) (r : Code) (t : ℕ) (p : Place) (s : Seen) → IsThere c.world t → IsKnown c.world s → IsFound (with_found choice.Value (value_at c r t p s))
value_choice_found c r t p s h i = with_found_found choice.Value (value_at c r t p s) (value_at_found c r t p s h i)

choice_found : (c : Scope) (r : Code) (t : ℕ) (p : Place) (f : Prefix) → IsSound c.world → IsThere c.world t → PrefixKnown c.world f → IsFound (choice_by c r t p f)
choice_found c r t p (prefix.Subtype k) sound h i =
    let u = subtype_reach r p k (form_at c.world k) in
    with_found_found choice.Range (reach_bounds c r t p u) (reach_bounds_found c r t p u (subtype_known c.world r p k i))
choice_found c r t p (prefix.Range b) sound h i = with_found_found choice.Range (bounds_of_type c r t p b) (type_bounds_found c r t p b)
choice_found c r t p prefix.Package sound h i = value_choice_found c r t p (value_of c p prefix.Package) h (value_known c p prefix.Package sound i)
choice_found c r t p (prefix.Routine q) sound h i = value_choice_found c r t p (value_of c p (prefix.Routine q)) h (value_known c p (prefix.Routine q) sound i)
choice_found c r t p (prefix.Called q as') sound h i = value_choice_found c r t p (value_of c p (prefix.Called q as')) h (value_known c p (prefix.Called q as') sound i)
choice_found c r t p (prefix.Mapping m u k) sound h i = value_choice_found c r t p (value_of c p (prefix.Mapping m u k)) h tt
choice_found c r t p (prefix.Constant u x) sound h i = value_choice_found c r t p (value_of c p (prefix.Constant u x)) h i
choice_found c r t p (prefix.Part g) sound h i = value_choice_found c r t p (value_of c p (prefix.Part g)) h (value_known c p (prefix.Part g) sound i)
choice_found c r t p (prefix.Value s) sound h i = value_choice_found c r t p s h i

pub single_found : (c : Scope) (t : ℕ) (o : Operand) → IsSound c.world → IsThere c.world t → OperandKnown c.world o → IsFound (with_found choice_range (single_choice c code.L16 t o))
single_found c t o sound h i =
    with_found_found choice_range (single_choice c code.L16 t o) (choice_found c code.L16 t (place_of c o) (o.prefix (want.Type t)) sound h (i.prefix (want.Type t) h))

pub range_choice_found : (c : Scope) (t : ℕ) (l h : Operand) → IsSound c.world → IsThere c.world t → OperandKnown c.world l → OperandKnown c.world h → IsFound (with_found choice_range (range_choice c code.L16 t l h))
range_choice_found c t l h sound i j k =
    let x = value_at c code.L16 t (place_of c l) (seen_of c l (want.Type t)) in
    let y = value_at c code.L16 t (place_of c h) (seen_of c h (want.Type t)) in
    with_found_found choice_range (range_choice c code.L16 t l h)
    (both_found (λ a b. choice.Range (record { first = a; last = b })) x y (value_at_found c code.L16 t (place_of c l) (seen_of c l (want.Type t)) i (operand_known c l (want.Type t) sound j i))
    (value_at_found c code.L16 t (place_of c h) (seen_of c h (want.Type t)) i (operand_known c h (want.Type t) sound k i)))
