-- Ranges and membership tests.
use Rattle.std.proofs.Common.{◌≡◌, ap, subst, sym, ◌∙◌, refl, true≢false, ℕ, ℤ, Bool, true, false, Option, Some, None, arith}
use Rattle.std.specs.Prelude.{◌==◌, int_le}
use Rattle.std.proofs.lemmas.Bool.{eqb-true}
use Rattle.std.proofs.lemmas.Int.{ints}
use Rattle.ada_values.specs.Scalars.{within}
use Rattle.ada_values.specs.declared.place.Place.{Place}
use Rattle.ada_values.specs.declared.scalars.Scalar.{Scalar}
use Rattle.ada_values.specs.declared.shapes.Shape.{Shape}
use Rattle.ada_values.specs.declared.shapes.Shape.TheVariants as shape
use Rattle.ada_values.specs.declared.values.Value.TheVariants as values
use Rattle.front_codes.specs.declared.codes.Code.{Code}
use Rattle.front_codes.specs.declared.codes.Code.TheVariants.{L7}
use Rattle.typed_units.specs.declared.expressions.Expr.{Expr}
use Rattle.typed_units.specs.declared.expressions.ExprNode.TheVariants as node
use Rattle.typed_units.specs.declared.programs.Class.{Class}
use Rattle.typed_units.specs.declared.programs.Program.{Program}
use Rattle.type_base.specs.Scope.{Scope}
use Rattle.type_base.specs.declared.seen.Agreed.{Agreed}
use Rattle.type_base.specs.declared.seen.Agreed.TheVariants as agreed
use Rattle.type_base.specs.declared.seen.Demand.TheVariants as demand
use Rattle.type_base.specs.declared.seen.Seen.{Seen}
use Rattle.type_base.specs.declared.seen.Seen.TheVariants as seen
use Rattle.type_base.specs.declared.world.Discrete.{Discrete}
use Rattle.type_base.specs.declared.world.Form.{Form}
use Rattle.type_base.specs.declared.world.Form.TheVariants as form
use Rattle.type_base.specs.declared.world.World.{World}
use Rattle.type_base.specs.Demands.{agree, operand, placed_number, refused}
use Rattle.type_base.specs.Lookups.{form_at, subtype_at, type_at, type_in}
use Rattle.type_base.specs.Results.{number_in}
use Rattle.type_base.specs.Standard.{boolean}
use Rattle.typing_rules.specs.declared.prefix.Between.{Between}
use Rattle.typing_rules.specs.declared.prefix.Found.{Found}
use Rattle.typing_rules.specs.declared.prefix.Found.TheVariants as found
use Rattle.typing_rules.specs.declared.prefix.Reach.{Reach}
use Rattle.typing_rules.specs.declared.prefix.Reach.TheVariants as reach
use Rattle.typing_rules.specs.Fits.{both}
use Rattle.typing_rules.specs.Lookups.{number_or, type_of}
use Rattle.typing_rules.specs.Parts.{Range}
use Rattle.typing_rules.specs.Ranges.{bounds_reach, found_expr, high_place, member_by, member_number, member_of, member_static, member_typed, reach_in, same_truth, static_range, subtype_reach}
use Rattle.typing_rules.specs.Values.{place_of}
use Rattle.program_typing.specs.Expressions as rule
use Rattle.program_typing.specs.Expressions.{Frame, Gives, HasSubtype}
use Rattle.program_typing.specs.Subtypes as subtypes
use Rattle.program_typing.specs.Subtypes.{Has, IsSound, class_of, passes}
use Rattle.well_typed_programs.specs.Fits.{IsRange, IsTyped, IsWell, ReachesWell, WorldFits}
use Rattle.well_typed_programs.proofs.Operators.{AreOperands, IsPlaced, Operand, agree_is, number_is, operand_is, ordered_there}
use Rattle.well_typed_programs.proofs.Results.{truth_is}
use Rattle.well_typed_programs.proofs.Converting.{int_in_shape}
use Rattle.well_typed_programs.proofs.Worlds.{boolean_type, class_kept, form_there, made_is, number_there, some_is, sound_there, type_in_program, type_itself, well_if}

-- ---- two bounds

-- operands of an ordered type
type_ordered : (f : Frame) (w : World) (t : ℕ) (x : Expr) → WorldFits f.program w → (z : Operand f w demand.Ordered t x) → Has subtypes.is_ordered f.program t
type_ordered f w t x h z = ap (λ (c : Option Class). passes subtypes.is_ordered c) (class_kept f.program w z.subtype t h z.of_type) ∙ z.meets

range_is : (f : Frame) (w : World) (t : ℕ) (x y : Expr) → WorldFits f.program w → Operand f w demand.Ordered t x → Operand f w demand.Ordered t y → IsRange f w (record { subtype = t; low = x; high = y })
range_is f w t x y h a b = record {
  type = t;
  of_type = type_itself f.program w a.subtype t h a.of_type;
  ordered = type_ordered f w t x h a;
  low = a.subtype;
  low_has = a.has;
  low_type = a.of_type;
  low_in = rule.its_type (type_in_program f.program w a.subtype t h a.of_type);
  high = b.subtype;
  high_has = b.has;
  high_type = b.of_type;
  high_in = rule.its_type (type_in_program f.program w b.subtype t h b.of_type);
}

reach_is : (f : Frame) (w : World) (g : Agreed) → WorldFits f.program w → AreOperands f w demand.Ordered g → ReachesWell f w (bounds_reach g)
reach_is f w (agreed.Refused r) h z = tt
reach_is f w agreed.Unknown h z = tt
reach_is f w (agreed.Numbers a b) h z = tt
reach_is f w (agreed.Typed t x y) h z = range_is f w t x y h z.0 z.1

pub bounds_are : (f : Frame) (w : World) (r : Code) (p q : Place) (s u : Seen) → WorldFits f.program w → IsWell f w s → IsWell f w u → ReachesWell f w (bounds_reach (agree w r p q (operand w demand.Ordered r p s) (operand w demand.Ordered r q u)))
bounds_are f w r p q s u h a b =
    reach_is f w (agree w r p q (operand w demand.Ordered r p s) (operand w demand.Ordered r q u)) h
    (agree_is f w demand.Ordered r p q (operand w demand.Ordered r p s) (operand w demand.Ordered r q u) h (operand_is f w demand.Ordered r p s h a) (operand_is f w demand.Ordered r q u h b))

-- ---- the range of a subtype

abbrev order_of : Scalar → Shape → Scalar
order_of r (shape.Number s) = s
order_of r _ = r

abbrev is_number : Shape → Bool
is_number (shape.Number s) = true
is_number _ = false

in_order : (p : Program) (k : ℕ) (c : Class) (sh : Shape) (s : Scalar) → IsSound p k c sh → sh ≡ shape.Number s → int_le s.lo s.hi ≡ true
in_order p k _ _ s (subtypes.number c r b l h o) e = ap (λ (q : Scalar). int_le q.lo q.hi) (ap (order_of s) (sym e)) ∙ o
in_order p k _ _ s (subtypes.truth z) e = absurd (true≢false (sym (ap is_number e)))
in_order p k _ _ s (subtypes.array i a x y z u v) e = absurd (true≢false (sym (ap is_number e)))
in_order p k _ _ s (subtypes.record_of ids x) e = absurd (true≢false (sym (ap is_number e)))

first_in : (l h : ℤ) → int_le l h ≡ true → within l h l ≡ true
first_in l h e = grind (arith, ints)

last_in : (l h : ℤ) → int_le l h ≡ true → within l h h ≡ true
last_in l h e = grind (arith, ints)

named_range : (f : Frame) (w : World) (p : Place) (k t : ℕ) (d : Discrete) (s : Scalar) → WorldFits f.program w → type_at w k ≡ Some t → form_at w k ≡ Some (form.Number d s) → IsRange f w (static_range p k k s.lo s.hi)
named_range f w p k t d s h e g =
    let z = sound_there f.program w k t h e in
    let order = in_order f.program k z.class z.shape s z.sound (some_is z.shape (shape.Number s) (sym z.of_shape ∙ number_there f.program w k d s h g)) in
    record {
      type = t;
      of_type = e;
      ordered = ordered_there f.program w k (form.Number d s) h g refl;
      low = k;
      low_has = rule.has f p k (node.Static (values.Int s.lo)) (rule.static f k (values.Int s.lo) (int_in_shape f.program w k d s s.lo h g (first_in s.lo s.hi order)));
      low_type = e;
      low_in = rule.same_subtype refl;
      high = k;
      high_has = rule.has f p k (node.Static (values.Int s.hi)) (rule.static f k (values.Int s.hi) (int_in_shape f.program w k d s s.hi h g (last_in s.lo s.hi order)));
      high_type = e;
      high_in = rule.same_subtype refl;
    }

subtype_by : (f : Frame) (w : World) (r : Code) (p : Place) (k : ℕ) (m : Option Form) → WorldFits f.program w → form_at w k ≡ m → ReachesWell f w (subtype_reach r p k m)
subtype_by f w r p k None h e = tt
subtype_by f w r p k (Some form.Truth) h e = tt
subtype_by f w r p k (Some (form.Array i b t)) h e = tt
subtype_by f w r p k (Some (form.Record i b)) h e = tt
subtype_by f w r p k (Some (form.Number d s)) h e =
    let z = form_there (subtype_at w k) (form.Number d s) e in named_range f w p k (z.0).of d s h (ap (λ o. type_in o) z.1) e

pub subtype_is : (f : Frame) (w : World) (r : Code) (p : Place) (k : ℕ) → WorldFits f.program w → ReachesWell f w (subtype_reach r p k (form_at w k))
subtype_is f w r p k h = subtype_by f w r p k (form_at w k) h refl

-- ---- universal bounds take a type

abbrev FoundRange : Frame → World → Found Between → Type 0
FoundRange f w (found.Is b) = IsRange f w b
FoundRange f w _ = Unit {0}

two_placed : (f : Frame) (w : World) (t : ℕ) (a b : Seen) → WorldFits f.program w → IsPlaced f w demand.Ordered t a → IsPlaced f w demand.Ordered t b
    → FoundRange f w (both (λ x y. record { subtype = t; low = x; high = y }) (found_expr a) (found_expr b))
two_placed f w t (seen.Refused r) (seen.Refused s) h x y = tt
two_placed f w t (seen.Refused r) seen.Unknown h x y = tt
two_placed f w t (seen.Refused r) (seen.Number n) h x y = tt
two_placed f w t (seen.Refused r) (seen.Typed u e) h x y = tt
two_placed f w t seen.Unknown (seen.Refused s) h x y = tt
two_placed f w t seen.Unknown seen.Unknown h x y = tt
two_placed f w t seen.Unknown (seen.Number n) h x y = tt
two_placed f w t seen.Unknown (seen.Typed u e) h x y = tt
two_placed f w t (seen.Number m) (seen.Refused s) h x y = tt
two_placed f w t (seen.Number m) seen.Unknown h x y = tt
two_placed f w t (seen.Number m) (seen.Number n) h x y = tt
two_placed f w t (seen.Number m) (seen.Typed u e) h x y = tt
two_placed f w t (seen.Typed v d) (seen.Refused s) h x y = tt
two_placed f w t (seen.Typed v d) seen.Unknown h x y = tt
two_placed f w t (seen.Typed v d) (seen.Number n) h x y = tt
two_placed f w t (seen.Typed v d) (seen.Typed u e) h x y = range_is f w t d e h x.1 y.1

reach_in_is : (f : Frame) (c : Scope) (r : Code) (t : ℕ) (g : Range) (u : Reach) → WorldFits f.program c.world → type_at c.world t ≡ Some t → ReachesWell f c.world u → FoundRange f c.world (reach_in c r t g u)
reach_in_is f c r t g (reach.Refused s) h e z = tt
reach_in_is f c r t g reach.Unknown h e z = tt
reach_in_is f c r t g (reach.Between b) h e z = z
reach_in_is f c r t g (reach.Numbers a b) h e z =
    two_placed f c.world t (placed_number c.world r (place_of c g.low) (place_of c g.low) t a) (placed_number c.world r (high_place c g g.high) (high_place c g g.high) t b) h
    (number_is f c.world demand.Ordered r (place_of c g.low) (place_of c g.low) t a (form_at c.world t) h refl e refl)
    (number_is f c.world demand.Ordered r (high_place c g g.high) (high_place c g g.high) t b (form_at c.world t) h refl e refl)

-- ---- membership

member_gives : (f : Frame) (w : World) (is : Bool) (x : Expr) (j t : ℕ) (b : Between) → WorldFits f.program w → (z : IsRange f w b) → HasSubtype f x j → type_at w j ≡ Some t → t ≡ z.type → Gives f (node.Member is x b.low b.high) boolean
member_gives f w is x j t b h z i e s =
    let p = f.program in
    rule.membership f is x b.low b.high j z.low z.high z.type i z.low_has z.high_has
    (type_in_program p w j t h e ∙ ap (λ (n : ℕ). Some n) s) (type_in_program p w z.low z.type h z.low_type) (type_in_program p w z.high z.type h z.high_type)
    (ap (λ (c : Option Class). passes subtypes.is_ordered c) (class_kept p w b.subtype z.type h z.of_type) ∙ z.ordered)

tested_is : (f : Frame) (w : World) (p : Place) (is : Bool) (x : Expr) (b : Between) (n l u : Option ℤ) → WorldFits f.program w → Gives f (node.Member is x b.low b.high) boolean → IsWell f w (member_static p is x b n l u)
tested_is f w p is x b (Some n) (Some l) (Some u) h g = truth_is f w p (same_truth is (within l u n)) h
tested_is f w p is x b (Some n) (Some l) None h g = made_is f w p boolean boolean (node.Member is x b.low b.high) (boolean_type f.program w h) g
tested_is f w p is x b (Some n) None u h g = made_is f w p boolean boolean (node.Member is x b.low b.high) (boolean_type f.program w h) g
tested_is f w p is x b None l u h g = made_is f w p boolean boolean (node.Member is x b.low b.high) (boolean_type f.program w h) g

type_is : (w : World) (k t : ℕ) → type_at w k ≡ Some t → type_of w k ≡ t
type_is w k t e = ap number_or e

typed_member : (f : Frame) (c : Scope) (p : Place) (is : Bool) (g : Range) (t : ℕ) (x : Expr) (b : Found Between) → WorldFits f.program c.world → IsTyped f c.world t x → FoundRange f c.world b → IsWell f c.world (member_typed c p is g t x b)
typed_member f c p is g t x (found.Refused r) h a z = tt
typed_member f c p is g t x found.Unknown h a z = tt
typed_member f c p is g t x (found.Is b) h a z =
    well_if f c.world (t == type_of c.world b.subtype) (member_of p is x b) (refused L7 (place_of c g.low))
    (λ e. tested_is f c.world p is x b (number_in x) (number_in b.low) (number_in b.high) h
    (member_gives f c.world is x a.subtype t b h z a.has a.of_type (eqb-true t (type_of c.world b.subtype) e ∙ type_is c.world b.subtype z.type z.of_type))) tt

number_member : (f : Frame) (w : World) (p : Place) (is : Bool) (b : Between) (s : Seen) → WorldFits f.program w → (z : IsRange f w b) → IsPlaced f w demand.Ordered z.type s → IsWell f w (member_number p is b s)
number_member f w p is b (seen.Refused r) h z a = tt
number_member f w p is b seen.Unknown h z a = tt
number_member f w p is b (seen.Number n) h z a = tt
number_member f w p is b (seen.Typed t x) h z a =
    let y = a.1 in tested_is f w p is x b (number_in x) (number_in b.low) (number_in b.high) h (member_gives f w is x y.subtype z.type b h z y.has y.of_type refl)

pub member_is : (f : Frame) (c : Scope) (p : Place) (is : Bool) (q : Place) (g : Range) (s : Seen) (u : Reach) → WorldFits f.program c.world → IsWell f c.world s → ReachesWell f c.world u → IsWell f c.world (member_by c p is q g s u)
member_is f c p is q g (seen.Refused r) (reach.Refused d) h a z = tt
member_is f c p is q g (seen.Refused r) reach.Unknown h a z = tt
member_is f c p is q g (seen.Refused r) (reach.Numbers l u) h a z = tt
member_is f c p is q g (seen.Refused r) (reach.Between b) h a z = tt
member_is f c p is q g seen.Unknown (reach.Refused d) h a z = tt
member_is f c p is q g seen.Unknown reach.Unknown h a z = tt
member_is f c p is q g seen.Unknown (reach.Numbers l u) h a z = tt
member_is f c p is q g seen.Unknown (reach.Between b) h a z = tt
member_is f c p is q g (seen.Typed t x) u h a z =
    typed_member f c p is g t x (reach_in c L7 t g u) h a (reach_in_is f c L7 t g u h (type_itself f.program c.world a.subtype t h a.of_type) z)
member_is f c p is q g (seen.Number n) (reach.Refused d) h a z = tt
member_is f c p is q g (seen.Number n) reach.Unknown h a z = tt
member_is f c p is q g (seen.Number n) (reach.Numbers l u) h a z = truth_is f c.world p (same_truth is (within l u n)) h
member_is f c p is q g (seen.Number n) (reach.Between b) h a z =
    let t = z.type in
    let same : type_of c.world b.subtype ≡ t = type_is c.world b.subtype t z.of_type in
    subst (λ (k : ℕ). IsWell f c.world (member_number p is b (placed_number c.world L7 q q k n))) (sym same)
    (number_member f c.world p is b (placed_number c.world L7 q q t n) h z
    (number_is f c.world demand.Ordered L7 q q t n (form_at c.world t) h refl (type_itself f.program c.world b.subtype t h z.of_type) refl))
