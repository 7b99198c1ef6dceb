-- `'Succ`, `'Pred`, `'Pos` and `'Val`.
use Rattle.std.proofs.Common.{◌≡◌, ap, sym, ◌∙◌, refl, ℕ, ℤ, Bool, true, false, Option, Some, None}
use Rattle.ada_values.specs.Scalars.{in_base}
use Rattle.ada_values.specs.declared.place.Place.{Place}
use Rattle.ada_values.specs.declared.scalars.Scalar.{Scalar}
use Rattle.ada_values.specs.declared.values.Value.TheVariants as values
use Rattle.front_codes.specs.declared.codes.Code.TheVariants.{L11, L29}
use Rattle.typed_units.specs.declared.expressions.Expr.{Expr}
use Rattle.typed_units.specs.declared.expressions.ExprNode.TheVariants as node
use Rattle.typed_units.specs.declared.programs.Class.{Class}
use Rattle.typed_units.specs.declared.programs.Program.{Program}
use Rattle.type_base.specs.Scope.{Scope}
use Rattle.type_base.specs.declared.seen.Seen.{Seen}
use Rattle.type_base.specs.declared.seen.Seen.TheVariants as seen
use Rattle.type_base.specs.declared.world.Discrete.{Discrete}
use Rattle.type_base.specs.declared.world.Discrete.TheVariants as discrete
use Rattle.type_base.specs.declared.world.Form.{Form}
use Rattle.type_base.specs.declared.world.Form.TheVariants as form
use Rattle.type_base.specs.declared.world.World.{World}
use Rattle.type_base.specs.Demands.{check_of, is_integer, refused}
use Rattle.type_base.specs.Lookups.{form_at, type_at}
use Rattle.type_base.specs.Results.{number_in}
use Rattle.type_base.specs.Standard.{integer_base}
use Rattle.typing_rules.specs.Attributes.{is_enumeration, literal, literal_by, literal_of, next, next_node, next_of, next_value, not_modular, position, position_of, static_in}
use Rattle.typing_rules.specs.Lookups.{seen_as}
use Rattle.program_typing.specs.Expressions as rule
use Rattle.program_typing.specs.Expressions.{Frame, Gives, HasSubtype}
use Rattle.program_typing.specs.Subtypes as subtypes
use Rattle.program_typing.specs.Subtypes.{Has, class_of, passes}
use Rattle.well_typed_programs.specs.Fits as world
use Rattle.well_typed_programs.specs.Fits.{IsTyped, IsWell, WorldFits}
use Rattle.well_typed_programs.proofs.Converting.{convert_gives, seen_as_is}
use Rattle.well_typed_programs.proofs.Operators.{integer_class}
use Rattle.well_typed_programs.proofs.Worlds.{base_in_shape, class_kept, class_there, is_type, type_in_program, type_itself, well_if}

-- a static value in the base range of a type
static_in_is : (f : Frame) (c : Scope) (p : Place) (k : ℕ) (n : ℤ) (m : Option Form) → WorldFits f.program c.world → type_at c.world k ≡ Some k → form_at c.world k ≡ m → IsWell f c.world (static_in c p k n m)
static_in_is f c p k n None h e g = tt
static_in_is f c p k n (Some form.Truth) h e g = tt
static_in_is f c p k n (Some (form.Array i b t)) h e g = tt
static_in_is f c p k n (Some (form.Record i b)) h e g = tt
static_in_is f c p k n (Some (form.Number d s)) h e g =
    well_if f c.world (in_base s n) (seen_as c p k (node.Static (values.Int n))) (refused L29 p)
    (λ i. seen_as_is f c p k (node.Static (values.Int n)) (λ t z. rule.static f k (values.Int n) (base_in_shape f.program c.world k d s n h e g i))) tt

next_class : (d : Discrete) → not_modular d ≡ true → subtypes.has_next (world.class_of_discrete d) ≡ true
next_class discrete.Signed e = refl
next_class discrete.Modular e = e
next_class discrete.Enumeration e = refl

enumeration_class : (d : Discrete) → is_enumeration d ≡ true → subtypes.is_enumeration (world.class_of_discrete d) ≡ true
enumeration_class discrete.Signed e = e
enumeration_class discrete.Modular e = e
enumeration_class discrete.Enumeration e = refl

-- the type of a subtype of such a class is of such a class
pub type_of_class : (p : Program) (w : World) (k t : ℕ) (d : Discrete) (s : Scalar) (test : Class → Bool) → WorldFits p w → type_at w k ≡ Some t → form_at w k ≡ Some (form.Number d s) → test (world.class_of_discrete d) ≡ true → Has test p t
type_of_class p w k t d s test h e g i = ap (λ (o : Option Class). passes test o) (class_kept p w k t h e ∙ class_there p w k (form.Number d s) h g) ∙ i

next_gives : (f : Frame) (up : Bool) (q : Place) (x : Expr) (i j : ℕ) → HasSubtype f x i → subtypes.type_of f.program i ≡ Some j → Has subtypes.has_next f.program j → Gives f (next_node up q x) j
next_gives f true q x i j h e g = rule.succ f q x i j h e g
next_gives f false q x i j h e g = rule.pred f q x i j h e g

next_of_is : (f : Frame) (c : Scope) (p : Place) (up : Bool) (q : Place) (j : ℕ) (x : Expr) (m : Option ℤ) → WorldFits f.program c.world → (z : IsTyped f c.world j x) → Has subtypes.has_next f.program j → IsWell f c.world (next_of c p up q j x m)
next_of_is f c p up q j x None h z g =
    seen_as_is f c p j (next_node up q x) (λ t e. next_gives f up q x z.subtype j z.has (type_in_program f.program c.world z.subtype j h z.of_type) g)
next_of_is f c p up q j x (Some n) h z g = static_in_is f c p j (next up n) (form_at c.world j) h (type_itself f.program c.world z.subtype j h z.of_type) refl

pub next_is : (f : Frame) (c : Scope) (p : Place) (up : Bool) (q : Place) (k j i : ℕ) (d : Discrete) (s : Scalar) (x : Expr) → WorldFits f.program c.world → form_at c.world k ≡ Some (form.Number d s) → not_modular d ≡ true
    → type_at c.world k ≡ Some j → IsTyped f c.world j x → IsWell f c.world (next_value c p up q i (seen.Typed j x))
next_is f c p up q k j i d s x h g m e z =
    next_of_is f c p up q j x (number_in x) h z (type_of_class f.program c.world k j d s subtypes.has_next h e g (next_class d m))

position_of_is : (f : Frame) (c : Scope) (p : Place) (j : ℕ) (x : Expr) (m : Option ℤ) → WorldFits f.program c.world → IsTyped f c.world j x → Has subtypes.is_enumeration f.program j → IsWell f c.world (position_of c p x m)
position_of_is f c p j x (Some n) h z g = tt
position_of_is f c p j x None h z g =
    seen_as_is f c p integer_base (node.Same x)
    (λ t e. rule.position f x z.subtype z.has (ap (λ (o : Option Class). passes subtypes.is_enumeration o) (sym (class_kept f.program c.world z.subtype j h z.of_type)) ∙ g))

pub position_is : (f : Frame) (c : Scope) (p : Place) (k j : ℕ) (d : Discrete) (s : Scalar) (x : Expr) → WorldFits f.program c.world → form_at c.world k ≡ Some (form.Number d s) → is_enumeration d ≡ true
    → type_at c.world k ≡ Some j → IsTyped f c.world j x → IsWell f c.world (position c p (seen.Typed j x))
position_is f c p k j d s x h g m e z =
    position_of_is f c p j x (number_in x) h z (type_of_class f.program c.world k j d s subtypes.is_enumeration h e g (enumeration_class d m))

literal_of_is : (f : Frame) (c : Scope) (p : Place) (k j u : ℕ) (x : Expr) (m : Option ℤ) → WorldFits f.program c.world → type_at c.world k ≡ Some k → Has subtypes.is_enumeration f.program k → HasSubtype f x j → type_at c.world j ≡ Some u
    → Has subtypes.is_integer f.program j → IsWell f c.world (literal_of c p k x m)
literal_of_is f c p k j u x (Some n) h e g i a b = static_in_is f c p k n (form_at c.world k) h e refl
literal_of_is f c p k j u x None h e g i a b =
    seen_as_is f c p k (node.Convert (check_of c.world k x) x)
    (λ t y. convert_gives f c.world k j k u x h e a i (rule.positions b g (is_type f.program c.world k k h e)))

literal_by_is : (f : Frame) (c : Scope) (p : Place) (k : ℕ) (q : Place) (u : ℕ) (x : Expr) (m : Option Form) → WorldFits f.program c.world → type_at c.world k ≡ Some k → Has subtypes.is_enumeration f.program k → (z : IsTyped f c.world u x)
    → form_at c.world u ≡ m → IsWell f c.world (literal_by c p k q x m)
literal_by_is f c p k q u x None h e g z i = tt
literal_by_is f c p k q u x (Some a) h e g z i =
    well_if f c.world (is_integer a) (literal_of c p k x (number_in x)) (refused L11 q)
    (λ b.
    let whole = ap (λ (o : Option Class). passes subtypes.is_integer o) (sym (class_kept f.program c.world z.subtype u h z.of_type)) ∙ integer_class f.program c.world u a h i b in
    literal_of_is f c p k z.subtype u x (number_in x) h e g z.has z.of_type whole) tt

literal_type_is : (f : Frame) (c : Scope) (p : Place) (k : ℕ) (q : Place) (u : Seen) → WorldFits f.program c.world → type_at c.world k ≡ Some k → Has subtypes.is_enumeration f.program k → IsWell f c.world u → IsWell f c.world (literal c p k q u)
literal_type_is f c p k q (seen.Refused r) h e g z = tt
literal_type_is f c p k q seen.Unknown h e g z = tt
literal_type_is f c p k q (seen.Number n) h e g z = static_in_is f c p k n (form_at c.world k) h e refl
literal_type_is f c p k q (seen.Typed u x) h e g z = literal_by_is f c p k q u x (form_at c.world u) h e g z refl

pub literal_is : (f : Frame) (c : Scope) (p : Place) (k j : ℕ) (q : Place) (d : Discrete) (s : Scalar) (u : Seen) → WorldFits f.program c.world → form_at c.world k ≡ Some (form.Number d s) → is_enumeration d ≡ true
    → type_at c.world k ≡ Some j → IsWell f c.world u → IsWell f c.world (literal c p j q u)
literal_is f c p k j q d s u h g m e z =
    literal_type_is f c p j q u h (type_itself f.program c.world k j h e) (type_of_class f.program c.world k j d s subtypes.is_enumeration h e g (enumeration_class d m)) z
