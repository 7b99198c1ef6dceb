-- Where the text of a subprogram is read: a world that stands in the program, and what is well typed of what is seen there.
use Rattle.std.specs.Prelude.{◌≡◌, ℕ, true, List, [], ◌∷◌, length, map, take, drop, slice_get, Option, Some}
use Rattle.ada_values.specs.Scalars.{in_base}
use Rattle.ada_values.specs.declared.scalars.Scalar.{Scalar}
use Rattle.ada_values.specs.declared.shapes.ArrayShape.{ArrayShape}
use Rattle.ada_values.specs.declared.shapes.Shape.{Shape}
use Rattle.ada_values.specs.declared.shapes.Shape.TheVariants as shape
use Rattle.typed_units.specs.declared.expressions.Expr.{Expr}
use Rattle.typed_units.specs.declared.expressions.Indexed.{Indexed}
use Rattle.typed_units.specs.declared.expressions.Step.{Step}
use Rattle.typed_units.specs.declared.expressions.Step.TheVariants as step
use Rattle.typed_units.specs.declared.operators.Bounds.{Bounds}
use Rattle.typed_units.specs.declared.programs.Class.{Class}
use Rattle.typed_units.specs.declared.programs.Class.TheVariants as class
use Rattle.typed_units.specs.declared.programs.Program.{Program}
use Rattle.type_base.specs.declared.seen.Seen.{Seen}
use Rattle.type_base.specs.declared.seen.Seen.TheVariants.{Refused, Unknown, Number, Typed}
use Rattle.type_base.specs.declared.seen.Want.{Want}
use Rattle.type_base.specs.declared.seen.Want.TheVariants as want
use Rattle.type_base.specs.declared.world.Component.{Component}
use Rattle.type_base.specs.declared.world.Discrete.{Discrete}
use Rattle.type_base.specs.declared.world.Discrete.TheVariants as discrete
use Rattle.type_base.specs.declared.world.Form.{Form}
use Rattle.type_base.specs.declared.world.Form.TheVariants as form
use Rattle.type_base.specs.declared.world.Subtype.{Subtype}
use Rattle.type_base.specs.declared.world.World.{World}
use Rattle.type_base.specs.Lookups.{form_at, subtype_at, type_at}
use Rattle.typing_laws.specs.Declared.{IsSound}
use Rattle.typing_rules.specs.Attributes as bounded
use Rattle.typing_rules.specs.Lookups.{Array, array_at, components_at}
use Rattle.typing_rules.specs.declared.prefix.Between.{Between}
use Rattle.typing_rules.specs.declared.prefix.Part.{Part}
use Rattle.typing_rules.specs.declared.prefix.Reach.{Reach}
use Rattle.typing_rules.specs.declared.prefix.Reach.TheVariants as reach
use Rattle.program_typing.specs.Expressions.{Bounded, Frame, HasObject, HasSubtype, Indexes}
use Rattle.program_typing.specs.Subtypes.{Has, SoundSubtype, class_of, is_ordered, pair_bounds, shape_of, type_of}

-- ---- subtypes of the world and of the program

abbrev pub class_of_discrete : Discrete → Class
class_of_discrete discrete.Signed = class.Signed
class_of_discrete discrete.Modular = class.Modular
class_of_discrete discrete.Enumeration = class.Enumeration

abbrev pub class_by : Form → Class
class_by (form.Number d s) = class_of_discrete d
class_by form.Truth = class.Boolean
class_by (form.Array i b t) = class.Array i
class_by (form.Record m n) = class.Record

-- the shape of a subtype of this form
pub data IsShape (w : World) : Form → Shape → Type 0 where
  number : (d : Discrete) (s : Scalar) → IsShape w (form.Number d s) (shape.Number s)
  truth : IsShape w form.Truth shape.Truth
  array : (i t : ℕ) (b : Option Bounds) (a : ArrayShape) → pair_bounds a.bounds ≡ b → a.item ≡ t → IsShape w (form.Array i b t) (shape.Array a)
  record_of : (m n : ℕ) → IsShape w (form.Record m n) (shape.Record (map (λ c. c.subtype) (take n (drop m w.components))))

-- subtype k of the program is this subtype of the world
pub record StandsAs (p : Program) (w : World) (k : ℕ) (s : Subtype) : Type 0 where
  pub shape : Shape
  pub of_shape : shape_of p k ≡ Some shape
  pub is_shape : IsShape w s.form shape
  pub of_class : class_of p k ≡ Some (class_by s.form)
  pub of_type : type_of p k ≡ Some s.of

-- a world whose subtypes stand in the program by the same numbers, where they are sound
pub record WorldFits (p : Program) (w : World) : Type 0 where
  pub world : IsSound w
  pub subtypes : (k : ℕ) (s : Subtype) → subtype_at w k ≡ Some s → StandsAs p w k s
  pub sound : (k : ℕ) (s : Subtype) → subtype_at w k ≡ Some s → SoundSubtype p k

-- the context gives a type, or no more than a subtype
abbrev pub GivesType : World → Want → Type 0
GivesType w (want.Type t) = type_at w t ≡ Some t
GivesType w v = Unit {0}

-- ---- what is seen

-- a well-typed expression of a subtype of type t
pub record IsTyped (f : Frame) (w : World) (t : ℕ) (x : Expr) : Type 0 where
  pub subtype : ℕ
  pub has : HasSubtype f x subtype
  pub of_type : type_at w subtype ≡ Some t

-- what is seen, where it is a typed expression, is a well-typed one of its type
abbrev pub IsWell : Frame → World → Seen → Type 0
IsWell f w (Refused r) = Unit {0}
IsWell f w Unknown = Unit {0}
IsWell f w (Number n) = Unit {0}
IsWell f w (Typed t x) = IsTyped f w t x

-- ---- ranges -- L7, L22, L23

-- a range whose bounds are well typed, of the type of its subtype, in which the values between them lie
pub record IsRange (f : Frame) (w : World) (b : Between) : Type 0 where
  pub type : ℕ
  pub of_type : type_at w b.subtype ≡ Some type
  pub ordered : Has is_ordered f.program b.subtype
  pub low : ℕ
  pub low_has : HasSubtype f b.low low
  pub low_type : type_at w low ≡ Some type
  pub low_in : Bounded f.program b.subtype low
  pub high : ℕ
  pub high_has : HasSubtype f b.high high
  pub high_type : type_at w high ≡ Some type
  pub high_in : Bounded f.program b.subtype high

-- what a range reaches over, where it is more than two numbers
abbrev pub ReachesWell : Frame → World → Reach → Type 0
ReachesWell f w (reach.Refused r) = Unit {0}
ReachesWell f w reach.Unknown = Unit {0}
ReachesWell f w (reach.Numbers a b) = Unit {0}
ReachesWell f w (reach.Between b) = IsRange f w b

-- ---- parts of objects -- L14, L15

-- the steps from a part of one subtype to a part of another, by what the world says of their subtypes
pub data PathFits (f : Frame) (w : World) : ℕ → List (Step Expr) → ℕ → Type 0 where
  here : (k : ℕ) → PathFits f w k [] k
  to_component : (k n i j : ℕ) (cs : List Component) (ss : List (Step Expr)) → components_at w k ≡ Some cs → slice_get (map (λ c. c.subtype) cs) n ≡ Some i → PathFits f w i ss j
      → PathFits f w k (step.Component n (length cs) ∷ ss) j
  to_item : (k j : ℕ) (a : Array) (y : Indexed Expr) (ss : List (Step Expr)) → array_at w k ≡ Some a → Indexes f a.index a.bounds y → PathFits f w a.item ss j → PathFits f w k (step.Item a.bounds y ∷ ss) j

-- an object of the frame, or a part of it, whose subtype stands in the world
pub record PartFits (f : Frame) (w : World) (g : Part) : Type 0 where
  pub object : HasObject f g.target.object g.whole
  pub path : PathFits f w g.whole g.target.path g.subtype
  pub type : ℕ
  pub of_type : type_at w g.subtype ≡ Some type

-- ---- the bounds of arrays -- L19

-- bounds in the base range of an index subtype
pub record IndexFits (w : World) (i : ℕ) (b : Bounds) : Type 0 where
  pub discrete : Discrete
  pub scalar : Scalar
  pub is : form_at w i ≡ Some (form.Number discrete scalar)
  pub type : ℕ
  pub of_type : type_at w i ≡ Some type
  pub first : in_base scalar b.first ≡ true
  pub last : in_base scalar b.last ≡ true

-- a well-typed array with this index subtype
pub record IsArrayOf (f : Frame) (w : World) (i : ℕ) (x : Expr) : Type 0 where
  pub subtype : ℕ
  pub has : HasSubtype f x subtype
  pub array : Array
  pub is : array_at w subtype ≡ Some array
  pub index : array.index ≡ i
  pub type : ℕ
  pub of_type : type_at w i ≡ Some type

-- an array as the prefix of an attribute
abbrev pub PrefixFits : Frame → World → bounded.Bounded → Type 0
PrefixFits f w (bounded.static i b) = IndexFits w i b
PrefixFits f w (bounded.known_bounds i b x) = IndexFits w i b × IsArrayOf f w i x
PrefixFits f w (bounded.of_value i x) = IsArrayOf f w i x
PrefixFits f w bounded.no_array = Unit {0}
PrefixFits f w (bounded.unclear s) = IsWell f w s
