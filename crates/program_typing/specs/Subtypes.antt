-- What a typed program says of its subtypes, and which are sound. -- Ada RM 3.2, 3.5, 3.6, 3.8
use Rattle.std.specs.Prelude.{◌≡◌, ℕ, ◌<◌, ◌≤◌, ℤ, pos, negsuc, ◌-ℤ◌, Bool, true, false, List, [], ◌∷◌, slice_get, Option, Some, None, is_some}
use Rattle.std.specs.Int.RustNames.{int_le}
use Rattle.ada_values.specs.Scalars.{in_base, within}
use Rattle.ada_values.specs.Shapes.{bounds_fit}
use Rattle.ada_values.specs.declared.scalars.Scalar.{Scalar}
use Rattle.ada_values.specs.declared.shapes.ArrayShape.{ArrayShape}
use Rattle.ada_values.specs.declared.shapes.Shape.{Shape}
use Rattle.ada_values.specs.declared.shapes.Shape.TheVariants as shape
use Rattle.typed_units.specs.declared.operators.Bounds.{Bounds}
use Rattle.typed_units.specs.declared.programs.Class.{Class}
use Rattle.typed_units.specs.declared.programs.Class.TheVariants as class
use Rattle.typed_units.specs.declared.programs.Program.{Program}
use Rattle.typed_units.specs.declared.programs.Type as types

-- ---- what stands at a subtype's number

abbrev pub shape_of : Program → ℕ → Option Shape
shape_of p k = slice_get p.shapes k

abbrev pub class_in : Option types.Type → Option Class
class_in (Some t) = Some t.class
class_in None = None

abbrev pub class_of : Program → ℕ → Option Class
class_of p k = class_in (slice_get p.types k)

abbrev pub type_in : Option types.Type → Option ℕ
type_in (Some t) = Some t.of
type_in None = None

-- the number of a subtype's type
abbrev pub type_of : Program → ℕ → Option ℕ
type_of p k = type_in (slice_get p.types k)

-- the number is that of a type itself
abbrev pub IsType : Program → ℕ → Type 0
IsType p t = type_of p t ≡ Some t

-- two subtypes of one type
pub record OfOneType (p : Program) (j k : ℕ) : Type 0 where
  pub type : ℕ
  pub first : type_of p j ≡ Some type
  pub second : type_of p k ≡ Some type

-- ---- classes; Boolean is neither an enumeration nor scalar here

abbrev pub is_integer : Class → Bool
is_integer class.Signed = true
is_integer class.Modular = true
is_integer _ = false

-- an integer or an enumeration
abbrev pub is_ordered : Class → Bool
is_ordered class.Signed = true
is_ordered class.Modular = true
is_ordered class.Enumeration = true
is_ordered _ = false

abbrev pub is_enumeration : Class → Bool
is_enumeration class.Enumeration = true
is_enumeration _ = false

-- one that has `'Succ` and `'Pred`
abbrev pub has_next : Class → Bool
has_next class.Signed = true
has_next class.Enumeration = true
has_next _ = false

abbrev pub passes : (Class → Bool) → Option Class → Bool
passes test (Some c) = test c
passes test None = false

-- a subtype of such a class
abbrev pub Has : (Class → Bool) → Program → ℕ → Type 0
Has test p k = passes test (class_of p k) ≡ true

-- ---- bounds and parts

abbrev pub bounds_in : Option Shape → Option Bounds
bounds_in (Some (shape.Number s)) = Some (record { first = s.lo; last = s.hi })
bounds_in _ = None

-- the bounds of a scalar subtype
abbrev pub bounds_of : Program → ℕ → Option Bounds
bounds_of p k = bounds_in (shape_of p k)

abbrev pub pair_bounds : Option (ℤ × ℤ) → Option Bounds
pair_bounds None = None
pair_bounds (Some b) = Some (record { first = b.0; last = b.1 })

abbrev pub fixed_in : Option Shape → Option Bounds
fixed_in (Some (shape.Array a)) = pair_bounds a.bounds
fixed_in _ = None

-- the bounds of a constrained array subtype; none of any other
abbrev pub fixed_bounds : Program → ℕ → Option Bounds
fixed_bounds p k = fixed_in (shape_of p k)

abbrev pub is_constrained_in : Option Shape → Bool
is_constrained_in (Some (shape.Array a)) = is_some a.bounds
is_constrained_in _ = true

-- no array without bounds
abbrev pub IsConstrained : Program → ℕ → Type 0
IsConstrained p k = is_constrained_in (shape_of p k) ≡ true

-- an array subtype with its shape, and the number of its index subtype
pub record IsArray (p : Program) (k i : ℕ) (a : ArrayShape) : Type 0 where
  pub of_class : class_of p k ≡ Some (class.Array i)
  pub of_shape : shape_of p k ≡ Some (shape.Array a)

-- a record subtype, with the subtypes of its components
abbrev pub IsRecord : Program → ℕ → List ℕ → Type 0
IsRecord p k ids = shape_of p k ≡ Some (shape.Record ids)

-- ---- which subtypes are sound

-- a signed base range has 8, 16, 32 or 64 bits -- L20
pub data IsLast : ℕ → Type 0 where
  bits_8 : IsLast 127
  bits_16 : IsLast 32767
  bits_32 : IsLast 2147483647
  bits_64 : IsLast 9223372036854775807

-- the base range of a scalar type, and its modulus -- L20, Ada RM 3.5.1, 3.5.4
pub data HasBase (s : Scalar) : Class → Type 0 where
  signed : (n : ℕ) → IsLast n → s.base_lo ≡ negsuc n → s.base_hi ≡ pos n → s.modulus ≡ None → HasBase s class.Signed
  modular : (n : ℤ) → within (pos 2) (pos 4294967296) n ≡ true → s.base_lo ≡ pos 0 → s.base_hi ≡ n -ℤ pos 1 → s.modulus ≡ Some n → HasBase s class.Modular
  positions : (n : ℕ) → s.base_lo ≡ pos 0 → s.base_hi ≡ pos n → s.modulus ≡ None → HasBase s class.Enumeration

-- a part has a constrained subtype, which stands before the whole's -- L26
pub record IsPart (p : Program) (k j : ℕ) : Type 0 where
  pub before : j < k
  pub constrained : IsConstrained p j

pub data AreParts (p : Program) (k : ℕ) : List ℕ → Type 0 where
  no_parts : AreParts p k []
  one_part : (j : ℕ) (js : List ℕ) → IsPart p k j → AreParts p k js → AreParts p k (j ∷ js)

-- the index values of an array that has bounds lie in its index subtype -- L20, Ada RM 3.6.1(5)
pub data InIndex (a : ArrayShape) : Type 0 where
  any_bounds : a.bounds ≡ None → InIndex a
  of_bounds : (l h : ℤ) → a.bounds ≡ Some (l, h) → bounds_fit None a.index l h ≡ true → InIndex a

-- what the shape of subtype k is by its class; Boolean is number 0
pub data IsSound (p : Program) (k : ℕ) : Class → Shape → Type 0 where
  -- a subtype has a value, and its values lie in the base range -- L20, Ada RM 3.5
  number : (c : Class) (s : Scalar) → HasBase s c → in_base s s.lo ≡ true → in_base s s.hi ≡ true → int_le s.lo s.hi ≡ true → IsSound p k c (shape.Number s)
  truth : k ≡ 0 → IsSound p k class.Boolean shape.Truth
  array : (i : ℕ) (a : ArrayShape) → i < k → Has is_ordered p i → shape_of p i ≡ Some (shape.Number a.index) → IsPart p k a.item → InIndex a → IsSound p k (class.Array i) (shape.Array a)
  record_of : (ids : List ℕ) → AreParts p k ids → IsSound p k class.Record (shape.Record ids)

-- the shape of a type, and that of a subtype of it: a scalar type has its base range, the array subtypes of a type differ in their bounds alone
pub data Widens : Shape → Shape → Type 0 where
  whole_range : (s : Scalar) → Widens (shape.Number (record s { lo = s.base_lo; hi = s.base_hi })) (shape.Number s)
  same_truth : Widens shape.Truth shape.Truth
  same_array : (a : ArrayShape) → Widens (shape.Array a) (shape.Array a)
  with_bounds : (a : ArrayShape) → Widens (shape.Array (record a { bounds = None })) (shape.Array a)
  same_record : (ids : List ℕ) → Widens (shape.Record ids) (shape.Record ids)

-- subtype k and its type, whose entry stands before that of the subtype, or is it -- Ada RM 3.2.2
pub record SoundSubtype (p : Program) (k : ℕ) : Type 0 where
  pub class : Class
  pub of_class : class_of p k ≡ Some class
  pub shape : Shape
  pub of_shape : shape_of p k ≡ Some shape
  pub sound : IsSound p k class shape
  pub type : ℕ
  pub of_type : type_of p k ≡ Some type
  pub before : type ≤ k
  pub is_type : IsType p type
  pub type_class : class_of p type ≡ Some class
  pub type_shape : Shape
  pub of_type_shape : shape_of p type ≡ Some type_shape
  pub widens : Widens type_shape shape
