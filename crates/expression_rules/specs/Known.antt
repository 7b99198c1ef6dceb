-- Worlds in which Standard is declared, and expressions of which all is known.
use Rattle.std.specs.Prelude.{◌≡◌, ℕ, Some}
use Rattle.ada_values.specs.declared.scalars.Scalar.{Scalar}
use Rattle.type_base.specs.declared.seen.Seen.{Seen}
use Rattle.type_base.specs.declared.seen.Seen.TheVariants.{Refused, Unknown, Number, Typed}
use Rattle.type_base.specs.declared.world.Discrete.TheVariants as discrete
use Rattle.type_base.specs.declared.world.Form.{Form}
use Rattle.type_base.specs.declared.world.Form.TheVariants as form
use Rattle.type_base.specs.declared.world.World.{World}
use Rattle.type_base.specs.Demands.{subtype_of}
use Rattle.type_base.specs.Lookups.{form_at}
use Rattle.type_base.specs.Standard.{boolean, integer_base}

-- numbers, where the subtype's are
abbrev pub SameSort : Form → Form → Type 0
SameSort (form.Number d s) (form.Number e u) = Unit {0}
SameSort (form.Number d s) _ = ⊥
SameSort _ g = Unit {0}

-- a subtype and its type stand in the world, and are of one sort
pub record Stands (w : World) (t k : ℕ) : Type 0 where
  pub form : Form
  pub is : form_at w k ≡ Some form
  pub type : Form
  pub type_is : form_at w t ≡ Some type
  pub sort : SameSort form type

-- the types Boolean and Integer stand in the world -- Ada RM A.1
pub record HasStandard (w : World) : Type 0 where
  pub truth : form_at w boolean ≡ Some form.Truth
  pub integer : Scalar
  pub integer_is : form_at w integer_base ≡ Some (form.Number discrete.Signed integer)

-- an expression is accepted, of a subtype and a type that stand in the world, or refused
abbrev pub IsKnown : World → Seen → Type 0
IsKnown w (Refused f) = Unit {0}
IsKnown w Unknown = ⊥
IsKnown w (Number n) = Unit {0}
IsKnown w (Typed t x) = Stands w t (subtype_of x)
