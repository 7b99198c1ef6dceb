-- What stands in a scope.
use Rattle.std.specs.Prelude.{ℕ, suc, ℤ, pos, not, ◌&&◌, ◌==◌, List, [], ◌∷◌, Option, Some, None, take, drop, if◌then◌else◌, int_lt, ◌-ℤ◌, ◌+ℤ◌}
use Rattle.std.specs.Ordering.{int_eq}
use Rattle.ada_values.specs.declared.place.Place.{Place}
use Rattle.ada_values.specs.declared.values.Value.{Value}
use Rattle.ada_values.specs.declared.values.Value.TheVariants as value
use Rattle.name_library.specs.declared.links.Link.{Link}
use Rattle.name_library.specs.declared.links.Link.TheVariants as link
use Rattle.name_library.specs.declared.links.Spot.{Spot}
use Rattle.typed_units.specs.declared.expressions.Expr.{Expr}
use Rattle.typed_units.specs.declared.expressions.ExprNode.{ExprNode}
use Rattle.typed_units.specs.declared.operators.Bounds.{Bounds}
use Rattle.typed_units.specs.declared.operators.Object.{Object}
use Rattle.typed_units.specs.declared.operators.Object.TheVariants as object
use Rattle.type_base.specs.Scope.{Scope}
use Rattle.type_base.specs.declared.entities.Access.TheVariants as access
use Rattle.type_base.specs.declared.entities.Entity.{Entity}
use Rattle.type_base.specs.declared.entities.Entity.TheVariants as entity
use Rattle.type_base.specs.declared.seen.Parameter.{Parameter}
use Rattle.type_base.specs.declared.seen.Seen.{Seen}
use Rattle.type_base.specs.declared.seen.Seen.TheVariants as seen
use Rattle.type_base.specs.declared.world.Component.{Component}
use Rattle.type_base.specs.declared.world.Form.{Form}
use Rattle.type_base.specs.declared.world.Form.TheVariants as form
use Rattle.type_base.specs.declared.world.World.{World}
use Rattle.type_base.specs.Demands.{made}
use Rattle.type_base.specs.Lookups.{form_at, type_at}
use Rattle.type_base.specs.Standard.{boolean, linked}

-- ---- what names stand for

abbrev pub declared_at : World → List Parameter → Spot → Entity
declared_at w [] s = linked w (link.Declared s)
declared_at w (i ∷ is) s =
    if (i.spot.file == s.file) && (i.spot.at == s.at) then entity.Object i.subtype i.object access.LoopParameter
    else declared_at w is s

abbrev pub entity_by : Scope → Option Link → Entity
entity_by c (Some (link.Declared s)) = declared_at c.world c.parameters s
entity_by c (Some (link.Predefined n)) = linked c.world (link.Predefined n)
entity_by c None = entity.Unknown

-- what the identifier at a byte stands for
abbrev pub entity_of : Scope → ℕ → Entity
entity_of c at = entity_by c (c.link at)

-- the spot of an identifier of this text
abbrev pub spot_of : Scope → ℕ → Spot
spot_of c at = record { file = (c.place at).file; at = at }

-- the scope of what has a parameter or an index that stands at a byte
abbrev pub with_parameter : Scope → ℕ → ℕ → Object → Scope
with_parameter c at k o = record c { parameters = record { spot = spot_of c at; subtype = k; object = o } ∷ c.parameters }

-- that of the predicate of a quantified expression, whose index has a subtype -- Ada RM 4.5.8
abbrev pub with_index : Scope → ℕ → ℕ → Scope
with_index c at k = with_parameter c at k (object.Index (c.number at))

-- ---- parts of subtypes

-- an array's index subtype, its bounds and its item subtype
pub record Array : Type 0 where
  pub index : ℕ
  pub bounds : Option Bounds
  pub item : ℕ

abbrev pub array_in : Option Form → Option Array
array_in (Some (form.Array i b t)) = Some (record { index = i; bounds = b; item = t })
array_in _ = None

abbrev pub array_at : World → ℕ → Option Array
array_at w k = array_in (form_at w k)

abbrev pub record_in : World → Option Form → Option (List Component)
record_in w (Some (form.Record f n)) = Some (take n (drop f w.components))
record_in w _ = None

-- the components of a record subtype
abbrev pub components_at : World → ℕ → Option (List Component)
components_at w k = record_in w (form_at w k)

-- the place of a name among components, counted from n on
abbrev pub place_among : List Component → ℕ → ℕ → Option ℕ
place_among [] m n = None
place_among (c ∷ cs) m n = if c.name == m then Some n else place_among cs m (suc n)

abbrev pub number_or : Option ℕ → ℕ
number_or (Some n) = n
number_or None = 0

-- the type of a subtype that the world has
abbrev pub type_of : World → ℕ → ℕ
type_of w k = number_or (type_at w k)

-- ---- values

-- a value of a scalar type: Boolean's are truth values
abbrev pub scalar_value : ℕ → ℤ → Value
scalar_value t n = if t == boolean then value.Bool (not (int_eq n (pos 0))) else value.Int n

abbrev pub seen_by : Place → ℕ → ExprNode Expr → Option ℕ → Seen
seen_by p k n (Some t) = seen.Typed t (made p k n)
seen_by p k n None = seen.Unknown

-- an expression of a subtype
abbrev pub seen_as : Scope → Place → ℕ → ExprNode Expr → Seen
seen_as c p k n = seen_by p k n (type_at c.world k)

-- how many values stand between two bounds
abbrev pub size_of : Bounds → ℤ
size_of b = if int_lt b.last b.first then pos 0 else (b.last -ℤ b.first) +ℤ pos 1
