-- Parts of the typed program.
use Rattle.std.specs.Prelude.{ℕ, zero, suc, List, [], ◌∷◌, Option, slice_get}
use Rattle.type_base.specs.declared.world.Component.{Component}
use Rattle.type_base.specs.declared.world.Subtype.{Subtype}
use Rattle.typed_units.specs.declared.programs.Type as types
use Rattle.statement_typing.specs.Units.{class_of, subtype_of_component}

-- the subtypes of so many components, from number n on
abbrev pub listed_from : List Component → ℕ → ℕ → List ℕ
listed_from ks n zero = []
listed_from ks n (suc m) = subtype_of_component (slice_get ks n) ∷ listed_from ks (suc n) m

abbrev pub type_named : Option (List ℕ) → Subtype → types.Type
type_named n s = record { name = n; of = s.of; class = class_of s.form }
