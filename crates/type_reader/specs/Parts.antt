-- Parts of types.
use Rattle.std.specs.Prelude.{ℕ, Some, None}
use Rattle.statement_typing.specs.declared.parts.Definition.{Definition}
use Rattle.statement_typing.specs.declared.parts.Definition.TheVariants.{Integer}
use Rattle.statement_typing.specs.declared.parts.Indexes.{Indexes}
use Rattle.statement_typing.specs.declared.parts.StaticRange.{StaticRange}
use Rattle.statement_typing.specs.Types.{signed_scalar}
use Rattle.type_base.specs.declared.world.Discrete.TheVariants as discrete
use Rattle.typed_units.specs.declared.operators.Bounds.{Bounds}

-- the index of an array with the bounds of a range
abbrev pub index_of_range : StaticRange → Indexes
index_of_range r = record { subtype = r.subtype; bounds = Some r.bounds }

-- an index of a subtype with these bounds
abbrev pub index_within : ℕ → Bounds → Indexes
index_within k b = record { subtype = k; bounds = Some b }

-- an index of a subtype without bounds
abbrev pub open_index : ℕ → Indexes
open_index k = record { subtype = k; bounds = None }

-- a signed type with these bounds
abbrev pub signed_type : Bounds → Definition
signed_type b = Integer discrete.Signed (signed_scalar b)
