-- Records have no bounds.
use Rattle.std.proofs.Common.{◌≡◌, refl}
use Rattle.std.specs.Prelude.{Option, Some, None}
use Rattle.ada_values.specs.Value.{Vals}
use Rattle.ada_semantics.specs.Store.{Slots, whole_record, wholes, parts, whole}
use Rattle.ada_semantics.specs.Targets.{own_bounds}

record_bound : (o : Option Vals) → own_bounds (whole_record o) ≡ None
record_bound None = refl
record_bound (Some vs) = refl

pub parts_bound : (ss : Slots) → own_bounds (whole (parts ss)) ≡ None
parts_bound ss = record_bound (wholes ss)
