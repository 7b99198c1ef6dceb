-- The components of an aggregate, as far as something was given to them.
use Rattle.std.specs.Prelude.{Option, Some, None, List, [], ◌∷◌}
use Rattle.ada_semantics.specs.Store.{Slot, empty, full, Slots, no_slots, slot}
use Rattle.run_values.specs.RunValues.{run_value}
use Rattle.run_values.specs.declared.values.RunValue.{RunValue}

abbrev pub slot_of : Option RunValue → Slot
slot_of None = empty
slot_of (Some v) = full (run_value v)

abbrev pub slots_of : List (Option RunValue) → Slots
slots_of [] = no_slots
slots_of (o ∷ os) = slot (slot_of o) (slots_of os)
