-- What the slots of a run are.
use Rattle.std.specs.Prelude.{List, [], ◌∷◌, map}
use Rattle.ada_semantics.specs.Store.{Slot, empty, full, parts, Slots, no_slots, slot}
use Rattle.run_values.specs.RunValues.{run_value}
use Rattle.run_store.specs.declared.slots.RunSlot.{RunSlot, fold-RunSlot}
use Rattle.run_store.specs.declared.slots.RunSlot.TheOpen.{RunSlot-F}

abbrev pub slots_from : List Slot → Slots
slots_from [] = no_slots
slots_from (s ∷ ss) = slot s (slots_from ss)

abbrev pub run_slot_step : RunSlot-F Slot → Slot
run_slot_step RunSlot-F.Empty = empty
run_slot_step (RunSlot-F.Full v) = full (run_value v)
run_slot_step (RunSlot-F.Parts ss) = parts (slots_from ss)

-- the slot that the code's slot is
abbrev pub run_slot : RunSlot → Slot
run_slot = fold-RunSlot Slot run_slot_step

abbrev pub run_slots : List RunSlot → Slots
run_slots ss = slots_from (map run_slot ss)
