use Rattle.std.proofs.Common.{◌≡◌, drop}
use Rattle.ada_semantics.specs.Store.{wholes}
use Rattle.run_store.specs.RunSlots.{run_slots}
use Rattle.run_store.proofs.Wholes.{before}
use Rattle.run_store.proofs.slots.+whole.Given as goal

abbrev pub invariant-whole_parts-loop-i : goal.invariant-whole_parts-loop-i
invariant-whole_parts-loop-i l = before l.all (wholes (run_slots (drop l.i l.parts))) ≡ wholes (run_slots l.parts)
