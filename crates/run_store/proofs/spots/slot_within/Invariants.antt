use Rattle.std.proofs.Common.{◌≡◌, drop}
use Rattle.ada_semantics.specs.Targets.{slot_in}
use Rattle.run_store.specs.RunSlots.{run_slot}
use Rattle.run_store.specs.Spots.{spots_of}
use Rattle.run_store.proofs.spots.slot_within.Given as goal

abbrev pub invariant-loop-spot : goal.invariant-loop-spot
invariant-loop-spot l = slot_in (spots_of (drop l.spot-index l.spots)) (run_slot l.part) ≡ slot_in (spots_of l.spots) (run_slot l.s)
