use Rattle.std.proofs.Common.{◌≡◌, drop}
use Rattle.ada_semantics.specs.Targets.{reaches}
use Rattle.run_store.specs.RunSlots.{run_slot}
use Rattle.run_store.specs.Spots.{spots_of}
use Rattle.run_store.proofs.spots.reaches.Given as goal

abbrev pub invariant-loop-spot : goal.invariant-loop-spot
invariant-loop-spot l = reaches (spots_of (drop l.spot-index l.spots)) (run_slot l.part) ≡ reaches (spots_of l.spots) (run_slot l.s)
