use Rattle.std.proofs.Common.{◌≡◌, ℕ, ◌+◌, ◌-◌, length}
use Rattle.ada_semantics.specs.Store.{slot_at}
use Rattle.run_store.specs.RunSlots.{run_slots}
use Rattle.run_store.proofs.lists.grow.Given as goal

abbrev pub invariant-more : goal.invariant-more
invariant-more l = (k : ℕ) → slot_at (run_slots l.list) k ≡ slot_at (run_slots l.initial.list) k

abbrev pub decreases-more : goal.decreases-more
decreases-more l = (l.number + 1) - length l.list
