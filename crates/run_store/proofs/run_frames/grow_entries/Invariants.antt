use Rattle.std.proofs.Common.{◌≡◌, ℕ, ◌+◌, ◌-◌, length}
use Rattle.run_store.specs.Entries.{entry_of}
use Rattle.run_store.specs.declared.variables.RunVars.{RunVars}
use Rattle.run_store.proofs.run_frames.grow_entries.Given as goal

abbrev pub invariant-more : goal.invariant-more
invariant-more l = (start : RunVars) (k : ℕ) → entry_of l.entries start k ≡ entry_of l.initial.entries start k

abbrev pub decreases-more : goal.decreases-more
decreases-more l = (l.number + 1) - length l.entries
