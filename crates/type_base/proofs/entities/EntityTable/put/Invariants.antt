use Rattle.std.proofs.Common.{◌≡◌, ◌-◌, ◌+◌, length}
use Rattle.type_base.specs.Lookups.{with_in_file}
use Rattle.type_base.proofs.entities.EntityTable.put.Given as goal

abbrev pub invariant-loop-alloc : goal.invariant-loop-alloc
invariant-loop-alloc l = with_in_file l.self-inside.files.items l.file l.spot.at l.entity ≡ with_in_file l.initial.self-inside.files.items l.file l.spot.at l.entity

abbrev pub decreases-loop-alloc : goal.decreases-loop-alloc
decreases-loop-alloc l = (l.file + 1) - length l.self-inside.files.items
