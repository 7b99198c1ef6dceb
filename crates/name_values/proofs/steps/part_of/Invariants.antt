use Rattle.std.proofs.Common.{◌≡◌, length}
use Rattle.typing_rules.specs.Values.{part_of}
use Rattle.name_values.proofs.steps.part_of.Given as goal

abbrev pub invariant-loop-alloc : goal.invariant-loop-alloc
invariant-loop-alloc l = part_of l.world l.place l.subtype l.x l.path ≡ part_of l.world l.place l.initial.subtype l.initial.x l.initial.path

abbrev pub decreases-loop-alloc : goal.decreases-loop-alloc
decreases-loop-alloc l = length l.path
