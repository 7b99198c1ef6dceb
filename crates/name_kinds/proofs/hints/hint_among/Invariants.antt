use Rattle.std.proofs.Common.{◌≡◌, length}
use Rattle.name_kinds.specs.Parts.{hint_among}
use Rattle.name_kinds.proofs.hints.hint_among.Given as goal

abbrev pub invariant-loop-components : goal.invariant-loop-components
invariant-loop-components l = hint_among l.components l.name ≡ hint_among l.initial.components l.name

abbrev pub decreases-loop-components : goal.decreases-loop-components
decreases-loop-components l = length l.components
