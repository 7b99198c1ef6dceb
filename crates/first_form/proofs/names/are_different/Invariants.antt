use Rattle.std.proofs.Common.{◌≡◌, length}
use Rattle.first_form.specs.Names.{are_different}
use Rattle.first_form.proofs.names.are_different.Given as goal

abbrev pub invariant-loop-names : goal.invariant-loop-names
invariant-loop-names l = are_different l.names ≡ are_different l.initial.names

abbrev pub decreases-loop-names : goal.decreases-loop-names
decreases-loop-names l = length l.names
