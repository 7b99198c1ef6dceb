use Rattle.std.proofs.Common.{◌≡◌, length}
use Rattle.first_form.specs.Names.{is_among}
use Rattle.first_form.proofs.names.is_declared.Given as goal

abbrev pub invariant-loop-names : goal.invariant-loop-names
invariant-loop-names l = is_among l.names l.name ≡ is_among l.initial.names l.name

abbrev pub decreases-loop-names : goal.decreases-loop-names
decreases-loop-names l = length l.names
