use Rattle.std.proofs.Common.{◌≡◌, length}
use Rattle.std.specs.Prelude.{find}
use Rattle.name_library.specs.Chains.{is_next}
use Rattle.name_library.proofs.circles.next.Given as goal

abbrev pub invariant-loop-all : goal.invariant-loop-all
invariant-loop-all l = find (is_next l.done) l.all ≡ find (is_next l.done) l.initial.all

abbrev pub decreases-loop-all : goal.decreases-loop-all
decreases-loop-all l = length l.all
