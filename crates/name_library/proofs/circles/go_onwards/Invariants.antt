use Rattle.std.proofs.Common.{◌≡◌, length}
use Rattle.name_library.specs.Chains.{onwards}
use Rattle.name_library.proofs.circles.go_onwards.Given as goal

abbrev pub invariant-loop-all : goal.invariant-loop-all
invariant-loop-all l = onwards l.all l.files ≡ onwards l.initial.all l.initial.files

abbrev pub decreases-loop-all : goal.decreases-loop-all
decreases-loop-all l = length l.all
