use Rattle.std.proofs.Common.{◌≡◌, ◌++◌, length, map}
use Rattle.type_checker.proofs.checking.spots_of.Given as goal

abbrev pub invariant-loop-variables : goal.invariant-loop-variables
invariant-loop-variables l = l.spots ++ map (λ v. v.spot) l.variables ≡ map (λ v. v.spot) l.initial.variables

abbrev pub decreases-loop-variables : goal.decreases-loop-variables
decreases-loop-variables l = length l.variables
