use Rattle.std.proofs.Common.{◌≡◌, ◌-◌}
use Rattle.linear_prover.specs.Elimination.{rounds}
use Rattle.linear_prover.specs.View.{state}
use Rattle.linear_prover.proofs.machine.LinearMachine.eliminate_all.Given as goal

abbrev pub invariant-loop-round : goal.invariant-loop-round
invariant-loop-round l = rounds (l.count - l.round) (state l.self) ≡ rounds l.count (state l.initial.self)
