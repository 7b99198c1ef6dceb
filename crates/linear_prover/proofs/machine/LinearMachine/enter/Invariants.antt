use Rattle.std.proofs.Common.{◌≡◌, drop, map}
use Rattle.linear_forms.specs.View.{linear}
use Rattle.linear_prover.specs.Decided.{numbered_from, entered}
use Rattle.linear_prover.specs.View.{state}
use Rattle.linear_prover.proofs.machine.LinearMachine.enter.Given as goal

abbrev pub invariant-loop-i : goal.invariant-loop-i
invariant-loop-i l = entered (numbered_from l.i (map linear (drop l.i l.forms))) (state l.self) ≡ entered (numbered_from 0 (map linear l.forms)) (state l.initial.self)
