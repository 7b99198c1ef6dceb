use Rattle.std.proofs.Common.{◌≡◌, drop}
use Rattle.logic_terms.specs.View.{term}
use Rattle.linear_prover.specs.Machine.{each}
use Rattle.linear_prover.specs.Elimination.{paired}
use Rattle.linear_prover.specs.View.{made_of, state}
use Rattle.linear_prover.proofs.machine.LinearMachine.pair_with.Given as goal

abbrev pub invariant-loop-y : goal.invariant-loop-y
invariant-loop-y l = each (λ y. paired (term l.v) (made_of l.x) (made_of y)) (drop l.y-index l.negative) (state l.self) ≡ each (λ y. paired (term l.v) (made_of l.x) (made_of y)) l.negative (state l.initial.self)
