use Rattle.std.proofs.Common.{◌≡◌, drop}
use Rattle.logic_terms.specs.View.{term}
use Rattle.linear_prover.specs.Machine.{each}
use Rattle.linear_prover.specs.Elimination.{paired}
use Rattle.linear_prover.specs.View.{made_of, state}
use Rattle.linear_prover.proofs.machine.LinearMachine.pair_all.Given as goal

abbrev pub invariant-loop-x : goal.invariant-loop-x
invariant-loop-x l = each (λ x. each (λ y. paired (term l.v) (made_of x) (made_of y)) l.negative) (drop l.x-index l.positive) (state l.self) ≡ each (λ x. each (λ y. paired (term l.v) (made_of x) (made_of y)) l.negative) l.positive (state l.initial.self)
