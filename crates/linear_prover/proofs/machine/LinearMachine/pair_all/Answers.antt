use Rattle.logic_terms.specs.View.{term}
use Rattle.linear_prover.specs.Machine.{each}
use Rattle.linear_prover.specs.Elimination.{paired}
use Rattle.linear_prover.specs.View.{made_of, state}
use Rattle.linear_prover.proofs.Running.{each_next, each_ends, each_done}
use Rattle.linear_prover.proofs.Stating.{went_on, ended_by}
use Rattle.linear_prover.proofs.machine.LinearMachine.pair_all.Goals as goal

pub loop-x-preserved : goal.loop-x-preserved
loop-x-preserved c =
    each_next (λ x. each (λ y. paired (term c.args.v.now) (made_of x) (made_of y)) c.args.negative.now) c.args.positive.now c.loop-x.x-index c.x-item.result (state c.loop-x.self) (state c.pair_with.new.self) _ c.loop-x-test.true c.x-item.is
    (went_on (each (λ y. paired (term c.args.v.now) (made_of c.x-item.result) (made_of y)) c.args.negative.now (state c.loop-x.self)) c.pair_with.new.self c.in_ok-answer.field-0 c.in_ok-answer.ensures c.in_default.is)
    c.loop-x.invariant

pub returns-in-Some : goal.returns-in-Some
returns-in-Some c =
    each_ends (λ x. each (λ y. paired (term c.args.v.now) (made_of x) (made_of y)) c.args.negative.now) c.args.positive.now c.loop-x.x-index c.x-item.result (state c.loop-x.self) _ _ _ c.loop-x-test.true c.x-item.is
    (ended_by (each (λ y. paired (term c.args.v.now) (made_of c.x-item.result) (made_of y)) c.args.negative.now (state c.loop-x.self)) c.pair_with.new.self c.in_ok-answer.field-0 c.in-Some.answer c.in_ok-answer.ensures c.in-Some.is)
    c.loop-x.invariant

pub returns : goal.returns
returns c = each_done (λ x. each (λ y. paired (term c.args.v.now) (made_of x) (made_of y)) c.args.negative.now) c.args.positive.now c.loop-x.x-index (state c.loop-x.self) _ c.loop-x-test.false c.loop-x.invariant
