use Rattle.logic_terms.specs.View.{term}
use Rattle.linear_prover.specs.Elimination.{paired}
use Rattle.linear_prover.specs.View.{made_of, state}
use Rattle.linear_prover.proofs.Running.{each_next, each_ends, each_done}
use Rattle.linear_prover.proofs.Stating.{went_on, ended_by}
use Rattle.linear_prover.proofs.machine.LinearMachine.pair_with.Goals as goal

pub loop-y-preserved : goal.loop-y-preserved
loop-y-preserved c =
    each_next (λ y. paired (term c.args.v.now) (made_of c.args.x.now) (made_of y)) c.args.negative.now c.loop-y.y-index c.y-item.result (state c.loop-y.self) (state c.pair.new.self) _ c.loop-y-test.true c.y-item.is
    (went_on (paired (term c.args.v.now) (made_of c.args.x.now) (made_of c.y-item.result) (state c.loop-y.self)) c.pair.new.self c.in_ok-answer.field-0 c.in_ok-answer.ensures c.in_default.is)
    c.loop-y.invariant

pub returns-in-Some : goal.returns-in-Some
returns-in-Some c =
    each_ends (λ y. paired (term c.args.v.now) (made_of c.args.x.now) (made_of y)) c.args.negative.now c.loop-y.y-index c.y-item.result (state c.loop-y.self) _ _ _ c.loop-y-test.true c.y-item.is
    (ended_by (paired (term c.args.v.now) (made_of c.args.x.now) (made_of c.y-item.result) (state c.loop-y.self)) c.pair.new.self c.in_ok-answer.field-0 c.in-Some.answer c.in_ok-answer.ensures c.in-Some.is)
    c.loop-y.invariant

pub returns : goal.returns
returns c = each_done (λ y. paired (term c.args.v.now) (made_of c.args.x.now) (made_of y)) c.args.negative.now c.loop-y.y-index (state c.loop-y.self) _ c.loop-y-test.false c.loop-y.invariant
