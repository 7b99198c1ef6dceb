use Rattle.logic_terms.specs.View.{term}
use Rattle.linear_prover.specs.View.{state}
use Rattle.linear_prover.proofs.Stating.{went_on, ended_by}
use Rattle.linear_prover.proofs.Eliminating.{each_pair, eliminate_ends, eliminate_on}
use Rattle.linear_prover.proofs.machine.LinearMachine.eliminate.Goals as goal

pub returns-in-Some : goal.returns-in-Some
returns-in-Some c =
    eliminate_ends (term c.args.v) (state c.args.self.now) (state c.take_opposed.new.self) c.in_ok-opposed.opposed c.as_slice.result.now c.as_slice-2.result.now _ _ c.in_ok-opposed.ensures c.as_slice.ensures.value c.as_slice-2.ensures.value
    (ended_by (each_pair (term c.args.v) c.as_slice.result.now c.as_slice-2.result.now (state c.take_opposed.new.self)) c.pair_all.new.self c.in_ok-answer.field-0 c.in-Some.answer c.in_ok-answer.ensures c.in-Some.is)

pub returns-in_ok-set_aside-in-None : goal.returns-in_ok-set_aside-in-None
returns-in_ok-set_aside-in-None c =
    eliminate_on (term c.args.v) (state c.args.self.now) (state c.take_opposed.new.self) (state c.pair_all.new.self) c.in_ok-opposed.opposed c.as_slice.result.now c.as_slice-2.result.now _ c.in_ok-opposed.ensures c.as_slice.ensures.value c.as_slice-2.ensures.value
    (went_on (each_pair (term c.args.v) c.as_slice.result.now c.as_slice-2.result.now (state c.take_opposed.new.self)) c.pair_all.new.self c.in_ok-answer.field-0 c.in_ok-answer.ensures c.in-None.is)
    c.in_ok-set_aside-in-None.ensures
