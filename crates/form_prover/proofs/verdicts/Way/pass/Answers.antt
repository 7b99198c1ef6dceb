use Rattle.form_prover.proofs.Passing.{told_more}
use Rattle.form_prover.proofs.verdicts.Way.pass.Goals as goal

pub returns-clause-told : goal.returns-clause-told
returns-clause-told c =
    told_more c.args.self.now.hypotheses c.push-2.new.self c.in_ok-conclusion.conclusion c.args.params.now c.args.assertion.now
    c.args.self.now.refuted c.is_refuted-refuted.result c.truth_of-truth.result
    c.in_ok-push-2.ensures.ok c.in_ok-conclusion.ensures c.truth_of-truth.ensures c.requires.tells c.is_refuted-refuted.ensures
