use Rattle.std.proofs.Common.{◌∙◌, ap, [], ◌∷◌, ◌++◌}
use Rattle.logic_text.proofs.Formulas.{hypothesis_text, hypothesis_on, hypothesis_bad}
use Rattle.logic_text.proofs.goal_reader.read_hypothesis.Goals as goal

pub returns-in-Err-clause-fault : goal.returns-in-Err-clause-fault
returns-in-Err-clause-fault c = hypothesis_bad c.args.bytes.now c.args.at c.in-Err.fault c.requires.letter c.in-Err.ensures.fault

pub returns-in-Ok-push-clause-text : goal.returns-in-Ok-push-clause-text
returns-in-Ok-push-clause-text c = λ s h.
    hypothesis_text c.args.hypotheses.now _ _ c.args.bytes.now c.args.at c.in-Ok.read.to (c.in-Ok-push.ensures.ok ∙ ap (λ p. c.args.hypotheses.now ++ p ∷ []) c.into_inner.ensures) c.in-Ok.ensures.text s h

pub returns-in-Ok-push-clause-on : goal.returns-in-Ok-push-clause-on
returns-in-Ok-push-clause-on c = hypothesis_on c.args.bytes.now c.args.at c.in-Ok.read.to c.requires.letter c.in-Ok.ensures.on
