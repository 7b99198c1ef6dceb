use Rattle.std.proofs.Common.{sym, ◌∙◌, ap, ◌++◌, codes, map}
use Rattle.logic_terms.specs.Goal.{called_as}
use Rattle.logic_terms.specs.View.{formula}
use Rattle.logic_text.specs.Answers.{kinds_of}
use Rattle.logic_text.specs.Goals.{hypotheses_text, conclusion_text}
use Rattle.logic_text.proofs.GoalTexts.{signed, stated}
use Rattle.term_reader.specs.Phases.{After}
use Rattle.logic_text.specs.Phases.{AtStart, InCalls, InLines}
use Rattle.term_reader.proofs.Places.{bad_at, steps_at}
use Rattle.logic_text.proofs.Wholes.{whole_text}
use Rattle.logic_text.proofs.goal_reader.read_whole.Goals as goal

pub returns-in-Err-read_calls_line-clause-fault : goal.returns-in-Err-read_calls_line-clause-fault
returns-in-Err-read_calls_line-clause-fault c =
    bad_at AtStart (After (codes "calls") InCalls) c.args.bytes.now 0 c.in-Ok.sorts.to c.in-Err-read_calls_line.fault c.in-Ok.ensures.on c.in-Err-read_calls_line.ensures.fault

pub returns-in-Err-read_formulas-clause-fault : goal.returns-in-Err-read_formulas-clause-fault
returns-in-Err-read_formulas-clause-fault c =
    let b = c.args.bytes.now in
    let a = c.in-Ok.sorts.to in
    let e = c.in-Ok-read_calls_line.calls.to in
    bad_at AtStart InLines b 0 e c.in-Err-read_formulas.fault
    (steps_at AtStart (After (codes "calls") InCalls) InLines b 0 a e c.in-Ok.ensures.on c.in-Ok-read_calls_line.ensures.on)
    c.in-Err-read_formulas.ensures.fault

pub returns-in-Ok-read_formulas-clause-text : goal.returns-in-Ok-read_formulas-clause-text
returns-in-Ok-read_formulas-clause-text c =
    let hs = map formula c.in-Ok-read_formulas.read.hypotheses in
    whole_text (stated (signed (kinds_of c.in-Ok.sorts.symbols) (map called_as c.in-Ok-read_calls_line.calls.calls)) hs (formula c.into_inner.result)) c.args.bytes.now c.in-Ok.sorts.to c.in-Ok-read_calls_line.calls.to c.in-Ok.ensures.text c.in-Ok-read_calls_line.ensures.text
    (c.in-Ok-read_formulas.ensures.text ∙ ap (λ p. hypotheses_text hs ++ conclusion_text (formula p)) (sym c.into_inner.ensures))
