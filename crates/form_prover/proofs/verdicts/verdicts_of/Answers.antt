use Rattle.std.proofs.Common.{◌∙◌, ap, sym, subst, ℕ, List, false}
use Rattle.form_prover.specs.declared.verdicts.Verdict.{Verdict}
use Rattle.form_prover.specs.Formulas.{input_nodes}
use Rattle.form_prover.proofs.Passing.{Passed, started, passed_all}
use Rattle.form_prover.proofs.verdicts.verdicts_of.Goals as goal

pub loop-assertion-init : goal.loop-assertion-init
loop-assertion-init c =
    let first = started c.args.form.now c.in_ok-inputs.field-0 (c.in_ok-inputs.ensures ∙ ap (λ (n : ℕ). input_nodes n 0) c.len.ensures) in
    subst (λ (vs : List Verdict). Passed c.args.form.now vs c.in_ok-inputs.field-0 false 0) (sym c.new.ensures) first

pub returns : goal.returns
returns c =
    passed_all c.args.form.now c.loop-assertion.way.verdicts c.loop-assertion.way.hypotheses c.loop-assertion.way.refuted
    c.loop-assertion.assertion-index c.as_slice-assertion-items.result.now c.loop-assertion.invariant c.as_slice-assertion-items.ensures
    c.loop-assertion-test.false
