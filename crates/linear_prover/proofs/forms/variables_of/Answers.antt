use Rattle.std.proofs.Common.{◌∙◌, ap, List, map}
use Rattle.logic_terms.specs.View.{term}
use Rattle.linear_forms.specs.View.{parts}
use Rattle.linear_forms.specs.declared.form.Part.{Part}
use Rattle.linear_prover.specs.Forms.{with_variables}
use Rattle.linear_prover.proofs.Reading.{all_variables_next, all_variables_end}
use Rattle.linear_prover.proofs.forms.variables_of.Goals as goal

pub loop-form-preserved : goal.loop-form-preserved
loop-form-preserved c =
    all_variables_next c.args.forms.now c.loop-form.form-index c.form-item.result _ _ _ c.loop-form-test.true c.form-item.is
    (c.in_ok-add_variables.ensures ∙ ap (λ (ps : List Part). with_variables (parts ps) (map term c.loop-form.variables.items)) c.as_slice.ensures)
    c.loop-form.invariant

pub returns : goal.returns
returns c = all_variables_end c.args.forms.now c.loop-form.form-index _ _ c.loop-form-test.false c.loop-form.invariant
