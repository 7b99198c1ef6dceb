use Rattle.first_form.proofs.Kept.{forms_are_forms}
use Rattle.gnatprove_core.proofs.program.answer_tree.Goals as goal

pub answer_form-requires : goal.answer_form-requires
answer_form-requires c = forms_are_forms c.args.bytes.now c.args.unit.now c.in-Ok.form c.in-Ok.ensures.ok
