use Rattle.first_form.proofs.Kept.{forms_are_forms}
use Rattle.first_form.proofs.laws.forms_are_forms.Goals as goal

pub returns : goal.returns
returns c = forms_are_forms
