use Rattle.first_form.proofs.InFile.{places_are_in_file}
use Rattle.first_form.proofs.laws.places_are_in_file.Goals as goal

pub returns : goal.returns
returns c = places_are_in_file
