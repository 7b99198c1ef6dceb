use Rattle.text_lines.proofs.Told.{place_by_lines}
use Rattle.text_lines.proofs.laws.places_are_those_of_texts.Goals as goal

pub returns : goal.returns
returns c = place_by_lines
