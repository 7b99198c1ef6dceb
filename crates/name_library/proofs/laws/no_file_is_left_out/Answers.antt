use Rattle.std.proofs.lemmas.List.Elements.{recursion_from_All}
use Rattle.name_library.proofs.Joined.{HasUnit, whole, whole_by_number}
use Rattle.name_library.proofs.laws.no_file_is_left_out.Goals as goal

pub returns : goal.returns
returns c files none units = whole_by_number files (recursion_from_All HasUnit files units) (whole files none)
