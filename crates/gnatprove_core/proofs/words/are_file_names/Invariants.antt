use Rattle.std.proofs.Common.{◌≡◌, take, map, true}
use Rattle.std.specs.List.{list_all}
use Rattle.gnatprove_core.specs.Words.{is_file_name}
use Rattle.gnatprove_core.proofs.words.are_file_names.Given as goal

abbrev pub invariant-loop-name : goal.invariant-loop-name
invariant-loop-name l = list_all is_file_name (take l.name-index l.names) ≡ true
