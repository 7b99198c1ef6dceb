use Rattle.std.proofs.Common.{◌≡◌, take, true}
use Rattle.std.specs.List.{list_all}
use Rattle.gnatprove_core.specs.Words.{is_file_byte}
use Rattle.gnatprove_core.proofs.words.are_file_bytes.Given as goal

abbrev pub invariant-loop-byte : goal.invariant-loop-byte
invariant-loop-byte l = list_all is_file_byte (take l.byte-index l.bytes) ≡ true
