use Rattle.std.proofs.Common.{◌≡◌, ◌+◌, drop}
use Rattle.std.specs.List.{prefix_len}
use Rattle.program_scope.specs.Homes.{is_in_name}
use Rattle.program_scope.proofs.file.name_length.Given as goal

abbrev pub invariant-loop-at : goal.invariant-loop-at
invariant-loop-at l = l.at + prefix_len is_in_name (drop l.at l.bytes) ≡ prefix_len is_in_name l.bytes
