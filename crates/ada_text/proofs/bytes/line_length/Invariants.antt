use Rattle.std.proofs.Common.{◌≡◌, ◌+◌, drop}
use Rattle.std.specs.List.{prefix_len}
use Rattle.ada_text.specs.Bytes.{is_in_line}
use Rattle.ada_text.proofs.bytes.line_length.Given as goal

abbrev pub invariant-loop-at : goal.invariant-loop-at
invariant-loop-at l = l.at + prefix_len is_in_line (drop l.at l.bytes) ≡ prefix_len is_in_line l.bytes
