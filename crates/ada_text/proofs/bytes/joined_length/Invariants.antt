use Rattle.std.proofs.Common.{◌≡◌, ◌+◌, drop}
use Rattle.ada_text.specs.Bytes.{joined_length}
use Rattle.ada_text.proofs.bytes.joined_length.Given as goal

abbrev pub invariant-loop-at : goal.invariant-loop-at
invariant-loop-at l = l.at + joined_length l.radix (drop l.at l.bytes) ≡ joined_length l.radix l.bytes
