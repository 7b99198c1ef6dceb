use Rattle.std.proofs.Common.{◌≡◌, ◌+◌, ◌≤◌, take}
use Rattle.ada_text.specs.Places.{line_after, column_after}
use Rattle.ada_text.proofs.places.after.Given as goal

abbrev pub invariant-loop-byte : goal.invariant-loop-byte
invariant-loop-byte l =
    (l.line ≡ line_after (take l.byte-index l.front)) × (l.column ≡ column_after (take l.byte-index l.front)) × (l.line ≤ l.byte-index + 1) × (l.column ≤ l.byte-index + 1)
