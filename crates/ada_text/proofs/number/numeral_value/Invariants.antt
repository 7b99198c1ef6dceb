use Rattle.std.proofs.Common.{◌≡◌, ◌≤◌, ◌-◌, ◌^◌, drop}
use Rattle.std.specs.Prelude.{min, filter}
use Rattle.std.specs.Str.Parse.{digits_value_after}
use Rattle.ada_text.specs.Numbers.{is_written}
use Rattle.ada_text.proofs.number.numeral_value.Given as goal

-- the digits that are left, after those so far
abbrev pub invariant-loop-byte : goal.invariant-loop-byte
invariant-loop-byte l =
    (min (digits_value_after l.radix l.value (filter is_written (drop l.byte-index l.text))) (2 ^ 128 - 1)
    ≡ min (digits_value_after l.radix 0 (filter is_written l.text)) (2 ^ 128 - 1)) × (l.value ≤ 2 ^ 128 - 1)
