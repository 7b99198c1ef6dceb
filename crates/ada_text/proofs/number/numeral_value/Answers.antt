use Rattle.std.proofs.Common.{◌≡◌, ◌+◌, ◌<◌, ◌≤◌, ◌-◌, ◌^◌, drop, length, get_or, ap, ◌∙◌, sym, arith, rules}
use Rattle.std.specs.Prelude.{min, filter}
use Rattle.std.specs.Str.Parse.{digits_value_after}
use Rattle.std.proofs.Math.Nat.{min-eq_left}
use Rattle.std.proofs.lemmas.List.{at_drop_all}
use Rattle.ada_text.specs.Numbers.{is_written, numeral_value}
use Rattle.ada_text.proofs.Capped.{numeral_more, stepped}
use Rattle.ada_text.proofs.number.numeral_value.Goals as goal

pub loop-byte-preserved : goal.loop-byte-preserved
loop-byte-preserved c =
    let within : c.loop-byte.byte-index < length c.args.text.now = omega arith in
    let e : c.with_byte-value.result ≡ stepped c.args.radix c.loop-byte.value (get_or c.args.text.now c.loop-byte.byte-index 0) (2 ^ 128 - 1) = search rules in (
      ap (λ v. min (digits_value_after c.args.radix v (filter is_written (drop (c.loop-byte.byte-index + 1) c.args.text.now))) (2 ^ 128 - 1)) e
          ∙ numeral_more c.args.radix c.loop-byte.value c.loop-byte.byte-index (2 ^ 128 - 1) c.args.text.now (omega arith) within
          ∙ c.loop-byte.invariant.0,
      omega arith,
    )

pub returns : goal.returns
unfolding numeral_value
returns c =
    let low : c.loop-byte.value ≤ 2 ^ 128 - 1 = c.loop-byte.invariant.1 in
    sym (min-eq_left low)
    ∙ sym (at_drop_all (λ l. min (digits_value_after c.args.radix c.loop-byte.value (filter is_written l)) (2 ^ 128 - 1)) c.args.text.now c.loop-byte.byte-index c.loop-byte-test.false)
    ∙ c.loop-byte.invariant.0
