use Rattle.std.proofs.Common.{◌≤◌, ◌∙◌, sym, ap, length, arith}
use Rattle.std.specs.Prelude.{option_map}
use Rattle.run_values.specs.RunValues.{run_value}
use Rattle.run_store.proofs.Wholes.{missing_part, kept_part, all_parts}
use Rattle.run_store.proofs.slots.+whole.Goals as goal

pub whole_parts-returns-in-None : goal.whole_parts-returns-in-None
whole_parts-returns-in-None t c =
    missing_part c.loop-i.all c.args.parts.now c.loop-i.i c.in-Some.part.now c.loop-i.invariant c.in-Some.ensures (ap (option_map run_value) (sym c.in-None.is) ∙ c.in_ok-value.ensures)

pub whole_parts-loop-i-preserved : goal.whole_parts-loop-i-preserved
whole_parts-loop-i-preserved t c =
    kept_part c.loop-i.all c.push.new.self c.args.parts.now c.loop-i.i c.in-Some.part.now c.in-Some-2.value c.loop-i.invariant c.in-Some.ensures
    (ap (option_map run_value) (sym c.in-Some-2.is) ∙ c.in_ok-value.ensures) c.in_ok-push-in-Some-2.ensures.ok

pub whole_parts-returns : goal.whole_parts-returns
whole_parts-returns t c =
    let w : length c.args.parts.now ≤ c.loop-i.i = omega (arith, c.loop-i-test.false, c.len-i-end.ensures) in all_parts c.loop-i.all c.args.parts.now c.loop-i.i c.loop-i.invariant w
