use Rattle.std.proofs.Common.{◌≢◌, sym, ◌∙◌, length, arith}
use Rattle.run_values.proofs.Views.{unlike, same_so_far, differs_here}
use Rattle.run_values.proofs.values.+same.Goals as goal

pub same_run_values-returns-then-len : goal.same_run_values-returns-then-len
same_run_values-returns-then-len t c =
    let apart : length c.args.a.now ≢ length c.args.b.now = omega arith in sym (unlike c.args.a.now c.args.b.now apart)

pub same_run_values-returns-then-not-same_run_value : goal.same_run_values-returns-then-not-same_run_value
same_run_values-returns-then-not-same_run_value t c =
    sym (sym c.loop-i.invariant.same ∙ differs_here c.args.a.now c.args.b.now c.loop-i.i c.in-Some.left.now c.in-Some-get.right.now c.same_run_value.result
    (sym c.in-Some.ensures) (sym c.in-Some-get.ensures) c.same_run_value.ensures c.if-not-same_run_value.true)

pub same_run_values-loop-i-preserved : goal.same_run_values-loop-i-preserved
same_run_values-loop-i-preserved t c =
    record {
      long = c.loop-i.invariant.long;
      same = same_so_far c.args.a.now c.args.b.now c.loop-i.i c.in-Some.left.now c.in-Some-get.right.now c.same_run_value.result
          (sym c.in-Some.ensures) (sym c.in-Some-get.ensures) c.same_run_value.ensures c.if-not-same_run_value.false ∙ c.loop-i.invariant.same;
    }
