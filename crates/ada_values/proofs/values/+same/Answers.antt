use Rattle.std.proofs.Common.{◌≢◌, sym, length, arith}
use Rattle.ada_values.proofs.Equal.{unlike}
use Rattle.ada_values.proofs.values.+same.Goals as goal

pub same_values-returns-then-len : goal.same_values-returns-then-len
same_values-returns-then-len t c =
    let apart : length c.args.a.now ≢ length c.args.b.now = omega arith in sym (unlike c.args.a.now c.args.b.now apart)
