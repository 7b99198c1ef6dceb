use Rattle.std.proofs.Common.{Ok}
use Rattle.std.proofs.lemmas.Int.{to_z-of_z}
use Rattle.ada_values.specs.Combine.{exact}
use Rattle.ada_values.specs.Whole.{IsWhole}
use Rattle.ada_values.proofs.Whole.{fits_whole, in_range, below_range, above_range}
use Rattle.ada_values.proofs.operations.ranged_result.Goals as goal
use Rattle.ada_values.proofs.operations.ranged_result.Goals.{else-lo-v-via-then-lo-v+else-v-hi, else-lo-v-via-else-lo-v}

pub returns-then-v-hi : goal.returns-then-v-hi
returns-then-v-hi c =
    let fl = c.ranges.lo in let fh = c.ranges.hi in let fa = c.ranges.a in let fb = c.ranges.b in
    let told : IsWhole (exact c.args.op c.args.a c.args.b) (Ok c.in_ok-v.field-0) = simp to_z-of_z at c.in_ok-v.ensures in
    let whole = rw c.in-Some.is at told in
    let fv = fits_whole _ _ whole in
    simp to_z-of_z (in_range _ _ _ _ whole (simp to_z-of_z at c.if-lo-v.true) (simp to_z-of_z at c.if-v-hi.true))

pub returns-else-lo-v : goal.returns-else-lo-v
returns-else-lo-v c =
    let fl = c.ranges.lo in let fh = c.ranges.hi in let fa = c.ranges.a in let fb = c.ranges.b in
    let told : IsWhole (exact c.args.op c.args.a c.args.b) (Ok c.in_ok-v.field-0) = simp to_z-of_z at c.in_ok-v.ensures in
    let whole = rw c.in-Some.is at told in
    let fv = fits_whole _ _ whole in
    elim c.else-lo-v.branch [
      | else-lo-v-via-then-lo-v+else-v-hi w ↦ above_range _ _ _ _ whole (simp to_z-of_z at w.if-v-hi.false)
      | else-lo-v-via-else-lo-v w ↦ below_range _ _ _ _ whole (simp to_z-of_z at w.if-lo-v.false)
    ]
