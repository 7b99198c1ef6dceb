use Rattle.std.proofs.Common.{◌≢◌, ◌≡◌, ◌∙◌, sym, length, arith, ◌&&◌, ◌==◌}
use Rattle.std.proofs.lemmas.Int.{to_z-of_z}
use Rattle.ada_values.specs.Shapes.{bounds_fit, range_length}
use Rattle.ada_values.proofs.Equal.{unfit}
use Rattle.ada_values.proofs.Views.{length_of-values}
use Rattle.ada_values.proofs.shapes.+fits.Goals as goal

pub each_fits-returns-then-len : goal.each_fits-returns-then-len
each_fits-returns-then-len t c =
    let apart : length c.args.ids.now ≢ length c.args.fields.now = omega arith in sym (unfit c.args.shapes.now c.args.ids.now c.args.fields.now apart)

pub fits_array-returns-then-has_bounds : goal.fits_array-returns-then-has_bounds
fits_array-returns-then-has_bounds t c =
    let ff = c.ranges.first in let fl = c.ranges.last in let s = c.args.shape.now in
    let told : c.has_bounds.result ≡ (bounds_fit s.bounds s.index c.args.first c.args.last && (length c.args.items.now == range_length c.args.first c.args.last)) =
    simp (to_z-of_z, c.len.ensures) at c.has_bounds.ensures in
    let yes = sym told ∙ c.if-has_bounds.true in
    rw (length_of-values, yes) c.all_fit.ensures

pub fits_array-returns-else-has_bounds : goal.fits_array-returns-else-has_bounds
fits_array-returns-else-has_bounds t c =
    let ff = c.ranges.first in let fl = c.ranges.last in let s = c.args.shape.now in
    let told : c.has_bounds.result ≡ (bounds_fit s.bounds s.index c.args.first c.args.last && (length c.args.items.now == range_length c.args.first c.args.last)) =
    simp (to_z-of_z, c.len.ensures) at c.has_bounds.ensures in
    let no = sym told ∙ c.if-has_bounds.false in
    rw (length_of-values, no) c.if-has_bounds.false
