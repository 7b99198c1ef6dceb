use Rattle.std.proofs.Common.{◌≡◌, length, drop}
use Rattle.std.specs.Prelude.{slice_get}
use Rattle.ada_values.specs.Shapes.{all_fit, each_fits}
use Rattle.ada_values.specs.Value.{values}
use Rattle.ada_values.proofs.shapes.+fits.Given as goal

abbrev pub invariant-all_fit-loop-v : goal.invariant-all_fit-loop-v
invariant-all_fit-loop-v l =
    all_fit l.shapes (slice_get l.shapes l.item) (values (drop l.v-index l.v-items)) ≡ all_fit l.shapes (slice_get l.shapes l.item) (values l.items)

abbrev pub invariant-each_fits-loop-i : goal.invariant-each_fits-loop-i
invariant-each_fits-loop-i l = record {
  long : length l.ids ≡ length l.fields;
  same : each_fits l.shapes (drop l.i l.ids) (values (drop l.i l.fields)) ≡ each_fits l.shapes l.ids (values l.fields);
}
