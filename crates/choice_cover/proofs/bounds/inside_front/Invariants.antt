use Rattle.std.proofs.Common.{◌≡◌, ◌<◌, ℕ, true}
use Rattle.std.specs.Prelude.{Some, slice_get}
use Rattle.typed_units.specs.declared.operators.Bounds.{Bounds}
use Rattle.choice_cover.specs.Sweeps.{fits_in}
use Rattle.choice_cover.proofs.bounds.inside_front.Given as goal

abbrev pub invariant-loop-k : goal.invariant-loop-k
invariant-loop-k l = (j : ℕ) (b : Bounds) → j < l.k → slice_get l.ranges j ≡ Some b → fits_in l.lo l.hi b ≡ true
