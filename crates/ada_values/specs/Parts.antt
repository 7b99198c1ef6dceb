-- The parts of a value that has a shape have their shapes, and a part may be replaced by another value of its shape.
use Rattle.std.specs.Prelude.{◌≡◌, ℕ, true, Option, Some, List, slice_get}
use Rattle.ada_values.specs.Value.{Val, Vals, val_at, with_val}
use Rattle.ada_values.specs.Shapes.{fits, all_fit, each_fits}
use Rattle.ada_values.specs.declared.shapes.Shape.{Shape}

abbrev pub ItemLaw : Type 0
ItemLaw = (shapes : List Shape) (shape : Option Shape) (vs : Vals) (n : ℕ) (v : Val) →
    all_fit shapes shape vs ≡ true → val_at vs n ≡ Some v → fits shapes shape v ≡ true

abbrev pub NewItemLaw : Type 0
NewItemLaw = (shapes : List Shape) (shape : Option Shape) (vs : Vals) (n : ℕ) (v : Val) →
    all_fit shapes shape vs ≡ true → fits shapes shape v ≡ true → all_fit shapes shape (with_val vs n v) ≡ true

abbrev pub ComponentLaw : Type 0
ComponentLaw = (shapes : List Shape) (ids : List ℕ) (vs : Vals) (n id : ℕ) (v : Val) →
    each_fits shapes ids vs ≡ true → slice_get ids n ≡ Some id → val_at vs n ≡ Some v → fits shapes (slice_get shapes id) v ≡ true

abbrev pub NewComponentLaw : Type 0
NewComponentLaw = (shapes : List Shape) (ids : List ℕ) (vs : Vals) (n id : ℕ) (v : Val) →
    each_fits shapes ids vs ≡ true → slice_get ids n ≡ Some id → fits shapes (slice_get shapes id) v ≡ true → each_fits shapes ids (with_val vs n v) ≡ true
