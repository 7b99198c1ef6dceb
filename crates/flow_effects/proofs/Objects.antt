-- Objects by the code's names.
use Rattle.std.proofs.Common.{◌≡◌, refl, []}
use Rattle.std.specs.Prelude.{Some}
use Rattle.typed_units.specs.declared.operators.Object.{Object}
use Rattle.typed_units.specs.declared.operators.Object.TheVariants as object
use Rattle.typed_units.specs.View.{var}
use Rattle.flow_rules.specs.Aliases.{named_object}

pub object_named : (o : Object) → named_object (var o) ≡ Some (record { object = var o; path = [] })
object_named (object.Param k) = refl
object_named (object.Local k) = refl
object_named (object.Global k) = refl
object_named (object.Turn k) = refl
object_named (object.Index k) = refl
