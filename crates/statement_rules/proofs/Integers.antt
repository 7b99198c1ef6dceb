-- What is found of the expression of a loop variant.
use Rattle.std.proofs.Common.{◌≡◌, refl}
use Rattle.ada_values.specs.declared.place.Place.{Place}
use Rattle.type_base.specs.declared.seen.Seen.{Seen}
use Rattle.type_base.specs.declared.seen.Seen.TheVariants.{Refused, Unknown, Number, Typed}
use Rattle.typing_rules.specs.Ranges.{found_expr}
use Rattle.statement_typing.specs.Pragmas.{integer_seen}

pub integer_found : (p : Place) (s : Seen) → found_expr s ≡ integer_seen p s
integer_found p (Refused f) = refl
integer_found p Unknown = refl
integer_found p (Number n) = refl
integer_found p (Typed t x) = refl
