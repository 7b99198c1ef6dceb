-- A value for a selector of which nothing is known.
use Rattle.std.proofs.Common.{◌≡◌, refl, ℕ}
use Rattle.ada_values.specs.declared.place.Place.{Place}
use Rattle.type_base.specs.declared.seen.Seen.{Seen}
use Rattle.type_base.specs.declared.seen.Seen.TheVariants as seen
use Rattle.type_base.specs.declared.seen.Want.TheVariants as want
use Rattle.type_base.specs.declared.world.World.{World}
use Rattle.statement_typing.specs.Choices.{value_for}
use Rattle.case_choices.specs.Choosing.{value_alone}

pub free_alone : (w : World) (p : Place) (s : Seen) → value_alone s ≡ value_for w want.Free p s
free_alone w p (seen.Refused f) = refl
free_alone w p seen.Unknown = refl
free_alone w p (seen.Number n) = refl
free_alone w p (seen.Typed t x) = refl

pub unknown_alone : (w : World) (p : Place) (s : Seen) → value_alone s ≡ value_for w want.Unknown p s
unknown_alone w p (seen.Refused f) = refl
unknown_alone w p seen.Unknown = refl
unknown_alone w p (seen.Number n) = refl
unknown_alone w p (seen.Typed t x) = refl

pub subtype_alone : (w : World) (k : ℕ) (p : Place) (s : Seen) → value_alone s ≡ value_for w (want.Subtype k) p s
subtype_alone w k p (seen.Refused f) = refl
subtype_alone w k p seen.Unknown = refl
subtype_alone w k p (seen.Number n) = refl
subtype_alone w k p (seen.Typed t x) = refl
