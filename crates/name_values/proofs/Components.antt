-- The subtype of a component by its number.
use Rattle.std.proofs.Common.{◌≡◌, refl, ℕ, zero, suc, List, [], ◌∷◌, Option, Some, None}
use Rattle.std.specs.Prelude.{slice_get}
use Rattle.type_base.specs.declared.world.Component.{Component}
use Rattle.typing_rules.specs.Values.{component_subtype}

abbrev subtype_in : Option Component → ℕ
subtype_in (Some c) = c.subtype
subtype_in None = 0

pub numbered : (cs : List Component) (n : ℕ) → component_subtype (Some cs) n ≡ subtype_in (slice_get cs n)
numbered [] n = refl
numbered (c ∷ cs) zero = refl
numbered (c ∷ cs) (suc n) = numbered cs n
