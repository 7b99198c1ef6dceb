-- The components of a record.
use Rattle.std.proofs.Common.{◌≡◌, refl, ap, ℕ, zero, suc, List, ◌∷◌}
use Rattle.type_base.specs.declared.world.World.{World}
use Rattle.type_base.specs.Lookups.{component_at}
use Rattle.statement_typing.specs.Units.{components_from, subtype_of_component}
use Rattle.program_parts.specs.Finished.{listed_from}

pub listed_is : (w : World) (n m : ℕ) → listed_from w.components n m ≡ components_from w n m
listed_is w n zero = refl
listed_is w n (suc m) = ap (λ (ks : List ℕ). subtype_of_component (component_at w n) ∷ ks) (listed_is w (suc n) m)
