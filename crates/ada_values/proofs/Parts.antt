-- The parts of a value that has a shape.
use Rattle.std.proofs.Common.{◌≡◌, refl, zero, suc, Bool, true, ◌&&◌, [], ◌∷◌, slice_get}
use Rattle.ada_values.specs.Value.{no_vals, val}
use Rattle.ada_values.specs.Shapes.{fits, all_fit, each_fits}
use Rattle.ada_values.specs.Parts.{ItemLaw, NewItemLaw, ComponentLaw, NewComponentLaw}
use Rattle.ada_values.proofs.Results.{both_true}

both_hold : (a b : Bool) → a ≡ true → b ≡ true → (a && b) ≡ true
both_hold a b h g = rw h g

pub item_law : ItemLaw
item_law ss s no_vals n v h e = absurd cc
item_law ss s (val w ws) zero v h e = let same : w ≡ v = cc in rw (← same) ((both_true _ _ h).0)
item_law ss s (val w ws) (suc n) v h e = item_law ss s ws n v ((both_true (fits ss s w) _ h).1) e

pub new_item_law : NewItemLaw
new_item_law ss s no_vals n v h e = refl
new_item_law ss s (val w ws) zero v h e = both_hold _ _ e ((both_true (fits ss s w) _ h).1)
new_item_law ss s (val w ws) (suc n) v h e =
    let parts = both_true (fits ss s w) (all_fit ss s ws) h in both_hold _ _ parts.0 (new_item_law ss s ws n v parts.1 e)

pub component_law : ComponentLaw
component_law ss [] vs n id v h i e = absurd cc
component_law ss (k ∷ ids) no_vals n id v h i e = absurd cc
component_law ss (k ∷ ids) (val w ws) zero id v h i e =
    let same : w ≡ v = cc in let at : k ≡ id = cc in rw (← same, ← at) ((both_true _ _ h).0)
component_law ss (k ∷ ids) (val w ws) (suc n) id v h i e =
    component_law ss ids ws n id v ((both_true (fits ss (slice_get ss k) w) _ h).1) i e

pub new_component_law : NewComponentLaw
new_component_law ss [] vs n id v h i e = absurd cc
new_component_law ss (k ∷ ids) no_vals n id v h i e = absurd cc
new_component_law ss (k ∷ ids) (val w ws) zero id v h i e =
    let at : k ≡ id = cc in both_hold _ _ (rw at e) ((both_true (fits ss (slice_get ss k) w) _ h).1)
new_component_law ss (k ∷ ids) (val w ws) (suc n) id v h i e =
    let parts = both_true (fits ss (slice_get ss k) w) (each_fits ss ids ws) h in
    both_hold _ _ parts.0 (new_component_law ss ids ws n id v parts.1 i e)
