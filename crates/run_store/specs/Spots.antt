-- The way from a variable to a part of it.
use Rattle.std.specs.Prelude.{Bool, true, false, List, [], ◌∷◌}
use Rattle.ada_semantics.specs.Store.{Slot, component_slot, item_slot}
use Rattle.ada_semantics.specs.Targets.{Spot, component_spot, item_spot}
use Rattle.run_store.specs.declared.spots.RunSpot.{RunSpot}
use Rattle.run_store.specs.declared.spots.RunSpot.TheVariants as spot

abbrev pub spot_of : RunSpot → Spot
spot_of (spot.Component k count) = component_spot k count
spot_of (spot.Item k) = item_spot k

abbrev pub spots_of : List RunSpot → List Spot
spots_of [] = []
spots_of (s ∷ ss) = spot_of s ∷ spots_of ss

-- what stands one step further
abbrev pub stepped : RunSpot → Slot → Slot
stepped (spot.Component k count) s = component_slot k s
stepped (spot.Item k) s = item_slot k s

abbrev pub is_item : RunSpot → Bool
is_item (spot.Component k count) = false
is_item (spot.Item k) = true
