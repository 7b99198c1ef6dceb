-- Where a target lies, and what is written there, once its indexes are known (Ada RM 5.2).
use Rattle.std.specs.Prelude.{ℕ, Bool, true, ◌&&◌, Option, Some, None, List, [], ◌∷◌}
use Rattle.ada_values.specs.Value.{Val, number, array}
use Rattle.ada_values.specs.Scalars.{within}
use Rattle.ada_values.specs.declared.place.Place.{Place}
use Rattle.typed_units.specs.declared.operators.Bounds.{Bounds}
use Rattle.typed_units.specs.declared.checks.CheckKind.TheVariants as kind
use Rattle.typed_units.specs.Syntax.{Fit, Var, param, Target, target}
use Rattle.ada_semantics.specs.Outcome.{Res, gives, fails, unset, pick, site}
use Rattle.ada_semantics.specs.Store.{Slot, full, full_if, parts, whole, components, component_slot, item_slot, is_array, with_item_value, with_slot, Store, put, Frame, set}
use Rattle.ada_semantics.specs.Operators.{position}

abbrev pub target_place : Target → Place
target_place (target p x path) = p

abbrev pub var_of : Target → Var
var_of (target p x path) = x

-- a step whose index is known: a component of so many, or the item at a position from 0
pub data Spot : Type 0 where
  component_spot : ℕ → ℕ → Spot
  item_spot : ℕ → Spot

abbrev pub own_bounds : Option Val → Option Bounds
own_bounds (Some (array f l vs)) = Some (record { first = f; last = l })
own_bounds _ = None

-- the bounds that the array's subtype fixes, else those of the array itself
abbrev pub bounds_of : Option Bounds → Slot → Option Bounds
bounds_of (Some b) s = Some b
bounds_of None s = own_bounds (whole s)

-- the position of an index, with its check
abbrev pub position_in : Option Bounds → Bool → Place → Val → ℕ → Res ℕ
position_in (Some b) is_checked p (number x) n =
    pick (within b.first b.last x) (gives (position b.first x) n) (pick is_checked (fails (site p kind.Index)) unset)
position_in _ is_checked p v n = unset

-- whether each array on the way is set
abbrev pub reaches : List Spot → Slot → Bool
reaches [] s = true
reaches (component_spot k count ∷ rest) s = reaches rest (component_slot k s)
reaches (item_spot k ∷ rest) s = is_array s && reaches rest (item_slot k s)

-- what stands there
abbrev pub slot_in : List Spot → Slot → Slot
slot_in [] s = s
slot_in (component_spot k count ∷ rest) s = slot_in rest (component_slot k s)
slot_in (item_spot k ∷ rest) s = slot_in rest (item_slot k s)

-- the slot with a value written there
abbrev pub written : List Spot → Val → Slot → Slot
written [] v s = full v
written (component_spot k count ∷ rest) v s = parts (with_slot (components count s) k (written rest v (component_slot k s)))
written (item_spot k ∷ rest) v s = with_item_value k (whole (written rest v (item_slot k s))) s

abbrev pub write : Frame → Var → List Spot → Val → Frame
write f x spots v = set f x (written spots v (f.state x))

-- ---- parameters (Ada RM 6.4.1)

-- where a parameter is copied back to, and with which check
pub record Return : Type 0 where
  pub place : Place
  pub var : Var
  pub spots : List Spot
  pub fit : Fit

-- an actual that was evaluated: the number of its formal, the parameter's value, where it has one, and its way back
pub record Passed : Type 0 where
  pub formal : ℕ
  pub value : Option Val
  pub back : Option Return

abbrev pub return_to : Target → List Spot → Fit → Return
return_to t spots fit = record { place = target_place t; var = var_of t; spots = spots; fit = fit }

-- the callee's variables with its parameters
abbrev pub with_params : List Passed → Store → Store
with_params [] s = s
with_params (p ∷ ps) s = with_params ps (put s (param p.formal) (full_if p.value))
