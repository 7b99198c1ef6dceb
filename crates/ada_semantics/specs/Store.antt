-- The variables of a subprogram at work (Ada RM 3.3.1).
use Rattle.std.specs.Prelude.{ℕ, zero, suc, Bool, true, false, ◌==◌, Option, Some, None, List, [], ◌∷◌}
use Rattle.ada_values.specs.Value.{Val, array, record_of, Vals, no_vals, val, val_at, with_val}
use Rattle.typed_units.specs.Syntax.{Var, param, local, global, turn, index, answer, Moment, present, entry, loop_entry}
use Rattle.ada_semantics.specs.Outcome.{pick}

-- What a variable holds: nothing that was ever set, a value, or a record of which some components may not be set.
mutual
  pub data Slot : Type 0 where
    empty : Slot
    full : Val → Slot
    parts : Slots → Slot

  pub data Slots : Type 0 where
    no_slots : Slots
    slot : Slot → Slots → Slots

abbrev pub full_if : Option Val → Slot
full_if None = empty
full_if (Some v) = full v

abbrev pub and_more : Option Val → Option Vals → Option Vals
and_more (Some v) (Some vs) = Some (val v vs)
and_more _ _ = None

abbrev pub whole_record : Option Vals → Option Val
whole_record None = None
whole_record (Some vs) = Some (record_of vs)

-- the value, where all of it was set
abbrev mutual
  pub whole : Slot → Option Val
  whole empty = None
  whole (full v) = Some v
  whole (parts ss) = whole_record (wholes ss)

  pub wholes : Slots → Option Vals
  wholes no_slots = Some no_vals
  wholes (slot s ss) = and_more (whole s) (wholes ss)

abbrev pub empties : ℕ → Slots
empties zero = no_slots
empties (suc n) = slot empty (empties n)

abbrev pub fulls : Vals → Slots
fulls no_vals = no_slots
fulls (val v vs) = slot (full v) (fulls vs)

abbrev pub slot_at : Slots → ℕ → Slot
slot_at no_slots k = empty
slot_at (slot s ss) zero = s
slot_at (slot s ss) (suc k) = slot_at ss k

abbrev pub with_slot : Slots → ℕ → Slot → Slots
with_slot no_slots k new = no_slots
with_slot (slot s ss) zero new = slot new ss
with_slot (slot s ss) (suc k) new = slot s (with_slot ss k new)

-- the components of a record that has n of them
abbrev pub components : ℕ → Slot → Slots
components n (full (record_of vs)) = fulls vs
components n (parts ss) = ss
components n _ = empties n

abbrev pub component_slot : ℕ → Slot → Slot
component_slot k (full (record_of vs)) = full_if (val_at vs k)
component_slot k (parts ss) = slot_at ss k
component_slot k _ = empty

-- the item at a position from 0
abbrev pub item_slot : ℕ → Slot → Slot
item_slot k (full (array f l vs)) = full_if (val_at vs k)
item_slot k _ = empty

abbrev pub is_array : Slot → Bool
is_array (full (array f l vs)) = true
is_array _ = false

abbrev pub with_item_value : ℕ → Option Val → Slot → Slot
with_item_value k (Some v) (full (array f l vs)) = full (array f l (with_val vs k v))
with_item_value k _ s = s

abbrev pub same_var : Var → Var → Bool
same_var (param j) (param k) = j == k
same_var (local j) (local k) = j == k
same_var (global j) (global k) = j == k
same_var (turn j) (turn k) = j == k
same_var (index j) (index k) = j == k
same_var answer answer = true
same_var _ _ = false

abbrev pub Store : Type 0
Store = Var → Slot

abbrev pub put : Store → Var → Slot → Store
put s x new = λ y. pick (same_var x y) new (s y)

-- a subprogram at work: its variables as they are, as they were at its start (Ada RM 6.1.1, `'Old`), and as they were when
-- each loop was entered (SPARK RM 5.5.3.1, `'Loop_Entry`)
pub record Frame : Type 0 where
  pub state : Store
  pub start : Store
  pub entries : ℕ → Store

abbrev pub set : Frame → Var → Slot → Frame
set f x new = record f { state = put f.state x new }

abbrev pub state_in : Frame → Moment → Store
state_in f present = f.state
state_in f entry = f.start
state_in f (loop_entry k) = f.entries k

-- the loop of this number is entered
abbrev pub enter_loop : Frame → ℕ → Frame
enter_loop f k = record f { entries = λ j. pick (j == k) f.state (f.entries j) }

abbrev pub begin : Store → Frame
begin s = record { state = s; start = s; entries = λ k. s }

abbrev pub nth : {A : Type 0} → List (Option A) → ℕ → Option A
nth [] k = None
nth (x ∷ xs) zero = x
nth (x ∷ xs) (suc k) = nth xs k

-- the variables of a subprogram that is called, before it has its parameters
abbrev pub entered : Store → Store
entered s (global k) = s (global k)
entered s _ = empty

-- the caller's variables after a call that left these
abbrev pub with_globals : Store → Store → Store
with_globals s called (global k) = called (global k)
with_globals s called x = s x
