-- What stands at a number, in the code and in the definitions.
use Rattle.std.proofs.Common.{◌≡◌, refl, sym, ap, ◌∙◌, ℕ, zero, suc, arith, ◌<◌, ◌==◌, ◌++◌, length, false, ℤ, Result, Ok, Err, List, [], ◌∷◌}
use Rattle.std.specs.Prelude.{Option, Some, None, slice_get, slice_set, IfOk, OnOk}
use Rattle.ada_values.specs.Value.{Val, array, record_of, val_at}
use Rattle.ada_semantics.specs.Store.{Slot, empty, full, parts, full_if, slot_at, component_slot, item_slot}
use Rattle.ada_semantics.specs.Outcome.{pick}
use Rattle.run_values.specs.RunValues.{run_value, run_values}
use Rattle.run_values.specs.declared.values.RunValue.{RunValue}
use Rattle.run_store.specs.RunSlots.{run_slot, run_slots, run_slot_step}
use Rattle.run_store.specs.declared.slots.RunSlot.{RunSlot, out-RunSlot, map-RunSlot, fold_out-RunSlot}
use Rattle.run_store.specs.declared.slots.RunSlot.TheOpen.{RunSlot-F}
use Rattle.run_store.specs.declared.slots.RunSlot.TheVariants as v

abbrev pub or_empty : Option RunSlot → Slot
or_empty None = empty
or_empty (Some s) = run_slot s

abbrev pub value_or_empty : Option RunValue → Slot
value_or_empty None = empty
value_or_empty (Some v) = full (run_value v)

pub at_of_parts : (ss : List RunSlot) (k : ℕ) → slot_at (run_slots ss) k ≡ or_empty (slice_get ss k)
at_of_parts [] k = refl
at_of_parts (s ∷ ss) zero = refl
at_of_parts (s ∷ ss) (suc k) = at_of_parts ss k

pub at_of_values : (vs : List RunValue) (k : ℕ) → full_if (val_at (run_values vs) k) ≡ value_or_empty (slice_get vs k)
at_of_values [] k = refl
at_of_values (v ∷ vs) zero = refl
at_of_values (v ∷ vs) (suc k) = at_of_values vs k

-- ---- the view of each variant
run_slot_opens : (x : RunSlot) (y : RunSlot-F RunSlot) → out-RunSlot x ≡ y → run_slot x ≡ run_slot_step (map-RunSlot RunSlot Slot run_slot y)
run_slot_opens x y h = rw h at (fold_out-RunSlot Slot run_slot_step x)

pub run_slot_Empty : run_slot v.Empty ≡ empty
run_slot_Empty = run_slot_opens _ _ v.outs-Empty

pub run_slot_Full : (x : RunValue) → run_slot (v.Full x) ≡ full (run_value x)
run_slot_Full x = run_slot_opens _ _ (v.outs-Full x)

pub run_slot_Parts : (ss : List RunSlot) → run_slot (v.Parts ss) ≡ parts (run_slots ss)
run_slot_Parts ss = run_slot_opens _ _ (v.outs-Parts ss)

-- ---- parts
pub field_at : (k : ℕ) (u : Val) (vs : List RunValue) (o : Option RunValue) → u ≡ record_of (run_values vs) → o ≡ slice_get vs k → component_slot k (full u) ≡ value_or_empty o
field_at k u vs o e h = ap (λ w. component_slot k (full w)) e ∙ at_of_values vs k ∙ ap value_or_empty (sym h)

pub item_at : (k : ℕ) (u : Val) (f l : ℤ) (vs : List RunValue) (o : Option RunValue) → u ≡ array f l (run_values vs) → o ≡ slice_get vs k → item_slot k (full u) ≡ value_or_empty o
item_at k u f l vs o e h = ap (λ w. item_slot k (full w)) e ∙ at_of_values vs k ∙ ap value_or_empty (sym h)

pub part_at : (k : ℕ) (u : Slot) (ss : List RunSlot) (o : Option RunSlot) → u ≡ parts (run_slots ss) → o ≡ slice_get ss k → component_slot k u ≡ or_empty o
part_at k u ss o e h = ap (component_slot k) e ∙ at_of_parts ss k ∙ ap or_empty (sym h)

pub map_if_ok : {T E : Type 0} {P Q : T → Type 0} (r : Result T E) → ((x : T) → P x → Q x) → IfOk r P → IfOk r Q
map_if_ok (Ok x) f p = f x p
map_if_ok (Err e) f p = tt

pub map_on_ok : {T E P Q : Type 0} (r : Result T E) → (P → Q) → OnOk r P → OnOk r Q
map_on_ok (Ok x) f p = f p
map_on_ok (Err e) f p = tt

-- ---- lists of slots
pub slot_listed : (ss : List RunSlot) (k : ℕ) (o : Option RunSlot) → o ≡ slice_get ss k → slot_at (run_slots ss) k ≡ or_empty o
slot_listed ss k o h = at_of_parts ss k ∙ ap or_empty (sym h)

pub slot_more : (ss : List RunSlot) (j : ℕ) → slot_at (run_slots (ss ++ v.Empty ∷ [])) j ≡ slot_at (run_slots ss) j
slot_more [] zero = run_slot_Empty
slot_more [] (suc j) = refl
slot_more (s ∷ ss) zero = refl
slot_more (s ∷ ss) (suc j) = slot_more ss j

pub slot_set : (ss : List RunSlot) (k : ℕ) (s : RunSlot) (j : ℕ) → k < length ss → slot_at (run_slots (slice_set ss k s)) j ≡ pick (k == j) (run_slot s) (slot_at (run_slots ss) j)
slot_set [] k s j h = absurd (omega arith)
slot_set (x ∷ ss) zero s zero h = refl
slot_set (x ∷ ss) zero s (suc j) h = let e : (zero == suc j) ≡ false = grind arith in rw e refl
slot_set (x ∷ ss) (suc k) s zero h = let e : (suc k == zero) ≡ false = grind arith in rw e refl
slot_set (x ∷ ss) (suc k) s (suc j) h = let e : (suc k == suc j) ≡ (k == j) = grind arith in let w : k < length ss = omega arith in rw e (slot_set ss k s j w)
