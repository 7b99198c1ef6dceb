use Rattle.std.proofs.Common.{◌∙◌, sym, ap, Some, None}
use Rattle.ada_semantics.specs.Store.{full}
use Rattle.run_values.specs.RunValues.{run_value}
use Rattle.run_values.proofs.Views.{run_value_Arr}
use Rattle.run_store.proofs.SlotViews.{item_at, run_slot_Empty, run_slot_Full}
use Rattle.run_store.proofs.slots.item_of_value.Goals as goal

pub returns-in_ok-copied-in-Some : goal.returns-in_ok-copied-in-Some
returns-in_ok-copied-in-Some c =
    run_slot_Full c.in_ok-copied-in-Some.field-0 ∙ ap (λ v. full (run_value v)) c.in_ok-copied-in-Some.ensures
    ∙ sym (item_at c.args.position (run_value c.args.v.now) c.in-Arr.array.first c.in-Arr.array.last c.in-Arr.array.items (Some c.in-Some.item.now) (ap run_value c.in-Arr.is ∙ run_value_Arr c.in-Arr.array) c.in-Some.ensures)

pub returns-in-None : goal.returns-in-None
returns-in-None c =
    run_slot_Empty ∙ sym (item_at c.args.position (run_value c.args.v.now) c.in-Arr.array.first c.in-Arr.array.last c.in-Arr.array.items None (ap run_value c.in-Arr.is ∙ run_value_Arr c.in-Arr.array) c.in-None.ensures)
