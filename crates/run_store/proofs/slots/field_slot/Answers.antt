use Rattle.std.proofs.Common.{◌∙◌, sym, ap, Some, None}
use Rattle.ada_semantics.specs.Store.{full}
use Rattle.run_values.specs.RunValues.{run_value}
use Rattle.run_values.proofs.Views.{run_value_Rec}
use Rattle.run_store.proofs.SlotViews.{field_at, run_slot_Empty, run_slot_Full}
use Rattle.run_store.proofs.slots.field_slot.Goals as goal

pub returns-in_ok-copied-in-Some : goal.returns-in_ok-copied-in-Some
returns-in_ok-copied-in-Some c =
    run_slot_Full c.in_ok-copied-in-Some.field-0 ∙ ap (λ v. full (run_value v)) c.in_ok-copied-in-Some.ensures
    ∙ sym (field_at c.args.number (run_value c.args.v.now) c.in-Rec.fields (Some c.in-Some.field.now) (ap run_value c.in-Rec.is ∙ run_value_Rec c.in-Rec.fields) c.in-Some.ensures)

pub returns-in-None : goal.returns-in-None
returns-in-None c = run_slot_Empty ∙ sym (field_at c.args.number (run_value c.args.v.now) c.in-Rec.fields None (ap run_value c.in-Rec.is ∙ run_value_Rec c.in-Rec.fields) c.in-None.ensures)
