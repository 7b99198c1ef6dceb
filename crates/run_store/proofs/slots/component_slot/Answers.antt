use Rattle.std.proofs.Common.{◌∙◌, sym, ap, Some, None}
use Rattle.run_store.specs.RunSlots.{run_slot}
use Rattle.run_store.proofs.SlotViews.{part_at, run_slot_Empty, run_slot_Parts, map_if_ok}
use Rattle.run_store.proofs.slots.component_slot.Goals as goal

pub returns-in-Some : goal.returns-in-Some
returns-in-Some c =
    map_if_ok c.copied.result
    (λ x e. ap run_slot e ∙ sym (part_at c.args.number (run_slot c.args.s.now) c.in-Parts.parts (Some c.in-Some.part.now) (ap run_slot c.in-Parts.is ∙ run_slot_Parts c.in-Parts.parts) c.in-Some.ensures))
    c.copied.ensures

pub returns-in-None : goal.returns-in-None
returns-in-None c = run_slot_Empty ∙ sym (part_at c.args.number (run_slot c.args.s.now) c.in-Parts.parts None (ap run_slot c.in-Parts.is ∙ run_slot_Parts c.in-Parts.parts) c.in-None.ensures)
