use Rattle.std.proofs.Common.{◌∙◌, sym, ap, Some, None}
use Rattle.run_store.specs.RunSlots.{run_slot}
use Rattle.run_store.proofs.SlotViews.{slot_listed, run_slot_Empty, map_if_ok}
use Rattle.run_store.proofs.lists.slot_of_list.Goals as goal

pub returns-in-Some : goal.returns-in-Some
returns-in-Some c = map_if_ok c.copied.result (λ x e. ap run_slot e ∙ sym (slot_listed c.args.list.now c.args.number (Some c.in-Some.s.now) c.in-Some.ensures)) c.copied.ensures

pub returns-in-None : goal.returns-in-None
returns-in-None c = run_slot_Empty ∙ sym (slot_listed c.args.list.now c.args.number None c.in-None.ensures)
