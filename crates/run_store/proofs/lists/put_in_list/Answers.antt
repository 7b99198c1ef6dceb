use Rattle.std.proofs.Common.{◌∙◌, ap, ◌==◌}
use Rattle.ada_semantics.specs.Outcome.{pick}
use Rattle.ada_semantics.specs.Store.{slot_at}
use Rattle.run_store.specs.RunSlots.{run_slot, run_slots}
use Rattle.run_store.proofs.SlotViews.{slot_set, map_on_ok}
use Rattle.run_store.proofs.lists.put_in_list.Goals as goal

pub returns : goal.returns
returns c =
    map_on_ok c.set.result
    (λ e k. ap (λ ss. slot_at (run_slots ss) k) e ∙ slot_set c.grow.new.list c.args.number c.args.s k c.in_ok-grow.ensures.long
    ∙ ap (pick (c.args.number == k) (run_slot c.args.s)) (c.in_ok-grow.ensures.same k))
    c.set.ensures.ok
