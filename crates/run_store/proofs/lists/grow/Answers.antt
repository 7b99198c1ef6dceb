use Rattle.std.proofs.Common.{◌∙◌, ap}
use Rattle.ada_semantics.specs.Store.{slot_at}
use Rattle.run_store.specs.RunSlots.{run_slots}
use Rattle.run_store.proofs.SlotViews.{slot_more}
use Rattle.run_store.proofs.lists.grow.Goals as goal

pub more-preserved : goal.more-preserved
more-preserved c = λ k. ap (λ ss. slot_at (run_slots ss) k) c.in_ok-push.ensures.ok ∙ slot_more c.more.list k ∙ c.more.invariant k
