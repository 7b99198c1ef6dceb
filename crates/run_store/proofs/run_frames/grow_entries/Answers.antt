use Rattle.std.proofs.Common.{◌∙◌, ap}
use Rattle.run_store.specs.Entries.{entry_of}
use Rattle.run_store.proofs.EntryLists.{entry_more}
use Rattle.run_store.proofs.run_frames.grow_entries.Goals as goal

pub more-preserved : goal.more-preserved
more-preserved c = λ start k. ap (λ es. entry_of es start k) c.in_ok-push.ensures.ok ∙ entry_more c.more.entries start k ∙ c.more.invariant start k
