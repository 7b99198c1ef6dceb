use Rattle.std.proofs.Common.{◌∙◌, ◌==◌, ap}
use Rattle.ada_semantics.specs.Outcome.{pick}
use Rattle.run_store.specs.Entries.{entry_of}
use Rattle.run_store.proofs.EntryLists.{entry_set}
use Rattle.run_store.proofs.run_frames.put_entry.Goals as goal

pub returns-in-Ok : goal.returns-in-Ok
returns-in-Ok c = λ start k.
    ap (λ es. entry_of es start k) c.set.ensures ∙ entry_set c.grow_entries.new.entries c.args.number c.args.vars start k c.in-Ok.ensures.long
    ∙ ap (pick (k == c.args.number) c.args.vars) (c.in-Ok.ensures.same start k)
