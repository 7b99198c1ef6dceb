use Rattle.std.proofs.Common.{◌∙◌, sym, ap}
use Rattle.std.specs.Prelude.{Some, None}
use Rattle.run_store.proofs.EntryLists.{or_start, entry_got}
use Rattle.run_store.proofs.run_frames.entry_vars.Goals as goal

pub returns-in-Some-Some : goal.returns-in-Some-Some
returns-in-Some-Some c =
    ap (λ o. or_start c.args.frame.now.start (Some o)) (sym c.in-Some-Some.field-0-is)
    ∙ entry_got c.args.frame.now.entries c.args.frame.now.start c.args.number (Some c.in-Some-Some.field-0.now) c.in-Some-Some.ensures.value

pub returns-in-Some-None : goal.returns-in-Some-None
returns-in-Some-None c =
    ap (λ o. or_start c.args.frame.now.start (Some o)) (sym c.in-Some-None.field-0-is)
    ∙ entry_got c.args.frame.now.entries c.args.frame.now.start c.args.number (Some c.in-Some-None.field-0.now) c.in-Some-None.ensures.value

pub returns-in-None : goal.returns-in-None
returns-in-None c = entry_got c.args.frame.now.entries c.args.frame.now.start c.args.number None c.in-None.ensures.value
