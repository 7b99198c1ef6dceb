use Rattle.std.proofs.Common.{sym, ap, ◌∙◌}
use Rattle.std.specs.List.{position}
use Rattle.std.specs.Str.{bytes_eq}
use Rattle.keeper_io.proofs.Entries.{entry_of-set, entry_of-set_other, entry_of-push, entry_of-push_other}
use Rattle.keeper_io.proofs.map_keeper.store.Goals as goal

pub returns-in-Some-clause-stored : goal.returns-in-Some-clause-stored
returns-in-Some-clause-stored c =
    let found = ap (position (λ e. bytes_eq e.name c.args.entry.name)) (sym c.as_slice.ensures) ∙ sym c.position_of.ensures ∙ c.in-Some.is in
    rw c.set.ensures (entry_of-set c.args.entries.now c.args.entry c.in-Some.at found)

pub returns-in-Some-clause-others : goal.returns-in-Some-clause-others
returns-in-Some-clause-others c =
    let found = ap (position (λ e. bytes_eq e.name c.args.entry.name)) (sym c.as_slice.ensures) ∙ sym c.position_of.ensures ∙ c.in-Some.is in
    rw c.set.ensures (entry_of-set_other c.args.entries.now c.args.entry c.in-Some.at found)

pub returns-in_ok-push-in-None-clause-stored : goal.returns-in_ok-push-in-None-clause-stored
returns-in_ok-push-in-None-clause-stored c =
    let none = ap (position (λ e. bytes_eq e.name c.args.entry.name)) (sym c.as_slice.ensures) ∙ sym c.position_of.ensures ∙ c.in-None.is in
    rw c.in_ok-push-in-None.ensures.ok (entry_of-push c.args.entries.now c.args.entry none)

pub returns-in_ok-push-in-None-clause-others : goal.returns-in_ok-push-in-None-clause-others
returns-in_ok-push-in-None-clause-others c =
    rw c.in_ok-push-in-None.ensures.ok (entry_of-push_other c.args.entries.now c.args.entry)
