use Rattle.std.proofs.Common.{ap, ◌∙◌}
use Rattle.name_scopes.specs.State.{carried}
use Rattle.name_rules.specs.Faults.{state_from}
use Rattle.name_rules.proofs.Stored.{kept_more}
use Rattle.name_rules.proofs.files.go_first.Goals as goal

pub returns-clause-kept : goal.returns-clause-kept
returns-clause-kept c =
    kept_more c.args.files.now c.args.library.now c.args.kept.now c.insert.new.self c.args.unit.now.spot.file c.go_through.new.state c.requires c.in_ok-insert.ensures.updates.0
    (c.in_ok-found.ensures.state ∙ ap (λ s. carried c.args.unit.now.spot.file (state_from c.args.files.now c.args.library.now c.args.unit.now s)) c.in_ok-state.ensures)
