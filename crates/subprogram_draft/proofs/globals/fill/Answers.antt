use Rattle.std.proofs.Common.{ap, sym, ◌∙◌}
use Rattle.std.specs.Prelude.{slice_set}
use Rattle.typed_units.specs.declared.programs.Global.{Global}
use Rattle.subprogram_draft.proofs.InPlace.{set_changed}
use Rattle.subprogram_draft.proofs.globals.fill.Goals as goal

pub returns : goal.returns
returns c =
    c.set.ensures
    ∙ ap (slice_set c.args.globals.now c.args.number) c.in_ok-global.ensures
    ∙ set_changed (λ (x : Global). record x { subtype = c.args.subtype; initial = c.args.initial.now }) c.args.globals.now c.args.number c.in-Some.global.now (sym c.in-Some.ensures.value)
