use Rattle.std.proofs.Common.{◌≡◌, drop}
use Rattle.statement_typing.specs.Aspects.{with_aspects}
use Rattle.subprogram_draft.proofs.aspects.with_aspects.Given as goal

abbrev pub invariant-loop-stated : goal.invariant-loop-stated
invariant-loop-stated l = with_aspects l.routine (drop l.stated-index l.aspects) l.draft ≡ with_aspects l.routine l.aspects l.fn.draft
