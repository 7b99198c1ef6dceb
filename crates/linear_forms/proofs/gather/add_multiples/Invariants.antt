use Rattle.linear_forms.specs.Form.{scaled}
use Rattle.linear_forms.specs.View.{parts}
use Rattle.linear_forms.proofs.Gathering.{Gathering}
use Rattle.linear_forms.proofs.gather.add_multiples.Given as goal

abbrev pub invariant-loop-part : goal.invariant-loop-part
invariant-loop-part l = Gathering (scaled l.by (parts l.more)) (parts l.fn.parts.items) l.part-index (parts l.parts.items)
