use Rattle.linear_forms.specs.Form.{multiples}
use Rattle.linear_forms.specs.View.{part, parts}
use Rattle.linear_forms.proofs.Gathering.{Gathering}
use Rattle.linear_forms.proofs.gather.add_products_of.Given as goal

abbrev pub invariant-loop-part : goal.invariant-loop-part
invariant-loop-part l = Gathering (multiples (part l.factor) (parts l.more)) (parts l.fn.parts.items) l.part-index (parts l.parts.items)
