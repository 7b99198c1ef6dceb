use Rattle.linear_forms.specs.View.{parts}
use Rattle.linear_forms.proofs.Gathering.{Multiplying}
use Rattle.linear_forms.proofs.gather.add_products.Given as goal

abbrev pub invariant-loop-factor : goal.invariant-loop-factor
invariant-loop-factor l = Multiplying (parts l.factors) (parts l.more) (parts l.fn.parts.items) l.factor-index (parts l.parts.items)
