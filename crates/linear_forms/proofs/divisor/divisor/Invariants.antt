use Rattle.std.proofs.Common.{take}
use Rattle.linear_forms.specs.View.{parts}
use Rattle.linear_forms.proofs.Divisors.{IsDivisor}
use Rattle.linear_forms.proofs.divisor.divisor.Given as goal

abbrev pub invariant-loop-part : goal.invariant-loop-part
invariant-loop-part l = IsDivisor l.common (take l.part-index (parts l.parts))
