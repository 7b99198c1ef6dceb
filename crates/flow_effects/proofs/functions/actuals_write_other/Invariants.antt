use Rattle.std.proofs.Common.{◌≡◌, length}
use Rattle.typed_units.specs.View.{actuals_of, expr}
use Rattle.flow_rules.specs.Functions.{actuals_write, any_other}
use Rattle.flow_effects.proofs.functions.actuals_write_other.Given as goal

abbrev pub invariant-loop-arguments : goal.invariant-loop-arguments
invariant-loop-arguments l = any_other (actuals_write (actuals_of (expr l.shapes) l.arguments)) ≡ any_other (actuals_write (actuals_of (expr l.shapes) l.initial.arguments))

abbrev pub decreases-loop-arguments : goal.decreases-loop-arguments
decreases-loop-arguments l = length l.arguments
