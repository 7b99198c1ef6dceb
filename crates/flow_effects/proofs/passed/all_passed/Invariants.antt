use Rattle.std.proofs.Common.{◌≡◌, ◌++◌, map, drop}
use Rattle.typed_units.specs.View.{actuals_of, expr}
use Rattle.flow_rules.specs.Aliases.{all_passed}
use Rattle.flow_effects.specs.PassedAs.{passed_of}
use Rattle.flow_effects.proofs.passed.all_passed.Given as goal

abbrev pub invariant-loop-argument : goal.invariant-loop-argument
invariant-loop-argument l =
    map passed_of l.found ++ all_passed l.shapes (actuals_of (expr l.shapes) (drop l.argument-index l.argument-items)) ≡ all_passed l.shapes (actuals_of (expr l.shapes) l.argument-items)
