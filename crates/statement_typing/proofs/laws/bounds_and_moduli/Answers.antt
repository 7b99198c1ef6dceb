use Rattle.typed_units.specs.declared.expressions.Expr.{out-roll-Expr}
use Rattle.statement_typing.proofs.laws.bounds_and_moduli.Goals as goal

pub returns-clause-descending : goal.returns-clause-descending
returns-clause-descending c = simp out-roll-Expr

pub returns-clause-ascending : goal.returns-clause-ascending
returns-clause-ascending c = simp out-roll-Expr

pub returns-clause-outside_parent : goal.returns-clause-outside_parent
returns-clause-outside_parent c = simp out-roll-Expr

pub returns-clause-not_static : goal.returns-clause-not_static
returns-clause-not_static c = simp out-roll-Expr

pub returns-clause-of_a_constant : goal.returns-clause-of_a_constant
returns-clause-of_a_constant c = simp out-roll-Expr

pub returns-clause-of_literals : goal.returns-clause-of_literals
returns-clause-of_literals c = simp out-roll-Expr
