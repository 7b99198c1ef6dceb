use Rattle.typed_units.specs.declared.expressions.Expr.{out-roll-Expr}
use Rattle.statement_typing.proofs.laws.constrained_subtypes.Goals as goal

pub returns-clause-of_an_item : goal.returns-clause-of_an_item
returns-clause-of_an_item c = simp out-roll-Expr

pub returns-clause-constrained_item : goal.returns-clause-constrained_item
returns-clause-constrained_item c = simp out-roll-Expr

pub returns-clause-constrained_component : goal.returns-clause-constrained_component
returns-clause-constrained_component c = simp out-roll-Expr

pub returns-clause-constrained_object : goal.returns-clause-constrained_object
returns-clause-constrained_object c = simp out-roll-Expr

pub returns-clause-outside_the_index : goal.returns-clause-outside_the_index
returns-clause-outside_the_index c = simp out-roll-Expr

pub returns-clause-without_indexes : goal.returns-clause-without_indexes
returns-clause-without_indexes c = simp out-roll-Expr

pub returns-clause-outside_the_subtype : goal.returns-clause-outside_the_subtype
returns-clause-outside_the_subtype c = simp out-roll-Expr

pub returns-clause-named_numbers : goal.returns-clause-named_numbers
returns-clause-named_numbers c = simp out-roll-Expr
