-- What follows a subtype's name, in the words of the rules.
use Rattle.statement_typing.specs.Subtypes.{Constraint, free, other, to_index, to_range}
use Rattle.subtype_reader.specs.declared.constraints.Constraint as code
use Rattle.subtype_reader.specs.declared.constraints.Constraint.TheVariants as constraint
use Rattle.subtype_reader.specs.Written.{range_as}
use Rattle.syntax_view.specs.View.{bounds_of}

abbrev pub constraint_as : code.Constraint → Constraint
constraint_as constraint.Free = free
constraint_as (constraint.ToRange b) = to_range (bounds_of b.now)
constraint_as (constraint.ToIndex s r) = to_index s (range_as r)
constraint_as constraint.Other = other
