use Rattle.declared_worlds.proofs.Noticing.{constraint_there, subtype_there, typed_there}
use Rattle.declared_worlds.proofs.laws.types_are_there.Goals as goal

pub returns-clause-expressions : goal.returns-clause-expressions
returns-clause-expressions c = typed_there

pub returns-clause-subtypes : goal.returns-clause-subtypes
returns-clause-subtypes c = subtype_there

pub returns-clause-constraints : goal.returns-clause-constraints
returns-clause-constraints c = constraint_there
