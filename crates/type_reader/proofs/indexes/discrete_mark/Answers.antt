use Rattle.reading_scope.specs.Scopes.{scope_of}
use Rattle.type_reader.proofs.Named.{suffixed}
use Rattle.type_reader.proofs.indexes.discrete_mark.Goals as goal

pub returns-in-len1-up : goal.returns-in-len1-up
returns-in-len1-up c = suffixed (scope_of c.args.scope.now) c.args.place c.args.mark.entity c.args.mark.rest.now c.in-len1-up.len_at_least

pub returns-in-len1-up-rest : goal.returns-in-len1-up-rest
returns-in-len1-up-rest c = suffixed (scope_of c.args.scope.now) c.args.place c.args.mark.entity c.args.mark.rest.now c.in-len1-up-rest.len_at_least
