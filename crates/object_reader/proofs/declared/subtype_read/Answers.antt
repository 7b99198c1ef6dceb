use Rattle.object_reader.proofs.Entering.{read_is_sound}
use Rattle.object_reader.proofs.declared.subtype_read.Goals as goal
use Rattle.program_scope.specs.Homes.{home_of}
use Rattle.reading_scope.specs.Scopes.{scope_of}
use Rattle.statement_typing.specs.Files.{scope}
use Rattle.syntax_view.specs.View.{sub_ind}
use Rattle.type_base.specs.declared.seen.Moment.TheVariants.{Elsewhere}

pub returns-clause-sound : goal.returns-clause-sound
returns-clause-sound c = read_is_sound c.object_subtype.result (scope_of c.scope.result) (scope (home_of c.args.home.now) Elsewhere c.args.world.now) c.args.place (sub_ind c.args.sub.now) c.scope.ensures c.are_sound.ensures c.object_subtype.ensures
