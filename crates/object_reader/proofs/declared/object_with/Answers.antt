use Rattle.std.specs.Option.{option_map}
use Rattle.object_reader.proofs.Entering.{goes_on, is_entered}
use Rattle.object_reader.proofs.declared.object_with.Goals as goal
use Rattle.program_scope.specs.Homes.{home_of}
use Rattle.statement_typing.specs.Objects.{entered_by, object_subtype, present}
use Rattle.syntax_view.specs.View.{expr, sub_ind}

pub returns-clause-program : goal.returns-clause-program
returns-clause-program c =
    goes_on c.object_beside.result (home_of c.args.home.now) c.args.place c.args.constant c.args.names.now (option_map expr c.args.tree.now)
    c.in_ok-found.found (object_subtype (present (home_of c.args.home.now) c.args.draft.now) c.args.place (sub_ind c.args.sub.now))
    c.args.draft.now c.object_beside.new.draft (record { number = c.in_ok-subtype.subtype; draft = c.entered_by.new.draft })
    c.in_ok-found.ensures.found
    (is_entered (entered_by c.in_ok-found.found c.args.draft.now) c.in_ok-subtype.subtype c.entered_by.new.draft c.in_ok-subtype.ensures.number c.in_ok-subtype.ensures.program)
    c.object_beside.ensures.program
