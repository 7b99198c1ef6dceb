use Rattle.std.proofs.Common.{◌∙◌}
use Rattle.syntax_view.specs.View.{args_of, expr}
use Rattle.aggregate_rules.specs.Covers.{cover_as}
use Rattle.reading_scope.specs.Scopes.{scope_of}
use Rattle.typing_rules.specs.Reading.{args}
use Rattle.aggregate_rules.proofs.Gathering.{covered_is}
use Rattle.aggregate_rules.proofs.covers.covered.Goals as goal

pub returns-in-Ok : goal.returns-in-Ok
returns-in-Ok c =
    let k = scope_of c.args.scope.now in
    c.cover_found.ensures
    ∙ covered_is k c.args.place c.args.bounds (args k (args_of expr c.args.associations.now)) c.args.partial c.args.ranges c.in-Is.ranges c.as_slice.result.now (cover_as c.in-Ok.cover) c.args.done
    c.in-Is.is c.as_slice.ensures c.in-Ok.ensures
