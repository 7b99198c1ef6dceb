use Rattle.std.proofs.Common.{ap, ◌∙◌}
use Rattle.type_base.specs.declared.seen.Seen.{Seen}
use Rattle.statement_typing.specs.Pragmas.{as_integer, integer_seen}
use Rattle.statement_rules.proofs.Integers.{integer_found}
use Rattle.statement_rules.proofs.demanded.moved_value.Goals as goal

-- what is found is the operand's, with a universal number as an Integer
pub returns-in-Ok : goal.returns-in-Ok
returns-in-Ok c =
    c.found_expr.ensures
    ∙ integer_found c.args.place c.in-Ok.read
    ∙ ap (integer_seen c.args.place) c.in-Ok.ensures
    ∙ ap (λ (s : Seen). integer_seen c.args.place (as_integer c.args.world.now c.args.place s)) c.operand-read.ensures
