use Rattle.std.proofs.Common.{◌≡◌, ◌∙◌, ◌+◌, ◌-◌, length, arith}
use Rattle.reading_scope.specs.Scopes.{scope_of}
use Rattle.statement_rules.proofs.LastOnes.{last_from}
use Rattle.statement_rules.proofs.endings.last_place.Goals as goal

-- it is that of the last statement
pub returns-in-len1-up : goal.returns-in-len1-up
returns-in-len1-up c =
    let ss = c.args.statements.now in
    let some = c.in-len1-up.len_at_least in
    let whole : length ss - 1 + 1 ≡ length ss = omega arith in
    c.place.ensures ∙ last_from (scope_of c.args.scope.now) c.args.place ss (length ss - 1) c.last-item.result whole c.last-item.is
