use Rattle.std.proofs.Common.{◌≡◌, ◌∙◌, ◌≤◌, ◌+◌, ◌-◌, subst, List, length, get_or, arith}
use Rattle.ada_syntax.specs.declared.statements.Stmt.{Stmt}
use Rattle.statement_rules.proofs.LastOnes.{last_ends}
use Rattle.statement_rules.proofs.endings.+ends.Goals as goal

-- statements end as the last of them does
pub ends-returns-in-len1-up : goal.ends-returns-in-len1-up
ends-returns-in-len1-up t c =
    let ss = c.args.statements.now in
    let last = c.last-item.result in
    let some = subst (λ (xs : List Stmt). 1 ≤ length xs) c.as_slice.ensures c.in-len1-up.len_at_least in
    let is = subst (λ (xs : List Stmt). last ≡ get_or xs (length xs - 1) last) c.as_slice.ensures c.last-item.is in
    let whole : length ss - 1 + 1 ≡ length ss = omega arith in
    c.returns.ensures ∙ last_ends ss (length ss - 1) last whole is
