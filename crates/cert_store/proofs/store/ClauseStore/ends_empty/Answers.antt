use Rattle.std.proofs.Common.{◌≡◌, ◌≤◌, ◌+◌, ◌-◌, subst, List, length, get_or, arith}
use Rattle.logic_terms.specs.declared.syntax.Formula.{Formula}
use Rattle.cert_store.proofs.Hints.{ends}
use Rattle.cert_store.proofs.store.ClauseStore.ends_empty.Goals as goal

pub returns-in-len1-up : goal.returns-in-len1-up
returns-in-len1-up c =
    let cs = c.args.self.now.clauses in
    let last = c.last-item.result in
    let some = subst (λ (xs : List (List Formula)). 1 ≤ length xs) c.as_slice.ensures c.in-len1-up.len_at_least in
    let is = subst (λ (xs : List (List Formula)). last ≡ get_or xs (length xs - 1) last) c.as_slice.ensures c.last-item.is in
    let whole : length cs - 1 + 1 ≡ length cs = omega arith in
    ends cs (length cs - 1) last c.is_empty.result whole is c.is_empty.ensures
