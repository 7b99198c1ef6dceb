use Rattle.std.proofs.Common.{◌≡◌, ◌<◌, ◌≤◌, ◌+◌, ◌-◌, ℕ, sym, subst, length, map}
use Rattle.std.specs.Prelude.{nat_eq}
use Rattle.logic_terms.specs.Sorts.{sort}
use Rattle.cert_checker.proofs.Allowed.{is_next_so, is_not_next}
use Rattle.cert_checker.proofs.lines.is_next.Goals as goal

pub returns-then-symbol-own : goal.returns-then-symbol-own
returns-then-symbol-own c =
    let h = subst (λ (m : ℕ). c.args.symbol < m) c.len-own.ensures c.if-symbol-own.true in
    is_not_next c.args.goal.now.symbols c.args.symbol c.args.fresh h

pub returns : goal.returns
returns c =
    let k = c.args.symbol in
    let ss = c.args.goal.now.symbols in
    let h = subst (λ (m : ℕ). m ≤ k) c.len-own.ensures c.if-symbol-own.false in
    subst (λ (m : ℕ). nat_eq (k - m) c.args.fresh ≡ nat_eq k (length (map (λ s. sort s.sort) ss) + c.args.fresh)) (sym c.len-own.ensures) (is_next_so ss k c.args.fresh h)
