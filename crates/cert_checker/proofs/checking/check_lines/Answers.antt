use Rattle.std.proofs.Common.{◌≡◌, ◌<◌, ◌+◌, ap, subst, List, length, get_or, arith}
use Rattle.cert_lines.specs.View.{line}
use Rattle.cert_lines.specs.declared.line.CertLine.{CertLine}
use Rattle.cert_rules.specs.Judges.{clause}
use Rattle.cert_store.specs.Store.{clauses}
use Rattle.cert_checker.proofs.Checked.{at_most_one, refused_here, goes_on}
use Rattle.cert_checker.proofs.checking.check_lines.Goals as goal

pub overflow_add-number : goal.overflow_add-number
overflow_add-number c =
    let h = subst (λ (xs : List CertLine). c.loop-line.line-index < length xs) c.as_slice-line-items.ensures c.loop-line-test.true in
    omega (arith, c.loop-line.invariant.counted, c.requires)

pub returns-in-Err : goal.returns-in-Err
returns-in-Err c =
    let i = c.loop-line.line-index in
    let l = c.line-item.result in
    let h = subst (λ (xs : List CertLine). i < length xs) c.as_slice-line-items.ensures c.loop-line-test.true in
    let e = subst (λ (xs : List CertLine). l ≡ get_or xs i l) c.as_slice-line-items.ensures c.line-item.is in
    refused_here c.args.g.now c.args.c.now.lines i c.loop-line.fresh (clauses c.loop-line.store) c.loop-line.invariant.checked l h e
    c.in-Err.fault (c.loop-line.number + 1) c.refusal.result (ap (λ n. n + 1) c.loop-line.invariant.counted) c.refusal.ensures c.in-Err.ensures

pub overflow_add-fresh : goal.overflow_add-fresh
overflow_add-fresh c =
    let h = subst (λ (xs : List CertLine). c.loop-line.line-index < length xs) c.as_slice-line-items.ensures c.loop-line-test.true in
    let few = c.loop-line.invariant.checked.few in
    let more = c.new_symbols-fresh.ensures in
    let one = at_most_one (line c.line-item.result) in
    omega (arith, c.requires)

pub loop-line-preserved : goal.loop-line-preserved
loop-line-preserved c =
    let i = c.loop-line.line-index in
    let l = c.line-item.result in
    let h = subst (λ (xs : List CertLine). i < length xs) c.as_slice-line-items.ensures c.loop-line-test.true in
    let e = subst (λ (xs : List CertLine). l ≡ get_or xs i l) c.as_slice-line-items.ensures c.line-item.is in
    record {
      checked = goes_on c.args.g.now c.args.c.now.lines i c.loop-line.fresh (clauses c.loop-line.store) c.loop-line.invariant.checked l h e
          (clause c.in-Ok.clause) (clauses c.push.new.self) c.new_symbols-fresh.result c.in-Ok.ensures c.in_ok-push-in-Ok.ensures.ok c.new_symbols-fresh.ensures;
      counted = ap (λ n. n + 1) c.loop-line.invariant.counted;
    }
