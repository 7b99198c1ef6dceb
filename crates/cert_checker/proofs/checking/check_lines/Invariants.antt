use Rattle.std.proofs.Common.{◌≡◌}
use Rattle.cert_store.specs.Store.{clauses}
use Rattle.cert_checker.proofs.Checked.{Checked}
use Rattle.cert_checker.proofs.checking.check_lines.Given as goal

abbrev pub invariant-loop-line : goal.invariant-loop-line
invariant-loop-line l = record {
  checked : Checked l.g l.c.lines l.line-index l.fresh (clauses l.store);
  counted : l.number ≡ l.line-index;
}
