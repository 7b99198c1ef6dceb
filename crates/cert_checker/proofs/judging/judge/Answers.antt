use Rattle.std.proofs.Common.{sym, subst}
use Rattle.cert_lines.specs.View.{line}
use Rattle.cert_lines.specs.declared.line.CertLine.{CertLine}
use Rattle.cert_rules.specs.Rules.{judge}
use Rattle.cert_rules.specs.Judges.{Judges, clause}
use Rattle.cert_linear.specs.Here.{context}
use Rattle.cert_store.specs.Store.{clauses}
use Rattle.cert_checker.proofs.judging.judge.Goals as goal

pub returns-in-Lin : goal.returns-in-Lin
returns-in-Lin c =
    let cs = clauses c.args.store.now in
    subst (λ (l : CertLine). Judges clause (judge (context c.args.goal.now c.args.fresh cs) (line l)) c.linear.result) (sym c.in-Lin.is) (c.linear.ensures cs)
