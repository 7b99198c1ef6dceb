use Rattle.logic_terms.specs.View.{formula}
use Rattle.cert_checker.proofs.Allowed.{not_sorted, not_constant}
use Rattle.cert_checker.proofs.lines.computing.Goals as goal
use Rattle.cert_checker.proofs.lines.computing.Goals.{else-branch-via-then-branch+else-is_constant, else-branch-via-else-branch}

pub returns-else-branch : goal.returns-else-branch
returns-else-branch c =
    let g = c.args.goal.now in
    let p = formula c.args.p.now in
    elim c.else-branch.branch [
      | else-branch-via-then-branch+else-is_constant w ↦ not_constant g c.args.fresh p _ c.in_ok-is_formula.field-0 w.is_constant.result c.in_ok-is_formula.ensures w.if-branch.true w.is_constant.ensures w.if-is_constant.false
      | else-branch-via-else-branch w ↦ not_sorted g c.args.fresh p _ c.in_ok-is_formula.field-0 c.in_ok-is_formula.ensures w.if-branch.false
    ]
