use Rattle.linear_prover.proofs.Lining.{lines_made}
use Rattle.linear_prover.proofs.lines.lines.Goals as goal

pub returns : goal.returns
returns c =
    lines_made c.args.inputs c.args.last c.args.steps.now _ _ _ c.renumber_all.result c.in_ok-found.ensures c.reverse.ensures.items c.as_slice.ensures.value c.renumber_all.ensures
