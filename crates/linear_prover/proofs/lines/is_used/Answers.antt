use Rattle.std.proofs.Common.{sym, ◌∙◌}
use Rattle.linear_prover.proofs.Steps.{item_is}
use Rattle.linear_prover.proofs.Lining.{used_next, used_here, used_none}
use Rattle.linear_prover.proofs.lines.is_used.Goals as goal

pub loop-x-preserved : goal.loop-x-preserved
loop-x-preserved c =
    used_next _ c.args.steps.now c.loop-x.x-index _ _ c.loop-x-test.true (item_is _ _ _ c.loop-x-test.true) (sym c.uses.ensures ∙ c.if-uses.false) c.loop-x.invariant

pub returns-then-uses : goal.returns-then-uses
returns-then-uses c =
    used_here _ c.args.steps.now c.loop-x.x-index _ _ c.loop-x-test.true (item_is _ _ _ c.loop-x-test.true) (sym c.uses.ensures ∙ c.if-uses.true) c.loop-x.invariant

pub returns : goal.returns
returns c = used_none _ c.args.steps.now c.loop-x.x-index _ c.loop-x-test.false c.loop-x.invariant
