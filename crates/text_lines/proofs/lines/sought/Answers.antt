use Rattle.std.proofs.Common.{◌/◌, length, arith}
use Rattle.text_lines.proofs.Seeking.{turn_after, turn_before}
use Rattle.text_lines.proofs.lines.sought.Goals as goal

pub loop-rest-preserved-then-rest-middle : goal.loop-rest-preserved-then-rest-middle
loop-rest-preserved-then-rest-middle c =
    let rest = c.loop-rest.rest.now in
    turn_after c.args.first c.loop-rest.line c.loop-rest.start c.args.at _ (length rest / 2) 0 rest _ c.loop-rest.invariant (grind arith) c.if-rest-middle.true

pub loop-rest-preserved : goal.loop-rest-preserved
loop-rest-preserved c =
    let rest = c.loop-rest.rest.now in
    turn_before c.args.first c.loop-rest.line c.loop-rest.start c.args.at _ (length rest / 2) 0 rest _ c.loop-rest.invariant (grind arith) c.if-rest-middle.false
