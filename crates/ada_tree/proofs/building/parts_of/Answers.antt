use Rattle.std.proofs.Common.{ap, ◌∙◌, arith}
use Rattle.ada_tree.specs.Moves.{takes}
use Rattle.ada_tree.proofs.Derived.{takes_append, turned}
use Rattle.ada_tree.proofs.building.parts_of.Goals as goal

pub put_move-requires-clause-some : goal.put_move-requires-clause-some
put_move-requires-clause-some c =
    let count = ap takes c.in-Some.ensures ∙ takes_append c.pop.new.self c.in-Some.last in
    omega (arith, count, c.loop-last.invariant.0)

pub loop-last-preserved : goal.loop-last-preserved
loop-last-preserved c =
    let i = c.loop-last.invariant in
    turned c.pop.new.self c.loop-last.moves i.2.0 c.args.moves c.in-Some.last c.loop-last.left c.in_ok-left.left c.args.tokens.now c.loop-last.parts c.put_move.new.parts c.in-Some.ensures i.0 i.1 i.2.1 i.2.2 c.in_ok-left.ensures.left c.in_ok-left.ensures.parts
