use Rattle.program_scope.specs.Homes.{home_of}
use Rattle.aspect_reader.proofs.Turns.{one_more}
use Rattle.aspect_reader.proofs.aspects.aspects_found.Goals as goal

pub loop-aspect-preserved : goal.loop-aspect-preserved
loop-aspect-preserved c =
    let i = c.loop-aspect.invariant in (
      _,
      c.after-standing.ensures i.0 i.1,
      one_more (home_of c.args.home.now) c.args.world.now c.args.first i.0 _ _ _ _ c.args.aspects.now c.loop-aspect.aspect-index c.aspect-item.result c.word.result
          c.loop-aspect-test.true c.aspect-item.is c.word.ensures i.2 (c.in_ok-stated.ensures i.0 i.1) c.in_ok-push.ensures.ok,
    )
