use Rattle.std.proofs.Common.{◌<◌, sym, ◌∙◌, arith}
use Rattle.grammar_table.specs.Levels.{rank}
use Rattle.grammar_table.proofs.Steps.{closed_stays, closed_none}
use Rattle.grammar_table.proofs.levels.Levels.close.Goals as goal

pub returns-then-rank : goal.returns-then-rank
returns-then-rank c =
    let higher : rank c.args.limit < rank c.in-Some.last = omega (arith, c.rank.ensures, c.rank-in-Some.ensures) in
    sym (closed_stays c.args.limit c.loop-last.self c.in-Some.last c.in-Some.ensures higher) ∙ c.loop-last.invariant

pub returns : goal.returns
returns c = sym (closed_none c.args.limit c.loop-last.self (sym c.in_default.is ∙ c.last.ensures)) ∙ c.loop-last.invariant
