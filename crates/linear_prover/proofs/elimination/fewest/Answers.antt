use Rattle.std.proofs.Common.{◌-◌, map, refl, arith}
use Rattle.logic_terms.specs.View.{term}
use Rattle.linear_prover.specs.Elimination.{pairs}
use Rattle.linear_prover.specs.View.{made_of}
use Rattle.linear_prover.specs.declared.elimination.Least.{Least}
use Rattle.linear_prover.proofs.Fewest.{known_next}
use Rattle.linear_prover.proofs.elimination.fewest.Goals as goal

pub loop-i-preserved : goal.loop-i-preserved
loop-i-preserved c =
    let here : Least = record { at = c.loop-i.i - 1; count = c.pairs.result } in
    known_next (λ v. pairs (term v) (map made_of c.args.standing.now)) c.args.left.now (c.loop-i.i - 1) c.loop-i.i c.index-left-i.result c.pairs.result c.loop-i.least here c.or_earlier-least.result
    (omega arith) (omega arith) c.index-left-i.is c.pairs.ensures (omega arith) refl refl c.or_earlier-least.ensures c.loop-i.invariant
