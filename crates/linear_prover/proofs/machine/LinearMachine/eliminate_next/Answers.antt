use Rattle.std.proofs.Common.{◌≡◌, map, arith}
use Rattle.logic_terms.specs.View.{term}
use Rattle.linear_prover.specs.Elimination.{eliminate, eliminate_next, fewest}
use Rattle.linear_prover.specs.View.{state}
use Rattle.linear_prover.proofs.Stating.{runs_along}
use Rattle.linear_prover.proofs.Eliminating.{fewest_at, next_on, next_none}
use Rattle.linear_prover.proofs.machine.LinearMachine.eliminate_next.Goals as goal

pub returns-then-at-len : goal.returns-then-at-len
returns-then-at-len c =
    let at : c.fewest-at.result ≡ fewest (state c.args.self.now) = fewest_at c.args.self.now _ _ _ c.as_slice.ensures.value c.as_slice-2.ensures.value c.fewest-at.ensures in
    runs_along (eliminate (term c.remove-v.result) (record (state c.args.self.now) { left = map term c.remove-v.new.self.items })) (eliminate_next (state c.args.self.now)) c.eliminate.new.self c.eliminate.result
    (next_on c.args.self.now c.fewest-at.result c.remove-v.result c.remove-v.new.self.items at (omega arith) c.remove-v.ensures.value c.remove-v.ensures.items)
    c.eliminate.ensures

pub returns : goal.returns
returns c =
    next_none c.args.self.now c.fewest-at.result (fewest_at c.args.self.now _ _ _ c.as_slice.ensures.value c.as_slice-2.ensures.value c.fewest-at.ensures) (omega arith)
