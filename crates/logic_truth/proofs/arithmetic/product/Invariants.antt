use Rattle.std.proofs.Common.{◌≡◌}
use Rattle.logic_terms.specs.Meaning.{times}
use Rattle.logic_truth.proofs.arithmetic.product.Given as goal

abbrev pub invariant-loop-turn : goal.invariant-loop-turn
invariant-loop-turn l = l.product ≡ times l.base l._turn
