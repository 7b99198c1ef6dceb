use Rattle.std.proofs.Common.{◌≡◌, [], drop, map}
use Rattle.logic_terms.specs.View.{term}
use Rattle.linear_prover.specs.Values.{chosen}
use Rattle.linear_prover.specs.View.{aside_of}
use Rattle.linear_prover.specs.ValueView.{known_values}
use Rattle.linear_prover.proofs.values.choose.Given as goal

abbrev pub invariant-loop-aside : goal.invariant-loop-aside
invariant-loop-aside l = chosen (map term l.variables) (map aside_of (drop l.aside-index l.eliminated)) (known_values l.known.items) ≡ chosen (map term l.variables) (map aside_of l.eliminated) []
