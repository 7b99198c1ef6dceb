use Rattle.std.proofs.Common.{◌≡◌, take}
use Rattle.logic_terms.specs.Value.{defaults, kinds_of}
use Rattle.logic_truth.specs.Found.{found_all}
use Rattle.logic_truth.proofs.arrays.+default.Given as goal

abbrev pub invariant-defaults_of-loop-v : goal.invariant-defaults_of-loop-v
invariant-defaults_of-loop-v l = found_all l.none ≡ defaults (kinds_of (found_all (take l.v-index l.v-items)))
