use Rattle.std.proofs.Common.{◌≡◌, map, take}
use Rattle.logic_terms.specs.Value.{kinds_of}
use Rattle.logic_terms.specs.Sorts.{sort, kinds_in}
use Rattle.logic_truth.specs.Found.{found_all}
use Rattle.logic_truth.proofs.kinds.+kind.Given as goal

abbrev pub invariant-kinds_of-loop-v : goal.invariant-kinds_of-loop-v
invariant-kinds_of-loop-v l = kinds_in (map sort l.sorts) ≡ kinds_of (found_all (take l.v-index l.v-items))
