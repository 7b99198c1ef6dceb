use Rattle.std.proofs.Common.{◌≡◌, length}
use Rattle.typing_rules.specs.Attributes.{only_components}
use Rattle.attribute_rules.proofs.arrays.only_components.Given as goal

abbrev pub invariant-loop-path : goal.invariant-loop-path
invariant-loop-path l = only_components l.path ≡ only_components l.initial.path

abbrev pub decreases-loop-path : goal.decreases-loop-path
decreases-loop-path l = length l.path
