use Rattle.std.proofs.Common.{◌≡◌, length}
use Rattle.typing_rules.specs.Calls.{is_among}
use Rattle.aggregate_rules.proofs.components.is_among.Given as goal

abbrev pub invariant-loop-given : goal.invariant-loop-given
invariant-loop-given l = is_among l.number l.given ≡ is_among l.number l.initial.given

abbrev pub decreases-loop-given : goal.decreases-loop-given
decreases-loop-given l = length l.given
