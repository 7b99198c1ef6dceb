use Rattle.std.proofs.Common.{◌≡◌, drop, map}
use Rattle.linear_prover.specs.Lines.{is_used}
use Rattle.linear_prover.specs.LineView.{numbered_step}
use Rattle.linear_prover.proofs.lines.is_used.Given as goal

abbrev pub invariant-loop-x : goal.invariant-loop-x
invariant-loop-x l = is_used l.number (map numbered_step (drop l.x-index l.steps)) ≡ is_used l.number (map numbered_step l.steps)
