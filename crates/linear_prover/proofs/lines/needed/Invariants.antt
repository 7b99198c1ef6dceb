use Rattle.std.proofs.Common.{◌≡◌, ◌+◌, drop, map}
use Rattle.cert_lines.specs.View.{step}
use Rattle.linear_prover.specs.Lines.{needed}
use Rattle.linear_prover.specs.LineView.{numbered_step}
use Rattle.linear_prover.proofs.lines.needed.Given as goal

abbrev pub invariant-loop-i : goal.invariant-loop-i
invariant-loop-i l = map numbered_step l.found.items ≡ needed l.last (l.inputs + l.i) (map step (drop l.i l.steps))
