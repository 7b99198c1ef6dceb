use Rattle.std.proofs.Common.{◌≡◌, take, map}
use Rattle.cert_lines.specs.View.{step}
use Rattle.linear_prover.specs.Lines.{line}
use Rattle.linear_prover.specs.LineView.{numbered_step}
use Rattle.linear_prover.proofs.lines.renumber_all.Given as goal

abbrev pub invariant-loop-x : goal.invariant-loop-x
invariant-loop-x l = map step l.made ≡ map (λ y. line l.inputs (map numbered_step l.steps) (step y.step)) (take l.x-index l.steps)
