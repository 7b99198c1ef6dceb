use Rattle.std.proofs.Common.{drop, map}
use Rattle.cert_lines.specs.View.{step as step_of}
use Rattle.logic_text.specs.Fits.{Every, IsStep}
use Rattle.logic_text.proofs.fits.steps_fit.Given as goal

abbrev pub invariant-loop-step : goal.invariant-loop-step
invariant-loop-step l = Every IsStep (map step_of (drop l.step-index l.step-items)) → Every IsStep (map step_of l.steps)
