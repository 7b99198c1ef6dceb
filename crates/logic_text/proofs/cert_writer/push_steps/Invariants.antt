use Rattle.std.proofs.Common.{◌≡◌, ◌++◌, drop, map}
use Rattle.cert_lines.specs.View.{step as step_of}
use Rattle.logic_text.specs.Certs.{steps_text}
use Rattle.logic_text.proofs.cert_writer.push_steps.Given as goal

abbrev pub invariant-loop-step : goal.invariant-loop-step
invariant-loop-step l = l.fn.text.items ++ steps_text (map step_of l.steps) ≡ l.text.items ++ steps_text (map step_of (drop l.step-index l.step-items))
