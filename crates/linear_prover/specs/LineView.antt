-- The numbered step that a `NumberedStep` is.
use Rattle.cert_lines.specs.View.{step}
use Rattle.linear_prover.specs.Lines.{Numbered, numbered}
use Rattle.linear_prover.specs.declared.lines.NumberedStep.{NumberedStep}

abbrev pub numbered_step : NumberedStep → Numbered
numbered_step x = numbered x.number (step x.step)
