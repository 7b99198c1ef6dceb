use Rattle.std.proofs.Common.{◌≡◌, length}
use Rattle.form_prover.specs.Formulas.{all_proved}
use Rattle.form_prover.proofs.rows.all_proved.Given as goal

abbrev pub invariant-loop-verdicts : goal.invariant-loop-verdicts
invariant-loop-verdicts l = all_proved l.site l.verdicts ≡ all_proved l.site l.initial.verdicts

abbrev pub decreases-loop-verdicts : goal.decreases-loop-verdicts
decreases-loop-verdicts l = length l.verdicts
