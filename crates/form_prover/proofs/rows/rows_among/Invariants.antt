use Rattle.std.proofs.Common.{◌≡◌, map, take}
use Rattle.form_prover.specs.Formulas.{row_among}
use Rattle.form_prover.proofs.rows.rows_among.Given as goal

abbrev pub invariant-loop-verdict : goal.invariant-loop-verdict
invariant-loop-verdict l = l.rows ≡ map (row_among l.verdicts) (take l.verdict-index l.verdicts)
