use Rattle.std.proofs.Common.{◌+◌, FitsSigned, rules}
use Rattle.std.proofs.lemmas.Int.{to_z-of_z}
use Rattle.std.specs.Int.{w128}
use Rattle.term_reader.proofs.Places.{bad_at, steps_at}
use Rattle.cert_reader.specs.Phases.{index, whole, Has}
use Rattle.cert_reader.proofs.Lists.{sum_is, sum_on, sum_bad, sums}
use Rattle.cert_reader.proofs.steps.read_sum.Goals as goal

pub returns-in-Err-clause-fault : goal.returns-in-Err-clause-fault
returns-in-Err-clause-fault c =
    sum_bad c.args.bytes.now c.args.at (c.args.at + 2) c.in-Err.fault c.requires.mark (λ p. c.in-Err.ensures.fault (index (whole p)))

pub returns-in-Err-read_scaled-clause-fault : goal.returns-in-Err-read_scaled-clause-fault
returns-in-Err-read_scaled-clause-fault c =
    sum_bad c.args.bytes.now c.args.at (c.args.at + 2) c.in-Err-read_scaled.fault c.requires.mark
    (λ p. bad_at (Has (sums p)) (Has (index (whole p))) c.args.bytes.now (c.args.at + 2) c.in-Ok.first.to c.in-Err-read_scaled.fault (c.in-Ok.ensures.on (index (whole p))) (c.in-Err-read_scaled.ensures.fault p))

pub returns-in-Ok-read_scaled-clause-text : goal.returns-in-Ok-read_scaled-clause-text
returns-in-Ok-read_scaled-clause-text c =
    let f : FitsSigned w128 c.in-Ok.first.by = search rules in
    let g : FitsSigned w128 c.in-Ok-read_scaled.second.by = search rules in
    sum_is c.in-Ok.first.form c.in-Ok.first.by _ c.in-Ok-read_scaled.second.form c.in-Ok-read_scaled.second.by _ _ _ _ _ (to_z-of_z w128 c.in-Ok.first.by f) (to_z-of_z w128 c.in-Ok-read_scaled.second.by g) c.requires.mark c.in-Ok.ensures.text c.in-Ok-read_scaled.ensures.text

pub returns-in-Ok-read_scaled-clause-on : goal.returns-in-Ok-read_scaled-clause-on
returns-in-Ok-read_scaled-clause-on c =
    sum_on c.args.bytes.now c.args.at (c.args.at + 2) c.in-Ok-read_scaled.second.to c.requires.mark
    (λ p. steps_at (Has (sums p)) (Has (index (whole p))) (Has p) c.args.bytes.now (c.args.at + 2) c.in-Ok.first.to c.in-Ok-read_scaled.second.to (c.in-Ok.ensures.on (index (whole p))) (c.in-Ok-read_scaled.ensures.on p))
