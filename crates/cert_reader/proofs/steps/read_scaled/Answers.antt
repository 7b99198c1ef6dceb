use Rattle.std.proofs.Common.{FitsSigned, rules}
use Rattle.std.proofs.lemmas.Int.{to_z-of_z}
use Rattle.std.specs.Int.{w128}
use Rattle.term_reader.proofs.Places.{bad_at, steps_at}
use Rattle.cert_reader.proofs.Lists.{scaled_is}
use Rattle.cert_reader.specs.Phases.{index, whole, Has}
use Rattle.cert_reader.proofs.steps.read_scaled.Goals as goal

pub returns-in-Err-clause-fault : goal.returns-in-Err-clause-fault
returns-in-Err-clause-fault c =
    λ p. c.in-Err.ensures.fault (whole p)

pub returns-in-Err-read_spaced_whole-clause-fault : goal.returns-in-Err-read_spaced_whole-clause-fault
returns-in-Err-read_spaced_whole-clause-fault c =
    λ p. bad_at (Has (index (whole p))) (Has (whole p)) c.args.bytes.now c.args.at c.in-Ok.form.to c.in-Err-read_spaced_whole.fault (c.in-Ok.ensures.on (whole p)) (c.in-Err-read_spaced_whole.ensures.fault p)

pub returns-in-Ok-read_spaced_whole-clause-text : goal.returns-in-Ok-read_spaced_whole-clause-text
returns-in-Ok-read_spaced_whole-clause-text c =
    let f : FitsSigned w128 c.in-Ok-read_spaced_whole.by.value = search rules in
    scaled_is c.in-Ok.form.value c.in-Ok-read_spaced_whole.by.value _ _ _ _ (to_z-of_z w128 c.in-Ok-read_spaced_whole.by.value f) c.in-Ok.ensures.text c.in-Ok-read_spaced_whole.ensures.text

pub returns-in-Ok-read_spaced_whole-clause-on : goal.returns-in-Ok-read_spaced_whole-clause-on
returns-in-Ok-read_spaced_whole-clause-on c =
    λ p. steps_at (Has (index (whole p))) (Has (whole p)) (Has p) c.args.bytes.now c.args.at c.in-Ok.form.to c.in-Ok-read_spaced_whole.by.to (c.in-Ok.ensures.on (whole p)) (c.in-Ok-read_spaced_whole.ensures.on p)
