use Rattle.term_reader.proofs.Places.{bad_at, steps_at}
use Rattle.cert_reader.specs.Phases.{times, counted, Has}
use Rattle.cert_reader.proofs.Lists.{literals_are}
use Rattle.cert_reader.proofs.literals.read_literals.Goals as goal

pub returns-in-Err-read_formulas-clause-fault : goal.returns-in-Err-read_formulas-clause-fault
returns-in-Err-read_formulas-clause-fault c =
    λ p. bad_at (Has (counted p)) (Has (times c.in-Ok.count.value p)) c.args.bytes.now c.args.at c.in-Ok.count.to c.in-Err-read_formulas.fault (c.in-Ok.ensures.on p) (c.in-Err-read_formulas.ensures.fault p)

pub returns-in-Ok-read_formulas-clause-text : goal.returns-in-Ok-read_formulas-clause-text
returns-in-Ok-read_formulas-clause-text c =
    literals_are c.in-Ok-read_formulas.read.literals c.in-Ok.count.value _ _ _ c.in-Ok-read_formulas.ensures.number c.in-Ok.ensures.text c.in-Ok-read_formulas.ensures.text

pub returns-in-Ok-read_formulas-clause-on : goal.returns-in-Ok-read_formulas-clause-on
returns-in-Ok-read_formulas-clause-on c =
    λ p. steps_at (Has (counted p)) (Has (times c.in-Ok.count.value p)) (Has p) c.args.bytes.now c.args.at c.in-Ok.count.to c.in-Ok-read_formulas.read.to (c.in-Ok.ensures.on p) (c.in-Ok-read_formulas.ensures.on p)
