use Rattle.std.proofs.Common.{◌∙◌, ap, ℕ, List, ◌++◌}
use Rattle.logic_text.specs.Certs.{spaced_number}
use Rattle.term_reader.proofs.Places.{bad_at, steps_at}
use Rattle.cert_reader.specs.Phases.{index, term, Has}
use Rattle.cert_reader.proofs.fields.read_index_term.Goals as goal

pub returns-in-Err-clause-fault : goal.returns-in-Err-clause-fault
returns-in-Err-clause-fault c =
    λ p. c.in-Err.ensures.fault (term p)

pub returns-in-Err-read_spaced_term-clause-fault : goal.returns-in-Err-read_spaced_term-clause-fault
returns-in-Err-read_spaced_term-clause-fault c =
    λ p. bad_at (Has (index (term p))) (Has (term p)) c.args.bytes.now c.args.at c.in-Ok.index.to c.in-Err-read_spaced_term.fault (c.in-Ok.ensures.on (term p)) (c.in-Err-read_spaced_term.ensures.fault p)

pub returns-in-Ok-read_spaced_term-clause-text : goal.returns-in-Ok-read_spaced_term-clause-text
returns-in-Ok-read_spaced_term-clause-text c =
    c.in-Ok.ensures.text ∙ ap (λ (x : List ℕ). spaced_number c.in-Ok.index.value ++ x) c.in-Ok-read_spaced_term.ensures.text

pub returns-in-Ok-read_spaced_term-clause-on : goal.returns-in-Ok-read_spaced_term-clause-on
returns-in-Ok-read_spaced_term-clause-on c =
    λ p. steps_at (Has (index (term p))) (Has (term p)) (Has p) c.args.bytes.now c.args.at c.in-Ok.index.to c.in-Ok-read_spaced_term.read.to (c.in-Ok.ensures.on (term p)) (c.in-Ok-read_spaced_term.ensures.on p)
