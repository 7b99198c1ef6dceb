use Rattle.std.proofs.Common.{◌∙◌, ap, ℕ, List, ◌++◌}
use Rattle.logic_terms.specs.View.{term as term_of}
use Rattle.logic_text.specs.Certs.{spaced_node}
use Rattle.term_reader.proofs.Places.{bad_at, steps_at}
use Rattle.cert_reader.specs.Phases.{term, Has}
use Rattle.cert_reader.proofs.fields.read_terms.Goals as goal

pub returns-in-Err-clause-fault : goal.returns-in-Err-clause-fault
returns-in-Err-clause-fault c =
    λ p. c.in-Err.ensures.fault (term p)

pub returns-in-Err-read_spaced_term-clause-fault : goal.returns-in-Err-read_spaced_term-clause-fault
returns-in-Err-read_spaced_term-clause-fault c =
    λ p. bad_at (Has (term (term p))) (Has (term p)) c.args.bytes.now c.args.at c.in-Ok.left.to c.in-Err-read_spaced_term.fault (c.in-Ok.ensures.on (term p)) (c.in-Err-read_spaced_term.ensures.fault p)

pub returns-in-Ok-read_spaced_term-clause-text : goal.returns-in-Ok-read_spaced_term-clause-text
returns-in-Ok-read_spaced_term-clause-text c =
    c.in-Ok.ensures.text ∙ ap (λ (x : List ℕ). spaced_node (term_of c.in-Ok.left.term) ++ x) c.in-Ok-read_spaced_term.ensures.text

pub returns-in-Ok-read_spaced_term-clause-on : goal.returns-in-Ok-read_spaced_term-clause-on
returns-in-Ok-read_spaced_term-clause-on c =
    λ p. steps_at (Has (term (term p))) (Has (term p)) (Has p) c.args.bytes.now c.args.at c.in-Ok.left.to c.in-Ok-read_spaced_term.right.to (c.in-Ok.ensures.on (term p)) (c.in-Ok-read_spaced_term.ensures.on p)
