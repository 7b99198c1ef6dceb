use Rattle.std.proofs.Common.{◌∙◌, ap, ℕ, List, ◌++◌}
use Rattle.logic_terms.specs.View.{term as term_of}
use Rattle.logic_text.specs.Certs.{spaced_node}
use Rattle.term_reader.proofs.Places.{bad_at, steps_at}
use Rattle.cert_reader.specs.Phases.{term, formula, Has}
use Rattle.cert_reader.proofs.fields.read_term_formula.Goals as goal

pub returns-in-Err-clause-fault : goal.returns-in-Err-clause-fault
returns-in-Err-clause-fault c =
    λ p. c.in-Err.ensures.fault (formula p)

pub returns-in-Err-read_spaced_formula-clause-fault : goal.returns-in-Err-read_spaced_formula-clause-fault
returns-in-Err-read_spaced_formula-clause-fault c =
    λ p. bad_at (Has (term (formula p))) (Has (formula p)) c.args.bytes.now c.args.at c.in-Ok.term.to c.in-Err-read_spaced_formula.fault (c.in-Ok.ensures.on (formula p)) (c.in-Err-read_spaced_formula.ensures.fault p)

pub returns-in-Ok-read_spaced_formula-clause-text : goal.returns-in-Ok-read_spaced_formula-clause-text
returns-in-Ok-read_spaced_formula-clause-text c =
    c.in-Ok.ensures.text ∙ ap (λ (x : List ℕ). spaced_node (term_of c.in-Ok.term.term) ++ x) c.in-Ok-read_spaced_formula.ensures.text

pub returns-in-Ok-read_spaced_formula-clause-on : goal.returns-in-Ok-read_spaced_formula-clause-on
returns-in-Ok-read_spaced_formula-clause-on c =
    λ p. steps_at (Has (term (formula p))) (Has (formula p)) (Has p) c.args.bytes.now c.args.at c.in-Ok.term.to c.in-Ok-read_spaced_formula.read.to (c.in-Ok.ensures.on (formula p)) (c.in-Ok-read_spaced_formula.ensures.on p)
