use Rattle.logic_terms.specs.View.{term}
use Rattle.logic_terms.specs.Text.{node_text}
use Rattle.cert_reader.proofs.Leaves.{term_space, term_bad, term_on, spaced_is}
use Rattle.cert_reader.proofs.nodes.read_spaced_term.Goals as goal

pub returns-in-Err-clause-fault : goal.returns-in-Err-clause-fault
returns-in-Err-clause-fault c =
    λ p. term_space p c.args.bytes.now c.args.at c.in-Err.to c.in-Err.ensures.place c.in-Err.ensures.fault

pub returns-in-Err-read_term-clause-fault : goal.returns-in-Err-read_term-clause-fault
returns-in-Err-read_term-clause-fault c =
    λ p. term_bad p c.args.bytes.now c.args.at c.in-Ok.from c.in-Err-read_term.fault c.in-Ok.ensures.text c.in-Err-read_term.ensures.fault

pub returns-in-Ok-read_term-clause-text : goal.returns-in-Ok-read_term-clause-text
returns-in-Ok-read_term-clause-text c =
    spaced_is _ _ (node_text (term c.in-Ok-read_term.read.term)) _ c.in-Ok.ensures.text c.in-Ok-read_term.ensures.ok.text

pub returns-in-Ok-read_term-clause-on : goal.returns-in-Ok-read_term-clause-on
returns-in-Ok-read_term-clause-on c =
    λ p. term_on p (term c.in-Ok-read_term.read.term) c.args.bytes.now c.args.at c.in-Ok.from c.in-Ok-read_term.read.to c.in-Ok.ensures.text c.in-Ok-read_term.ensures.ok
