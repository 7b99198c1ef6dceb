use Rattle.cert_reader.proofs.Leaves.{index_space, index_bad, index_on, spaced_is}
use Rattle.logic_terms.specs.Text.{number_text}
use Rattle.cert_reader.proofs.numbers.read_index.Goals as goal

pub returns-in-Err-clause-fault : goal.returns-in-Err-clause-fault
returns-in-Err-clause-fault c =
    λ p. index_space p c.args.bytes.now c.args.at c.in-Err.to c.in-Err.ensures.place c.in-Err.ensures.fault

pub returns-in-Err-read_number-clause-fault : goal.returns-in-Err-read_number-clause-fault
returns-in-Err-read_number-clause-fault c =
    λ p. index_bad p c.args.bytes.now c.args.at c.in-Ok.from c.in-Err-read_number.to c.in-Ok.ensures.text c.in-Err-read_number.ensures.place c.in-Err-read_number.ensures.fault

pub returns-in-Ok-read_number-clause-text : goal.returns-in-Ok-read_number-clause-text
returns-in-Ok-read_number-clause-text c =
    spaced_is _ _ (number_text c.in-Ok-read_number.number.value) _ c.in-Ok.ensures.text c.in-Ok-read_number.ensures.text

pub returns-in-Ok-read_number-clause-on : goal.returns-in-Ok-read_number-clause-on
returns-in-Ok-read_number-clause-on c =
    let h = c.in-Ok-read_number.ensures in λ p. index_on p c.in-Ok-read_number.number.value c.args.bytes.now c.args.at c.in-Ok.from c.in-Ok-read_number.number.to c.in-Ok.ensures.text h.number h.text h.ends
