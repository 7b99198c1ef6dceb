use Rattle.cert_reader.proofs.Leaves.{whole_space, whole_bad, whole_on, spaced_is}
use Rattle.logic_terms.specs.Text.{whole_text}
use Rattle.cert_reader.proofs.numbers.read_spaced_whole.Goals as goal

pub returns-in-Err-clause-fault : goal.returns-in-Err-clause-fault
returns-in-Err-clause-fault c =
    λ p. whole_space p c.args.bytes.now c.args.at c.in-Err.to c.in-Err.ensures.place c.in-Err.ensures.fault

pub returns-in-Err-read_whole-clause-fault : goal.returns-in-Err-read_whole-clause-fault
returns-in-Err-read_whole-clause-fault c =
    λ p. whole_bad p c.args.bytes.now c.args.at c.in-Ok.from c.in-Err-read_whole.to c.in-Ok.ensures.text c.in-Err-read_whole.ensures.place c.in-Err-read_whole.ensures.fault

pub returns-in-Ok-read_whole-clause-text : goal.returns-in-Ok-read_whole-clause-text
returns-in-Ok-read_whole-clause-text c =
    spaced_is _ _ (whole_text c.in-Ok-read_whole.read.value) _ c.in-Ok.ensures.text c.in-Ok-read_whole.ensures.text

pub returns-in-Ok-read_whole-clause-on : goal.returns-in-Ok-read_whole-clause-on
returns-in-Ok-read_whole-clause-on c =
    let h = c.in-Ok-read_whole.ensures in λ p. whole_on p c.in-Ok-read_whole.read.value c.args.bytes.now c.args.at c.in-Ok.from c.in-Ok-read_whole.read.to c.in-Ok.ensures.text h.number h.text h.ends
