use Rattle.term_reader.proofs.Leaves.{bound_read, bound_unread}
use Rattle.term_reader.proofs.leaf.read_bound.Goals as goal

pub returns-in-Err-clause-fault : goal.returns-in-Err-clause-fault
returns-in-Err-clause-fault c =
    bound_unread c.args.bytes.now c.args.at c.in-Err.to c.requires.letter c.in-Err.ensures.place c.in-Err.ensures.fault

pub returns-in-Ok-clause-ok : goal.returns-in-Ok-clause-ok
returns-in-Ok-clause-ok c =
    let h = c.in-Ok.ensures in
    bound_read c.args.bytes.now c.args.at c.in-Ok.number.value c.in-Ok.number.to c.requires.letter h.before h.inside h.number h.text h.ends
