use Rattle.logic_text.specs.Phases.{InCalls}
use Rattle.term_reader.proofs.Places.{bad_at}
use Rattle.logic_text.proofs.signature_reader.read_calls.Goals as goal

pub returns-in-Err-clause-fault : goal.returns-in-Err-clause-fault
returns-in-Err-clause-fault c =
    bad_at InCalls InCalls c.args.bytes.now c.args.at c.loop-alloc.to c.in-Err.fault c.loop-alloc.invariant.on c.in-Err.ensures.fault
