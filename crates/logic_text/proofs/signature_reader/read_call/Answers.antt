use Rattle.logic_text.specs.Phases.{InCall}
use Rattle.term_reader.proofs.Places.{bad_at}
use Rattle.logic_text.proofs.signature_reader.read_call.Goals as goal

pub returns-in-Err-clause-fault : goal.returns-in-Err-clause-fault
returns-in-Err-clause-fault c =
    bad_at InCall InCall c.args.bytes.now c.args.at c.loop-fault.to c.in-Err.fault c.loop-fault.invariant.on c.in-Err.ensures.fault
