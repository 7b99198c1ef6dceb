use Rattle.std.proofs.Common.{sym, subst}
use Rattle.cert_reader.specs.Answers.{IsCertFault}
use Rattle.cert_reader.proofs.Wholes.{cert_fault}
use Rattle.cert_reader.proofs.reader.read_cert.Goals as goal

pub returns-in-Err-clause-fault : goal.returns-in-Err-clause-fault
returns-in-Err-clause-fault c =
    subst (IsCertFault c.args.bytes.now) (sym c.from.ensures)
    (cert_fault c.args.bytes.now c.in-Err.fault c.if-bytes-gt-MOST_CERT_BYTES.false c.in-Err.ensures.fault)
