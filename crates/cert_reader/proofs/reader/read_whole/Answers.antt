use Rattle.std.proofs.Common.{map}
use Rattle.cert_lines.specs.View.{line}
use Rattle.cert_reader.proofs.Wholes.{start_bad, start_lines_bad, cert_is}
use Rattle.cert_reader.proofs.reader.read_whole.Goals as goal

pub returns-in-Err-clause-fault : goal.returns-in-Err-clause-fault
returns-in-Err-clause-fault c =
    start_bad c.args.bytes.now c.in-Err.to c.in-Err.ensures.place c.in-Err.ensures.fault

pub returns-in-Err-read_lines-clause-fault : goal.returns-in-Err-read_lines-clause-fault
returns-in-Err-read_lines-clause-fault c =
    start_lines_bad c.args.bytes.now c.in-Ok.to c.in-Err-read_lines.fault c.in-Ok.ensures.text c.in-Err-read_lines.ensures.fault

pub returns-in-Ok-read_lines-clause-text : goal.returns-in-Ok-read_lines-clause-text
returns-in-Ok-read_lines-clause-text c =
    cert_is (map line c.in-Ok-read_lines.lines) c.args.bytes.now c.in-Ok.to c.in-Ok.ensures.text c.in-Ok-read_lines.ensures.text
