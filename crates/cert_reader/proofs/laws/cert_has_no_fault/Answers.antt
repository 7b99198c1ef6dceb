use Rattle.cert_lines.specs.View.{lines as lines_of}
use Rattle.cert_reader.proofs.Wholes.{good_cert}
use Rattle.cert_reader.proofs.laws.cert_has_no_fault.Goals as goal

pub returns : goal.returns
returns c = λ at b. good_cert (lines_of c.args.c.now) at c.cert_fits.ensures b
