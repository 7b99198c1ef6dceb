use Rattle.logic_terms.specs.View.{term as term_of}
use Rattle.cert_lines.specs.Line.{trichotomy}
use Rattle.cert_reader.specs.Phases.{ended}
use Rattle.cert_reader.proofs.Forms.{text_is}
use Rattle.cert_reader.proofs.shapes.read_tri.Goals as goal

pub returns-in-Err-clause-fault : goal.returns-in-Err-clause-fault
returns-in-Err-clause-fault c =
    c.in-Err.ensures.fault ended

pub returns-in-Ok-clause-ok : goal.returns-in-Ok-clause-ok
returns-in-Ok-clause-ok c =
    let h = c.in-Ok.ensures in record {
      before = h.before;
      inside = h.inside;
      text = text_is (trichotomy (term_of c.in-Ok.read.left) (term_of c.in-Ok.read.right)) _ _ h.text;
      on = h.on ended;
    }
