use Rattle.logic_terms.specs.View.{formula as formula_of}
use Rattle.std.proofs.Common.{drop, map, arith}
use Rattle.cert_lines.specs.Line.{propagation}
use Rattle.logic_text.specs.Certs.{numbers_text}
use Rattle.term_reader.proofs.Places.{bad_at, steps_at}
use Rattle.cert_reader.specs.Phases.{ended, hints, counted, Has}
use Rattle.cert_reader.proofs.Forms.{text_is, literals_then}
use Rattle.cert_reader.proofs.shapes.read_rup.Goals as goal

pub returns-in-Err-clause-fault : goal.returns-in-Err-clause-fault
returns-in-Err-clause-fault c =
    c.in-Err.ensures.fault hints

pub returns-in-Err-read_hints-clause-fault : goal.returns-in-Err-read_hints-clause-fault
returns-in-Err-read_hints-clause-fault c =
    bad_at (Has (counted hints)) (Has hints) c.args.bytes.now c.args.at c.in-Ok.read.to c.in-Err-read_hints.fault (c.in-Ok.ensures.on hints) c.in-Err-read_hints.ensures.fault

pub returns-in-Ok-read_hints-clause-ok : goal.returns-in-Ok-read_hints-clause-ok
returns-in-Ok-read_hints-clause-ok c =
    let f = c.in-Ok.ensures in
    let g = c.in-Ok-read_hints.ensures in
    let b = f.before in
    let d = g.before in record {
      before = omega arith;
      inside = g.inside;
      text = text_is (propagation (map formula_of c.in-Ok.read.literals) c.in-Ok-read_hints.end.hints) _ _ (literals_then (map formula_of c.in-Ok.read.literals) (numbers_text c.in-Ok-read_hints.end.hints) (drop c.args.at c.args.bytes.now) (drop c.in-Ok.read.to c.args.bytes.now) (drop c.in-Ok-read_hints.end.to c.args.bytes.now) f.text g.text);
      on = steps_at (Has (counted hints)) (Has hints) (Has ended) c.args.bytes.now c.args.at c.in-Ok.read.to c.in-Ok-read_hints.end.to (f.on hints) g.on;
    }
