use Rattle.logic_terms.specs.View.{formula as formula_of}
use Rattle.std.proofs.Common.{drop, map, arith}
use Rattle.cert_lines.specs.Line.{linear}
use Rattle.cert_lines.specs.View.{step as step_of}
use Rattle.logic_text.specs.Certs.{steps_text}
use Rattle.term_reader.proofs.Places.{bad_at, steps_at}
use Rattle.cert_reader.specs.Phases.{ended, steps, counted, Has}
use Rattle.cert_reader.proofs.Forms.{text_is, literals_then}
use Rattle.cert_reader.proofs.shapes.read_lin.Goals as goal

pub returns-in-Err-clause-fault : goal.returns-in-Err-clause-fault
returns-in-Err-clause-fault c =
    c.in-Err.ensures.fault steps

pub returns-in-Err-read_steps-clause-fault : goal.returns-in-Err-read_steps-clause-fault
returns-in-Err-read_steps-clause-fault c =
    bad_at (Has (counted steps)) (Has steps) c.args.bytes.now c.args.at c.in-Ok.read.to c.in-Err-read_steps.fault (c.in-Ok.ensures.on steps) c.in-Err-read_steps.ensures.fault

pub returns-in-Ok-read_steps-clause-ok : goal.returns-in-Ok-read_steps-clause-ok
returns-in-Ok-read_steps-clause-ok c =
    let f = c.in-Ok.ensures in
    let g = c.in-Ok-read_steps.ensures in
    let b = f.before in
    let d = g.before in record {
      before = omega arith;
      inside = g.inside;
      text = text_is (linear (map formula_of c.in-Ok.read.literals) (map step_of c.in-Ok-read_steps.end.steps)) _ _ (literals_then (map formula_of c.in-Ok.read.literals) (steps_text (map step_of c.in-Ok-read_steps.end.steps)) (drop c.args.at c.args.bytes.now) (drop c.in-Ok.read.to c.args.bytes.now) (drop c.in-Ok-read_steps.end.to c.args.bytes.now) f.text g.text);
      on = steps_at (Has (counted steps)) (Has steps) (Has ended) c.args.bytes.now c.args.at c.in-Ok.read.to c.in-Ok-read_steps.end.to (f.on steps) g.on;
    }
