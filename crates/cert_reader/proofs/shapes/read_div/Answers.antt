use Rattle.logic_terms.specs.View.{term as term_of}
use Rattle.std.proofs.Common.{◌∙◌, drop, arith, FitsSigned, to_z, of_z, rules}
use Rattle.std.proofs.lemmas.Int.{to_z-of_z}
use Rattle.std.specs.Int.{w128}
use Rattle.cert_lines.specs.Line.{division}
use Rattle.logic_text.specs.Certs.{spaced_number, spaced_node}
use Rattle.term_reader.proofs.Places.{bad_at, steps_at}
use Rattle.cert_reader.specs.Phases.{ended, whole, Has, fields}
use Rattle.cert_reader.specs.declared.line_word.LineWord.TheVariants as line
use Rattle.cert_reader.proofs.Forms.{text_is, put, whole_as}
use Rattle.cert_reader.proofs.shapes.read_div.Goals as goal

pub returns-in-Err-clause-fault : goal.returns-in-Err-clause-fault
returns-in-Err-clause-fault c =
    c.in-Err.ensures.fault (whole ended)

pub returns-in-Err-read_spaced_whole-clause-fault : goal.returns-in-Err-read_spaced_whole-clause-fault
returns-in-Err-read_spaced_whole-clause-fault c =
    bad_at (Has (fields line.Div)) (Has (whole ended)) c.args.bytes.now c.args.at c.in-Ok.read.to c.in-Err-read_spaced_whole.fault (c.in-Ok.ensures.on (whole ended)) (c.in-Err-read_spaced_whole.ensures.fault ended)

pub returns-in-Ok-read_spaced_whole-clause-ok : goal.returns-in-Ok-read_spaced_whole-clause-ok
returns-in-Ok-read_spaced_whole-clause-ok c =
    let f = c.in-Ok.ensures in
    let g = c.in-Ok-read_spaced_whole.ensures in
    let b = f.before in
    let d = g.before in
    let v : FitsSigned w128 c.in-Ok-read_spaced_whole.divisor.value = search rules in record {
      before = omega arith;
      inside = g.inside;
      text = text_is (division c.in-Ok.read.index (term_of c.in-Ok.read.term) (to_z w128 (of_z w128 c.in-Ok-read_spaced_whole.divisor.value))) (drop c.args.at c.args.bytes.now) (drop c.in-Ok-read_spaced_whole.divisor.to c.args.bytes.now) (f.text ∙ put (spaced_number c.in-Ok.read.index) _ _ (put (spaced_node (term_of c.in-Ok.read.term)) _ _ (whole_as (to_z w128 (of_z w128 c.in-Ok-read_spaced_whole.divisor.value)) c.in-Ok-read_spaced_whole.divisor.value (drop c.in-Ok.read.to c.args.bytes.now) (drop c.in-Ok-read_spaced_whole.divisor.to c.args.bytes.now) (to_z-of_z w128 c.in-Ok-read_spaced_whole.divisor.value v) g.text)));
      on = steps_at (Has (fields line.Div)) (Has (whole ended)) (Has ended) c.args.bytes.now c.args.at c.in-Ok.read.to c.in-Ok-read_spaced_whole.divisor.to (f.on (whole ended)) (g.on ended);
    }
