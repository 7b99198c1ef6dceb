use Rattle.logic_terms.specs.View.{formula as formula_of}
use Rattle.std.proofs.Common.{◌∙◌, arith}
use Rattle.cert_lines.specs.Line.{replacing}
use Rattle.logic_text.specs.Certs.{spaced_number, spaced_node}
use Rattle.term_reader.proofs.Places.{bad_at, steps_at}
use Rattle.cert_reader.specs.Phases.{ended, index, formula, Has, fields}
use Rattle.cert_reader.specs.declared.line_word.LineWord.TheVariants as line
use Rattle.cert_reader.proofs.Forms.{text_is, put}
use Rattle.cert_reader.proofs.shapes.read_same.Goals as goal

pub returns-in-Err-clause-fault : goal.returns-in-Err-clause-fault
returns-in-Err-clause-fault c =
    c.in-Err.ensures.fault (index (formula (formula ended)))

pub returns-in-Err-read_index_formula-clause-fault : goal.returns-in-Err-read_index_formula-clause-fault
returns-in-Err-read_index_formula-clause-fault c =
    bad_at (Has (fields line.Same)) (Has (index (formula (formula ended)))) c.args.bytes.now c.args.at c.in-Ok.direction.to c.in-Err-read_index_formula.fault (c.in-Ok.ensures.on (index (formula (formula ended)))) (c.in-Err-read_index_formula.ensures.fault (formula ended))

pub returns-in-Err-read_spaced_formula-clause-fault : goal.returns-in-Err-read_spaced_formula-clause-fault
returns-in-Err-read_spaced_formula-clause-fault c =
    bad_at (Has (fields line.Same)) (Has (formula ended)) c.args.bytes.now c.args.at c.in-Ok-read_index_formula.read.to c.in-Err-read_spaced_formula.fault
    (steps_at (Has (fields line.Same)) (Has (index (formula (formula ended)))) (Has (formula ended)) c.args.bytes.now c.args.at c.in-Ok.direction.to c.in-Ok-read_index_formula.read.to (c.in-Ok.ensures.on (index (formula (formula ended)))) (c.in-Ok-read_index_formula.ensures.on (formula ended)))
    (c.in-Err-read_spaced_formula.ensures.fault ended)

pub returns-in-Ok-read_spaced_formula-clause-ok : goal.returns-in-Ok-read_spaced_formula-clause-ok
returns-in-Ok-read_spaced_formula-clause-ok c =
    let f = c.in-Ok.ensures in
    let g = c.in-Ok-read_index_formula.ensures in
    let h = c.in-Ok-read_spaced_formula.ensures in
    let b = f.before in
    let d = g.before in
    let e = h.before in record {
      before = omega arith;
      inside = h.inside;
      text = text_is (replacing c.in-Ok.direction.value c.in-Ok-read_index_formula.read.index (formula_of c.in-Ok-read_index_formula.read.formula) (formula_of c.in-Ok-read_spaced_formula.literal.formula)) _ _
          (f.text ∙ put (spaced_number c.in-Ok.direction.value) _ _ (g.text ∙ put (spaced_number c.in-Ok-read_index_formula.read.index) _ _ (put (spaced_node (formula_of c.in-Ok-read_index_formula.read.formula)) _ _ h.text)));
      on = steps_at (Has (fields line.Same)) (Has (formula ended)) (Has ended) c.args.bytes.now c.args.at c.in-Ok-read_index_formula.read.to c.in-Ok-read_spaced_formula.literal.to
          (steps_at (Has (fields line.Same)) (Has (index (formula (formula ended)))) (Has (formula ended)) c.args.bytes.now c.args.at c.in-Ok.direction.to c.in-Ok-read_index_formula.read.to (f.on (index (formula (formula ended)))) (g.on (formula ended)))
          (h.on ended);
    }
