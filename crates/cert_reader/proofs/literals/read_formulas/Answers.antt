use Rattle.std.proofs.Common.{◌∙◌, ap, [], ◌∷◌, ◌++◌, arith}
use Rattle.cert_reader.proofs.Lists.{formula_text, formulas_on, formulas_bad, formulas_over, number_more}
use Rattle.cert_reader.proofs.literals.read_formulas.Goals as goal

pub returns-in-Err-clause-fault : goal.returns-in-Err-clause-fault
returns-in-Err-clause-fault c =
    formulas_bad c.args.count c.loop-left.left c.args.bytes.now c.args.at c.loop-left.to c.in-Err.fault c.loop-left-test.true c.loop-left.invariant.on c.in-Err.ensures.fault

pub loop-left-preserved : goal.loop-left-preserved
loop-left-preserved c =
    let i = c.loop-left.invariant in
    let h = c.in-Ok.ensures in
    let b = i.before in
    let d = h.before in
    let e = c.in-Ok-push.ensures.ok ∙ ap (λ p. c.loop-left.literals ++ p ∷ []) c.into_inner.ensures in record {
      before = omega arith;
      inside = h.inside;
      number = number_more c.loop-left.literals _ _ c.loop-left.left c.args.count e c.loop-left-test.true i.number;
      text = formula_text c.loop-left.literals _ _ _ _ _ e i.text h.text;
      on = formulas_on c.args.count c.loop-left.left c.args.bytes.now c.args.at c.loop-left.to c.in-Ok.read.to c.loop-left-test.true i.on h.on;
    }

pub returns-clause-on : goal.returns-clause-on
returns-clause-on c =
    let n = c.loop-left-test.false in formulas_over c.args.count c.loop-left.left _ _ (omega arith) c.loop-left.invariant.on
