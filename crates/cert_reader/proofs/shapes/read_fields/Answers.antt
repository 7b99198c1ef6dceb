use Rattle.std.proofs.Common.{sym, subst}
use Rattle.std.specs.Prelude.{IfErr}
use Rattle.term_reader.specs.Phases.{IsBadAt}
use Rattle.cert_reader.specs.Phases.{Has, fields}
use Rattle.cert_reader.specs.declared.line_word.LineWord.{LineWord}
use Rattle.cert_reader.proofs.shapes.read_fields.Goals as goal

pub returns-in-Open-clause-fault : goal.returns-in-Open-clause-fault
returns-in-Open-clause-fault c =
    subst (λ (w : LineWord). IfErr c.read_open.result (λ f. IsBadAt (Has (fields w)) c.args.bytes.now c.args.at f)) (sym c.in-Open.is) c.read_open.ensures.fault

pub returns-in-Case-clause-fault : goal.returns-in-Case-clause-fault
returns-in-Case-clause-fault c =
    subst (λ (w : LineWord). IfErr c.read_case.result (λ f. IsBadAt (Has (fields w)) c.args.bytes.now c.args.at f)) (sym c.in-Case.is) c.read_case.ensures.fault

pub returns-in-Tri-clause-fault : goal.returns-in-Tri-clause-fault
returns-in-Tri-clause-fault c =
    subst (λ (w : LineWord). IfErr c.read_tri.result (λ f. IsBadAt (Has (fields w)) c.args.bytes.now c.args.at f)) (sym c.in-Tri.is) c.read_tri.ensures.fault

pub returns-in-Ins-clause-fault : goal.returns-in-Ins-clause-fault
returns-in-Ins-clause-fault c =
    subst (λ (w : LineWord). IfErr c.read_ins.result (λ f. IsBadAt (Has (fields w)) c.args.bytes.now c.args.at f)) (sym c.in-Ins.is) c.read_ins.ensures.fault

pub returns-in-New-clause-fault : goal.returns-in-New-clause-fault
returns-in-New-clause-fault c =
    subst (λ (w : LineWord). IfErr c.read_new.result (λ f. IsBadAt (Has (fields w)) c.args.bytes.now c.args.at f)) (sym c.in-New.is) c.read_new.ensures.fault

pub returns-in-Same-clause-fault : goal.returns-in-Same-clause-fault
returns-in-Same-clause-fault c =
    subst (λ (w : LineWord). IfErr c.read_same.result (λ f. IsBadAt (Has (fields w)) c.args.bytes.now c.args.at f)) (sym c.in-Same.is) c.read_same.ensures.fault

pub returns-in-Arr-clause-fault : goal.returns-in-Arr-clause-fault
returns-in-Arr-clause-fault c =
    subst (λ (w : LineWord). IfErr c.read_arr.result (λ f. IsBadAt (Has (fields w)) c.args.bytes.now c.args.at f)) (sym c.in-Arr.is) c.read_arr.ensures.fault

pub returns-in-Ext-clause-fault : goal.returns-in-Ext-clause-fault
returns-in-Ext-clause-fault c =
    subst (λ (w : LineWord). IfErr c.read_ext.result (λ f. IsBadAt (Has (fields w)) c.args.bytes.now c.args.at f)) (sym c.in-Ext.is) c.read_ext.ensures.fault

pub returns-in-Fld-clause-fault : goal.returns-in-Fld-clause-fault
returns-in-Fld-clause-fault c =
    subst (λ (w : LineWord). IfErr c.read_fld.result (λ f. IsBadAt (Has (fields w)) c.args.bytes.now c.args.at f)) (sym c.in-Fld.is) c.read_fld.ensures.fault

pub returns-in-Div-clause-fault : goal.returns-in-Div-clause-fault
returns-in-Div-clause-fault c =
    subst (λ (w : LineWord). IfErr c.read_div.result (λ f. IsBadAt (Has (fields w)) c.args.bytes.now c.args.at f)) (sym c.in-Div.is) c.read_div.ensures.fault

pub returns-in-Mul-clause-fault : goal.returns-in-Mul-clause-fault
returns-in-Mul-clause-fault c =
    subst (λ (w : LineWord). IfErr c.read_mul.result (λ f. IsBadAt (Has (fields w)) c.args.bytes.now c.args.at f)) (sym c.in-Mul.is) c.read_mul.ensures.fault
