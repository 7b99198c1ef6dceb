use Rattle.std.proofs.Common.{◌≡◌, ◌<◌, ◌+◌, sym, ◌∙◌, ap, subst, List, length, get_or}
use Rattle.logic_terms.specs.declared.syntax.Formula.{Formula}
use Rattle.linear_forms.specs.Form.{Form}
use Rattle.linear_forms.specs.declared.form.LinearForm.{LinearForm}
use Rattle.cert_linear.specs.Here.{forms}
use Rattle.cert_linear.proofs.Gathered.{Made, made_more, literal_alone, literals_all, literal_by_literal, forms_more}
use Rattle.cert_linear.proofs.forms.forms_of.Goals as goal

pub loop-p-preserved : goal.loop-p-preserved
loop-p-preserved c =
    let g = c.args.goal.now in
    let n = c.args.fresh in
    let i = c.loop-p.p-index in
    let p = c.p-item.result in
    let h = subst (λ (xs : List Formula). i < length xs) c.as_slice-p-items.ensures c.loop-p-test.true in
    let e = subst (λ (xs : List Formula). p ≡ get_or xs i p) c.as_slice-p-items.ensures c.p-item.is in
    let more = made_more (literal_alone g n) (literals_all g n) (literal_by_literal g n) c.args.literals.now i (forms c.loop-p.forms) c.loop-p.invariant p (forms c.in_ok-more.more) h e c.in_ok-more.ensures in
    subst (λ (fs : List Form). Made (literals_all g n) c.args.literals.now (i + 1) fs) (sym (ap (λ (fs : List LinearForm). forms fs) c.in_ok-append.ensures ∙ forms_more c.loop-p.forms c.in_ok-more.more)) more
