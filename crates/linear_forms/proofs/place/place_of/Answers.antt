use Rattle.std.proofs.Common.{◌∙◌, sym}
use Rattle.linear_forms.proofs.Placing.{passed_start, place_more, place_at, place_before}
use Rattle.linear_forms.proofs.place.place_of.Goals as goal

pub loop-i-init : goal.loop-i-init
loop-i-init c = passed_start _ _

pub loop-i-preserved : goal.loop-i-preserved
loop-i-preserved c =
    place_more _ c.args.parts.now c.loop-i.i c.index-parts-i.result c.loop-i-test.true c.index-parts-i.is
    (sym c.same_term.ensures.alike ∙ c.if-same_term.false)
    (sym c.in_ok-precedes.ensures ∙ c.if-branch.false)
    c.loop-i.invariant

pub returns-then-same_term : goal.returns-then-same_term
returns-then-same_term c =
    place_at _ c.args.parts.now c.loop-i.i c.index-parts-i.result c.loop-i-test.true c.index-parts-i.is
    (sym c.same_term.ensures.alike ∙ c.if-same_term.true)
    c.loop-i.invariant

pub returns-then-branch : goal.returns-then-branch
returns-then-branch c =
    place_before _ c.args.parts.now c.loop-i.i c.index-parts-i.result c.loop-i-test.true c.index-parts-i.is
    (sym c.same_term.ensures.alike ∙ c.if-same_term.false)
    (sym c.in_ok-precedes.ensures ∙ c.if-branch.true)
    c.loop-i.invariant
