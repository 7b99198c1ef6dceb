use Rattle.std.proofs.Common.{◌≡◌, sym, ◌∙◌, length, arith}
use Rattle.linear_prover.proofs.Reading.{same_next, same_differ, same_end, lengths_differ}
use Rattle.linear_prover.proofs.forms.same_parts.Goals as goal

pub loop-i-preserved : goal.loop-i-preserved
loop-i-preserved c =
    let l : length c.args.a.now ≡ length c.args.b.now = omega arith in
    same_next c.args.a.now c.args.b.now c.loop-i.i c.index-a-i.result c.index-b-i.result _ c.loop-i-test.true l c.index-a-i.is c.index-b-i.is (sym c.same_part.ensures ∙ c.if-not-same_part.false) c.loop-i.invariant

pub returns-then-not-same_part : goal.returns-then-not-same_part
returns-then-not-same_part c =
    let l : length c.args.a.now ≡ length c.args.b.now = omega arith in
    same_differ c.args.a.now c.args.b.now c.loop-i.i c.index-a-i.result c.index-b-i.result _ c.loop-i-test.true l c.index-a-i.is c.index-b-i.is (sym c.same_part.ensures ∙ c.if-not-same_part.true) c.loop-i.invariant

pub returns : goal.returns
returns c =
    let l : length c.args.a.now ≡ length c.args.b.now = omega arith in
    same_end c.args.a.now c.args.b.now c.loop-i.i _ c.loop-i-test.false l c.loop-i.invariant

pub returns-then-a-b : goal.returns-then-a-b
returns-then-a-b c = sym (lengths_differ c.args.a.now c.args.b.now c.if-a-b.true)
