use Rattle.std.proofs.Common.{◌≡◌, ◌∙◌, ℕ, length, Some, take, ap, arith}
use Rattle.std.specs.List.{slice_get}
use Rattle.std.proofs.lemmas.List.{take_all}
use Rattle.std.proofs.lemmas.Result.{IfErr-weaker}
use Rattle.grammar_table.specs.declared.answers.SyntaxFault.TheVariants as fault
use Rattle.grammar_table.specs.Answers.{terminals}
use Rattle.grammar_table.specs.Productions.{productions}
use Rattle.grammar_table.proofs.Answering.{as_long, at_is, progress_taken, progress_unexpected, progress_deep, unexpected_at, unexpected_end, deep_at, more_taken, right_fault}
use Rattle.grammar_table.proofs.reading.derive_by.Goals as goal

pub returns-in-Unexpected-clause-fault : goal.returns-in-Unexpected-clause-fault
returns-in-Unexpected-clause-fault c = λ _.
    let ts = terminals c.args.tokens.now in
    let run = c.loop-at.run in
    let next = c.read.new.self in
    let before = take c.loop-at.at ts in
    let here : slice_get ts c.loop-at.at ≡ Some c.of.result = at_is c.args.tokens.now c.loop-at.at c.of.result _ (omega arith) c.of.ensures in
    unexpected_at ts c.loop-at.at c.of.result run.numbers run.levels run.stack here c.loop-at.invariant (progress_unexpected c.in_ok-read.field-0 before c.of.result next.numbers next.levels next.stack c.in-Unexpected.is (c.in_ok-read.ensures before c.loop-at.invariant))

pub returns-in-TooDeep-clause-fault : goal.returns-in-TooDeep-clause-fault
returns-in-TooDeep-clause-fault c = λ _.
    let ts = terminals c.args.tokens.now in
    let next = c.read.new.self in
    let before = take c.loop-at.at ts in
    let here : slice_get ts c.loop-at.at ≡ Some c.of.result = at_is c.args.tokens.now c.loop-at.at c.of.result _ (omega arith) c.of.ensures in
    deep_at ts c.loop-at.at c.of.result here (progress_deep c.in_ok-read.field-0 before c.of.result next.numbers next.levels next.stack c.in-TooDeep.is (c.in_ok-read.ensures before c.loop-at.invariant))

pub loop-at-preserved : goal.loop-at-preserved
loop-at-preserved c =
    let ts = terminals c.args.tokens.now in
    let next = c.read.new.self in
    let before = take c.loop-at.at ts in
    let here : slice_get ts c.loop-at.at ≡ Some c.of.result = at_is c.args.tokens.now c.loop-at.at c.of.result _ (omega arith) c.of.ensures in
    more_taken ts c.loop-at.at c.of.result next.numbers next.levels next.stack here (progress_taken c.in_ok-read.field-0 before c.of.result next.numbers next.levels next.stack c.in-Taken.is (c.in_ok-read.ensures before c.loop-at.invariant))

pub returns-clause-fault : goal.returns-clause-fault
returns-clause-fault c =
    let ts = terminals c.args.tokens.now in
    let run = c.loop-at.run in
    let count : length ts ≡ length c.args.tokens.now = as_long c.args.tokens.now in
    let end : c.loop-at.at ≡ length ts = omega arith in
    let same : length c.args.tokens.now ≡ c.loop-at.at = omega arith in
    let all : take c.loop-at.at ts ≡ ts = take_all c.loop-at.at ts (omega arith) in
    IfErr-weaker c.finish.result _ _ (λ f h starved.
    right_fault productions ts c.loop-at.at f ((h starved).0 ∙ ap (λ (i : ℕ). fault.Unexpected i) same) (unexpected_end ts c.loop-at.at run.numbers run.levels run.stack end all c.loop-at.invariant ((h starved).1 (take c.loop-at.at ts) c.loop-at.invariant))) c.finish.ensures.fault
