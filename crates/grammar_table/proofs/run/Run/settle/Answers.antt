use Rattle.grammar_table.proofs.Steps.{settle_falls, settle_more, settle_none}
use Rattle.grammar_table.proofs.run.Run.settle.Goals as goal

pub returns-in-None : goal.returns-in-None
returns-in-None c = λ ts r.
    let run = c.loop-phrase.self in
    settle_none ts c.args.next run.numbers run.levels run.stack c.in-Some-Phrase.field-0 c.in-Some-Phrase.phrase c.in-Some-Phrase.ensures c.in-Some-Phrase.field-0-is c.in-None.ensures (c.loop-phrase.invariant ts r)

pub loop-phrase-smaller : goal.loop-phrase-smaller
loop-phrase-smaller c =
    settle_falls c.loop-phrase.self.stack c.expand.new.self.stack c.in-Some-Phrase.field-0 c.in-Some-Phrase.phrase c.args.next c.in-Some.number c.in-Some-Phrase.ensures c.in-Some-Phrase.field-0-is c.in-Some.ensures c.in_ok-expand-in-Some.ensures.stack

pub loop-phrase-preserved : goal.loop-phrase-preserved
loop-phrase-preserved c = λ ts r.
    let run = c.loop-phrase.self in
    let next = c.expand.new.self in
    settle_more ts c.args.next run.numbers next.numbers run.levels next.levels run.stack next.stack c.in-Some-Phrase.field-0 c.in-Some-Phrase.phrase c.in-Some.number c.in-Some-Phrase.ensures c.in-Some-Phrase.field-0-is c.in-Some.ensures c.in_ok-expand-in-Some.ensures.stack c.in_ok-expand-in-Some.ensures.numbers c.in_ok-expand-in-Some.ensures.levels (c.loop-phrase.invariant ts r)
