use Rattle.std.proofs.Common.{◌≡◌, ◌∷◌, [], map, Some, None, true, false, refl, rules}
use Rattle.grammar_table.proofs.Reaching.{reached_seen}
use Rattle.grammar_table.proofs.Steps.{settled_no, settled_yes, left_over, nothing_left}
use Rattle.grammar_table.proofs.run.Run.finish.Goals as goal

pub returns-then-not-branch-clause-fault : goal.returns-then-not-branch-clause-fault
returns-then-not-branch-clause-fault c = λ _. (
  refl,
  λ ts r.
      let run = c.args.self in
      let next = c.settle.new.self in
      let off : c.in_ok-settle.field-0 ≡ false = search rules in
      settled_no c.in_ok-settle.field-0 ts None next.numbers next.levels next.stack off (c.in_ok-settle.ensures ts (reached_seen (map Some ts) (None ∷ []) ts run.numbers run.levels run.stack r)),
)

pub returns-in-Some-clause-fault : goal.returns-in-Some-clause-fault
returns-in-Some-clause-fault c = λ _. (
  refl,
  λ ts r.
      let run = c.args.self in
      let next = c.settle.new.self in
      let on : c.in_ok-settle.field-0 ≡ true = search rules in
      left_over ts next.numbers next.levels next.stack c.in-Some.field-0 (settled_yes c.in_ok-settle.field-0 ts None next.numbers next.levels next.stack on (c.in_ok-settle.ensures ts (reached_seen (map Some ts) (None ∷ []) ts run.numbers run.levels run.stack r))) c.in-Some.ensures,
)

pub returns-in-None-clause-ok : goal.returns-in-None-clause-ok
returns-in-None-clause-ok c = λ ts r.
    let run = c.args.self in
    let next = c.settle.new.self in
    let on : c.in_ok-settle.field-0 ≡ true = search rules in
    nothing_left ts next.numbers next.levels next.stack (settled_yes c.in_ok-settle.field-0 ts None next.numbers next.levels next.stack on (c.in_ok-settle.ensures ts (reached_seen (map Some ts) (None ∷ []) ts run.numbers run.levels run.stack r))).0 c.in-None.ensures
