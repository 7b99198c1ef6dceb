use Rattle.std.proofs.Common.{◌≡◌, ◌∙◌, ◌∷◌, [], map, Some, true, false, rules, sym}
use Rattle.std.proofs.lemmas.Result.{IfOk-weaker}
use Rattle.grammar_table.proofs.Reaching.{reached_seen}
use Rattle.grammar_table.proofs.Steps.{settled_no, settled_yes, not_first, taken_first}
use Rattle.grammar_table.proofs.run.Run.read.Goals as goal

pub returns-then-not-branch : goal.returns-then-not-branch
returns-then-not-branch c = λ ts r.
    let run = c.args.self.now in
    let next = c.settle.new.self in
    let off : c.in_ok-settle.field-0 ≡ false = search rules in
    settled_no c.in_ok-settle.field-0 ts (Some c.args.token) next.numbers next.levels next.stack off (c.in_ok-settle.ensures ts (reached_seen (map Some ts) (Some c.args.token ∷ []) ts run.numbers run.levels run.stack r))

pub returns-in-None : goal.returns-in-None
returns-in-None c = λ ts r.
    let run = c.args.self.now in
    let next = c.settle.new.self in
    let on : c.in_ok-settle.field-0 ≡ true = search rules in
    not_first ts c.args.token next.numbers next.levels next.stack (settled_yes c.in_ok-settle.field-0 ts (Some c.args.token) next.numbers next.levels next.stack on (c.in_ok-settle.ensures ts (reached_seen (map Some ts) (Some c.args.token ∷ []) ts run.numbers run.levels run.stack r))) (λ e is. c.in-None.ensures e (c.first.ensures ∙ is))

pub returns-in-Some : goal.returns-in-Some
returns-in-Some c =
    let run = c.args.self.now in
    let next = c.settle.new.self in
    let on : c.in_ok-settle.field-0 ≡ true = search rules in
    IfOk-weaker c.take.result _ _ (λ p h ts r.
    h ts c.args.token (taken_first ts c.args.token next.numbers next.levels next.stack c.pop.new.self c.in-Some.effect (sym c.first.ensures ∙ c.in-Some.ensures) c.pop.ensures.rest (settled_yes c.in_ok-settle.field-0 ts (Some c.args.token) next.numbers next.levels next.stack on (c.in_ok-settle.ensures ts (reached_seen (map Some ts) (Some c.args.token ∷ []) ts run.numbers run.levels run.stack r))).0)) c.take.ensures
