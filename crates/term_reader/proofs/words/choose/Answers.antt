use Rattle.std.proofs.Common.{sym, ◌∙◌, ap, subst, ◌<◌, ◌++◌, drop, arith}
use Rattle.std.proofs.lemmas.List.{length-map}
use Rattle.term_reader.proofs.SideWords.{row_some, row_word, row_gives}
use Rattle.term_reader.proofs.words.choose.Goals as goal

pub returns-in-Ok-clause-before : goal.returns-in-Ok-clause-before
returns-in-Ok-clause-before c =
    let h = subst (λ n. c.in-Ok.found.place < n) (sym (length-map c.words_of-table.result.now _)) c.in-Ok.ensures.place in
    let s = row_some c.args.side _ c.in-Ok.found.place c.words_of-table.ensures.words h in
    let t = c.in-Ok.ensures.to in
    omega arith

pub returns-in-Ok-clause-text : goal.returns-in-Ok-clause-text
returns-in-Ok-clause-text c =
    let h = subst (λ n. c.in-Ok.found.place < n) (sym (length-map c.words_of-table.result.now _)) c.in-Ok.ensures.place in
    let r = drop c.in-Ok.found.to c.args.bytes.now in
    c.in-Ok.ensures.text
    ∙ ap (λ x. x ++ r) (row_word c.args.side _ _ c.in-Ok.found.place _ c.words_of-table.ensures.words c.words_of-table.ensures.builds h c.operator_at.ensures)

pub returns-in-Ok-clause-side : goal.returns-in-Ok-clause-side
returns-in-Ok-clause-side c =
    let h = subst (λ n. c.in-Ok.found.place < n) (sym (length-map c.words_of-table.result.now _)) c.in-Ok.ensures.place in
    row_gives c.args.side _ _ c.in-Ok.found.place _ c.words_of-table.ensures.words c.words_of-table.ensures.builds h c.operator_at.ensures
