use Rattle.std.proofs.Common.{sym, ◌∙◌, ap, subst, ◌<◌, ◌++◌, drop, arith}
use Rattle.std.proofs.lemmas.List.{length-map}
use Rattle.cert_reader.proofs.Forms.{row_some, row_word}
use Rattle.cert_reader.proofs.line_word.choose.Goals as goal

pub returns-in-Ok-clause-before : goal.returns-in-Ok-clause-before
returns-in-Ok-clause-before c =
    let h = subst (λ n. c.in-Ok.found.place < n) (sym (length-map c.rows-table.result.now _)) c.in-Ok.ensures.place in
    let s = row_some _ c.in-Ok.found.place c.rows-table.ensures.words h in
    let t = c.in-Ok.ensures.to in
    omega arith

pub returns-in-Ok-clause-text : goal.returns-in-Ok-clause-text
returns-in-Ok-clause-text c =
    let h = subst (λ n. c.in-Ok.found.place < n) (sym (length-map c.rows-table.result.now _)) c.in-Ok.ensures.place in
    let r = drop c.in-Ok.found.to c.args.bytes.now in
    c.in-Ok.ensures.text
    ∙ ap (λ x. x ++ r) (row_word _ _ c.in-Ok.found.place _ c.rows-table.ensures.words c.rows-table.ensures.lines h c.line_at.ensures)
