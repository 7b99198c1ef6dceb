use Rattle.std.proofs.Common.{◌≡◌, sym, ◌∙◌, subst, ℕ, ◌+◌, ◌<◌, ◌≤◌, List, Bor, [], length, max, drop, map, get_or, arith, below_more, length-drop}
use Rattle.std.proofs.lemmas.List.{get_or-map, length-map}
use Rattle.term_reader.specs.Words.{word_at, furthest_of}
use Rattle.term_reader.proofs.Choosing.{IsPassed, word_read, next_row, all_rows, not_whole, no_word, max_is}
use Rattle.term_reader.proofs.table.word_among.Goals as goal

pub returns-then-agreed-word-clause-text : goal.returns-then-agreed-word-clause-text
returns-then-agreed-word-clause-text g c =
    let e = get_or-map (λ (w : Bor (List ℕ) × g.row.W.Denot). w.0.now) c.args.table.now c.loop-place.place c.index-table-place.result [] c.loop-place-test.true in
    word_read c.args.at c.common-agreed.result c.args.bytes.now _ _ e c.common-agreed.ensures.count c.if-agreed-word.true

pub loop-place-preserved : goal.loop-place-preserved
loop-place-preserved g c =
    let i = c.loop-place.invariant in
    let place = c.loop-place.place in
    let s = drop c.args.at c.args.bytes.now in
    let f : Bor (List ℕ) × g.row.W.Denot → List ℕ = λ w. w.0.now in
    let ws : List (List ℕ) = map f c.args.table.now in
    let w : List ℕ = f (get_or c.args.table.now place c.index-table-place.result) in
    let e : word_at ws place ≡ w = get_or-map f c.args.table.now place c.index-table-place.result [] c.loop-place-test.true in
    let p : IsPassed w s = record { short = not_whole w s c.common-agreed.result c.common-agreed.ensures.count c.if-agreed-word.false; bytes = c.common-agreed.ensures.word } in
    let P : ℕ → Type 0 = λ k. IsPassed (word_at ws k) s in
    let h : place < length ws = subst (λ n. place < n) (sym (length-map c.args.table.now f)) c.loop-place-test.true in
    let m : c.max-furthest.result ≡ max c.loop-place.furthest c.common-agreed.result = c.max-furthest.ensures ∙ max_is c.loop-place.furthest c.common-agreed.result in
    let inner = i.inside in
    let added = c.common-agreed.ensures.inside in record {
      inside = omega arith;
      passed = below_more P place i.passed (subst (λ v. IsPassed v s) (sym e) p);
      reached = subst (λ n. furthest_of ws s ≡ max n (furthest_of (drop (place + 1) ws) s)) (sym m) (next_row ws s w place c.loop-place.furthest c.common-agreed.result h i.reached c.common-agreed.ensures.count e);
    }

pub returns-clause-fault : goal.returns-clause-fault
returns-clause-fault g c =
    let i = c.loop-place.invariant in
    let s = drop c.args.at c.args.bytes.now in
    let f : Bor (List ℕ) × g.row.W.Denot → List ℕ = λ w. w.0.now in
    let ws : List (List ℕ) = map f c.args.table.now in
    let l : length ws ≡ length c.args.table.now = length-map c.args.table.now f in
    let some = c.requires.table in
    let n = i.inside in
    let last : length c.args.table.now ≤ c.loop-place.place = omega (arith, c.loop-place-test.false) in
    no_word ws c.args.bytes.now c.args.at c.loop-place.furthest (omega arith)
    (λ k h. i.passed k (omega arith))
    (all_rows ws s c.loop-place.place c.loop-place.furthest (omega arith) i.reached)
    (omega (arith, length-drop c.args.at c.args.bytes.now))
