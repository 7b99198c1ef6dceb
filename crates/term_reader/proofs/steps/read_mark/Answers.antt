use Rattle.std.proofs.Common.{◌≡◌, refl, sym, ◌∙◌, ap, subst, ◌+◌, List, drop, lit<}
use Rattle.std.proofs.lemmas.Bool.{eqb-false}
use Rattle.std.specs.Prelude.{None}
use Rattle.term_reader.specs.Bytes.{first}
use Rattle.term_reader.specs.Operators.{build}
use Rattle.term_reader.specs.Trees.{Level, wants, is_full, IsAt}
use Rattle.term_reader.proofs.Fronts.{first_is}
use Rattle.term_reader.proofs.Levels.{follows_in, stops_in}
use Rattle.term_reader.proofs.steps.read_mark.Goals as goal

pub returns-in-None-wants-clause-fault : goal.returns-in-None-wants-clause-fault
returns-in-None-wants-clause-fault c = λ text whole h.
    let f = c.in-Some.frame in
    let b : first (drop c.args.at c.args.bytes.now) ≡ 32 = sym c.byte_at-byte.ensures ∙ c.if-byte-eq32.true in (
      c.requires,
      stops_in text whole (build f.operator) f.parts _ _ (drop c.args.at c.args.bytes.now) c.in-Some.ensures
          (λ _. sym (c.in-None-wants.ensures ∙ ap (wants (build f.operator)) c.len.ensures))
          (λ x. absurd (eqb-false 32 41 refl (sym b ∙ x)))
          h,
    )

pub returns-in-Ok-clause-ok : goal.returns-in-Ok-clause-ok
returns-in-Ok-clause-ok c = λ text whole h.
    let f = c.in-Some.frame in
    let b : first (drop c.args.at c.args.bytes.now) ≡ 32 = sym c.byte_at-byte.ensures ∙ c.if-byte-eq32.true in
    follows_in text whole c.in-Some-wants.side (build f.operator) f.parts _ _ _ (drop c.args.at c.args.bytes.now) (drop (c.args.at + 1) c.args.bytes.now)
    c.in-Some.ensures c.in-Ok.ensures
    (sym (c.in-Some-wants.ensures ∙ ap (wants (build f.operator)) c.len.ensures))
    (first_is c.args.bytes.now c.args.at 32 b (lit< tt)).1
    h

pub returns-then-byte-ne41-clause-fault : goal.returns-then-byte-ne41-clause-fault
returns-then-byte-ne41-clause-fault c = λ text whole h.
    let f = c.in-Some.frame in (
      c.requires,
      stops_in text whole (build f.operator) f.parts _ _ (drop c.args.at c.args.bytes.now) c.in-Some.ensures
          (λ x. absurd (c.if-byte-eq32.false (c.byte_at-byte.ensures ∙ x)))
          (λ x. absurd (c.if-byte-ne41.true (c.byte_at-byte.ensures ∙ x)))
          h,
    )

pub returns-in-Ok-close-clause-ok : goal.returns-in-Ok-close-clause-ok
returns-in-Ok-close-clause-ok c = λ text whole h.
    let f = c.in-Some.frame in
    let b : first (drop c.args.at c.args.bytes.now) ≡ 41 = sym c.byte_at-byte.ensures ∙ c.if-byte-ne41.false in
    c.in-Ok-close.ensures text whole (drop c.args.at c.args.bytes.now) (drop (c.args.at + 1) c.args.bytes.now)
    (sym (c.is_full.ensures ∙ ap (is_full (build f.operator)) c.len-else-byte-ne41.ensures) ∙ c.if-is_full.true)
    (first_is c.args.bytes.now c.args.at 41 b (lit< tt)).1
    (subst (λ (ls : List Level). IsAt text whole None ls (drop c.args.at c.args.bytes.now)) c.in-Some.ensures h)

pub returns-else-is_full-clause-fault : goal.returns-else-is_full-clause-fault
returns-else-is_full-clause-fault c = λ text whole h.
    let f = c.in-Some.frame in (
      c.requires,
      stops_in text whole (build f.operator) f.parts _ _ (drop c.args.at c.args.bytes.now) c.in-Some.ensures
          (λ x. absurd (c.if-byte-eq32.false (c.byte_at-byte.ensures ∙ x)))
          (λ _. sym (c.is_full.ensures ∙ ap (is_full (build f.operator)) c.len-else-byte-ne41.ensures) ∙ c.if-is_full.false)
          h,
    )
