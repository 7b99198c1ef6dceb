use Rattle.std.proofs.Common.{◌≡◌, ℕ, All, List, ◌++◌, ◌+◌, ap, sym, ◌∙◌, subst, drop, append-nil, arith}
use Rattle.std.proofs.lemmas.List.{take_rest}
use Rattle.std.proofs.lemmas.List.Elements.{All-push}
use Rattle.ada_text.specs.declared.token.Token.{Token}
use Rattle.ada_text.specs.Tokens.{AreInOrder, StandsIn, before, tokens_from, tokens_in, tokens_of}
use Rattle.ada_text.proofs.Reading.{before-nil, blank_turn, turn, turn_within, one_token, no_token, order_more, order_push, stands, none_stand}
use Rattle.ada_text.proofs.lex.tokens.Goals as goal

pub loop-at-init : goal.loop-at-init
unfolding tokens_in
loop-at-init c = (
  ap (λ (f : List Token). before f (tokens_from c.skipped-at.result 0 (drop c.skipped-at.result c.args.text.now))) c.new-found.ensures
      ∙ before-nil _
      ∙ ap (λ (k : ℕ). tokens_from k 0 (drop k c.args.text.now)) c.skipped-at.ensures.value,
  c.skipped-at.ensures.within,
  subst (λ (f : List Token). AreInOrder 0 f c.skipped-at.result) (sym c.new-found.ensures) (omega arith),
  none_stand c.args.text.now c.new-found.result c.new-found.ensures,
)

pub loop-at-preserved-in_ok-push : goal.loop-at-preserved-in_ok-push
loop-at-preserved-in_ok-push c =
    let i = c.in_ok-item.item in
    let here = take_rest c.args.text.now c.loop-at.at in
    let pushed : c.push.new.self ≡ c.loop-at.found ++ tokens_of c.loop-at.at i = c.in_ok-push.ensures.ok ∙ ap (λ (l : List Token). c.loop-at.found ++ l) (sym (one_token c.loop-at.at i c.in-Some.kind c.in-Some.is)) in (
      ap (λ (l : List Token). before l (tokens_from (c.loop-at.at + i.length) 0 (drop (c.loop-at.at + i.length) c.args.text.now))) pushed
          ∙ turn c.loop-at.found c.loop-at.at i c.args.text.now _ here c.in_ok-item.ensures.value c.in_ok-item.ensures.within.0 c.in_ok-item.ensures.within.1
          ∙ c.loop-at.invariant.0,
      turn_within c.loop-at.at i.length c.args.text.now _ here c.loop-at-test.true c.in_ok-item.ensures.within.1,
      subst (λ (l : List Token). AreInOrder 0 l (c.loop-at.at + i.length)) (sym c.in_ok-push.ensures.ok) (order_push 0 c.loop-at.found c.in-Some.kind c.loop-at.at i.length c.loop-at.invariant.2 c.in_ok-item.ensures.within.0),
      subst (λ (l : List Token). All (StandsIn c.args.text.now) l) (sym c.in_ok-push.ensures.ok) (All-push (StandsIn c.args.text.now) c.loop-at.found _ c.loop-at.invariant.3 (stands c.args.text.now _ c.loop-at.at i c.in-Some.kind here c.in_ok-item.ensures.value c.in-Some.is)),
    )

pub loop-at-preserved-then-is_blank : goal.loop-at-preserved-then-is_blank
loop-at-preserved-then-is_blank c = (
  blank_turn c.loop-at.found c.loop-at.at c.args.text.now c.loop-at-test.true (sym c.is_blank.ensures ∙ c.if-is_blank.true) ∙ c.loop-at.invariant.0,
  omega arith,
  order_more 0 c.loop-at.found c.loop-at.at (c.loop-at.at + 1) c.loop-at.invariant.2 (omega arith),
  c.loop-at.invariant.3,
)

pub loop-at-preserved : goal.loop-at-preserved
loop-at-preserved c =
    let i = c.in_ok-item.item in
    let here = take_rest c.args.text.now c.loop-at.at in
    let same : c.loop-at.found ≡ c.loop-at.found ++ tokens_of c.loop-at.at i = sym (append-nil c.loop-at.found) ∙ ap (λ (l : List Token). c.loop-at.found ++ l) (sym (no_token c.loop-at.at i c.in_default.is)) in (
      ap (λ (l : List Token). before l (tokens_from (c.loop-at.at + i.length) 0 (drop (c.loop-at.at + i.length) c.args.text.now))) same
          ∙ turn c.loop-at.found c.loop-at.at i c.args.text.now _ here c.in_ok-item.ensures.value c.in_ok-item.ensures.within.0 c.in_ok-item.ensures.within.1
          ∙ c.loop-at.invariant.0,
      turn_within c.loop-at.at i.length c.args.text.now _ here c.loop-at-test.true c.in_ok-item.ensures.within.1,
      order_more 0 c.loop-at.found c.loop-at.at (c.loop-at.at + i.length) c.loop-at.invariant.2 (omega arith),
      c.loop-at.invariant.3,
    )
