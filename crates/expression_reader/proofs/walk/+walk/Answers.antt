use Rattle.std.proofs.Common.{◌≡◌, ap, subst, ◌∙◌, ◌≤◌, List, Some, arith, length}
use Rattle.std.specs.Prelude.{◌||◌, is_some}
use Rattle.ada_syntax.specs.declared.expressions.Arg.{Arg}
use Rattle.ada_syntax.specs.declared.expressions.Expr.{Expr}
use Rattle.reading_scope.specs.Scopes.{scope_of}
use Rattle.syntax_view.specs.View.{expr}
use Rattle.type_base.specs.declared.world.World.{World}
use Rattle.typing_rules.specs.Conditions.{index_subtype}
use Rattle.typing_rules.specs.Lookups.{type_of}
use Rattle.expression_reader.proofs.Turns.{item_stopped, item_went, name_found, name_kept, part_stopped, part_went}
use Rattle.expression_reader.proofs.Walked.{more, predicate_of}
use Rattle.expression_reader.proofs.walk.+walk.Goals.{record_parts-then-named, record_parts-else-named}
use Rattle.expression_reader.proofs.walk.+walk.Goals as goal

pub read_only-returns-in-len2-up : goal.read_only-returns-in-len2-up
read_only-returns-in-len2-up t c = more (scope_of c.args.scope.now) c.args.want c.args.args.now (subst (λ (as' : List (Arg Expr)). 2 ≤ length as') c.as_slice.ensures c.in-len2-up.len_at_least)

pub predicate_found-returns : goal.predicate_found-returns
predicate_found-returns t c =
    predicate_of (scope_of c.args.scope.now) c.args.at c.in_ok-subtype.subtype _ c.in_ok-parameters.parameters c.as_slice.result.now (expr c.args.predicate.now) c.expression_place-place.result c.in_ok-prefix.field-0 c.in_ok-seen.seen c.condition.result
    c.as_slice.ensures c.in_ok-parameters.ensures (c.in_ok-subtype.ensures ∙ ap (λ (w : World). index_subtype w c.args.range.now) c.world.ensures) c.expression_place-place.ensures c.in_ok-prefix.ensures c.in_ok-seen.ensures c.condition.ensures

pub record_parts-returns-in-Ok-None : goal.record_parts-returns-in-Ok-None
record_parts-returns-in-Ok-None t c =
    part_stopped (scope_of c.args.scope.now) c.args.place c.place.result c.args.components.now c.loop-at.given c.as_slice.result.now c.loop-at.named c.loop-at.done c.spoiled.result c.as_slice-all.result.now c.args.args.now c.loop-at.at c.index-all-at.result c.in-Ok-None.field-0
    c.loop-at-test.true c.index-all-at.is c.as_slice.ensures c.in-Ok-None.ensures c.in-Ok-None.field-0-is c.place.ensures c.spoiled.ensures c.loop-at.invariant.1 c.as_slice-all.ensures

pub record_parts-loop-at-preserved : goal.record_parts-loop-at-preserved
record_parts-loop-at-preserved t c =
    let named : c.if-named.named ≡ (c.loop-at.named || is_some c.index-all-at.result.value) =
    elim c.if-named.branch [
      | record_parts-then-named w ↦ name_kept c.loop-at.named c.if-named.named _ w.named-is w.if-named.true
      | record_parts-else-named w ↦ name_found c.loop-at.named c.if-named.named _ _ w.named-is w.if-named.false w.is_some-named.ensures
    ] in (
      omega (arith, c.loop-at-test.true),
      part_went (scope_of c.args.scope.now) c.args.place c.args.components.now c.loop-at.given c.as_slice.result.now c.in_ok-given.given c.loop-at.named c.if-named.named c.loop-at.done c.in_ok-done.done c.as_slice-all.result.now c.loop-at.at c.index-all-at.result c.in-Ok-Some.field-0 c.in-Ok-Some.gives
          c.loop-at-test.true c.index-all-at.is c.as_slice.ensures c.in-Ok-Some.ensures c.in-Ok-Some.field-0-is c.in_ok-given.ensures named c.in_ok-done.ensures
          ∙ c.loop-at.invariant.1,
    )

pub array_items-returns-in-Ok-Ended : goal.array_items-returns-in-Ok-Ended
array_items-returns-in-Ok-Ended t c =
    item_stopped (scope_of c.args.scope.now) (record { index = c.args.index; bounds = Some c.args.bounds; item = c.args.item }) c.args.bounds c.loop-at.at c.loop-at.manner c.loop-at.gathered c.as_slice-all.result.now c.args.args.now c.index-all-at.result c.type_of-ty.result c.in-Ok.sort c.in-Ok-Ended.field-0 c.in-Ok-Ended.items
    c.loop-at-test.true c.index-all-at.is (c.type_of-ty.ensures ∙ ap (λ (w : World). type_of w c.args.index) c.world.ensures) c.in-Ok.ensures c.in-Ok-Ended.ensures c.in-Ok-Ended.field-0-is c.loop-at.invariant.1 c.as_slice-all.ensures

pub array_items-loop-at-preserved : goal.array_items-loop-at-preserved
array_items-loop-at-preserved t c = (
  omega (arith, c.loop-at-test.true),
  item_went (scope_of c.args.scope.now) (record { index = c.args.index; bounds = Some c.args.bounds; item = c.args.item }) c.args.bounds c.loop-at.at c.loop-at.manner c.loop-at.gathered c.as_slice-all.result.now c.index-all-at.result c.type_of-ty.result c.in-Ok.sort c.in-Ok-Further.field-0 c.in-Ok-Further.next c.in-Ok-Further.more
      c.loop-at-test.true c.index-all-at.is (c.type_of-ty.ensures ∙ ap (λ (w : World). type_of w c.args.index) c.world.ensures) c.in-Ok.ensures c.in-Ok-Further.ensures c.in-Ok-Further.field-0-is ∙ c.loop-at.invariant.1,
)
