use Rattle.std.proofs.Common.{ap, sym, ◌∙◌, arith, pos, List, Some}
use Rattle.std.proofs.lemmas.List.{drop_all, drop_more}
use Rattle.typed_units.specs.declared.operators.Bounds.{Bounds}
use Rattle.static_values.specs.Owners.{owned}
use Rattle.statement_typing.specs.Values.{in_ranges}
use Rattle.static_values.proofs.Owned.{length-owned, no_range, one_range}
use Rattle.static_values.proofs.owners.give_ranges.Goals as goal

abbrev no_bounds : Bounds
no_bounds = record { first = pos 0; last = pos 0 }

pub loop-range-preserved : goal.loop-range-preserved
loop-range-preserved c = record {
  long = grind (arith, length-owned, c.give_range.ensures, c.loop-range.invariant.long);
  rest =
      ap (owned (Some c.args.share) _ c.args.bounds.first) c.give_range.ensures
      ∙ one_range _ _ _ _ _
      ∙ ap (λ (l : List Bounds). owned (Some c.args.share) (λ n. in_ranges n l) c.args.bounds.first c.loop-range.owners.items) (sym (drop_more c.args.ranges.now c.loop-range.range-index no_bounds c.loop-range-test.true))
      ∙ c.loop-range.invariant.rest;
}

pub returns : goal.returns
returns c =
    sym (no_range (Some c.args.share) c.args.bounds.first c.loop-range.owners.items)
    ∙ ap (λ (l : List Bounds). owned (Some c.args.share) (λ n. in_ranges n l) c.args.bounds.first c.loop-range.owners.items) (sym (drop_all c.loop-range.range-index c.args.ranges.now c.loop-range-test.false))
    ∙ c.loop-range.invariant.rest
