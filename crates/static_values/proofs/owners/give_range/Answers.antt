use Rattle.std.proofs.Common.{◌≡◌, ◌≤◌, ℕ, Bool, arith, ap, ◌∙◌, None, Some, get_or, sym}
use Rattle.std.specs.Prelude.{if◌then◌else◌, nat_lt, not, ◌&&◌}
use Rattle.ada_values.specs.Scalars.{within}
use Rattle.static_values.proofs.Owned.{same_owned}
use Rattle.static_values.proofs.owners.give_range.Goals as goal

pub returns : goal.returns
returns c =
    let end : c.loop-at.at ≤ c.components_in-from.result.1 = c.loop-at.auto.at-end c.components_in-from.ensures.ordered in
    let e : c.loop-at.at ≡ c.components_in-from.result.1 = omega (arith, end, c.loop-at-test.false) in
    same_owned c.args.bounds (Some c.args.share) (within c.args.range.first c.args.range.last) c.args.owners.now.items c.loop-at.owners.items c.loop-at.invariant.long
    (λ i l. c.loop-at.invariant.each i l
    ∙ ap (λ (to : ℕ). if not (nat_lt i c.components_in-from.result.0) && nat_lt i to then Some c.args.share else get_or c.args.owners.now.items i None) e
    ∙ ap (λ (b : Bool). if b then Some c.args.share else get_or c.args.owners.now.items i None) (sym (c.components_in-from.ensures.each i (omega (arith, l, c.requires)))))
