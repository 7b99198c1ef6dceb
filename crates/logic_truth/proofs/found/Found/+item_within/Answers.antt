use Rattle.std.proofs.Common.{◌≡◌, ◌≢◌, ◌∙◌, ap, subst, sym, arith, to_z, of_z}
use Rattle.std.specs.Int.{w128}
use Rattle.std.proofs.lemmas.Int.{ints}
use Rattle.logic_terms.specs.Meaning.{item}
use Rattle.logic_truth.specs.Found.{found}
use Rattle.logic_truth.proofs.Steps.{item_in_filled, item_stored_here, item_stored_elsewhere}
use Rattle.logic_truth.proofs.found.Found.+item_within.Goals as goal

pub returns-in-Filled : goal.returns-in-Filled
returns-in-Filled t c =
    subst (λ r. found r ≡ item (found c.args.self) c.args.at) (sym c.into_inner.ensures)
    (item_in_filled c.args.self c.args.at c.in-Filled.field-0 c.in-Filled.field-1 c.in-Filled.item c.in-Filled.is c.requires)

pub returns-then-place-at : goal.returns-then-place-at
returns-then-place-at t c =
    let same : c.in-Stored.place ≡ c.args.at = omega (arith, ints) in
    subst (λ r. found r ≡ item (found c.args.self) c.args.at) (sym c.into_inner-then-place-at.ensures)
    (item_stored_here c.args.self c.args.at c.in-Stored.a c.in-Stored.place c.in-Stored.item c.in-Stored.is same c.requires)

pub returns-else-place-at : goal.returns-else-place-at
returns-else-place-at t c =
    let apart : c.in-Stored.place ≢ c.args.at = omega (arith, ints) in
    let at : to_z w128 (of_z w128 c.args.at) ≡ c.args.at = omega (arith, ints) in
    let below = c.item_within.ensures ∙ ap (λ x. item (found x) (to_z w128 (of_z w128 c.args.at))) c.into_inner-else-place-at.ensures ∙ ap (λ i. item (found c.in-Stored.a) i) at in
    item_stored_elsewhere c.args.self c.args.at c.in-Stored.a c.in-Stored.place c.in-Stored.item c.item_within.result c.in-Stored.is apart c.requires below
