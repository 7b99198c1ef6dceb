use Rattle.std.proofs.Common.{◌≡◌, ◌≢◌, ◌∙◌, ap, subst, sym, arith, to_z, of_z}
use Rattle.std.specs.Int.{w128}
use Rattle.std.proofs.lemmas.Int.{ints}
use Rattle.logic_terms.specs.Meaning.{item}
use Rattle.logic_truth.specs.Found.{found}
use Rattle.logic_truth.proofs.Steps.{item_in_filled, item_stored_here, item_stored_elsewhere}
use Rattle.logic_truth.proofs.forms.+item_of.Goals as goal

pub returns-in-Filled-clause-value : goal.returns-in-Filled-clause-value
returns-in-Filled-clause-value t c =
    subst (λ r. found r ≡ item (found c.args.v.now) c.args.at) (sym c.get.ensures)
    (item_in_filled c.args.v.now c.args.at c.in-Filled.field-0 c.in-Filled.field-1 c.in-Filled.item c.in-Filled.is c.requires)

pub returns-then-place-at-clause-value : goal.returns-then-place-at-clause-value
returns-then-place-at-clause-value t c =
    let same : c.in-Stored.place ≡ c.args.at = omega (arith, ints) in
    subst (λ r. found r ≡ item (found c.args.v.now) c.args.at) (sym c.get-then-place-at.ensures)
    (item_stored_here c.args.v.now c.args.at c.in-Stored.a c.in-Stored.place c.in-Stored.item c.in-Stored.is same c.requires)

pub returns-else-place-at-clause-value : goal.returns-else-place-at-clause-value
returns-else-place-at-clause-value t c =
    let apart : c.in-Stored.place ≢ c.args.at = omega (arith, ints) in
    let at : to_z w128 (of_z w128 c.args.at) ≡ c.args.at = omega (arith, ints) in
    let below = c.item_of.ensures.value ∙ ap (λ x. item (found x) (to_z w128 (of_z w128 c.args.at))) c.get-else-place-at.ensures ∙ ap (λ i. item (found c.in-Stored.a) i) at in
    item_stored_elsewhere c.args.v.now c.args.at c.in-Stored.a c.in-Stored.place c.in-Stored.item c.item_of.result.now c.in-Stored.is apart c.requires below
