use Rattle.std.proofs.Common.{rules, ◌≡◌, ◌∙◌, sym, ap, FitsSigned, to_z, of_z}
use Rattle.std.specs.Int.{w128}
use Rattle.std.proofs.lemmas.Int.{to_z-of_z}
use Rattle.ada_values.specs.Value.{array, value, values}
use Rattle.ada_values.proofs.Views.{value_Arr}
use Rattle.run_values.proofs.Views.{run_value_Arr}
use Rattle.run_values.proofs.taking.+taken.Goals as goal

pub taken-returns-in_ok-items-in-Arr : goal.taken-returns-in_ok-items-in-Arr
taken-returns-in_ok-items-in-Arr t c =
    let ff : FitsSigned w128 c.in-Arr.array.first = search rules in let fl : FitsSigned w128 c.in-Arr.array.last = search rules in
    let ef : to_z w128 (of_z w128 c.in-Arr.array.first) ≡ c.in-Arr.array.first = to_z-of_z w128 c.in-Arr.array.first ff in
    let el : to_z w128 (of_z w128 c.in-Arr.array.last) ≡ c.in-Arr.array.last = to_z-of_z w128 c.in-Arr.array.last fl in
    let va : value c.args.v.now ≡ array c.in-Arr.array.first c.in-Arr.array.last (values c.in-Arr.array.items) = ap value c.in-Arr.is ∙ value_Arr c.in-Arr.array in
    run_value_Arr _ ∙ (λ i. array (ef i) (el i) (c.in_ok-items-in-Arr.ensures i)) ∙ sym va
