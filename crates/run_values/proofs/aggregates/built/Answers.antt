use Rattle.std.proofs.Common.{rules, ◌≡◌, ◌∙◌, sym, ap, FitsSigned, to_z, of_z}
use Rattle.std.specs.Int.{w128}
use Rattle.std.proofs.lemmas.Int.{to_z-of_z}
use Rattle.ada_values.specs.Value.{array}
use Rattle.ada_semantics.specs.Operators.{built}
use Rattle.run_values.specs.RunValues.{run_values}
use Rattle.run_values.proofs.Views.{run_value_Arr}
use Rattle.run_values.proofs.aggregates.built.Goals as goal

pub returns-in-Array : goal.returns-in-Array
returns-in-Array c =
    let ff : FitsSigned w128 c.args.bounds.now.first = search rules in let fl : FitsSigned w128 c.args.bounds.now.last = search rules in
    let ef : to_z w128 (of_z w128 c.args.bounds.now.first) ≡ c.args.bounds.now.first = to_z-of_z w128 c.args.bounds.now.first ff in
    let el : to_z w128 (of_z w128 c.args.bounds.now.last) ≡ c.args.bounds.now.last = to_z-of_z w128 c.args.bounds.now.last fl in
    run_value_Arr _ ∙ (λ i. array (ef i) (el i) (run_values c.args.items)) ∙ ap (λ k. built k c.args.bounds.now (run_values c.args.items)) (sym c.in-Array.is)
