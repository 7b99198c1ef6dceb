use Rattle.std.proofs.Common.{◌≡◌, subst}
use Rattle.logic_terms.specs.Value.{truth}
use Rattle.logic_terms.specs.Run.{gives, most_nodes, run}
use Rattle.logic_terms.specs.View.{formula}
use Rattle.logic_truth.proofs.Reach.{variables-nothing}
use Rattle.logic_terms.proofs.Runs.{run-holds}
use Rattle.logic_truth.proofs.evaluator.truth.Goals as goal

pub returns-clause-meaning : goal.returns-clause-meaning
returns-clause-meaning c w =
    run-holds w most_nodes c.in_ok-b.field-0-1 (formula c.args.f.now) c.in_ok-b.b
    (subst (λ vs. run most_nodes vs (formula c.args.f.now) ≡ gives (truth c.in_ok-b.b) c.in_ok-b.field-0-1) variables-nothing c.in_ok-b.ensures)
