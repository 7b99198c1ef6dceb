-- The context of a line, as far as rule C4 looks at it.
use Rattle.std.specs.Prelude.{ℕ, List, [], map}
use Rattle.logic_terms.specs.Node.{Node}
use Rattle.logic_terms.specs.Goal.{problem}
use Rattle.logic_terms.specs.declared.goal.Goal.{Goal}
use Rattle.linear_forms.specs.Form.{Form}
use Rattle.linear_forms.specs.View.{linear}
use Rattle.linear_forms.specs.declared.form.LinearForm.{LinearForm}
use Rattle.cert_rules.specs.Context.{Context}

-- the goal, so many new symbols, and the clauses of the earlier lines
abbrev pub context : Goal → ℕ → List (List Node) → Context
context g n cs = record { goal = problem g; fresh = n; earlier = cs }

abbrev pub here : Goal → ℕ → Context
here g n = context g n []

abbrev pub forms : List LinearForm → List Form
forms fs = map linear fs
