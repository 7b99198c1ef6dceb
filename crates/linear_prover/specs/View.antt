-- What the code's values are, and what its calls answer.
use Rattle.std.specs.Prelude.{◌≡◌, map, Option, Result, MatchOption, IfOk}
use Rattle.logic_terms.specs.View.{term}
use Rattle.linear_forms.specs.View.{linear}
use Rattle.cert_lines.specs.View.{step}
use Rattle.linear_prover.specs.Machine.{Made, made, Aside, aside, State, Answer, refuted, point, gap, wide, steps_out, Running, goes_on, ends}
use Rattle.linear_prover.specs.declared.answer.LinearAnswer.{LinearAnswer}
use Rattle.linear_prover.specs.declared.answer.LinearAnswer.TheVariants.{Refuted, Point, Gap, WideForm, StepsOut}
use Rattle.linear_prover.specs.declared.machine.MadeForm.{MadeForm}
use Rattle.linear_prover.specs.declared.machine.SetAside.{SetAside}
use Rattle.linear_prover.specs.declared.machine.LinearMachine.{LinearMachine}

abbrev pub answer : LinearAnswer → Answer
answer (Refuted ls) = refuted (map step ls)
answer (Point ns) = point ns
answer Gap = gap
answer WideForm = wide
answer StepsOut = steps_out

abbrev pub made_of : MadeForm → Made
made_of x = made (linear x.form) x.number

abbrev pub aside_of : SetAside → Aside
aside_of a = aside (term a.variable) (map (λ x. linear x.form) a.forms.items)

abbrev pub state : LinearMachine → State
state m = record {
  inputs = m.inputs;
  standing = map made_of m.standing.items;
  steps = map step m.steps.items;
  left = map term m.left.items;
  eliminated = map aside_of m.eliminated.items;
  budget = m.budget;
}

-- the machine goes on from its new state, or has ended with an answer
abbrev pub Runs : {E : Type 0} → Running → LinearMachine → Result (Option LinearAnswer) E → Type 0
Runs r new outcome = IfOk outcome (λ o. MatchOption o (r ≡ goes_on (state new)) (λ a. r ≡ ends (answer a) new.budget))
