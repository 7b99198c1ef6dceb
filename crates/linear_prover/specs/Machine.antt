-- The state of the linear machine, and how forms are appended.
use Rattle.std.specs.Prelude.{ℕ, Bool, false, ◌||◌, ◌+◌, ℤ, pos, int_lt, List, [], ◌∷◌, ◌++◌, length, if◌then◌else◌}
use Rattle.logic_terms.specs.Node.{Node}
use Rattle.linear_forms.specs.Form.{Form, tightened}
use Rattle.cert_lines.specs.Line.{Step, tighten}
use Rattle.linear_prover.specs.Forms.{is_constant, same_form}
use Rattle.linear_prover.specs.Lines.{lines}

-- a form with its number: the inputs have the first numbers, and each step makes the next
pub record Made : Type 0 where
  pub body : Form
  pub number : ℕ

abbrev pub made : Form → ℕ → Made
made f k = record { body = f; number = k }

-- a variable that was eliminated, with the forms that had it
pub record Aside : Type 0 where
  pub variable : Node
  pub forms : List Form

abbrev pub aside : Node → List Form → Aside
aside v fs = record { variable = v; forms = fs }

-- how many inputs there were; the forms that stand; the steps made; the variables left; those eliminated, the last one first;
-- the steps that may still be taken
pub record State : Type 0 where
  pub inputs : ℕ
  pub standing : List Made
  pub steps : List Step
  pub left : List Node
  pub eliminated : List Aside
  pub budget : ℕ

pub data Answer : Type 0 where
  refuted : List Step → Answer
  point : List ℤ → Answer
  gap : Answer
  wide : Answer
  steps_out : Answer

-- the machine goes on, or ends with an answer and the budget left
pub data Running : Type 0 where
  goes_on : State → Running
  ends : Answer → ℕ → Running

abbrev pub and_then : Running → (State → Running) → Running
and_then (goes_on s) f = f s
and_then (ends a b) f = ends a b

-- what f does with each, in order
abbrev pub each : {A : Type 0} → (A → State → Running) → List A → State → Running
each f [] s = goes_on s
each f (x ∷ xs) s = and_then (f x s) (each f xs)

-- the number of the form that the next step makes
abbrev pub next : State → ℕ
next s = s.inputs + length s.steps

abbrev pub with_line : Step → State → State
with_line l s = record s { steps = s.steps ++ l ∷ [] }

abbrev pub repeats : Form → List Made → Bool
repeats f [] = false
repeats f (x ∷ xs) = same_form f x.body || repeats f xs

-- a negative constant ends; other constants and repeats of standing forms are dropped
abbrev pub placed : Made → State → Running
placed x s =
    if is_constant x.body.monomials
    then (if int_lt x.body.constant (pos 0) then ends (refuted (lines s.inputs x.number s.steps)) s.budget else goes_on s)
    else if repeats x.body s.standing then goes_on s
    else goes_on (record s { standing = s.standing ++ x ∷ [] })

-- a form is tightened, by a step only where that changes it
abbrev pub appended : Form → ℕ → State → Running
appended f k s =
    if same_form (tightened f) f then placed (made (tightened f) k) s
    else placed (made (tightened f) (next s)) (with_line (tighten k) s)
