-- What the evaluator finds, against the outcome of a run.
use Rattle.std.specs.Prelude.{◌≡◌, ℕ, Bool, ℤ, List, [], ◌∷◌, ◌++◌, map, MatchResult, true, false, Result, Option, Some, None}
use Rattle.logic_terms.specs.Value.{Value, number, truth, record_of, Values, no_values, value}
use Rattle.logic_terms.specs.Run.{Outcome, gives, wide, too_long, Gives}
use Rattle.logic_terms.specs.Meaning.{filled, stored}
use Rattle.logic_terms.specs.Node.{Quant, all, any}
use Rattle.logic_truth.specs.declared.found.Found.{Found, fold-Found}
use Rattle.logic_truth.specs.declared.found.Found.TheOpen.{Found-F}
use Rattle.logic_truth.specs.declared.found.Variables.{Variables, fold-Variables}
use Rattle.logic_truth.specs.declared.found.Variables.TheOpen.{Variables-F}
use Rattle.logic_truth.specs.declared.found.TruthFault.{TruthFault}
use Rattle.logic_truth.specs.declared.found.TruthFault.TheVariants.{Wide, TooLong, Starved}

abbrev pub values_in : List Value → Values
values_in [] = no_values
values_in (v ∷ vs) = value v (values_in vs)

abbrev pub found_step : Found-F Value → Value
found_step (Found-F.Num n) = number n
found_step (Found-F.Truth b) = truth b
found_step (Found-F.Filled f l v) = filled f l v
found_step (Found-F.Stored a i v) = stored a i v
found_step (Found-F.Record vs) = record_of (values_in vs)

-- the value that was found
abbrev pub found : Found → Value
found = fold-Found Value found_step

abbrev pub found_all : List Found → Values
found_all vs = values_in (map found vs)

abbrev pub found_truth : Bool → Value
found_truth b = truth b

abbrev pub variables_step : Variables-F (List Value) → List Value
variables_step Variables-F.Nothing = []
variables_step (Variables-F.Over n vs) = number n ∷ vs.now

-- the values of the variables, the nearest quantifier's first
abbrev pub variables : Variables → List Value
variables = fold-Variables (List Value) variables_step

-- why a run stopped; memory may run out anywhere
abbrev pub IsFault : {A : Type 0} → TruthFault → Outcome A → Type 0
IsFault Wide x = x ≡ wide
IsFault TooLong x = x ≡ too_long
IsFault Starved x = Unit {0}

-- the value of the run, with what is left of the budget, or why it stopped
abbrev pub Finds : {A V : Type 0} → (A → V) → Outcome V → Result (A × ℕ) TruthFault → Type 0
Finds view x r = MatchResult r (λ a. x ≡ gives (view a.0) a.1) (λ e. IsFault e x)

-- what is added to a list of values
abbrev pub Adds : List Found → List Found → Found → Result (Unit {0}) TruthFault → Type 0
Adds before after v r = MatchResult r (λ _. after ≡ before ++ v ∷ []) (λ e. e ≡ Starved)

abbrev pub option_outcome : Option ℤ → ℕ → Outcome Value
option_outcome (Some z) n = gives (number z) n
option_outcome None n = wide

abbrev pub quant_of : Bool → Quant
quant_of true = all
quant_of false = any

-- the truth that the run gives, or why it stopped
abbrev pub FindsTruth : Outcome Value → Result Bool TruthFault → Type 0
FindsTruth x r = MatchResult r (λ b. Gives x (truth b)) (λ e. IsFault e x)
