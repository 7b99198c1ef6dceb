-- The linear machine as a whole.
use Rattle.std.specs.Prelude.{ℕ, suc, List, [], ◌∷◌, length}
use Rattle.logic_terms.specs.Node.{Node}
use Rattle.linear_forms.specs.Form.{Form}
use Rattle.linear_prover.specs.Forms.{variables_of}
use Rattle.linear_prover.specs.Machine.{Made, made, State, Answer, Running, goes_on, ends, and_then, each, appended}
use Rattle.linear_prover.specs.Elimination.{rounds}
use Rattle.linear_prover.specs.Values.{chosen}

-- an answer with the budget left
pub record Decided : Type 0 where
  pub answer : Answer
  pub budget : ℕ

abbrev pub decided : Answer → ℕ → Decided
decided a b = record { answer = a; budget = b }

abbrev pub numbered_from : ℕ → List Form → List Made
numbered_from k [] = []
numbered_from k (f ∷ fs) = made f k ∷ numbered_from (suc k) fs

abbrev pub at_start : List Form → ℕ → State
at_start fs budget = record { inputs = length fs; standing = []; steps = []; left = variables_of fs; eliminated = []; budget = budget }

abbrev pub entered : List Made → State → Running
entered xs s = each (λ x. appended x.body x.number) xs s

abbrev pub finished : List Node → Running → Decided
finished vs (ends a b) = decided a b
finished vs (goes_on s) = decided (chosen vs s.eliminated []) s.budget

-- the forms are appended in order; then variables are eliminated until none is left; then values are chosen
abbrev pub decide_of : List Form → ℕ → Decided
decide_of fs budget =
    finished (variables_of fs)
    (and_then (entered (numbered_from 0 fs) (at_start fs budget)) (rounds (length (variables_of fs))))
