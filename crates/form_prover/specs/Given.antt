-- The prover that looks at what is given.
use Rattle.std.specs.Prelude.{ℕ, Bool, true, false, ◌&&◌, ◌||◌, Option, Some, None, List, [], ◌∷◌, if◌then◌else◌}
use Rattle.logic_terms.specs.Node.{Node}
use Rattle.logic_terms.specs.Value.{Value, truth}
use Rattle.logic_terms.specs.Run.{Outcome, gives, run, most_nodes}
use Rattle.logic_terms.specs.Goals.{symbols_in, calls_in}
use Rattle.logic_terms.specs.Same.{same_node}
use Rattle.logic_terms.specs.Sorting.{Problem}

abbrev pub is_empty : List ℕ → Bool
is_empty [] = true
is_empty (k ∷ ks) = false

-- no symbols and no calls
abbrev pub is_ground : Node → Bool
is_ground p = is_empty (symbols_in p) && is_empty (calls_in p)

abbrev pub truth_found : Outcome Value → Option Bool
truth_found (gives (truth b) n) = Some b
truth_found _ = None

-- the truth of a formula without symbols and calls, where it is found within the limits
abbrev pub computed : Node → Option Bool
computed p = if is_ground p then truth_found (run most_nodes [] p) else None

abbrev pub is_true : Option Bool → Bool
is_true (Some true) = true
is_true _ = false

abbrev pub is_false : Option Bool → Bool
is_false (Some false) = true
is_false _ = false

abbrev pub some_equals : List Node → Node → Bool
some_equals [] p = false
some_equals (q ∷ qs) p = same_node q p || some_equals qs p

abbrev pub some_false : List Node → Bool
some_false [] = false
some_false (q ∷ qs) = is_false (computed q) || some_false qs

-- A hypothesis equals the conclusion, or the conclusion computes to true, or a hypothesis to false.
abbrev pub given_says : Problem → Bool
given_says g = some_equals g.hypotheses g.conclusion || is_true (computed g.conclusion) || some_false g.hypotheses
