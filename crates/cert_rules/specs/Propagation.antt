-- A clause that follows from earlier ones by propagation of unit clauses (rule C3).
use Rattle.std.specs.Prelude.{ℕ, zero, suc, Bool, true, false, ◌||◌, List, [], ◌∷◌, map, Option, Some, None, if◌then◌else◌}
use Rattle.logic_terms.specs.Node.{Node}
use Rattle.logic_terms.specs.Same.{same_node}
use Rattle.logic_terms.specs.Sorting.{nth}
use Rattle.logic_terms.specs.Binding.{negated}

abbrev pub among : Node → List Node → Bool
among p [] = false
among p (q ∷ qs) = same_node p q || among p qs

-- a literal is false where its negation is assumed
abbrev pub is_false : List Node → Node → Bool
is_false assumed p = among (negated p) assumed

-- the literals that are not false, by place
abbrev pub not_false : List Node → List Node → List Node
not_false assumed [] = []
not_false assumed (p ∷ ps) = if is_false assumed p then not_false assumed ps else p ∷ not_false assumed ps

-- the clause of an earlier line; lines are numbered from 1
abbrev pub clause_at : List (List Node) → ℕ → Option (List Node)
clause_at cs zero = None
clause_at cs (suc k) = nth cs k

abbrev pub is_last : List ℕ → Bool
is_last [] = true
is_last _ = false

-- After a hint whose clause has these literals that are not false: none, one, which is assumed, or too many. `goes_on` is
-- what the hints after it find.
abbrev pub after_hint : List Node → Option (List Node) → List ℕ → (List Node → Bool) → Bool
after_hint assumed None ks goes_on = false
after_hint assumed (Some []) ks goes_on = is_last ks || goes_on assumed
after_hint assumed (Some (p ∷ [])) ks goes_on = goes_on (p ∷ assumed)
after_hint assumed (Some (p ∷ q ∷ ps)) ks goes_on = false

abbrev pub left_of : List Node → Option (List Node) → Option (List Node)
left_of assumed None = None
left_of assumed (Some c) = Some (not_false assumed c)

-- At each hint the earlier clause has all literals false but at most one, which is then assumed. The last hint's clause has
-- all literals false.
abbrev pub propagates : List (List Node) → List Node → List ℕ → Bool
propagates cs assumed [] = false
propagates cs assumed (k ∷ ks) = after_hint assumed (left_of assumed (clause_at cs k)) ks (λ more. propagates cs more ks)

-- the literals' negations are assumed
abbrev pub follows : List (List Node) → List Node → List ℕ → Bool
follows cs literals hints = propagates cs (map negated literals) hints
