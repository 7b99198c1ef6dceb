-- Clauses: lists of formulas of which one is true.
use Rattle.std.specs.Prelude.{◌≡◌, Bool, true, false, ◌||◌, List, [], ◌∷◌, if◌then◌else◌}
use Rattle.logic_terms.specs.Node.{tru, eq, iff, Node, op1, op2}
use Rattle.logic_terms.specs.Value.{Kind}
use Rattle.logic_terms.specs.Sorting.{is_truths}
use Rattle.logic_terms.specs.Meaning.{World, holds}

abbrev pub clause_holds : World → List Node → Bool
clause_holds w [] = false
clause_holds w (p ∷ ps) = holds w [] p || clause_holds w ps

abbrev pub AllClausesHold : World → List (List Node) → Type 0
AllClausesHold w [] = Unit {0}
AllClausesHold w (c ∷ cs) = (clause_holds w c ≡ true) × AllClausesHold w cs

-- (= x y), where the terms are of this kind; of truth values it stands for (iff (tru x) (tru y))
abbrev pub equals : Kind → Node → Node → Node
equals k x y = if is_truths k then op2 iff (op1 tru x) (op1 tru y) else op2 eq x y
