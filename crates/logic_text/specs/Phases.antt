-- What may follow in the text of a goal, phase by phase.
use Rattle.std.specs.Prelude.{◌≡◌, ℕ, true, List, [], ◌∷◌, ◌++◌, codes}
use Rattle.logic_terms.specs.Node.{Node}
use Rattle.logic_terms.specs.Value.{Kind, Kinds}
use Rattle.logic_terms.specs.Sorting.{Called}
use Rattle.term_reader.specs.Sorts.{kind_text}
use Rattle.term_reader.specs.Phases.{After, OfPart}
use Rattle.term_reader.specs.Values.{is_node}
use Rattle.term_reader.specs.declared.part.Side.TheVariants.{Formula}
use Rattle.logic_text.specs.Answers.{are_formulas}
use Rattle.logic_text.specs.Goals.{sorts_text, taken_text, calls_text, hypotheses_text, conclusion_text}

abbrev pub AtEnd : List ℕ → Type 0
AtEnd x = x ≡ 256 ∷ []

abbrev pub InLines : List ℕ → Type 0
InLines x = (ps : List Node) × (p : Node) × (are_formulas ps ≡ true) × (is_node Formula p ≡ true) × (x ≡ hypotheses_text ps ++ (conclusion_text p ++ (256 ∷ [])))

abbrev pub InCalls : List ℕ → Type 0
InCalls x = (cs : List Called) × (y : List ℕ) × InLines y × (x ≡ calls_text cs ++ (10 ∷ y))

-- inside the brackets of a call
abbrev pub InCall : List ℕ → Type 0
InCall x = (ks : Kinds) × (k : Kind) × (y : List ℕ) × InCalls y × (x ≡ (taken_text ks ++ kind_text k) ++ (41 ∷ y))

abbrev pub InSorts : List ℕ → Type 0
InSorts x = (ks : List Kind) × (y : List ℕ) × After (codes "calls") InCalls y × (x ≡ sorts_text ks ++ (10 ∷ y))

abbrev pub AtStart : List ℕ → Type 0
AtStart = After (codes "sorts") InSorts

-- what follows a line of a formula
pub data Rest : Type 0 where
  more_lines : Rest
  nothing : Rest

abbrev pub Has : Rest → List ℕ → Type 0
Has more_lines = InLines
Has nothing = AtEnd

-- a word, a formula and a line end, and then the rest
abbrev pub Line : List ℕ → Rest → List ℕ → Type 0
Line w n = After w (OfPart Formula (After (codes "\n") (Has n)))
