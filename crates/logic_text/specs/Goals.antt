-- The text of a goal.
use Rattle.std.specs.Prelude.{ℕ, List, [], ◌∷◌, ◌++◌, codes}
use Rattle.logic_terms.specs.Node.{Node}
use Rattle.logic_terms.specs.Value.{Kind, Kinds, no_kinds, kind}
use Rattle.logic_terms.specs.Sorting.{Called, Signature, Problem}
use Rattle.logic_terms.specs.Text.{node_text}
use Rattle.term_reader.specs.Sorts.{kind_text}

-- LF
abbrev pub line_end : List ℕ
line_end = 10 ∷ []

-- each with a space before it
abbrev pub sorts_text : List Kind → List ℕ
sorts_text [] = []
sorts_text (k ∷ ks) = (codes " " ++ kind_text k) ++ sorts_text ks

-- each with a space after it
abbrev pub taken_text : Kinds → List ℕ
taken_text no_kinds = []
taken_text (kind k ks) = (kind_text k ++ codes " ") ++ taken_text ks

-- the sorts of the arguments and of the answer in brackets
abbrev pub call_text : Called → List ℕ
call_text c = codes "(" ++ (taken_text c.takes ++ kind_text c.gives) ++ codes ")"

-- each with a space before it
abbrev pub calls_text : List Called → List ℕ
calls_text [] = []
calls_text (c ∷ cs) = (codes " " ++ call_text c) ++ calls_text cs

abbrev pub signature_text : Signature → List ℕ
signature_text s = (codes "sorts" ++ sorts_text s.symbols ++ line_end) ++ (codes "calls" ++ calls_text s.calls ++ line_end)

-- a line each
abbrev pub hypotheses_text : List Node → List ℕ
hypotheses_text [] = []
hypotheses_text (p ∷ ps) = (codes "hyp " ++ node_text p ++ line_end) ++ hypotheses_text ps

abbrev pub conclusion_text : Node → List ℕ
conclusion_text p = codes "goal " ++ node_text p ++ line_end

abbrev pub goal_bytes : Problem → List ℕ
goal_bytes p = (signature_text p.signature ++ hypotheses_text p.hypotheses) ++ conclusion_text p.conclusion
