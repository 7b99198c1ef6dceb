-- The text of a certificate.
use Rattle.std.specs.Prelude.{ℕ, ℤ, List, [], ◌∷◌, ◌++◌, codes, length}
use Rattle.logic_terms.specs.Node.{Node}
use Rattle.cert_lines.specs.Line.{Step, sum_of, tighten, Line, given, opening, choice, propagation, linear, trichotomy, instance, witness, replacing, array_fact, extensionality, field_fact, division, product, computing}
use Rattle.logic_terms.specs.Text.{number_text, whole_text, node_text}
use Rattle.logic_text.specs.Goals.{line_end}

-- with a space before it
abbrev pub spaced_number : ℕ → List ℕ
spaced_number n = codes " " ++ number_text n

abbrev pub spaced_whole : ℤ → List ℕ
spaced_whole z = codes " " ++ whole_text z

abbrev pub spaced_node : Node → List ℕ
spaced_node n = codes " " ++ node_text n

-- formulas, each with a space before it
abbrev pub nodes_text : List Node → List ℕ
nodes_text [] = []
nodes_text (n ∷ ns) = spaced_node n ++ nodes_text ns

-- numbers, each with a space before it
abbrev pub numbers_text : List ℕ → List ℕ
numbers_text [] = []
numbers_text (n ∷ ns) = spaced_number n ++ numbers_text ns

-- literals after their number
abbrev pub literals_text : List Node → List ℕ
literals_text ns = spaced_number (length ns) ++ nodes_text ns

-- a form and what it is multiplied by
abbrev pub scaled_text : ℕ → ℤ → List ℕ
scaled_text i m = spaced_number i ++ spaced_whole m

abbrev pub step_text : Step → List ℕ
step_text (sum_of i m j k) = codes " +" ++ (scaled_text i m ++ scaled_text j k)
step_text (tighten i) = codes " t" ++ spaced_number i

abbrev pub steps_text : List Step → List ℕ
steps_text [] = []
steps_text (s ∷ ss) = step_text s ++ steps_text ss

-- a line without its end
abbrev pub line_text : Line → List ℕ
line_text (given k) = codes "given" ++ spaced_number k
line_text (opening p a) = codes "open" ++ (spaced_number p ++ spaced_node a)
line_text (choice p t) = codes "case" ++ (spaced_number p ++ spaced_node t)
line_text (propagation ls ks) = codes "rup" ++ (literals_text ls ++ numbers_text ks)
line_text (linear ls ss) = codes "lin" ++ (literals_text ls ++ steps_text ss)
line_text (trichotomy a b) = codes "tri" ++ (spaced_node a ++ spaced_node b)
line_text (instance t q) = codes "ins" ++ (spaced_node t ++ spaced_node q)
line_text (witness k q) = codes "new" ++ (spaced_number k ++ spaced_node q)
line_text (replacing d k e l) = codes "same" ++ (spaced_number d ++ spaced_number k ++ spaced_node e ++ spaced_node l)
line_text (array_fact p t) = codes "arr" ++ (spaced_number p ++ spaced_node t)
line_text (extensionality a b) = codes "ext" ++ (spaced_node a ++ spaced_node b)
line_text (field_fact p t) = codes "fld" ++ (spaced_number p ++ spaced_node t)
line_text (division p a d) = codes "div" ++ (spaced_number p ++ spaced_node a ++ spaced_whole d)
line_text (product f g) = codes "mul" ++ (spaced_node f ++ spaced_node g)
line_text (computing a) = codes "calc" ++ spaced_node a

abbrev pub lines_text : List Line → List ℕ
lines_text [] = []
lines_text (l ∷ ls) = (line_text l ++ line_end) ++ lines_text ls

abbrev pub cert_bytes : List Line → List ℕ
cert_bytes ls = (codes "cert 1" ++ line_end) ++ lines_text ls ++ (codes "end" ++ line_end)
