-- Lines whose numbers fit: whole numbers in 128 bits, the numbers of literals in 64, all others in 32.
use Rattle.std.specs.Prelude.{◌≡◌, ◌<◌, ◌^◌, ℕ, ℤ, true, List, [], ◌∷◌, length}
use Rattle.logic_terms.specs.Node.{Node}
use Rattle.cert_lines.specs.Line.{Step, sum_of, tighten, Line, given, opening, choice, propagation, linear, trichotomy, instance, witness, replacing, array_fact, extensionality, field_fact, division, product, computing}
use Rattle.term_reader.specs.Values.{IsIndex, IsCount, IsNumber, IsTerm, IsFormula}

abbrev pub Every : {A : Type 0} → (A → Type 0) → List A → Type 0
Every P [] = Unit {0}
Every P (x ∷ xs) = P x × Every P xs

abbrev pub AreLiterals : List Node → Type 0
AreLiterals ls = IsCount (length ls) × Every IsFormula ls

abbrev pub IsStep : Step → Type 0
IsStep (sum_of i m j k) = IsIndex i × IsNumber m × IsIndex j × IsNumber k
IsStep (tighten i) = IsIndex i

abbrev pub IsLine : Line → Type 0
IsLine (given k) = IsIndex k
IsLine (opening p a) = IsIndex p × IsFormula a
IsLine (choice p t) = IsIndex p × IsTerm t
IsLine (propagation ls ks) = AreLiterals ls × Every IsIndex ks
IsLine (linear ls ss) = AreLiterals ls × Every IsStep ss
IsLine (trichotomy a b) = IsTerm a × IsTerm b
IsLine (instance t q) = IsTerm t × IsFormula q
IsLine (witness k q) = IsIndex k × IsFormula q
IsLine (replacing d k e l) = IsIndex d × IsIndex k × IsFormula e × IsFormula l
IsLine (array_fact p t) = IsIndex p × IsTerm t
IsLine (extensionality a b) = IsTerm a × IsTerm b
IsLine (field_fact p t) = IsIndex p × IsTerm t
IsLine (division p a d) = IsIndex p × IsTerm a × IsNumber d
IsLine (product f g) = IsTerm f × IsTerm g
IsLine (computing a) = IsFormula a

abbrev pub AreLines : List Line → Type 0
AreLines ls = Every IsLine ls
