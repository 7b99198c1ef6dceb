-- What may follow in the text of a certificate, phase by phase. The end counts as a byte, 256.
use Rattle.std.specs.Prelude.{◌≡◌, ℕ, zero, suc, List, [], ◌∷◌, ◌++◌, codes}
use Rattle.cert_lines.specs.Line.{Step, Line}
use Rattle.logic_text.specs.Certs.{spaced_number, spaced_whole, spaced_node, numbers_text, steps_text, lines_text}
use Rattle.term_reader.specs.Phases.{After}
use Rattle.term_reader.specs.Values.{IsIndex, IsCount, IsNumber, IsTerm, IsFormula}
use Rattle.logic_text.specs.Fits.{IsStep, AreLines, Every}
use Rattle.cert_reader.specs.declared.line_word.LineWord.{LineWord}
use Rattle.cert_reader.specs.declared.line_word.LineWord.TheVariants as line

-- lines, and the last one
abbrev pub InLines : List ℕ → Type 0
InLines x = (ls : List Line) × AreLines ls × (x ≡ lines_text ls ++ (codes "end" ++ (10 ∷ (256 ∷ []))))

abbrev pub AtStart : List ℕ → Type 0
AtStart = After (codes "cert 1\n") InLines

-- a value that fits, and then what may follow it
abbrev pub Then : {A : Type 0} → (A → Type 0) → (A → List ℕ) → (A → List ℕ → Type 0) → List ℕ → Type 0
Then {A} Fits text P x = (a : A) × (y : List ℕ) × Fits a × P a y × (x ≡ text a ++ y)

-- so many formulas
abbrev pub Formulas : ℕ → (List ℕ → Type 0) → List ℕ → Type 0
Formulas zero P = P
Formulas (suc n) P = Then IsFormula spaced_node (λ a. Formulas n P)

-- what may follow after the word of a line
pub data Phase : Type 0 where
  -- the end of a line
  ended : Phase
  -- the end of the last line
  finish : Phase
  -- numbers, and the end of the line
  hints : Phase
  -- steps, and the end of the line
  steps : Phase
  -- a number of 32 bits, a whole number, a term or a formula, and another phase
  index : Phase → Phase
  whole : Phase → Phase
  term : Phase → Phase
  formula : Phase → Phase
  -- so many formulas
  times : ℕ → Phase → Phase
  -- the number of formulas, and the formulas
  counted : Phase → Phase

abbrev pub Has : Phase → List ℕ → Type 0
Has ended = After (10 ∷ []) InLines
Has finish = λ x. x ≡ 10 ∷ (256 ∷ [])
Has hints = λ x. (ks : List ℕ) × (y : List ℕ) × Every IsIndex ks × InLines y × (x ≡ numbers_text ks ++ (10 ∷ y))
Has steps = λ x. (ss : List Step) × (y : List ℕ) × Every IsStep ss × InLines y × (x ≡ steps_text ss ++ (10 ∷ y))
Has (index p) = Then IsIndex spaced_number (λ k. Has p)
Has (whole p) = Then IsNumber spaced_whole (λ z. Has p)
Has (term p) = Then IsTerm spaced_node (λ t. Has p)
Has (formula p) = Then IsFormula spaced_node (λ a. Has p)
Has (times n p) = Formulas n (Has p)
Has (counted p) = Then IsCount spaced_number (λ n. Formulas n (Has p))

-- what follows the word of a line
abbrev pub fields : LineWord → Phase
fields line.Given = index ended
fields line.Open = index (formula ended)
fields line.Case = index (term ended)
fields line.Rup = counted hints
fields line.Lin = counted steps
fields line.Tri = term (term ended)
fields line.Ins = term (formula ended)
fields line.New = index (formula ended)
fields line.Same = index (index (formula (formula ended)))
fields line.Arr = index (term ended)
fields line.Ext = term (term ended)
fields line.Fld = index (term ended)
fields line.Div = index (term (whole ended))
fields line.Mul = term (term ended)
fields line.Calc = formula ended
fields line.End = finish
