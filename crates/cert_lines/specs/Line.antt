-- The lines of a certificate as plain data.
use Rattle.std.specs.Prelude.{ℕ, ℤ, List}
use Rattle.logic_terms.specs.Node.{Node}

-- A step over linear forms, which appends a form: a sum of two with factors, or one tightened. Forms are numbered from 0.
pub data Step : Type 0 where
  sum_of : ℕ → ℤ → ℕ → ℤ → Step
  tighten : ℕ → Step

pub data Line : Type 0 where
  given : ℕ → Line
  opening : ℕ → Node → Line
  choice : ℕ → Node → Line
  propagation : List Node → List ℕ → Line
  linear : List Node → List Step → Line
  trichotomy : Node → Node → Line
  instance : Node → Node → Line
  witness : ℕ → Node → Line
  replacing : ℕ → ℕ → Node → Node → Line
  array_fact : ℕ → Node → Line
  extensionality : Node → Node → Line
  field_fact : ℕ → Node → Line
  division : ℕ → Node → ℤ → Line
  product : Node → Node → Line
  computing : Node → Line

-- the rules, by their codes
pub data Code : Type 0 where
  c1 : Code
  c2 : Code
  c3 : Code
  c4 : Code
  c5 : Code
  c6 : Code
  c7 : Code
  c8 : Code
  c9 : Code
  c10 : Code
  c11 : Code
  c12 : Code
  c13 : Code
  c14 : Code

abbrev pub code_of : Line → Code
code_of (given k) = c1
code_of (opening p a) = c2
code_of (choice p t) = c2
code_of (propagation ls ks) = c3
code_of (linear ls ss) = c4
code_of (trichotomy a b) = c5
code_of (instance t q) = c6
code_of (witness k q) = c7
code_of (replacing d k e l) = c8
code_of (array_fact p t) = c9
code_of (extensionality a b) = c10
code_of (field_fact p t) = c11
code_of (division p a d) = c12
code_of (product f g) = c13
code_of (computing a) = c14
