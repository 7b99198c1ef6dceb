-- An expression as the rules look at it: its form, and for each part inside what that gives in a context.
use Rattle.std.specs.Prelude.{ℕ, ℤ, Bool, List, Option}
use Rattle.front_codes.specs.declared.codes.Refusal.{Refusal}
use Rattle.ada_syntax.specs.declared.expressions.BinaryOperator.{BinaryOperator}
use Rattle.ada_syntax.specs.declared.expressions.Quantifier.{Quantifier}
use Rattle.ada_syntax.specs.declared.expressions.UnaryOperator.{UnaryOperator}
use Rattle.type_base.specs.declared.seen.Want.{Want}
use Rattle.typing_rules.specs.declared.prefix.Prefix.{Prefix}

-- an expression inside another
pub record Operand : Type 0 where
  -- its first byte, and whether it is an identifier alone
  pub from : ℕ
  pub alone : Bool
  -- its type, as far as its form and its names tell without a context
  pub kind : Option ℕ
  -- what it is where the context gives this, and all rules that are broken in it
  pub prefix : Want → Prefix
  pub faults : Want → List Refusal

-- two bounds, or one expression alone
pub record Range : Type 0 where
  pub low : Operand
  pub high : Option Operand

pub data Choice : Type 0 where
  others : Choice
  single : Operand → Choice
  between : Operand → Operand → Choice

-- an argument or an association: its first byte, what stands before `=>`, and what stands after that
pub record Arg : Type 0 where
  pub from : ℕ
  pub choice : Choice
  pub value : Option Operand

pub data Suffix : Type 0 where
  -- the identifier at a byte
  selected : ℕ → Suffix
  -- the tick, and the attribute's identifier
  attribute : ℕ → ℕ → Suffix
  range_attribute : ℕ → Suffix
  qualified : ℕ → List Arg → Suffix
  applied : List Arg → Suffix

pub record Arm : Type 0 where
  pub condition : Operand
  pub gives : Operand

pub data Form : Type 0 where
  number : ℤ → Form
  null : Form
  -- a name by its first identifier
  name : ℕ → List Suffix → Form
  group : List Arg → Form
  unary : UnaryOperator → Operand → Form
  binary : ℕ → BinaryOperator → Operand → Operand → Form
  member : Bool → Operand → Range → Form
  choose : List Arm → Option Operand → Form
  -- the identifier of the index, and the predicate by the subtype of the index
  quantified : Quantifier → ℕ → Range → (ℕ → Operand) → Form
