-- Typed programs as definitions speak of them: expressions, statements, subprograms.
use Rattle.std.specs.Prelude.{ℕ, Bool, List, Option}
use Rattle.ada_values.specs.Value.{Val}
use Rattle.ada_values.specs.declared.place.Place.{Place}
use Rattle.ada_values.specs.declared.scalars.Op.{Op}
use Rattle.ada_values.specs.declared.scalars.Scalar.{Scalar}
use Rattle.ada_values.specs.declared.shapes.Shape.{Shape}
use Rattle.typed_units.specs.declared.operators.Bounds.{Bounds}
use Rattle.typed_units.specs.declared.operators.Composite.{Composite}
use Rattle.typed_units.specs.declared.operators.Connective.{Connective}
use Rattle.typed_units.specs.declared.operators.Quantifier.{Quantifier}
use Rattle.typed_units.specs.declared.operators.Relation.{Relation}
use Rattle.typed_units.specs.declared.statements.Choice.{Choice}
use Rattle.typed_units.specs.declared.statements.Direction.{Direction}
use Rattle.typed_units.specs.declared.programs.Mode.{Mode}
use Rattle.typed_units.specs.declared.programs.Class.{Class}

-- what a subprogram may read or write: objects by their numbers, and the result of a function
pub data Var : Type 0 where
  param : ℕ → Var
  local : ℕ → Var
  global : ℕ → Var
  turn : ℕ → Var
  index : ℕ → Var
  answer : Var

-- the state that an object is read in: the present one, that on entry to the subprogram (`'Old`, Ada RM 6.1.1), or that
-- on entry to the loop of a number (`'Loop_Entry`, SPARK RM 5.5.3.1)
pub data Moment : Type 0 where
  present : Moment
  entry : Moment
  loop_entry : ℕ → Moment

-- the bounds that a value is checked against, where there is a range check
abbrev pub Fit : Type 0
Fit = Option Bounds

-- an operator of one operand, which may be an attribute (Ada RM 3.5, 3.6.2) or a conversion (Ada RM 4.6, 4.7); a place is
-- where its check stands
pub data Op1 : Type 0 where
  first : Op1
  last : Op1
  length_at : Place → Scalar → Op1
  succ_at : Place → Scalar → Op1
  pred_at : Place → Scalar → Op1
  same : Op1
  negation : Op1
  unary : Op → Scalar → Place → Op1
  convert : Fit → Op1

-- an operator of two operands (Ada RM 4.5.2 to 4.5.6), or the item of an array (Ada RM 4.1.1), with whether there is an
-- index check
pub data Op2 : Type 0 where
  binary : Op → Scalar → Place → Op2
  compare : Relation → Op2
  item : Bool → Op2

-- An expression is a node with the place of its first token and the number of its subtype. -- Ada RM 4
mutual
  pub data Ex : Type 0 where
    at : Place → ℕ → Nd → Ex

  pub data Nd : Type 0 where
    -- a static expression (Ada RM 4.9), or a package's constant, by its value
    static : Val → Nd
    -- an object by its name, which stands there
    read : Place → Moment → Var → Nd
    -- a component of a record, by its number (Ada RM 4.1.3)
    component : ℕ → Ex → Nd
    op1 : Op1 → Ex → Nd
    op2 : Op2 → Ex → Ex → Nd
    connect : Connective → Ex → Ex → Nd
    -- whether a number lies, or doesn't lie, within two bounds (Ada RM 4.5.2)
    member : Bool → Ex → Ex → Ex → Nd
    -- a call of the function of that number, whose name stands there (Ada RM 6.4)
    call : Place → ℕ → Actuals → Nd
    -- an aggregate, with the numbers of its components (Ada RM 4.3)
    aggregate : Composite → Bounds → Assocs → Nd
    -- an if-expression (Ada RM 4.5.7)
    choose : Arms → Nd
    -- the number of the index, its bounds, and the predicate (Ada RM 4.5.8)
    quantified : Quantifier → ℕ → Ex → Ex → Ex → Nd

  -- the way from an object to a part of it: components, each of so many, and items, each with the array's bounds where its
  -- subtype fixes them, whether there is an index check, and the index
  pub data Path : Type 0 where
    here : Path
    to_component : ℕ → ℕ → Path → Path
    to_item : Option Bounds → Bool → Ex → Path → Path

  -- an object or a part of it that is assigned, with the place of its first token (Ada RM 5.2)
  pub data Target : Type 0 where
    target : Place → Var → Path → Target

  -- what is passed for the formal parameter of a number, by its mode: the check on the way in, and that on the way back
  pub data Actual : Type 0 where
    pass_in : ℕ → Fit → Ex → Actual
    pass_out : ℕ → Target → Fit → Actual
    pass_in_out : ℕ → Target → Fit → Fit → Actual

  -- actuals as they are written (Ada RM 6.4.1)
  pub data Actuals : Type 0 where
    no_actuals : Actuals
    actual : Actual → Actuals → Actuals

  -- conditions with what each gives, and what stands after `else`
  pub data Arms : Type 0 where
    other : Ex → Arms
    arm : Ex → Ex → Arms → Arms

  -- associations: the ranges of the components, whether it is `others`, and the value with the bounds that it is checked
  -- against, one for each component that has a check
  pub data Assocs : Type 0 where
    no_assocs : Assocs
    assoc : List Bounds → Bool → List Bounds → Ex → Assocs → Assocs

-- an expression of a loop variant, and where it is to move (SPARK RM 5.5.3)
pub record Way : Type 0 where
  pub direction : Direction
  pub value : Ex

-- a pragma of a loop's group (SPARK RM 5.5.3)
pub data Demand : Type 0 where
  invariant : Ex → Demand
  variant : List Way → Demand

-- what makes a loop go on (Ada RM 5.5)
pub data Head : Type 0 where
  forever : Head
  while : Ex → Head
  -- whether in reverse, the parameter's number, and the bounds
  for : Bool → ℕ → Ex → Ex → Head

-- A statement is an action with the place of its first token. -- Ada RM 5
mutual
  pub data St : Type 0 where
    st : Place → Ac → St

  pub data Ac : Type 0 where
    skip : Ac
    assign : Target → Fit → Ex → Ac
    -- a call of the procedure of that number (Ada RM 6.4)
    invoke : ℕ → Actuals → Ac
    branch : Branches → Ac
    case_of : Ex → Alternatives → Ac
    -- the loop's number, its head, and its body before, in and after the group of invariants and variant
    loop : ℕ → Head → Sts → List Demand → Sts → Ac
    exit : Ac
    exit_when : Ex → Ac
    -- `return` without a value, and with one (Ada RM 6.5)
    return : Ac
    give : Fit → Ex → Ac
    -- pragmas (Ada RM 11.4.2, SPARK RM 5.9)
    assert : Ex → Ac
    assume : Ex → Ac

  pub data Sts : Type 0 where
    done : Sts
    then : St → Sts → Sts

  pub data Branches : Type 0 where
    otherwise : Sts → Branches
    when : Ex → Sts → Branches → Branches

  pub data Alternatives : Type 0 where
    no_alternatives : Alternatives
    -- its choices, whether it is `others`, and its statements
    alternative : List Choice → Bool → Sts → Alternatives → Alternatives

-- a formal parameter, with the number of its subtype (Ada RM 6.1)
pub record Formal : Type 0 where
  pub mode : Mode
  pub subtype : ℕ

-- A subprogram: its parameters, contracts, variables and statements; the numbers are those of subtypes. The opening is the
-- initial values of the locals as assignments, and the pragmas of the declarative part, in order. Locals are numbered in
-- order of declaration, and the parameters of `for` loops, the indexes of quantified expressions and the loops in the order
-- of their text, which is `Pre`, `Post`, the declarative part, the statements. -- Ada RM 6
pub record Routine : Type 0 where
  pub formals : List Formal
  pub result : Option ℕ
  pub pre : Option Ex
  pub post : Option Ex
  pub locals : List ℕ
  pub opening : Sts
  pub body : Sts

-- A subtype's type: the number of the entry that stands for it, and its class. An integer type has an entry with its base
-- range as bounds, which stands for it and is the subtype of its operators' results; any other type's first subtype stands
-- for it. So two subtypes are of one type where these numbers are one. -- Ada RM 3.2, 3.5.4
pub record Kind : Type 0 where
  pub of : ℕ
  pub class : Class

-- A program: its subtypes, declared and anonymous, each by its shape and its type; its global variables by their subtypes;
-- and its subprograms. Globals and subprograms are numbered in the order of the files as they were named, then of their
-- declarations; the first declaration of a subprogram counts.
pub record Text : Type 0 where
  pub shapes : List Shape
  pub kinds : List Kind
  pub globals : List ℕ
  pub routines : List Routine
