-- Syntax trees as definitions speak of them. Each form is a constructor, what may be left out and what there may be more of
-- stands as such, and each span stands where the tree of the code has it.
use Rattle.std.specs.Prelude.{ℤ, Bool, List, Option}
use Rattle.ada_text.specs.declared.token.Span.{Span}
use Rattle.ada_syntax.specs.declared.declarations.Mode.{Mode}
use Rattle.ada_syntax.specs.declared.expressions.BinaryOperator.{BinaryOperator}
use Rattle.ada_syntax.specs.declared.expressions.Quantifier.{Quantifier}
use Rattle.ada_syntax.specs.declared.expressions.UnaryOperator.{UnaryOperator}

-- An expression is a node with its span. -- Ada RM 4
mutual
  pub data Expr : Type 0 where
    at : Span → Node → Expr

  pub data Node : Type 0 where
    number : ℤ → Node
    null : Node
    name : Name → Node
    -- an expression in parentheses, or an aggregate (Ada RM 4.3)
    group : Args → Node
    -- an operator with its place, and its operands (Ada RM 4.5)
    unary : Span → UnaryOperator → Expr → Node
    binary : Span → BinaryOperator → Expr → Expr → Node
    -- a membership test: the place of `in`, or of `not` for true, what is tested, and the range (Ada RM 4.5.2)
    member : Span → Bool → Expr → Range → Node

  -- an expression that may be left out
  pub data MaybeExpr : Type 0 where
    no_expr : MaybeExpr
    an_expr : Expr → MaybeExpr

  -- two bounds, or one expression alone (Ada RM 3.5)
  pub data Range : Type 0 where
    range : Expr → MaybeExpr → Range

  -- a name's span, its first identifier, and what follows that (Ada RM 4.1)
  pub data Name : Type 0 where
    named : Span → Span → Suffixes → Name

  pub data Suffixes : Type 0 where
    no_suffixes : Suffixes
    suffixes : Suffix → Suffixes → Suffixes

  pub data Suffix : Type 0 where
    -- the identifier after a `.`
    selected : Span → Suffix
    -- what follows a tick, with the place of that
    ticked : Span → Attribute → Suffix
    -- an index, a call's arguments or a conversion's operand
    applied : Args → Suffix

  pub data Attribute : Type 0 where
    attribute : Span → Attribute
    range_attribute : Attribute
    -- a qualification's operand (Ada RM 4.7)
    qualified : Args → Attribute

  pub data Args : Type 0 where
    no_args : Args
    args : Arg → Args → Args

  -- an argument, an association or a choice in parentheses: its span, what stands before `=>`, and what stands after that
  pub data Arg : Type 0 where
    arg : Span → ArgChoice → Value → Arg

  pub data ArgChoice : Type 0 where
    other_parts : ArgChoice
    part : Item → ArgChoice
    parts : Expr → Expr → ArgChoice

  -- what stands after `=>`, which may be left out
  pub data Value : Type 0 where
    no_value : Value
    value : Item → Value

  -- what may stand where an expression is wanted in parentheses or in an aspect, with its span
  pub data Item : Type 0 where
    item : Span → Form → Item

  pub data Form : Type 0 where
    plain : Expr → Form
    -- an if-expression (Ada RM 4.5.7)
    choose : Arms → MaybeExpr → Form
    -- a quantified expression, with the name of its index (Ada RM 4.5.8)
    quantified : Quantifier → Span → Range → Expr → Form

  -- conditions with what each gives
  pub data Arms : Type 0 where
    no_arms : Arms
    arm : Expr → Expr → Arms → Arms

-- a pragma (Ada RM 2.8)
pub record Pragma : Type 0 where
  pub span : Span
  pub name : Span
  pub args : Args

-- a choice of an alternative (Ada RM 3.8.1)
pub data Choice : Type 0 where
  other_values : Choice
  values : Range → Choice

-- what stands before `loop` (Ada RM 5.5)
pub data LoopHead : Type 0 where
  forever : LoopHead
  while : Expr → LoopHead
  -- the loop parameter, whether it goes in reverse, and what it goes over
  for : Span → Bool → Range → LoopHead

-- A statement is an action with its span. -- Ada RM 5
mutual
  pub data Stmt : Type 0 where
    statement : Span → Action → Stmt

  pub data Action : Type 0 where
    skip : Action
    call : Name → Action
    assign : Name → Expr → Action
    -- the branches, and what stands after `else`
    branches : Branches → Stmts → Action
    case_of : Expr → Alternatives → Action
    loop : LoopHead → Stmts → Action
    -- `exit`, with the condition after `when`
    exit : Option Expr → Action
    return : Option Expr → Action
    pragma_stmt : Pragma → Action

  pub data Stmts : Type 0 where
    no_stmts : Stmts
    stmts : Stmt → Stmts → Stmts

  -- conditions, with the statements of each
  pub data Branches : Type 0 where
    no_branches : Branches
    branch : Expr → Stmts → Branches → Branches

  -- choices, with the statements of each
  pub data Alternatives : Type 0 where
    no_alternatives : Alternatives
    alternative : List Choice → Stmts → Alternatives → Alternatives

pub record Bounds : Type 0 where
  pub low : Expr
  pub high : Expr

-- a subtype's name, with its constraint (Ada RM 3.2.2)
pub record SubInd : Type 0 where
  pub span : Span
  pub name : Name
  pub bounds : Option Bounds

-- what follows the first expression of an array's index: nothing, `..` and the upper bound, `range <>`, or `range` and bounds
pub data IndexForm : Type 0 where
  alone : IndexForm
  up_to : Expr → IndexForm
  unconstrained : IndexForm
  constrained : Bounds → IndexForm

-- the index of an array type (Ada RM 3.6)
pub record Index : Type 0 where
  pub first : Expr
  pub form : IndexForm

-- components of a record type (Ada RM 3.8)
pub record Component : Type 0 where
  pub span : Span
  pub names : List Span
  pub subtype : SubInd

-- a type's definition
pub data TypeForm : Type 0 where
  -- a signed integer type and a modular type (Ada RM 3.5.4)
  signed : Bounds → TypeForm
  modular : Expr → TypeForm
  -- an enumeration type, with its literals (Ada RM 3.5.1)
  enumeration : List Span → TypeForm
  -- an array type, with its index and its component subtype (Ada RM 3.6)
  array_of : Index → SubInd → TypeForm
  -- a record type (Ada RM 3.8)
  record_of : List Component → TypeForm
  -- a derived type (Ada RM 3.4)
  derived : SubInd → TypeForm

pub record TypeDef : Type 0 where
  pub span : Span
  pub form : TypeForm

-- what is declared of an object or a named number, which has no subtype (Ada RM 3.3)
pub record Object : Type 0 where
  pub constant : Bool
  pub subtype : Option SubInd
  pub value : Option Expr

-- formal parameters (Ada RM 6.1)
pub record Param : Type 0 where
  pub span : Span
  pub names : List Span
  pub mode : Mode
  pub subtype : SubInd

-- an aspect, with the value after `=>` (Ada RM 13.1.1)
pub record Aspect : Type 0 where
  pub span : Span
  pub name : Span
  pub value : Option Item

-- a subprogram without its body; a procedure has no result (Ada RM 6.1)
pub record Heading : Type 0 where
  pub span : Span
  pub name : Span
  pub params : List Param
  pub result : Option Name
  pub aspects : List Aspect

-- A declaration is a form with its span. -- Ada RM 3, 6, 8.4
mutual
  pub data Decl : Type 0 where
    declaration : Span → DeclForm → Decl

  pub data DeclForm : Type 0 where
    type_decl : Span → TypeDef → DeclForm
    subtype_decl : Span → SubInd → DeclForm
    object_decl : List Span → Object → DeclForm
    sub_decl : Sub → DeclForm
    pragma_decl : Pragma → DeclForm
    use_decl : List Span → DeclForm

  pub data Sub : Type 0 where
    sub : Heading → Body → Sub

  pub data Body : Type 0 where
    no_body : Body
    -- declarations, statements, and the name after `end` (Ada RM 6.3)
    body : Decls → Stmts → Option Span → Body

  pub data Decls : Type 0 where
    no_decls : Decls
    decls : Decl → Decls → Decls

-- what stands before a unit (Ada RM 10.1.2, 8.4)
pub data ContextItem : Type 0 where
  pragma_item : Pragma → ContextItem
  with_item : List Span → ContextItem
  use_item : List Span → ContextItem

-- a package's declaration, with the declarations after `private` and the name after `end` (Ada RM 7.1)
pub record Package : Type 0 where
  pub name : Span
  pub aspects : List Aspect
  pub declarations : Decls
  pub hidden : Option Decls
  pub end_name : Option Span

-- a package's body, with the name after `end` (Ada RM 7.2)
pub record PackageBody : Type 0 where
  pub name : Span
  pub aspects : List Aspect
  pub declarations : Decls
  pub end_name : Option Span

-- a library unit (Ada RM 10.1.1)
pub data UnitForm : Type 0 where
  package_unit : Package → UnitForm
  package_body_unit : PackageBody → UnitForm
  sub_unit : Sub → UnitForm

pub record LibraryUnit : Type 0 where
  pub span : Span
  pub form : UnitForm

-- a file: what stands before its unit, and the unit
pub record SourceUnit : Type 0 where
  pub span : Span
  pub context : List ContextItem
  pub unit : LibraryUnit
