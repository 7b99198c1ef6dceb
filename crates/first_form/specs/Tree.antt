-- The form of a syntax tree: a procedure of assertions, in any layout and case.
use Rattle.std.specs.Prelude.{ℕ, Bool, true, false, ◌&&◌, ◌==◌, nat_le, Option, Some, None, List, [], ◌∷◌, length, codes, is_none, option_map, option_and_then, if◌then◌else◌, ℤ, pos}
use Rattle.ada_values.specs.Scalars.{integer_last}
use Rattle.ada_values.specs.declared.place.Place.{Place}
use Rattle.ada_text.specs.declared.token.Span.{Span}
use Rattle.typed_units.specs.declared.operators.Relation.{Relation}
use Rattle.typed_units.specs.declared.operators.Relation.TheVariants as relation
use Rattle.ada_syntax.specs.declared.expressions.BinaryOperator.{BinaryOperator}
use Rattle.ada_syntax.specs.declared.expressions.BinaryOperator.TheVariants as operator
use Rattle.ada_syntax.specs.declared.expressions.Name.{Name}
use Rattle.ada_syntax.specs.declared.expressions.ItemForm.{ItemForm}
use Rattle.ada_syntax.specs.declared.expressions.ItemForm.TheVariants as item
use Rattle.ada_syntax.specs.declared.expressions.Arg.{Arg}
use Rattle.ada_syntax.specs.declared.expressions.ArgChoice.{ArgChoice}
use Rattle.ada_syntax.specs.declared.expressions.ArgChoice.TheVariants as choice
use Rattle.ada_syntax.specs.declared.expressions.ExprNode.{ExprNode}
use Rattle.ada_syntax.specs.declared.expressions.ExprNode.TheVariants as node
use Rattle.ada_syntax.specs.declared.expressions.Expr.{Expr, out-Expr}
use Rattle.ada_syntax.specs.declared.statements.Pragma.{Pragma}
use Rattle.ada_syntax.specs.declared.statements.Action.{Action}
use Rattle.ada_syntax.specs.declared.statements.Action.TheVariants as action
use Rattle.ada_syntax.specs.declared.statements.Stmt.{Stmt, out-Stmt}
use Rattle.ada_syntax.specs.declared.declarations.SubInd.{SubInd}
use Rattle.ada_syntax.specs.declared.declarations.Mode.{Mode}
use Rattle.ada_syntax.specs.declared.declarations.Mode.TheVariants as mode
use Rattle.ada_syntax.specs.declared.declarations.Param.{Param}
use Rattle.ada_syntax.specs.declared.declarations.Body.{Body}
use Rattle.ada_syntax.specs.declared.declarations.Sub.{Sub}
use Rattle.ada_syntax.specs.declared.declarations.Decl.{Decl}
use Rattle.ada_syntax.specs.declared.units.UnitForm.{UnitForm}
use Rattle.ada_syntax.specs.declared.units.UnitForm.TheVariants as unit
use Rattle.ada_syntax.specs.declared.units.SourceUnit.{SourceUnit}
use Rattle.first_form.specs.declared.form.FirstForm.{FirstForm}
use Rattle.first_form.specs.declared.form.Assertion.{Assertion}
use Rattle.first_form.specs.declared.form.Placed.{Placed}
use Rattle.first_form.specs.declared.form.Operand as form
use Rattle.first_form.specs.declared.form.Operand.TheVariants as operand
use Rattle.first_form.specs.Form.{is_form}
use Rattle.first_form.specs.Spelled.{is_word, place_at, text_at}

abbrev pub is_empty : {A : Type 0} → List A → Bool
is_empty xs = length xs == 0

abbrev pub with_first : {A : Type 0} → Option A → Option (List A) → Option (List A)
with_first (Some x) (Some xs) = Some (x ∷ xs)
with_first _ _ = None

-- what each element gives, where every one gives something
abbrev pub each : {A B : Type 0} → (A → Option B) → List A → Option (List B)
each f [] = Some []
each f (x ∷ xs) = with_first (f x) (each f xs)

-- ---- assertions

-- a number of Integer
abbrev pub number_in : ℤ → Option ℕ
number_in (pos n) = if nat_le n integer_last then Some n else None
number_in _ = None

-- a name that is an identifier alone, as it is written (Ada RM 4.1)
abbrev pub name_in : List ℕ → Name Expr → Option (List ℕ)
name_in text n = if is_empty n.suffixes then Some (text_at text n.first) else None

abbrev pub operand_in : List ℕ → ExprNode Expr → Option form.Operand
operand_in text (node.Number n) = option_map (λ k. operand.Number k) (number_in n)
operand_in text (node.Name n) = option_map (λ x. operand.Name x) (name_in text n)
operand_in text _ = None

abbrev pub placed_in : List ℕ → Expr → Option Placed
placed_in text e = option_map (λ o. record { place = place_at text (out-Expr e).span; operand = o }) (operand_in text (out-Expr e).node)

-- the relational operators (Ada RM 4.5.2)
abbrev pub relation_of : BinaryOperator → Option Relation
relation_of operator.Equal = Some relation.Equal
relation_of operator.NotEqual = Some relation.Differs
relation_of operator.Less = Some relation.Less
relation_of operator.AtMost = Some relation.AtMost
relation_of operator.Greater = Some relation.Greater
relation_of operator.AtLeast = Some relation.AtLeast
relation_of _ = None

abbrev pub assertion_of : Place → Option Placed → Option Relation → Option Placed → Option Assertion
assertion_of p (Some l) (Some r) (Some m) = Some (record { place = p; left = l; relation = r; right = m })
assertion_of p _ _ _ = None

-- a condition that compares two operands
abbrev pub comparison_in : List ℕ → Place → ExprNode Expr → Option Assertion
comparison_in text p (node.Binary s o l r) = assertion_of p (placed_in text l) (relation_of o) (placed_in text r)
comparison_in text p _ = None

abbrev pub plain_in : ItemForm Expr → Option Expr
plain_in (item.Plain e) = Some e
plain_in _ = None

abbrev pub chosen_in : ArgChoice Expr → Option Expr
chosen_in (choice.Item i) = plain_in i.form
chosen_in _ = None

-- the one argument of a pragma, which is an expression and no association (Ada RM 2.8)
abbrev pub argument_in : List (Arg Expr) → Option Expr
argument_in (a ∷ []) = if is_none a.value then chosen_in a.choice else None
argument_in _ = None

-- a pragma Assert without a message (Ada RM 11.4.2)
abbrev pub pragma_in : List ℕ → Pragma → Option Assertion
pragma_in text g =
    if is_word text g.name (codes "assert")
    then option_and_then (λ e. comparison_in text (place_at text g.span) (out-Expr e).node) (argument_in g.args)
    else None

abbrev pub action_in : List ℕ → Action Stmt → Option Assertion
action_in text (action.Pragma g) = pragma_in text g
action_in text _ = None

abbrev pub statement_in : List ℕ → Stmt → Option Assertion
statement_in text s = action_in text (out-Stmt s).action

-- ---- the procedure

-- the subtype Integer, unconstrained (Ada RM 3.5.4)
abbrev pub is_integer : List ℕ → SubInd → Bool
is_integer text s = is_none s.bounds && is_empty s.name.suffixes && is_word text s.name.first (codes "integer")

abbrev pub is_in : Mode → Bool
is_in mode.In = true
is_in _ = false

abbrev pub one_in : List ℕ → List Span → Option (List ℕ)
one_in text (n ∷ []) = Some (text_at text n)
one_in text _ = None

-- one parameter `P : in Integer` (Ada RM 6.1)
abbrev pub param_in : List ℕ → Param → Option (List ℕ)
param_in text p = if is_in p.mode && is_integer text p.subtype then one_in text p.names else None

-- the `end` has the subprogram's name (Ada RM 6.3)
abbrev pub is_ended : List ℕ → Span → Option Span → Bool
is_ended text name None = false
is_ended text name (Some s) = is_word text s (text_at text name)

abbrev pub form_with : List ℕ → Option (List (List ℕ)) → Option (List Assertion) → Option FirstForm
form_with name (Some ps) (Some as') = Some (record { name = name; params = ps; assertions = as' })
form_with name _ _ = None

-- no declarations, and statements that are assertions
abbrev pub body_in : List ℕ → Sub Decl → Option (Body Decl) → Option FirstForm
body_in text s None = None
body_in text s (Some b) =
    if is_empty b.declarations && is_ended text s.name b.end_name
    then form_with (text_at text s.name) (each (param_in text) s.params) (each (statement_in text) b.statements)
    else None

-- a procedure without aspects
abbrev pub procedure_in : List ℕ → Sub Decl → Option FirstForm
procedure_in text s = if is_none s.result && is_empty s.aspects then body_in text s s.body else None

abbrev pub unit_in : List ℕ → UnitForm → Option FirstForm
unit_in text (unit.Sub s) = procedure_in text s
unit_in text _ = None

-- one procedure, with nothing before it
abbrev pub shape_of : List ℕ → SourceUnit → Option FirstForm
shape_of text u = if is_empty u.context then unit_in text u.unit.form else None

-- where it keeps the limits
abbrev pub kept : FirstForm → Option FirstForm
kept f = if is_form f then Some f else None

-- the form of a tree over its text
abbrev pub form_of : List ℕ → SourceUnit → Option FirstForm
form_of text u = option_and_then kept (shape_of text u)
