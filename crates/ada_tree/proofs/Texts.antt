-- What the parts of a derivation read as.
use Rattle.std.specs.Prelude.{◌≡◌, Bool, true, false, List, [], ◌∷◌, ◌++◌, Option}
use Rattle.ada_text.specs.declared.token.Token.{Token}
use Rattle.ada_text.specs.declared.reserved.Reserved.TheVariants as res
use Rattle.ada_text.specs.declared.delimiters.Delimiter.TheVariants as del
use Rattle.ada_syntax.specs.declared.expressions.Expr.{Expr}
use Rattle.ada_syntax.specs.declared.declarations.IndexForm.{IndexForm}
use Rattle.ada_syntax.specs.declared.declarations.IndexForm.TheVariants as IndexForm'
use Rattle.ada_syntax.specs.declared.declarations.Mode.{Mode}
use Rattle.ada_syntax.specs.declared.declarations.Mode.TheVariants as Mode'
use Rattle.ada_syntax.specs.declared.declarations.Object.{Object}
use Rattle.ada_syntax.specs.declared.units.UnitForm.{UnitForm}
use Rattle.ada_syntax.specs.declared.units.UnitForm.TheVariants as UnitForm'
use Rattle.ada_syntax.specs.Words.{Words, word, symbol, id, where_some, each, after_each, separated, number}
use Rattle.ada_syntax.specs.Expressions.{binary_operator, quantifier, range, arm, item_words, given_item, arg, attribute, suffix, name, member, expr}
use Rattle.ada_syntax.specs.Statements.{semicolon, args, pragma, branch, otherwise, case_choice, alternative, reversed, loop_head, stmt}
use Rattle.ada_syntax.specs.Declarations.{bounds, sub_ind, index_form, index, component, type_form, object, mode, param, params, aspect, aspects, end_name, body, sub, decl}
use Rattle.ada_syntax.specs.Units.{context_item, private_part, unit, spelled}
use Rattle.tree_parts.specs.declared.relations.ArgTail.{ArgTail}
use Rattle.tree_parts.specs.declared.relations.ArgTail.TheVariants as ArgTail'
use Rattle.tree_parts.specs.declared.part.LogicTail.{LogicTail}
use Rattle.tree_parts.specs.declared.relations.RelationTail.{RelationTail}
use Rattle.tree_parts.specs.declared.relations.RelationTail.TheVariants as RelationTail'
use Rattle.grammar_table.specs.Answers.{terminal_of}
use Rattle.grammar_table.specs.declared.symbols.Nonterminal.{Nonterminal}
use Rattle.grammar_table.specs.declared.symbols.Nonterminal.TheVariants as non
use Rattle.grammar_table.specs.declared.symbols.Symbol.{Symbol}
use Rattle.grammar_table.specs.declared.symbols.Symbol.TheVariants as sym'
use Rattle.grammar_table.specs.declared.symbols.Terminal.{Terminal}
use Rattle.grammar_table.specs.declared.symbols.Terminal.TheVariants as terminal
use Rattle.tree_parts.specs.declared.part.Operation.{Operation}
use Rattle.tree_parts.specs.declared.parts.Part.{Part}
use Rattle.ada_tree.specs.declared.rules.Rule.{Rule}
use Rattle.ada_tree.specs.Made.{made}
use Rattle.tree_parts.specs.Operators.{number_of, operator_of, quantifier_of}
use Rattle.tree_parts.specs.Parts.{first, rest, alternative_of, alternatives_of, arg_of, arg_tail_of, args_of, arms_of, aspect_of, aspects_of, attribute_of, body_of, bounds_of, branches_of, choice_of, choices_of, component_of, components_of, context_of, decl_of, decls_of, end_name_of, expr_of, flag_of, index_form_of, index_of, item_of, logic_tail_of, loop_head_of, mode_of, name_of, names_of, object_of, operations_of, optional_expr_of, optional_item_of, param_of, params_of, pragma_of, private_of, range_of, relation_tail_of, source_unit_of, stmt_of, stmts_of, sub_ind_of, sub_of, suffixes_of, token_of, type_def_of, unit_of}

abbrev pub assigned : Option Expr → Words
assigned = where_some (λ e. symbol del.Assign ++ expr e)

-- a package after its first word
abbrev pub pack : UnitForm → Words
pack (UnitForm'.Package p) = id p.name ++ aspects p.aspects ++ word res.Is ++ each decl p.declarations ++ private_part p.private ++ word res.End ++ end_name p.end_name ++ semicolon
pack (UnitForm'.PackageBody p) = word res.Body ++ id p.name ++ aspects p.aspects ++ word res.Is ++ each decl p.declarations ++ word res.End ++ end_name p.end_name ++ semicolon
pack (UnitForm'.Sub s) = []

-- an index after `range`
abbrev pub box : IndexForm → Words
box IndexForm'.Unconstrained = symbol del.Diamond
box (IndexForm'.Within b) = bounds b
box _ = []

-- a constant after its first word
abbrev pub object_rest : Object → Words
object_rest o = where_some sub_ind o.subtype ++ assigned o.value

-- a mode after `in`
abbrev pub in_out : Mode → Words
in_out Mode'.InOut = word res.Out
in_out _ = []

abbrev pub operation : Operation → Words
operation o = binary_operator o.operator ++ expr o.operand

abbrev pub operations : List Operation → Words
operations = each operation

abbrev pub relation_tail : RelationTail → Words
relation_tail RelationTail'.Nothing = []
relation_tail (RelationTail'.Compare o) = operation o
relation_tail (RelationTail'.Member p n r) = member n ++ range expr r

abbrev pub arg_tail : ArgTail → Words
arg_tail (ArgTail'.UpTo h v) = symbol del.DoubleDot ++ expr h ++ given_item expr v
arg_tail (ArgTail'.Rest r os v) = relation_tail r ++ operations os ++ given_item expr v

-- the second word of a short-circuit form
abbrev pub second : Bool → Words → Words
second false w = []
second true w = w

abbrev pub logic_tail : Words → LogicTail → Words
logic_tail w t = second t.short w ++ expr t.operand ++ operations t.more

-- what a phrase's part reads as
abbrev pub text : Nonterminal → Part → Words
text non.File p = spelled (source_unit_of p)
text non.Start p = each context_item (context_of p).value
text non.Ids p = after_each (symbol del.Comma) id (names_of p)
text non.Unit p = unit (unit_of p)
text non.Pack p = pack (unit_of p).form
text non.Priv p = private_part (private_of p)
text non.EndId p = end_name (end_name_of p)
text non.Decls p = each decl (decls_of p)
text non.Decl p = decl (decl_of p)
text non.TypeDef p = type_form (type_def_of p).form
text non.Index p = index (index_of p)
text non.IdxTail p = index_form (index_form_of p)
text non.Box p = box (index_form_of p)
text non.Comp p = component (component_of p)
text non.Comps p = each component (components_of p)
text non.SubInd p = sub_ind (sub_ind_of p)
text non.SubTail p = where_some (λ b. word res.Range ++ bounds b) (bounds_of p)
text non.Obj p = object (object_of p)
text non.Const p = object_rest (object_of p)
text non.Init p = assigned (optional_expr_of p)
text non.Sub p = sub decl (sub_of p)
text non.Params p = params (params_of p)
text non.ParMore p = after_each semicolon param (params_of p)
text non.Param p = param (param_of p)
text non.Mode p = mode (mode_of p)
text non.InOut p = in_out (mode_of p)
text non.Body p = body decl (body_of p).value
text non.Asp p = aspects (aspects_of p)
text non.AspMore p = after_each (symbol del.Comma) aspect (aspects_of p)
text non.Aspect p = aspect (aspect_of p)
text non.AspVal p = given_item expr (optional_item_of p)
text non.Pragma p = pragma (pragma_of p)
text non.PragArg p = args (args_of p)
text non.Stmts p = each stmt (stmts_of p)
text non.StMore p = each stmt (stmts_of p)
text non.Stmt p = stmt (stmt_of p)
text non.Act p = assigned (optional_expr_of p)
text non.Elsifs p = after_each (word res.Elsif) (branch stmt) (branches_of p)
text non.Else p = otherwise stmt (stmts_of p)
text non.When p = alternative stmt (alternative_of p)
text non.Whens p = each (alternative stmt) (alternatives_of p)
text non.Choice p = case_choice (choice_of p)
text non.Choices p = after_each (symbol del.Bar) case_choice (choices_of p)
text non.Head p = loop_head (loop_head_of p).value
text non.Rev p = reversed (flag_of p)
text non.ExWhen p = where_some (λ x. word res.When ++ expr x) (optional_expr_of p)
text non.RetVal p = where_some expr (optional_expr_of p)
text non.Range p = range expr (range_of p)
text non.RgTail p = where_some (λ h. symbol del.DoubleDot ++ expr h) (optional_expr_of p)
text non.Item p = item_words expr (item_of p)
text non.Cond p = item_words expr (item_of p)
text non.AllSome p = quantifier (quantifier_of (token_of p).kind)
text non.IfMore p = after_each (word res.Elsif) (arm expr) (arms_of p).value
text non.IfElse p = where_some (λ x. word res.Else ++ expr x) (optional_expr_of p)
text non.Args p = separated (symbol del.Comma) (arg expr) (args_of p)
text non.ArgMore p = after_each (symbol del.Comma) (arg expr) (args_of p)
text non.Arg p = arg expr (arg_of p)
text non.ArgMid p = arg_tail (arg_tail_of p)
text non.ArgVal p = given_item expr (optional_item_of p)
text non.Expr p = expr (expr_of p)
text non.Logic p = operations (operations_of p)
text non.AndRest p = logic_tail (word res.Then) (logic_tail_of p)
text non.ThenMore p = operations (operations_of p)
text non.AndMore p = operations (operations_of p)
text non.OrRest p = logic_tail (word res.Else) (logic_tail_of p)
text non.ElseMore p = operations (operations_of p)
text non.OrMore p = operations (operations_of p)
text non.XorMore p = operations (operations_of p)
text non.Rel p = expr (expr_of p)
text non.RelTail p = relation_tail (relation_tail_of p)
text non.RelOp p = binary_operator (operator_of (token_of p).kind)
text non.Simple p = expr (expr_of p)
text non.AddMore p = operations (operations_of p)
text non.Term p = expr (expr_of p)
text non.MulMore p = operations (operations_of p)
text non.Factor p = expr (expr_of p)
text non.Pow p = operations (operations_of p)
text non.Primary p = expr (expr_of p)
text non.Name p = name expr (name_of p)
text non.Suffix p = each (suffix expr) (suffixes_of p).value
text non.Tick p = attribute expr (attribute_of p).value

abbrev pub token_text : Terminal → Token → Words
token_text terminal.Identifier t = id t.span
token_text terminal.Number t = number (number_of t.kind) ∷ []
token_text (terminal.Word w) t = word w
token_text (terminal.Mark m) t = symbol m

abbrev pub symbol_text : Symbol → Part → Words
symbol_text (sym'.Token t e) p = token_text t (token_of p)
symbol_text (sym'.Phrase n) p = text n p

abbrev pub texts : List Symbol → List Part → Words
texts [] ps = []
texts (s ∷ ss) ps = symbol_text s (first ps) ++ texts ss (rest ps)

-- what is known of some phrases' parts besides

abbrev pub IsPack : UnitForm → Type 0
IsPack (UnitForm'.Sub s) = ⊥
IsPack _ = Unit {0}

abbrev pub IsBox : IndexForm → Type 0
IsBox IndexForm'.Unconstrained = Unit {0}
IsBox (IndexForm'.Within b) = Unit {0}
IsBox _ = ⊥

abbrev pub IsIn : Mode → Type 0
IsIn Mode'.In = Unit {0}
IsIn Mode'.InOut = Unit {0}
IsIn _ = ⊥

abbrev pub IsMore : {A : Type 0} → List A → Type 0
IsMore [] = ⊥
IsMore (x ∷ xs) = Unit {0}

abbrev pub Kind : Nonterminal → Part → Type 0
Kind non.Pack p = IsPack (unit_of p).form
Kind non.Box p = IsBox (index_form_of p)
Kind non.Const p = (object_of p).constant ≡ true
Kind non.InOut p = IsIn (mode_of p)
Kind non.Args p = IsMore (args_of p)
Kind non.Stmts p = IsMore (stmts_of p)
Kind _ p = Unit {0}

abbrev pub Fit : Symbol → Part → Type 0
Fit (sym'.Token t e) p = terminal_of (token_of p).kind ≡ t
Fit (sym'.Phrase n) p = Kind n p

abbrev pub Fits : List Symbol → List Part → Type 0
Fits [] ps = Unit {0}
Fits (s ∷ ss) ps = Fit s (first ps) × Fits ss (rest ps)

-- a rule makes a part that reads as the parts of its production's right side, one after another
abbrev pub Law : Nonterminal → List Symbol → Rule → Type 0
Law n ss r = (ps : List Part) → Fits ss ps → (text n (first (made r ps)) ≡ texts ss ps) × Kind n (first (made r ps))
