-- What operators and the phrases of one more word read as.
use Rattle.std.proofs.Common.{◌≡◌, refl, sym, ap, ◌∙◌, subst, Bool, true, false, List, [], ◌∷◌, ◌++◌, Option, Some, None, pos, append_assoc, append-nil}
use Rattle.ada_text.specs.declared.token.Token.{Token}
use Rattle.ada_text.specs.declared.token.TokenKind.{TokenKind}
use Rattle.ada_text.specs.declared.token.TokenKind.TheVariants as kind
use Rattle.ada_text.specs.declared.reserved.Reserved.TheVariants as res
use Rattle.ada_syntax.specs.declared.expressions.Arg.{Arg}
use Rattle.ada_syntax.specs.declared.expressions.Expr.{Expr}
use Rattle.ada_syntax.specs.declared.expressions.Name.{Name}
use Rattle.ada_syntax.specs.declared.statements.Stmt.{Stmt}
use Rattle.ada_syntax.specs.declared.declarations.IndexForm.{IndexForm}
use Rattle.ada_syntax.specs.declared.declarations.IndexForm.TheVariants as IndexForm'
use Rattle.ada_syntax.specs.declared.declarations.Mode.{Mode}
use Rattle.ada_syntax.specs.declared.declarations.Mode.TheVariants as Mode'
use Rattle.ada_syntax.specs.declared.declarations.Object.{Object}
use Rattle.ada_syntax.specs.declared.units.UnitForm.{UnitForm}
use Rattle.ada_syntax.specs.declared.units.UnitForm.TheVariants as UnitForm'
use Rattle.ada_syntax.specs.Words.{Words, word, where_some, each}
use Rattle.ada_syntax.specs.Expressions.{unary_operator, binary_operator, quantifier, given_item, arg, group, name, expr}
use Rattle.ada_syntax.specs.Statements.{semicolon, args, otherwise, action, stmt}
use Rattle.ada_syntax.specs.Declarations.{sub_ind, index_form, constant, object, mode}
use Rattle.ada_syntax.specs.Units.{unit_form}
use Rattle.ada_syntax.proofs.Folded.{expr_words}
use Rattle.grammar_table.specs.Answers.{terminal_of}
use Rattle.grammar_table.specs.declared.symbols.Terminal.{Terminal}
use Rattle.grammar_table.specs.declared.symbols.Terminal.TheVariants as terminal
use Rattle.tree_parts.specs.declared.part.Operation.{Operation}
use Rattle.tree_parts.specs.declared.relations.ArgTail.{ArgTail}
use Rattle.tree_parts.specs.declared.relations.ArgTail.TheVariants as ArgTail'
use Rattle.tree_parts.specs.declared.relations.RelationTail.{RelationTail}
use Rattle.tree_parts.specs.declared.relations.RelationTail.TheVariants as RelationTail'
use Rattle.tree_parts.specs.Operations.{binary, grouped, unary}
use Rattle.tree_parts.specs.Operators.{logic_operator, operator_of, quantifier_of, short_operator_of, unary_operator_of}
use Rattle.tree_parts.specs.Relations.{argument, named_action, related}
use Rattle.ada_tree.proofs.Texts.{IsBox, IsIn, IsMore, IsPack, arg_tail, assigned, box, in_out, object_rest, operations, pack, relation_tail, second}

-- the kind of a token that is this terminal
abbrev pub kind_of : Terminal → TokenKind
kind_of terminal.Identifier = kind.Id
kind_of terminal.Number = kind.Number (pos 0)
kind_of (terminal.Word w) = kind.Word w
kind_of (terminal.Mark m) = kind.Mark m

operator_kind : (k : TokenKind) → binary_operator (operator_of k) ≡ binary_operator (operator_of (kind_of (terminal_of k)))
operator_kind kind.Id = refl
operator_kind (kind.Number n) = refl
operator_kind (kind.Word w) = refl
operator_kind (kind.Mark m) = refl

pub operator_text : (k : TokenKind) (t : Terminal) → terminal_of k ≡ t → binary_operator (operator_of k) ≡ binary_operator (operator_of (kind_of t))
operator_text k t e = subst (λ (u : Terminal). binary_operator (operator_of k) ≡ binary_operator (operator_of (kind_of u))) e (operator_kind k)

short_kind : (k : TokenKind) → binary_operator (short_operator_of k) ≡ binary_operator (short_operator_of (kind_of (terminal_of k)))
short_kind kind.Id = refl
short_kind (kind.Number n) = refl
short_kind (kind.Word w) = refl
short_kind (kind.Mark m) = refl

pub short_text : (k : TokenKind) (t : Terminal) → terminal_of k ≡ t → binary_operator (short_operator_of k) ≡ binary_operator (short_operator_of (kind_of t))
short_text k t e = subst (λ (u : Terminal). binary_operator (short_operator_of k) ≡ binary_operator (short_operator_of (kind_of u))) e (short_kind k)

unary_kind : (k : TokenKind) → unary_operator (unary_operator_of k) ≡ unary_operator (unary_operator_of (kind_of (terminal_of k)))
unary_kind kind.Id = refl
unary_kind (kind.Number n) = refl
unary_kind (kind.Word w) = refl
unary_kind (kind.Mark m) = refl

pub unary_text : (k : TokenKind) (t : Terminal) → terminal_of k ≡ t → unary_operator (unary_operator_of k) ≡ unary_operator (unary_operator_of (kind_of t))
unary_text k t e = subst (λ (u : Terminal). unary_operator (unary_operator_of k) ≡ unary_operator (unary_operator_of (kind_of u))) e (unary_kind k)

quantifier_kind : (k : TokenKind) → quantifier (quantifier_of k) ≡ quantifier (quantifier_of (kind_of (terminal_of k)))
quantifier_kind kind.Id = refl
quantifier_kind (kind.Number n) = refl
quantifier_kind (kind.Word w) = refl
quantifier_kind (kind.Mark m) = refl

pub quantifier_text : (k : TokenKind) (t : Terminal) → terminal_of k ≡ t → quantifier (quantifier_of k) ≡ quantifier (quantifier_of (kind_of t))
quantifier_text k t e = subst (λ (u : Terminal). quantifier (quantifier_of k) ≡ quantifier (quantifier_of (kind_of u))) e (quantifier_kind k)

pub and_text : (b : Bool) (k : TokenKind) → terminal_of k ≡ terminal.Word res.And → binary_operator (logic_operator b k) ≡ word res.And ++ second b (word res.Then)
and_text false k e = operator_text k (terminal.Word res.And) e
and_text true k e = short_text k (terminal.Word res.And) e

pub or_text : (b : Bool) (k : TokenKind) → terminal_of k ≡ terminal.Word res.Or → binary_operator (logic_operator b k) ≡ word res.Or ++ second b (word res.Else)
or_text false k e = operator_text k (terminal.Word res.Or) e
or_text true k e = short_text k (terminal.Word res.Or) e

pub unary_words : (t : Token) (a : Expr) → expr (unary t a) ≡ unary_operator (unary_operator_of t.kind) ++ expr a
unary_words t a = expr_words _ _

pub grouped_words : (a : Expr) (os : List Operation) → expr (grouped a os) ≡ expr a ++ operations os
grouped_words a [] = sym (append-nil (expr a))
grouped_words a (o ∷ os) = grouped_words (binary a o) os ∙ ap (λ (z : Words). z ++ operations os) (expr_words _ _) ∙ simp append_assoc

pub related_words : (a : Expr) (t : RelationTail) → expr (related a t) ≡ expr a ++ relation_tail t
related_words a RelationTail'.Nothing = sym (append-nil (expr a))
related_words a (RelationTail'.Compare o) = expr_words _ _ ∙ simp append_assoc
related_words a (RelationTail'.Member p n r) = expr_words _ _ ∙ simp append_assoc

pub argument_words : (a : Expr) (t : ArgTail) → arg expr (argument a t) ≡ expr a ++ arg_tail t
argument_words a (ArgTail'.UpTo h v) = simp append_assoc
argument_words a (ArgTail'.Rest r os v) =
    ap (λ (z : Words). z ++ given_item expr v) (grouped_words (related a r) os ∙ ap (λ (z : Words). z ++ operations os) (related_words a r)) ∙ simp append_assoc

pub named_words : (n : Name Expr) (v : Option Expr) → action stmt (named_action n v) ≡ name expr n ++ (assigned v ++ semicolon)
named_words n None = refl
named_words n (Some e) = simp append_assoc

pub pack_words : (f : UnitForm) → IsPack f → unit_form f ≡ word res.Package ++ pack f
pack_words (UnitForm'.Package p) h = refl
pack_words (UnitForm'.PackageBody p) h = refl
pack_words (UnitForm'.Sub s) h = absurd h

pub box_words : (f : IndexForm) → IsBox f → index_form f ≡ word res.Range ++ box f
box_words IndexForm'.Alone h = absurd h
box_words (IndexForm'.UpTo e) h = absurd h
box_words IndexForm'.Unconstrained h = refl
box_words (IndexForm'.Within b) h = refl

pub object_words : (o : Object) → o.constant ≡ true → object o ≡ word res.Constant ++ object_rest o
object_words o h = ap (λ (b : Bool). constant b ++ where_some sub_ind o.subtype ++ assigned o.value) h

pub mode_words : (m : Mode) → IsIn m → mode m ≡ word res.In ++ in_out m
mode_words Mode'.Unstated h = absurd h
mode_words Mode'.In h = refl
mode_words Mode'.Out h = absurd h
mode_words Mode'.InOut h = refl

pub args_words : (as' : List (Arg Expr)) → IsMore as' → args as' ≡ group expr as'
args_words [] h = absurd h
args_words (a ∷ as') h = refl

pub otherwise_words : (ss : List Stmt) → IsMore ss → otherwise stmt ss ≡ word res.Else ++ each stmt ss
otherwise_words [] h = absurd h
otherwise_words (s ∷ ss) h = refl
