-- A name with suffixes is no identifier alone.
use Rattle.std.proofs.Common.{◌≡◌, refl, ap, sym, ◌∙◌, ◌≤◌, List, [], ◌∷◌, length, None, arith}
use Rattle.ada_syntax.specs.declared.expressions.Expr.{Expr, out-Expr}
use Rattle.ada_syntax.specs.declared.expressions.ExprNode.TheVariants as node
use Rattle.ada_syntax.specs.declared.expressions.Name.{Name}
use Rattle.ada_syntax.specs.declared.expressions.Suffix.{Suffix}
use Rattle.ada_text.specs.declared.token.Span.{Span}
use Rattle.syntax_view.specs.Trees as tree
use Rattle.syntax_view.specs.View.{expr, suffixes_of}
use Rattle.syntax_view.proofs.Forms.{expr_has}
use Rattle.type_base.specs.Scope.{Scope}
use Rattle.typing_rules.specs.Reading.{read}
use Rattle.prefix_rules.specs.Arguments.{lone_in}

named : (c : Scope) (s t f : Span) (ss : List (Suffix Expr)) → 1 ≤ length ss → None ≡ lone_in (read c (tree.at s (tree.name (tree.named t f (suffixes_of expr ss)))))
named c s t f [] h = absurd (omega arith)
named c s t f (x ∷ ss) h = refl

pub suffixed : (c : Scope) (e : Expr) (n : Name Expr) → (out-Expr e).node ≡ node.Name n → 1 ≤ length n.suffixes → None ≡ lone_in (read c (expr e))
suffixed c e n h l = named c (out-Expr e).span n.span n.first n.suffixes l ∙ ap (λ (t : tree.Expr). lone_in (read c t)) (sym (expr_has e (node.Name n) h))
