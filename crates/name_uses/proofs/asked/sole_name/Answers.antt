use Rattle.std.proofs.Common.{◌≡◌, refl, subst, ◌≤◌, List, [], ◌∷◌, length, None, arith}
use Rattle.ada_syntax.specs.declared.expressions.Expr.{Expr}
use Rattle.ada_syntax.specs.declared.expressions.Suffix.{Suffix}
use Rattle.ada_text.specs.declared.token.Span.{Span}
use Rattle.name_uses.specs.Asked.{sole_name}
use Rattle.name_uses.proofs.asked.sole_name.Goals as goal
use Rattle.syntax_view.specs.Trees.{named}
use Rattle.syntax_view.specs.View.{expr, suffixes_of}

longer : (s f : Span) (ss : List (Suffix Expr)) → 1 ≤ length ss → None ≡ sole_name (named s f (suffixes_of expr ss))
longer s f [] h = absurd (omega arith)
longer s f (x ∷ ss) h = refl

pub returns-in-len1-up : goal.returns-in-len1-up
returns-in-len1-up c = longer c.args.name.now.span c.args.name.now.first c.args.name.now.suffixes (subst (λ (ss : List (Suffix Expr)). 1 ≤ length ss) c.as_slice.ensures c.in-len1-up.len_at_least)
