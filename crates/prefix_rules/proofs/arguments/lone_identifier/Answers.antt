use Rattle.std.proofs.Common.{sym, subst, ◌∙◌, ◌≤◌, List, length}
use Rattle.ada_syntax.specs.declared.expressions.Expr.{Expr}
use Rattle.ada_syntax.specs.declared.expressions.Suffix.{Suffix}
use Rattle.prefix_rules.proofs.Suffixed.{suffixed}
use Rattle.prefix_rules.proofs.arguments.lone_identifier.Goals as goal

pub returns-in-len1-up : goal.returns-in-len1-up
returns-in-len1-up c = λ c'. suffixed c' c.args.x.now c.in-Name.name (sym c.get.ensures ∙ c.in-Name.is) (subst (λ (ss : List (Suffix Expr)). 1 ≤ length ss) c.as_slice.ensures c.in-len1-up.len_at_least)
