use Rattle.std.proofs.Common.{◌≤◌, List, length, subst}
use Rattle.ada_syntax.specs.declared.expressions.Expr.{Expr}
use Rattle.ada_syntax.specs.declared.expressions.Suffix.{Suffix}
use Rattle.aggregate_rules.proofs.Gathering.{followed}
use Rattle.aggregate_rules.proofs.components.is_lone.Goals as goal

pub returns-in-len1-up : goal.returns-in-len1-up
returns-in-len1-up c = λ c'.
    followed c' c.args.name.now.span c.args.name.now.first c.args.name.now.suffixes (subst (λ (ss : List (Suffix Expr)). 1 ≤ length ss) c.as_slice.ensures c.in-len1-up.len_at_least)
