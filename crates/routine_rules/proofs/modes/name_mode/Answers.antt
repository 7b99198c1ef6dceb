use Rattle.std.proofs.Common.{subst, ◌≤◌, List, length}
use Rattle.ada_syntax.specs.declared.expressions.Expr.{Expr}
use Rattle.ada_syntax.specs.declared.expressions.Suffix.{Suffix}
use Rattle.program_scope.specs.Homes.{home_of}
use Rattle.routine_rules.proofs.Suffixed.{no_mode}
use Rattle.routine_rules.proofs.modes.name_mode.Goals as goal

pub returns-in-len1-up : goal.returns-in-len1-up
returns-in-len1-up c = λ s t.
    no_mode (home_of c.args.home.now) s t c.args.name.now.span c.args.name.now.first c.args.name.now.suffixes
    (subst (λ (ss : List (Suffix Expr)). 1 ≤ length ss) c.as_slice.ensures c.in-len1-up.len_at_least)
