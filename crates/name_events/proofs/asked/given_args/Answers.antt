use Rattle.std.proofs.Common.{◌≡◌, refl, subst, ◌≤◌, List, [], ◌∷◌, length, arith}
use Rattle.ada_syntax.specs.declared.expressions.Arg.{Arg}
use Rattle.ada_syntax.specs.declared.expressions.Expr.{Expr}
use Rattle.name_events.specs.Asked.{given_args}
use Rattle.name_events.specs.declared.asked.Given.TheVariants.{Other}
use Rattle.name_events.proofs.asked.given_args.Goals as goal
use Rattle.syntax_view.specs.View.{args_of, expr}

longer : (as' : List (Arg Expr)) → 2 ≤ length as' → Other ≡ given_args (args_of expr as')
longer [] h = absurd (omega arith)
longer (a ∷ []) h = absurd (omega arith)
longer (a ∷ b ∷ as') h = refl

pub returns-in-len2-up : goal.returns-in-len2-up
returns-in-len2-up c = longer c.args.args.now (subst (λ (as' : List (Arg Expr)). 2 ≤ length as') c.as_slice.ensures c.in-len2-up.len_at_least)
