-- Parentheses with more than one thing in them have no expression alone.
use Rattle.std.proofs.Common.{◌≡◌, refl, ap, sym, ◌≤◌, List, [], ◌∷◌, length, Option, Some, None, arith}
use Rattle.ada_syntax.specs.declared.expressions.Arg.{Arg as Written}
use Rattle.ada_syntax.specs.declared.expressions.Expr.{Expr}
use Rattle.syntax_view.specs.View.{args_of, arg_of, expr}
use Rattle.type_base.specs.Scope.{Scope}
use Rattle.typing_rules.specs.Kinds.{group_kind, operand_kind}
use Rattle.typing_rules.specs.Names.{alone_by, only_operand}
use Rattle.typing_rules.specs.Parts.{Arg, Choice, Operand, between, others, single}
use Rattle.typing_rules.specs.Reading.{arg, args}

pub not_alone : (h : Choice) (v : Option Operand) (a : Arg) (as' : List Arg) → alone_by h v (a ∷ as') ≡ None
not_alone others v a as' = refl
not_alone (single o) None a as' = refl
not_alone (single o) (Some v) a as' = refl
not_alone (between l h) v a as' = refl

pub many : (c : Scope) (as' : List (Written Expr)) → 2 ≤ length as' → only_operand (args c (args_of expr as')) ≡ None
many c [] h = absurd (omega arith)
many c (a ∷ []) h = absurd (omega arith)
many c (a ∷ b ∷ as') h =
    let x = arg c (arg_of expr a) in not_alone x.choice x.value (arg c (arg_of expr b)) (args c (args_of expr as'))

pub no_kind : (c : Scope) (as' : List (Written Expr)) → 2 ≤ length as' → None ≡ group_kind (args c (args_of expr as'))
no_kind c as' h = sym (ap operand_kind (many c as' h))
