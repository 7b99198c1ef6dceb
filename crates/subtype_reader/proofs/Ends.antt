-- What follows a subtype's name and is no constraint.
use Rattle.std.proofs.Common.{◌≡◌, refl, sym, ◌≤◌, List, [], ◌∷◌, length, Option, Some, None, arith}
use Rattle.ada_syntax.specs.declared.expressions.Arg.{Arg}
use Rattle.ada_syntax.specs.declared.expressions.Expr.{Expr}
use Rattle.ada_syntax.specs.declared.expressions.Suffix.{Suffix}
use Rattle.statement_typing.specs.Subtypes.{constraint_of, index_of, other}
use Rattle.syntax_view.specs.Trees as tree
use Rattle.syntax_view.specs.View.{arg_of, args_of, expr, suffix_of, suffixes_of}

two_are_other : (a b : tree.Arg) (rest : tree.Args) → index_of (tree.args a (tree.args b rest)) None ≡ other
two_are_other (tree.arg s tree.other_parts v) b rest = refl
two_are_other (tree.arg s (tree.part (tree.item i (tree.plain e))) tree.no_value) b rest = refl
two_are_other (tree.arg s (tree.part (tree.item i (tree.plain e))) (tree.value j)) b rest = refl
two_are_other (tree.arg s (tree.part (tree.item i (tree.choose as' e))) v) b rest = refl
two_are_other (tree.arg s (tree.part (tree.item i (tree.quantified q n r e))) v) b rest = refl
two_are_other (tree.arg s (tree.parts l h) tree.no_value) b rest = refl
two_are_other (tree.arg s (tree.parts l h) (tree.value j)) b rest = refl

-- with bounds after them, arguments are no index
bounded_are_other : (xs : tree.Args) (b : tree.Bounds) → index_of xs (Some b) ≡ other
bounded_are_other tree.no_args b = refl
bounded_are_other (tree.args (tree.arg s tree.other_parts v) rest) b = refl
bounded_are_other (tree.args (tree.arg s (tree.part (tree.item i (tree.plain e))) tree.no_value) tree.no_args) b = refl
bounded_are_other (tree.args (tree.arg s (tree.part (tree.item i (tree.plain e))) tree.no_value) (tree.args a rest)) b = refl
bounded_are_other (tree.args (tree.arg s (tree.part (tree.item i (tree.plain e))) (tree.value j)) rest) b = refl
bounded_are_other (tree.args (tree.arg s (tree.part (tree.item i (tree.choose as' e))) v) rest) b = refl
bounded_are_other (tree.args (tree.arg s (tree.part (tree.item i (tree.quantified q n r e))) v) rest) b = refl
bounded_are_other (tree.args (tree.arg s (tree.parts l h) tree.no_value) tree.no_args) b = refl
bounded_are_other (tree.args (tree.arg s (tree.parts l h) tree.no_value) (tree.args a rest)) b = refl
bounded_are_other (tree.args (tree.arg s (tree.parts l h) (tree.value j)) rest) b = refl

two_suffixes_are_other : (s t : tree.Suffix) (rest : tree.Suffixes) → constraint_of (tree.suffixes s (tree.suffixes t rest)) None ≡ other
two_suffixes_are_other (tree.selected n) t rest = refl
two_suffixes_are_other (tree.ticked p a) t rest = refl
two_suffixes_are_other (tree.applied xs) t rest = refl

bounded_suffixes_are_other : (s : tree.Suffix) (rest : tree.Suffixes) (b : tree.Bounds) → constraint_of (tree.suffixes s rest) (Some b) ≡ other
bounded_suffixes_are_other (tree.selected n) rest b = refl
bounded_suffixes_are_other (tree.ticked p a) rest b = refl
bounded_suffixes_are_other (tree.applied xs) tree.no_suffixes b = bounded_are_other xs b
bounded_suffixes_are_other (tree.applied xs) (tree.suffixes t rest) b = refl

-- two arguments or more are no index
pub two_args : (xs : List (Arg Expr)) → 2 ≤ length xs → other ≡ index_of (args_of expr xs) None
two_args [] l = absurd (omega arith)
two_args (a ∷ []) l = absurd (omega arith)
two_args (a ∷ b ∷ xs) l = sym (two_are_other (arg_of expr a) (arg_of expr b) (args_of expr xs))

-- two suffixes or more are no constraint
pub two_suffixes : (ss : List (Suffix Expr)) → 2 ≤ length ss → other ≡ constraint_of (suffixes_of expr ss) None
two_suffixes [] l = absurd (omega arith)
two_suffixes (a ∷ []) l = absurd (omega arith)
two_suffixes (a ∷ b ∷ ss) l = sym (two_suffixes_are_other (suffix_of expr a) (suffix_of expr b) (suffixes_of expr ss))

-- with bounds after them, suffixes are no constraint
pub bounded_suffixes : (ss : List (Suffix Expr)) (b : tree.Bounds) → 1 ≤ length ss → other ≡ constraint_of (suffixes_of expr ss) (Some b)
bounded_suffixes [] b l = absurd (omega arith)
bounded_suffixes (a ∷ ss) b l = sym (bounded_suffixes_are_other (suffix_of expr a) (suffixes_of expr ss) b)
