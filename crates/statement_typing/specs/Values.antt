-- The values of constants and initial values at package level: static, or aggregates of static values. -- L27
use Rattle.std.specs.Prelude.{ℕ, zero, suc, ℤ, pos, negsuc, ◌+ℤ◌, ◌-ℤ◌, Bool, true, false, Some, None, List, [], ◌∷◌, ◌++◌, map, if◌then◌else◌}
use Rattle.ada_values.specs.Scalars.{within}
use Rattle.ada_values.specs.declared.place.Place.{Place}
use Rattle.ada_values.specs.declared.values.Value.{Value}
use Rattle.ada_values.specs.declared.values.Value.TheVariants as value
use Rattle.front_codes.specs.declared.codes.Code.TheVariants.{L27}
use Rattle.typed_units.specs.declared.expressions.Association.{Association}
use Rattle.typed_units.specs.declared.expressions.Expr.{Expr, fold-Expr}
use Rattle.typed_units.specs.declared.expressions.Expr.TheOpen.{Expr-F}
use Rattle.typed_units.specs.declared.expressions.ExprNode.{ExprNode}
use Rattle.typed_units.specs.declared.expressions.ExprNode.TheVariants as node
use Rattle.typed_units.specs.declared.expressions.Fitted.{Fitted}
use Rattle.typed_units.specs.declared.operators.Bounds.{Bounds}
use Rattle.typed_units.specs.declared.operators.Composite.{Composite}
use Rattle.typed_units.specs.declared.operators.Composite.TheVariants as composite
use Rattle.typing_rules.specs.declared.prefix.Found.{Found}
use Rattle.typing_rules.specs.declared.prefix.Found.TheVariants.{Is}
use Rattle.typing_rules.specs.Fits.{with_found}
use Rattle.statement_typing.specs.declared.parts.Share.{Share}
use Rattle.statement_typing.specs.Checks.{all_of, and_also, refuse, unless}

-- ---- values that are static, or aggregates of static values -- L27

-- an expression's place, and its value
pub record Valued : Type 0 where
  pub place : Place
  pub value : Found Value

abbrev pub is_empty : List Bounds → Bool
is_empty [] = true
is_empty (b ∷ bs) = false

abbrev pub share_of : Association Valued → Found Share
share_of a =
    with_found (λ v. record { ranges = a.ranges; others = a.others; value = v })
    (and_also a.value.value (unless (is_empty a.checks) L27 a.value.place true))

abbrev pub in_ranges : ℤ → List Bounds → Bool
in_ranges n [] = false
in_ranges n (b ∷ bs) = if within b.first b.last n then true else in_ranges n bs

-- the value that a component is given
abbrev pub share_at : ℤ → List Share → List Value
share_at n [] = []
share_at n (s ∷ ss) = if in_ranges n s.ranges then s.value ∷ [] else if s.others then s.value ∷ [] else share_at n ss

abbrev pub shares_from : ℕ → ℤ → List Share → List Value
shares_from zero n ss = []
shares_from (suc k) n ss = share_at n ss ++ shares_from k (n +ℤ pos 1) ss

-- how many numbers there are between two
abbrev pub count_of : ℤ → ℕ
count_of (pos n) = n
count_of (negsuc n) = 0

abbrev pub whole : Composite → Bounds → List Share → Value
whole composite.Array b ss = value.Arr (record { first = b.first; last = b.last; items = shares_from (count_of ((b.last -ℤ b.first) +ℤ pos 1)) b.first ss })
whole composite.Record b ss = value.Rec (shares_from (count_of ((b.last -ℤ b.first) +ℤ pos 1)) b.first ss)

abbrev pub value_of_node : Place → ExprNode Valued → Found Value
value_of_node p (node.Static v) = Is v
value_of_node p (node.Aggregate c b as') = with_found (whole c b) (all_of (map share_of as'))
value_of_node p _ = refuse L27 p

abbrev pub valued : Expr-F Valued → Valued
valued e = record { place = e.place; value = value_of_node e.place e.node }

abbrev pub static_value : Expr → Found Value
static_value x = (fold-Expr Valued valued x).value

-- an initial value at package level
abbrev pub settled : Place → Fitted Expr → Found Value
settled p f = elim f.bounds as (λ b. Found Value) [ None ↦ static_value f.value | Some b ↦ refuse L27 p ]
