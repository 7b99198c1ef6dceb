-- What is found of objects and named numbers whose names are declared.
use Rattle.std.proofs.Common.{sym, subst, ℕ, true, List, [], ◌∷◌, map, Option, Some, None}
use Rattle.ada_values.specs.declared.place.Place.{Place}
use Rattle.front_codes.specs.declared.codes.Code.TheVariants.{L27}
use Rattle.typed_units.specs.declared.expressions.Association.{Association}
use Rattle.typed_units.specs.declared.expressions.Expr.{Expr, roll-Expr, map-Expr, fold-Expr, fold-roll-Expr, ind-Expr}
use Rattle.typed_units.specs.declared.expressions.Expr.TheOpen.{Expr-F}
use Rattle.typed_units.specs.declared.expressions.ExprNode.{ExprNode}
use Rattle.typed_units.specs.declared.expressions.ExprNode.TheVariants as node
use Rattle.typed_units.specs.declared.expressions.Fitted.{Fitted}
use Rattle.typed_units.specs.declared.operators.Bounds.{Bounds}
use Rattle.typing_laws.proofs.Standing.{IsFound, with_found_found}
use Rattle.statement_typing.specs.Checks.{all_of, and_also, unless}
use Rattle.statement_typing.specs.Values.{Valued, is_empty, settled, share_of, static_value, valued, whole}
use Rattle.known_statements.proofs.Asked.{AllFound, all_found, beside_found, unless_found}

-- ---- values at package level are static, or refused

abbrev valued_by : Expr → Valued
valued_by = fold-Expr Valued valued

abbrev Settles : Expr → Type 0
Settles x = IsFound (static_value x)

-- an expression, and that its value is found
abbrev Known : Type 0
Known = (x : Expr) × Settles x

abbrev bare : Association Known → Association Expr
bare a = record { ranges = a.ranges; others = a.others; checks = a.checks; value = a.value.0 }

abbrev shown : Association Expr → Association Valued
shown a = record { ranges = a.ranges; others = a.others; checks = a.checks; value = valued_by a.value }

share_found : (a : Association Known) → IsFound (share_of (shown (bare a)))
share_found a =
    let v = shown (bare a) in
    with_found_found (λ x. record { ranges = v.ranges; others = v.others; value = x }) (and_also v.value.value (unless (is_empty v.checks) L27 v.value.place true))
    (beside_found v.value.value (unless (is_empty v.checks) L27 v.value.place true) a.value.1 (unless_found (is_empty v.checks) L27 v.value.place true))

shares_found : (as' : List (Association Known)) → AllFound (map share_of (map shown (map bare as')))
shares_found [] = tt
shares_found (a ∷ as') = (share_found a, shares_found as')

layer : (p : Place) (s : ℕ) (n : ExprNode Known) → IsFound (valued (map-Expr Expr Valued valued_by (map-Expr Known Expr (λ e. e.0) (record { place = p; subtype = s; node = n })))).value
layer p s (node.Static v) = tt
layer p s (node.Aggregate c b as') =
    let xs = map share_of (map shown (map bare as')) in with_found_found (whole c b) (all_of xs) (all_found xs (shares_found as'))
layer p s (node.Read q o) = tt
layer p s (node.Old q o) = tt
layer p s (node.LoopEntry q k o) = tt
layer p s (node.Result q) = tt
layer p s (node.First a) = tt
layer p s (node.Last a) = tt
layer p s (node.Length q a) = tt
layer p s (node.Succ q a) = tt
layer p s (node.Pred q a) = tt
layer p s (node.Same a) = tt
layer p s (node.Not a) = tt
layer p s (node.Unary q o a) = tt
layer p s (node.Binary q o a b) = tt
layer p s (node.Compare r a b) = tt
layer p s (node.Connect c a b) = tt
layer p s (node.Member is a l h) = tt
layer p s (node.Convert b a) = tt
layer p s (node.Call q r as') = tt
layer p s (node.Item a i) = tt
layer p s (node.Component a k) = tt
layer p s (node.If as' e) = tt
layer p s (node.Quantified q k l h e) = tt

static_value_found : (x : Expr) → IsFound (static_value x)
static_value_found = ind-Expr Settles (λ x y is.
    subst (λ (z : Expr-F Expr). Settles (roll-Expr z)) is
    (subst (λ (v : Valued). IsFound v.value) (sym (fold-roll-Expr Valued valued (map-Expr Known Expr (λ e. e.0) y))) (layer y.place y.subtype y.node)))

bounded_found : (p : Place) (b : Option Bounds) (x : Expr) → IsFound (settled p (record { bounds = b; value = x }))
bounded_found p None x = static_value_found x
bounded_found p (Some b) x = tt

pub settled_found : (p : Place) (f : Fitted Expr) → IsFound (settled p f)
settled_found p f = bounded_found p f.bounds f.value
