-- The value of an expression, by its form.
use Rattle.std.specs.Prelude.{IfOk}
use Rattle.typed_units.specs.declared.operators.Bounds.{Bounds}
use Rattle.typed_units.specs.declared.operators.Composite.{Composite}
use Rattle.std.proofs.Common.{◌≡◌, refl, sym, ap, Result, Ok, Err, ◌∙◌, ℕ, List, [], ◌∷◌, map, true}
use Rattle.ada_values.specs.declared.place.Place.{Place}
use Rattle.front_codes.specs.declared.codes.Code.TheVariants.{L27}
use Rattle.ada_values.specs.declared.values.Value.{Value}
use Rattle.typed_units.specs.declared.expressions.Association.{Association}
use Rattle.typed_units.specs.declared.expressions.Expr.{Expr, out-Expr, map-Expr, fold-Expr, fold_out-Expr}
use Rattle.typed_units.specs.declared.expressions.ExprNode.{ExprNode}
use Rattle.typed_units.specs.declared.expressions.ExprNode.TheVariants as node
use Rattle.typing_rules.specs.declared.prefix.Found.{Found}
use Rattle.typing_rules.specs.declared.prefix.Found.TheVariants.{Is}
use Rattle.typing_rules.specs.Fits.{with_found}
use Rattle.statement_typing.specs.declared.parts.Share.{Share}
use Rattle.statement_typing.specs.Checks.{added, all_onto, and_also, refuse, unless}
use Rattle.statement_typing.specs.Values.{Valued, is_empty, share_of, static_value, valued, whole}
use Rattle.static_values.specs.Shares.{as_share, share_by, shares_in, shares_onto}

-- what a node is, of whose associations the shares are taken by `shares_in`
abbrev pub value_at : Place → ExprNode Expr → Found Value
value_at p (node.Static v) = Is v
value_at p (node.Aggregate c b as') = with_found (whole c b) (shares_in as')
value_at p _ = refuse L27 p

abbrev valued_by : Expr → Valued
valued_by = fold-Expr Valued valued

place_kept : (x : Expr) → (valued_by x).place ≡ (out-Expr x).place
place_kept x = ap (λ (v : Valued). v.place) (fold_out-Expr Valued valued x)

abbrev seen : Association Expr → Association Valued
seen a = record { ranges = a.ranges; others = a.others; checks = a.checks; value = valued_by a.value }

share_is : (a : Association Expr) → share_of (seen a) ≡ share_by a (static_value a.value)
share_is a = ap (λ (p : Place). with_found (as_share a) (and_also (static_value a.value) (unless (is_empty a.checks) L27 p true))) (place_kept a.value)

shares_are : (done : Found (List Share)) (as' : List (Association Expr)) → all_onto done (map share_of (map seen as')) ≡ shares_onto done as'
shares_are done [] = refl
shares_are done (a ∷ as') = ap (λ (s : Found Share). all_onto (added done s) (map share_of (map seen as'))) (share_is a) ∙ shares_are (added done (share_by a (static_value a.value))) as'

node_value : (p : Place) (s : ℕ) (n : ExprNode Expr) → (valued (map-Expr Expr Valued valued_by (record { place = p; subtype = s; node = n }))).value ≡ value_at p n
node_value p s (node.Static v) = refl
node_value p s (node.Aggregate c b as') = ap (with_found (whole c b)) (shares_are (Is []) as')
node_value p s (node.Read q o) = refl
node_value p s (node.Old q o) = refl
node_value p s (node.LoopEntry q k o) = refl
node_value p s (node.Result q) = refl
node_value p s (node.First a) = refl
node_value p s (node.Last a) = refl
node_value p s (node.Length q a) = refl
node_value p s (node.Succ q a) = refl
node_value p s (node.Pred q a) = refl
node_value p s (node.Same a) = refl
node_value p s (node.Not a) = refl
node_value p s (node.Unary q o a) = refl
node_value p s (node.Binary q o a b) = refl
node_value p s (node.Compare r a b) = refl
node_value p s (node.Connect c a b) = refl
node_value p s (node.Member is a l h) = refl
node_value p s (node.Convert b a) = refl
node_value p s (node.Call q r as') = refl
node_value p s (node.Item a i) = refl
node_value p s (node.Component a k) = refl
node_value p s (node.If as' e) = refl
node_value p s (node.Quantified q k l h e) = refl

pub value_made : (x : Expr) (n : ExprNode Expr) → (out-Expr x).node ≡ n → static_value x ≡ value_at (out-Expr x).place n
value_made x n h =
    ap (λ (v : Valued). v.value) (fold_out-Expr Valued valued x)
    ∙ node_value (out-Expr x).place (out-Expr x).subtype (out-Expr x).node
    ∙ ap (value_at (out-Expr x).place) h

pub aggregate_where : {E : Type 0} (x : Expr) (c : Composite) (b : Bounds) (as' : List (Association Expr)) (r : Result (Found Value) E) → (out-Expr x).node ≡ node.Aggregate c b as'
    → IfOk r (λ f. f ≡ with_found (whole c b) (shares_in as')) → IfOk r (λ f. f ≡ static_value x)
aggregate_where x c b as' (Ok f) h e = e ∙ sym (value_made x (node.Aggregate c b as') h)
aggregate_where x c b as' (Err e) h i = tt
