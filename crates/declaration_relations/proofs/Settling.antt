-- The values of typed expressions that are static, or aggregates of static values.
use Rattle.std.proofs.Common.{◌≡◌, refl, sym, subst, ℕ, true, List, [], ◌∷◌, map}
use Rattle.ada_values.specs.declared.place.Place.{Place}
use Rattle.front_codes.specs.declared.codes.Code.TheVariants.{L27}
use Rattle.typed_units.specs.declared.expressions.Association.{Association}
use Rattle.typed_units.specs.declared.expressions.Expr.{Expr, roll-Expr, map-Expr, fold-Expr, fold-roll-Expr, ind-Expr}
use Rattle.typed_units.specs.declared.expressions.Expr.TheOpen.{Expr-F}
use Rattle.typed_units.specs.declared.expressions.ExprNode.{ExprNode}
use Rattle.typed_units.specs.declared.expressions.ExprNode.TheVariants as node
use Rattle.typed_units.specs.declared.operators.Bounds.{Bounds}
use Rattle.typing_rules.specs.declared.prefix.Found.TheVariants as found
use Rattle.statement_typing.specs.declared.parts.Share.{Share}
use Rattle.statement_typing.specs.Checks.{all_of, and_also, unless}
use Rattle.statement_typing.specs.Values.{Valued, is_empty, share_of, static_value, valued, whole}
use Rattle.typing_relations.proofs.Accepting.{Finds, found_as, with_finds}
use Rattle.statement_relations.proofs.Parted.{and_also_both}
use Rattle.declaration_relations.specs.Values as rule
use Rattle.declaration_relations.specs.Values.{HasValue, HaveValues}
use Rattle.declaration_relations.proofs.Keeping.{all_are, first_and, none_and, unless_keeps}

abbrev valued_by : Expr → Valued
valued_by = fold-Expr Valued valued

abbrev Obeys : Expr → Type 0
Obeys x = Finds (static_value x) (HasValue x)

-- an expression whose value obeys its rules
abbrev Known : Type 0
Known = (x : Expr) × Obeys x

abbrev bare : Association Known → Association Expr
bare a = record { ranges = a.ranges; others = a.others; checks = a.checks; value = a.value.0 }

abbrev shown : Association Expr → Association Valued
shown a = record { ranges = a.ranges; others = a.others; checks = a.checks; value = valued_by a.value }

none_checked : (bs : List Bounds) → is_empty bs ≡ true → bs ≡ []
none_checked [] e = refl
none_checked (b ∷ bs) e = cc

abbrev Begins : Association Expr → Share → Type 0
Begins a s = (as' : List (Association Expr)) (ss : List Share) → HaveValues as' ss → HaveValues (a ∷ as') (s ∷ ss)

share_finds : (a : Association Known) → Finds (share_of (shown (bare a))) (Begins (bare a))
share_finds a =
    let v = shown (bare a) in
    let one = unless (is_empty v.checks) L27 v.value.place true in
    with_finds (λ x. HasValue a.value.0 x × (a.checks ≡ [])) (Begins (bare a)) (λ x. record { ranges = v.ranges; others = v.others; value = x }) (and_also v.value.value one)
    (and_also_both (HasValue a.value.0) (a.checks ≡ []) v.value.value one a.value.1 (unless_keeps (λ u. a.checks ≡ []) (is_empty v.checks) L27 v.value.place true (λ e. none_checked a.checks e)))
    (λ x h as' ss i. rule.one_more (bare a) as' x ss h.1 h.0 i)

shares_are : (as' : List (Association Known)) (ss : List Share) → map share_of (map shown (map bare as')) ≡ map found.Is ss → HaveValues (map bare as') ss
shares_are [] ss e = subst (HaveValues []) (sym (none_and ss e)) rule.no_more
shares_are (a ∷ as') ss e =
    let f = first_and (share_of (shown (bare a))) (map share_of (map shown (map bare as'))) ss e in
    subst (HaveValues (bare a ∷ map bare as')) (sym f.together)
    (found_as (Begins (bare a)) (share_of (shown (bare a))) f.first f.is_first (share_finds a) (map bare as') f.others (shares_are as' f.others f.are_others))

abbrev layer_of : Place → ℕ → ExprNode Known → Expr-F Expr
layer_of p s n = map-Expr Known Expr (λ e. e.0) (record { place = p; subtype = s; node = n })

layer : (p : Place) (s : ℕ) (n : ExprNode Known) → Finds (valued (map-Expr Expr Valued valued_by (layer_of p s n))).value (HasValue (roll-Expr (layer_of p s n)))
layer p s (node.Static v) = rule.static p s v
layer p s (node.Aggregate c b as') =
    let xs = map share_of (map shown (map bare as')) in
    with_finds (λ ss. xs ≡ map found.Is ss) (HasValue (roll-Expr (layer_of p s (node.Aggregate c b as')))) (whole c b) (all_of xs) (all_are xs)
    (λ ss e. rule.aggregate p s c b (map bare as') ss (shares_are as' ss e))
layer p s (node.Read q o) = tt
layer p s (node.Old q o) = tt
layer p s (node.LoopEntry q k o) = tt
layer p s (node.Result q) = tt
layer p s (node.First a) = tt
layer p s (node.Last a) = tt
layer p s (node.Length q a) = tt
layer p s (node.Succ q a) = tt
layer p s (node.Pred q a) = tt
layer p s (node.Same a) = tt
layer p s (node.Not a) = tt
layer p s (node.Unary q o a) = tt
layer p s (node.Binary q o a b) = tt
layer p s (node.Compare r a b) = tt
layer p s (node.Connect c a b) = tt
layer p s (node.Member is a l h) = tt
layer p s (node.Convert b a) = tt
layer p s (node.Call q r as') = tt
layer p s (node.Item a i) = tt
layer p s (node.Component a k) = tt
layer p s (node.If as' e) = tt
layer p s (node.Quantified q k l h e) = tt

pub has_value : (x : Expr) → Finds (static_value x) (HasValue x)
has_value = ind-Expr Obeys (λ x y is.
    let z = map-Expr Known Expr (λ e. e.0) y in
    subst (λ (u : Expr-F Expr). Obeys (roll-Expr u)) is
    (subst (λ (v : Valued). Finds v.value (HasValue (roll-Expr z))) (sym (fold-roll-Expr Valued valued z)) (layer y.place y.subtype y.node)))
