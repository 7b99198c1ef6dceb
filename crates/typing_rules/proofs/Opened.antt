-- An expression that is made has the place, the subtype and the node that it is made of.
use Rattle.std.proofs.Common.{◌≡◌, ap}
use Rattle.typed_units.specs.declared.expressions.Expr.{Expr, out-Expr, roll-Expr, out-roll-Expr}
use Rattle.typed_units.specs.declared.expressions.Expr.TheOpen.{Expr-F}

pub subtype_made : (r : Expr-F Expr) → (out-Expr (roll-Expr r)).subtype ≡ r.subtype
subtype_made r = ap (λ (o : Expr-F Expr). o.subtype) (out-roll-Expr r)

pub node_made : (r : Expr-F Expr) → (out-Expr (roll-Expr r)).node ≡ r.node
node_made r = ap (λ (o : Expr-F Expr). o.node) (out-roll-Expr r)
