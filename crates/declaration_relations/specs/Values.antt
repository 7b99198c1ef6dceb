-- The values that objects have from the first, a constructor a rule. -- L8, L27, Ada RM 3.3.1, 3.3.2
use Rattle.std.specs.Prelude.{◌≡◌, ℕ, Bool, true, false, Option, Some, None, List, [], ◌∷◌}
use Rattle.ada_values.specs.declared.place.Place.{Place}
use Rattle.ada_values.specs.declared.values.Value.{Value}
use Rattle.syntax_view.specs.Trees as tree
use Rattle.typed_units.specs.declared.expressions.Association.{Association}
use Rattle.typed_units.specs.declared.expressions.Expr.{Expr}
use Rattle.typed_units.specs.declared.expressions.ExprNode.TheVariants as node
use Rattle.typed_units.specs.declared.expressions.Fitted.{Fitted}
use Rattle.typed_units.specs.declared.operators.Bounds.{Bounds}
use Rattle.typed_units.specs.declared.operators.Composite.{Composite}
use Rattle.type_base.specs.Demands.{made}
use Rattle.type_base.specs.Scope.{Scope}
use Rattle.statement_typing.specs.declared.parts.Share.{Share}
use Rattle.statement_typing.specs.Values.{whole}
use Rattle.statement_relations.specs.Asks.{IsFor}

-- the value of an object of subtype k, which fits that; a variable may do without -- Ada RM 3.3.1(4)
pub data Starts (c : Scope) (constant : Bool) (k : ℕ) : Option tree.Expr → Option (Fitted Expr) → Type 0 where
  with_value : (e : tree.Expr) (x : Fitted Expr) → IsFor c true k e x → Starts c constant k (Some e) (Some x)
  without : constant ≡ false → Starts c constant k None None

-- ---- at package level

-- a static value, or an aggregate of such values, of which none is checked -- L27
mutual
  pub data HasValue : Expr → Value → Type 0 where
    static : (p : Place) (k : ℕ) (v : Value) → HasValue (made p k (node.Static v)) v
    aggregate : (p : Place) (k : ℕ) (m : Composite) (b : Bounds) (as' : List (Association Expr)) (ss : List Share) → HaveValues as' ss → HasValue (made p k (node.Aggregate m b as')) (whole m b ss)

  -- the values of associations, with the components that each gives
  pub data HaveValues : List (Association Expr) → List Share → Type 0 where
    no_more : HaveValues [] []
    one_more : (a : Association Expr) (as' : List (Association Expr)) (v : Value) (ss : List Share) → a.checks ≡ [] → HasValue a.value v → HaveValues as' ss
        → HaveValues (a ∷ as') (record { ranges = a.ranges; others = a.others; value = v } ∷ ss)

-- the value itself, which is known to be in the object's range
pub data Settles : Option (Fitted Expr) → Option Value → Type 0 where
  settles : (f : Fitted Expr) (v : Value) → f.bounds ≡ None → HasValue f.value v → Settles (Some f) (Some v)
  without_value : Settles None None
