-- What is known of a well-typed expression by its node, and of a list whose elements are each so.
use Rattle.std.proofs.Common.{◌≡◌, ap, subst, sym, ℕ, List, ◌∷◌}
use Rattle.typed_units.specs.declared.expressions.Expr.{Expr, out-Expr, roll-Expr, out-roll-Expr}
use Rattle.typed_units.specs.declared.expressions.Expr.TheOpen.{Expr-F}
use Rattle.program_typing.specs.Expressions.{Frame, Gives, HasSubtype, has}
use Rattle.program_typing.specs.WellTyped.{Each, one_more}

pub subtype_made : (r : Expr-F Expr) → (out-Expr (roll-Expr r)).subtype ≡ r.subtype
subtype_made r = ap (λ (o : Expr-F Expr). o.subtype) (out-roll-Expr r)

pub node_made : (r : Expr-F Expr) → (out-Expr (roll-Expr r)).node ≡ r.node
node_made r = ap (λ (o : Expr-F Expr). o.node) (out-roll-Expr r)

pub subtype_is : (f : Frame) (x : Expr) (k : ℕ) → HasSubtype f x k → (out-Expr x).subtype ≡ k
subtype_is _ _ _ (has f p k n g) = subtype_made (record { place = p; subtype = k; node = n })

pub node_gives : (f : Frame) (x : Expr) (k : ℕ) → HasSubtype f x k → Gives f (out-Expr x).node k
node_gives _ _ _ (has f p k n g) = subst (λ y. Gives f y k) (sym (node_made (record { place = p; subtype = k; node = n }))) g

pub head_is : {A : Type 0} (P : A → Type 0) (x : A) (xs : List A) → Each P (x ∷ xs) → P x
head_is P _ _ (one_more x xs h hs) = h
