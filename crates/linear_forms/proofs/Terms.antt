-- The form of a term has the term's value.
use Rattle.std.proofs.Common.{◌≡◌, ◌∙◌, ap₂, List, [], ◌∷◌, arith, ℤ, pos, negsuc, ◌+ℤ◌, ◌-ℤ◌, ◌*ℤ◌}
use Rattle.std.proofs.lemmas.Int.{ints}
use Rattle.std.proofs.Math.IntN.{zero-*ℤ, suc_ℤ-*ℤ, pred_ℤ-*ℤ}
use Rattle.logic_terms.specs.Node.{add, sub, mul, arith as compute_by, Node, num, op2}
use Rattle.logic_terms.specs.Value.{Value, as_number}
use Rattle.logic_terms.specs.Meaning.{World, meaning}
use Rattle.linear_forms.specs.Form.{monomial, form, form_value, form_of_node}
use Rattle.linear_forms.proofs.Values.{combined_value, multiplied_value}

once_more : (x y z : ℤ) → x ≡ y +ℤ z → y ≡ pos 0 → x ≡ z
once_more x y z e f = omega (arith, ints)

once_less : (x y z : ℤ) → x ≡ y -ℤ z → y ≡ pos 0 → x ≡ pos 0 -ℤ z
once_less x y z e f = omega (arith, ints)

pub one_times : (x : ℤ) → pos 1 *ℤ x ≡ x
one_times x = once_more _ _ x (suc_ℤ-*ℤ (pos 0) x) (zero-*ℤ x)

pub minus_one_times : (x : ℤ) → negsuc 0 *ℤ x ≡ pos 0 -ℤ x
minus_one_times x = once_less _ _ x (pred_ℤ-*ℤ (pos 0) x) (zero-*ℤ x)

alone : (x y : ℤ) → y ≡ x → pos 0 +ℤ (y +ℤ pos 0) ≡ x
alone x y e = omega (arith, ints)

no_parts : (x : ℤ) → x +ℤ pos 0 ≡ x
no_parts x = omega (arith, ints)

added : (p q x y a b : ℤ) → p ≡ x → q ≡ y → x ≡ a → y ≡ b → p +ℤ q ≡ a +ℤ b
added p q x y a b e f g h = omega (arith, ints)

subtracted : (p q x y a b : ℤ) → p ≡ x → q ≡ pos 0 -ℤ y → x ≡ a → y ≡ b → p +ℤ q ≡ a -ℤ b
subtracted p q x y a b e f g h = omega (arith, ints)

variable_value : (w : World) (vs : List Value) (v : Node) → form_value w vs (form (pos 0) (monomial (pos 1) v ∷ [])) ≡ as_number (meaning w vs v)
variable_value w vs v = alone _ _ (one_times (as_number (meaning w vs v)))

pub node_value : (w : World) (vs : List Value) (t : Node) → form_value w vs (form_of_node t) ≡ as_number (meaning w vs t)
node_value w vs (num n) = no_parts n
node_value w vs (op2 (compute_by add) a b) =
    combined_value w vs (pos 1) (form_of_node a) (pos 1) (form_of_node b)
    ∙ added _ _ _ _ _ _ (one_times (form_value w vs (form_of_node a))) (one_times (form_value w vs (form_of_node b))) (node_value w vs a) (node_value w vs b)
node_value w vs (op2 (compute_by sub) a b) =
    combined_value w vs (pos 1) (form_of_node a) (negsuc 0) (form_of_node b)
    ∙ subtracted _ _ _ _ _ _ (one_times (form_value w vs (form_of_node a))) (minus_one_times (form_value w vs (form_of_node b))) (node_value w vs a) (node_value w vs b)
node_value w vs (op2 (compute_by mul) a b) =
    multiplied_value w vs (form_of_node a) (form_of_node b)
    ∙ ap₂ (λ (x y : ℤ). x *ℤ y) (node_value w vs a) (node_value w vs b)
node_value w vs v = variable_value w vs v
