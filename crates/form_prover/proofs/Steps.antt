-- One more input, and one more assertion.
use Rattle.std.proofs.Common.{◌≡◌, ℕ, zero, suc, ◌+◌, refl, ap, ◌∙◌, Bool, true, false, None, List, [], ◌∷◌, ◌++◌, arith, pos}
use Rattle.std.specs.Prelude.{◌||◌, unwrap_or}
use Rattle.typed_units.specs.declared.operators.Relation.{Relation}
use Rattle.typed_units.specs.declared.operators.Relation.TheVariants as relation
use Rattle.logic_terms.specs.Node.{Node, num, sym as symbol}
use Rattle.vc_tree.specs.Rules.{bounds_of, related}
use Rattle.first_form.specs.declared.form.Assertion.{Assertion}
use Rattle.first_form.specs.declared.form.Operand.{Operand}
use Rattle.first_form.specs.declared.form.Operand.TheVariants.{Number, Name}
use Rattle.first_form.specs.Places.{position_of}
use Rattle.ada_values.specs.Scalars.{integer}
use Rattle.form_prover.specs.Given.{computed, is_false, some_false}
use Rattle.form_prover.specs.Formulas.{compared_node, condition_node, static_of, static_truth, input_nodes}

input_nodes-suc : (n k : ℕ) → input_nodes (suc n) k ≡ input_nodes n k ++ bounds_of integer (symbol (k + n)) ∷ []
input_nodes-suc zero k = let e : k ≡ k + 0 = omega arith in ap (λ (j : ℕ). bounds_of integer (symbol j) ∷ []) e
input_nodes-suc (suc n) k =
    let e : suc k + n ≡ k + suc n = omega arith in
    ap (λ (ps : List Node). bounds_of integer (symbol k) ∷ ps)
    (input_nodes-suc n (suc k) ∙ ap (λ (j : ℕ). input_nodes n (suc k) ++ bounds_of integer (symbol j) ∷ []) e)

pub input_nodes_more : (n : ℕ) → input_nodes (n + 1) 0 ≡ input_nodes n 0 ++ bounds_of integer (symbol n) ∷ []
input_nodes_more n =
    let e : n + 1 ≡ suc n = omega arith in let d : 0 + n ≡ n = omega arith in
    ap (λ (j : ℕ). input_nodes j 0) e ∙ input_nodes-suc n 0 ∙ ap (λ (j : ℕ). input_nodes n 0 ++ bounds_of integer (symbol j) ∷ []) d

-- ---- what computes

name_left : (r : Relation) (k z : ℕ) → computed (related r (symbol k) (num (pos z))) ≡ None
name_left relation.Equal k z = refl
name_left relation.Differs k z = refl
name_left relation.Less k z = refl
name_left relation.AtMost k z = refl
name_left relation.Greater k z = refl
name_left relation.AtLeast k z = refl

name_right : (r : Relation) (z k : ℕ) → computed (related r (num (pos z)) (symbol k)) ≡ None
name_right relation.Equal z k = refl
name_right relation.Differs z k = refl
name_right relation.Less z k = refl
name_right relation.AtMost z k = refl
name_right relation.Greater z k = refl
name_right relation.AtLeast z k = refl

name_both : (r : Relation) (j k : ℕ) → computed (related r (symbol j) (symbol k)) ≡ None
name_both relation.Equal j k = refl
name_both relation.Differs j k = refl
name_both relation.Less j k = refl
name_both relation.AtMost j k = refl
name_both relation.Greater j k = refl
name_both relation.AtLeast j k = refl

computed_by : (ps : List (List ℕ)) (r : Relation) (x y : Operand) → computed (compared_node ps r x y) ≡ static_of r x y
computed_by ps r (Number m) (Number n) = refl
computed_by ps r (Number m) (Name y) = name_right r m (unwrap_or (position_of ps y) 0)
computed_by ps r (Name x) (Number n) = name_left r (unwrap_or (position_of ps x) 0) n
computed_by ps r (Name x) (Name y) = name_both r (unwrap_or (position_of ps x) 0) (unwrap_or (position_of ps y) 0)

-- a condition computes to a truth value where it is static
pub computed_static : (ps : List (List ℕ)) (a : Assertion) → computed (condition_node ps a) ≡ static_truth a
computed_static ps a = computed_by ps a.relation a.left.operand a.right.operand

pub some_false_inputs : (n k : ℕ) → some_false (input_nodes n k) ≡ false
some_false_inputs zero k = refl
some_false_inputs (suc n) k = some_false_inputs n (suc k)

pub some_false_more : (hs : List Node) (p : Node) → some_false (hs ++ p ∷ []) ≡ (some_false hs || is_false (computed p))
some_false_more [] p = or_none (is_false (computed p))
  where
    or_none : (b : Bool) → (b || false) ≡ b
    or_none true = refl
    or_none false = refl
some_false_more (h ∷ hs) p = rw (some_false_more hs p) (or_assoc (is_false (computed h)) (some_false hs) (is_false (computed p)))
  where
    or_assoc : (a b c : Bool) → (a || (b || c)) ≡ ((a || b) || c)
    or_assoc true b c = refl
    or_assoc false b c = refl
