-- Two nodes are the same exactly where `same_node` says so.
use Rattle.std.proofs.Common.{◌≡◌, refl, sym, ◌∙◌, ap, ℕ, zero, suc, Bool, true, false, arith, IsTrue, ◌↔◌}
use Rattle.std.proofs.lemmas.Bool.{and_parts, and_from, false≢true, eqb-true}
use Rattle.std.specs.Prelude.{◌==◌, ℤ, pos, negsuc}
use Rattle.logic_terms.specs.Node.{Arith, add, sub, mul, quo, rem, mod_by, pow, Op1, bit, tru, neg, fst, lst, fld, Op2, arith as compute_by, le, eq, conj, disj, iff, sel, upd, Op3, ite, sto, fill, OpN, fields, call, Quant, all, any, Node, num, flag, sym as symbol, bound, op1, op2, op3, opn, quant, Nodes, no_nodes, node}
use Rattle.logic_terms.specs.Value.{same_int, same_bool}
use Rattle.logic_terms.specs.Same.{arith_number, same_op1, same_op2, same_op3, same_opn, same_quant, same_node, same_nodes}

same_nat-refl : (n : ℕ) → (n == n) ≡ true
same_nat-refl n = grind arith

pub same_int-is : (a b : ℤ) → same_int a b ≡ true → a ≡ b
same_int-is (pos a) (pos b) h = ap pos (eqb-true a b h)
same_int-is (negsuc a) (negsuc b) h = ap negsuc (eqb-true a b h)
same_int-is (pos a) (negsuc b) h = absurd (false≢true h)
same_int-is (negsuc a) (pos b) h = absurd (false≢true h)

pub same_int-refl : (a : ℤ) → same_int a a ≡ true
same_int-refl (pos a) = same_nat-refl a
same_int-refl (negsuc a) = same_nat-refl a

pub same_bool-is : (a b : Bool) → same_bool a b ≡ true → a ≡ b
same_bool-is true true h = refl
same_bool-is true false h = absurd (false≢true h)
same_bool-is false true h = absurd (false≢true h)
same_bool-is false false h = refl

pub same_bool-refl : (a : Bool) → same_bool a a ≡ true
same_bool-refl true = refl
same_bool-refl false = refl

-- ---- operators

arith_from : ℕ → Arith
arith_from zero = add
arith_from (suc zero) = sub
arith_from (suc (suc zero)) = mul
arith_from (suc (suc (suc zero))) = quo
arith_from (suc (suc (suc (suc zero)))) = rem
arith_from (suc (suc (suc (suc (suc zero))))) = mod_by
arith_from _ = pow

arith_from-number : (o : Arith) → arith_from (arith_number o) ≡ o
unfolding arith_from
arith_from-number add = refl
arith_from-number sub = refl
arith_from-number mul = refl
arith_from-number quo = refl
arith_from-number rem = refl
arith_from-number mod_by = refl
arith_from-number pow = refl

same_arith-is : (a b : Arith) → (arith_number a == arith_number b) ≡ true → a ≡ b
same_arith-is a b h = sym (arith_from-number a) ∙ ap arith_from (eqb-true _ _ h) ∙ arith_from-number b

same_op1-is : (o q : Op1) → same_op1 o q ≡ true → o ≡ q
same_op1-is bit bit h = refl
same_op1-is tru tru h = refl
same_op1-is neg neg h = refl
same_op1-is fst fst h = refl
same_op1-is lst lst h = refl
same_op1-is (fld j) (fld k) h = ap fld (eqb-true j k h)
same_op1-is bit _ h = absurd (false≢true h)
same_op1-is tru _ h = absurd (false≢true h)
same_op1-is neg _ h = absurd (false≢true h)
same_op1-is fst _ h = absurd (false≢true h)
same_op1-is lst _ h = absurd (false≢true h)
same_op1-is (fld j) _ h = absurd (false≢true h)

same_op1-refl : (o : Op1) → same_op1 o o ≡ true
same_op1-refl bit = refl
same_op1-refl tru = refl
same_op1-refl neg = refl
same_op1-refl fst = refl
same_op1-refl lst = refl
same_op1-refl (fld k) = same_nat-refl k

same_op2-is : (o q : Op2) → same_op2 o q ≡ true → o ≡ q
same_op2-is (compute_by a) (compute_by b) h = ap compute_by (same_arith-is a b h)
same_op2-is le le h = refl
same_op2-is eq eq h = refl
same_op2-is conj conj h = refl
same_op2-is disj disj h = refl
same_op2-is iff iff h = refl
same_op2-is sel sel h = refl
same_op2-is (upd j) (upd k) h = ap upd (eqb-true j k h)
same_op2-is (compute_by a) _ h = absurd (false≢true h)
same_op2-is le _ h = absurd (false≢true h)
same_op2-is eq _ h = absurd (false≢true h)
same_op2-is conj _ h = absurd (false≢true h)
same_op2-is disj _ h = absurd (false≢true h)
same_op2-is iff _ h = absurd (false≢true h)
same_op2-is sel _ h = absurd (false≢true h)
same_op2-is (upd j) _ h = absurd (false≢true h)

same_op2-refl : (o : Op2) → same_op2 o o ≡ true
same_op2-refl (compute_by a) = same_nat-refl (arith_number a)
same_op2-refl le = refl
same_op2-refl eq = refl
same_op2-refl conj = refl
same_op2-refl disj = refl
same_op2-refl iff = refl
same_op2-refl sel = refl
same_op2-refl (upd k) = same_nat-refl k

same_op3-is : (o q : Op3) → same_op3 o q ≡ true → o ≡ q
same_op3-is ite ite h = refl
same_op3-is sto sto h = refl
same_op3-is fill fill h = refl
same_op3-is ite _ h = absurd (false≢true h)
same_op3-is sto _ h = absurd (false≢true h)
same_op3-is fill _ h = absurd (false≢true h)

same_op3-refl : (o : Op3) → same_op3 o o ≡ true
same_op3-refl ite = refl
same_op3-refl sto = refl
same_op3-refl fill = refl

same_opn-is : (o q : OpN) → same_opn o q ≡ true → o ≡ q
same_opn-is fields fields h = refl
same_opn-is (call j) (call k) h = ap call (eqb-true j k h)
same_opn-is fields (call k) h = absurd (false≢true h)
same_opn-is (call j) fields h = absurd (false≢true h)

same_opn-refl : (o : OpN) → same_opn o o ≡ true
same_opn-refl fields = refl
same_opn-refl (call k) = same_nat-refl k

same_quant-is : (o q : Quant) → same_quant o q ≡ true → o ≡ q
same_quant-is all all h = refl
same_quant-is any any h = refl
same_quant-is all any h = absurd (false≢true h)
same_quant-is any all h = absurd (false≢true h)

same_quant-refl : (o : Quant) → same_quant o o ≡ true
same_quant-refl all = refl
same_quant-refl any = refl

-- ---- nodes

mutual
  pub same_node-is : (p r : Node) → same_node p r ≡ true → p ≡ r
  same_node-is (num a) (num b) h = ap num (same_int-is a b h)
  same_node-is (flag a) (flag b) h = ap flag (same_bool-is a b h)
  same_node-is (symbol j) (symbol k) h = ap symbol (eqb-true j k h)
  same_node-is (bound j) (bound k) h = ap bound (eqb-true j k h)
  same_node-is (op1 o a) (op1 q x) h =
      let e = and_parts _ _ h in rw (same_op1-is o q e.0, same_node-is a x e.1)
  same_node-is (op2 o a b) (op2 q x y) h =
      let e = and_parts _ _ h in
      let f = and_parts _ _ e.1 in
      rw (same_op2-is o q e.0, same_node-is a x f.0, same_node-is b y f.1)
  same_node-is (op3 o a b c) (op3 q x y z) h =
      let e = and_parts _ _ h in
      let f = and_parts _ _ e.1 in
      let g = and_parts _ _ f.1 in
      rw (same_op3-is o q e.0, same_node-is a x f.0, same_node-is b y g.0, same_node-is c z g.1)
  same_node-is (opn o ns) (opn q ms) h =
      let e = and_parts _ _ h in rw (same_opn-is o q e.0, same_nodes-are ns ms e.1)
  same_node-is (quant o a b c) (quant q x y z) h =
      let e = and_parts _ _ h in
      let f = and_parts _ _ e.1 in
      let g = and_parts _ _ f.1 in
      rw (same_quant-is o q e.0, same_node-is a x f.0, same_node-is b y g.0, same_node-is c z g.1)
  same_node-is (num a) _ h = absurd (false≢true h)
  same_node-is (flag a) _ h = absurd (false≢true h)
  same_node-is (symbol j) _ h = absurd (false≢true h)
  same_node-is (bound j) _ h = absurd (false≢true h)
  same_node-is (op1 o a) _ h = absurd (false≢true h)
  same_node-is (op2 o a b) _ h = absurd (false≢true h)
  same_node-is (op3 o a b c) _ h = absurd (false≢true h)
  same_node-is (opn o ns) _ h = absurd (false≢true h)
  same_node-is (quant o a b c) _ h = absurd (false≢true h)

  pub same_nodes-are : (ns ms : Nodes) → same_nodes ns ms ≡ true → ns ≡ ms
  same_nodes-are no_nodes no_nodes h = refl
  same_nodes-are (node a ns) (node b ms) h =
      let e = and_parts _ _ h in rw (same_node-is a b e.0, same_nodes-are ns ms e.1)
  same_nodes-are no_nodes (node b ms) h = absurd (false≢true h)
  same_nodes-are (node a ns) no_nodes h = absurd (false≢true h)

mutual
  pub same_node-refl : (p : Node) → same_node p p ≡ true
  same_node-refl (num a) = same_int-refl a
  same_node-refl (flag a) = same_bool-refl a
  same_node-refl (symbol j) = same_nat-refl j
  same_node-refl (bound j) = same_nat-refl j
  same_node-refl (op1 o a) = and_from _ _ (same_op1-refl o) (same_node-refl a)
  same_node-refl (op2 o a b) = and_from _ _ (same_op2-refl o) (and_from _ _ (same_node-refl a) (same_node-refl b))
  same_node-refl (op3 o a b c) = and_from _ _ (same_op3-refl o) (and_from _ _ (same_node-refl a) (and_from _ _ (same_node-refl b) (same_node-refl c)))
  same_node-refl (opn o ns) = and_from _ _ (same_opn-refl o) (same_nodes-refl ns)
  same_node-refl (quant o a b c) = and_from _ _ (same_quant-refl o) (and_from _ _ (same_node-refl a) (and_from _ _ (same_node-refl b) (same_node-refl c)))

  pub same_nodes-refl : (ns : Nodes) → same_nodes ns ns ≡ true
  same_nodes-refl no_nodes = refl
  same_nodes-refl (node a ns) = and_from _ _ (same_node-refl a) (same_nodes-refl ns)

pub same_node-law : (p r : Node) → IsTrue (same_node p r) ↔ (p ≡ r)
same_node-law p r = (λ h. same_node-is p r h, λ e. rw e (same_node-refl r))
