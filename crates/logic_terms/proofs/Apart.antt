-- Terms and formulas with one text are one.
use Rattle.std.proofs.Common.{◌≡◌, refl, sym, ◌∙◌, ap, ℕ, Bool, true, false, List, [], ◌∷◌, ◌++◌, arith, append_assoc}
use Rattle.std.specs.Prelude.{◌==◌, ◌||◌, if◌then◌else◌, pos, negsuc}
use Rattle.std.proofs.lemmas.Bool.Decides.{nat_tests}
use Rattle.logic_terms.specs.Node.{Op1, bit, Op2, Op3, OpN, Quant, Node, num, flag, sym as symbol, bound, op1, op2, op3, opn, quant, Nodes, no_nodes, node}
use Rattle.logic_terms.specs.Text.{number_text, whole_text, flag_text, op1_text, op2_text, op3_text, opn_text, quant_text, node_text, spaced_text}
use Rattle.logic_terms.proofs.Words.{Ends, split, same_head, same_tail}
use Rattle.logic_terms.proofs.Numerals.{first_byte, IsDigitByte, number_first, number_front, number_word, whole_word, number_same, whole_same}
use Rattle.logic_terms.proofs.OperatorTexts.{Operator, one, two, three, many, over, operator_text, operators_same}

-- ---- the first byte tells a leaf from a node with an operator

abbrev class : Node → ℕ
class (num z) = 0
class (flag b) = 1
class (symbol k) = 2
class (bound k) = 3
class _ = 4

abbrev class_of_byte : ℕ → ℕ
class_of_byte c = if c == 40 then 4 else if c == 115 then 2 else if c == 98 then 3 else if c == 84 || c == 70 then 1 else 0

digit_class : (c : ℕ) → IsDigitByte c → class_of_byte c ≡ 0
digit_class c h = let low = h.0 in let high = h.1 in grind (arith, nat_tests)

first_class : (a : Node) (xs : List ℕ) → class_of_byte (first_byte (node_text a ++ xs)) ≡ class a
first_class (num (pos n)) xs = ap class_of_byte (number_front n xs) ∙ digit_class _ (number_first n)
first_class (num (negsuc n)) xs = refl
first_class (flag true) xs = refl
first_class (flag false) xs = refl
first_class (symbol k) xs = refl
first_class (bound k) xs = refl
first_class (op1 o a) xs = refl
first_class (op2 o a b) xs = refl
first_class (op3 o a b c) xs = refl
first_class (opn o ns) xs = refl
first_class (quant q l h p) xs = refl

classes_same : (a b : Node) (xs ys : List ℕ) → node_text a ++ xs ≡ node_text b ++ ys → class a ≡ class b
classes_same a b xs ys e = sym (first_class a xs) ∙ ap (λ (t : List ℕ). class_of_byte (first_byte t)) e ∙ first_class b ys

-- ---- an operator and what follows it

abbrev operator : Node → Operator
operator (op1 o a) = one o
operator (op2 o a b) = two o
operator (op3 o a b c) = three o
operator (opn o ns) = many o
operator (quant q l h p) = over q
operator _ = one bit

abbrev after : Node → List ℕ → List ℕ
after (op1 o a) xs = 32 ∷ (node_text a ++ (41 ∷ xs))
after (op2 o a b) xs = 32 ∷ (node_text a ++ (32 ∷ (node_text b ++ (41 ∷ xs))))
after (op3 o a b c) xs = 32 ∷ (node_text a ++ (32 ∷ (node_text b ++ (32 ∷ (node_text c ++ (41 ∷ xs))))))
after (opn o ns) xs = spaced_text ns ++ (41 ∷ xs)
after (quant q l h p) xs = 32 ∷ (node_text l ++ (32 ∷ (node_text h ++ (32 ∷ (node_text p ++ (41 ∷ xs))))))
after _ xs = xs

regrouped1 : (o t s u c xs : List ℕ) → (((o ++ t) ++ (s ++ u)) ++ c) ++ xs ≡ o ++ (t ++ (s ++ (u ++ (c ++ xs))))
regrouped1 o t s u c xs = simp append_assoc

regrouped2 : (o t s u v c xs : List ℕ) → ((((o ++ t) ++ (s ++ u)) ++ (s ++ v)) ++ c) ++ xs ≡ o ++ (t ++ (s ++ (u ++ (s ++ (v ++ (c ++ xs))))))
regrouped2 o t s u v c xs = simp append_assoc

regrouped3 : (o t s u v w c xs : List ℕ) → (((((o ++ t) ++ (s ++ u)) ++ (s ++ v)) ++ (s ++ w)) ++ c) ++ xs ≡ o ++ (t ++ (s ++ (u ++ (s ++ (v ++ (s ++ (w ++ (c ++ xs))))))))
regrouped3 o t s u v w c xs = simp append_assoc

regrouped_list : (o t u c xs : List ℕ) → (((o ++ t) ++ u) ++ c) ++ xs ≡ o ++ (t ++ (u ++ (c ++ xs)))
regrouped_list o t u c xs = simp append_assoc

abbrev open_bracket : List ℕ
open_bracket = 40 ∷ []

abbrev space : List ℕ
space = 32 ∷ []

abbrev close_bracket : List ℕ
close_bracket = 41 ∷ []

opened : (a : Node) (xs : List ℕ) → class a ≡ 4 → node_text a ++ xs ≡ 40 ∷ (operator_text (operator a) ++ after a xs)
opened (op1 o a) xs h = regrouped1 open_bracket (op1_text o) space (node_text a) close_bracket xs
opened (op2 o a b) xs h = regrouped2 open_bracket (op2_text o) space (node_text a) (node_text b) close_bracket xs
opened (op3 o a b c) xs h = regrouped3 open_bracket (op3_text o) space (node_text a) (node_text b) (node_text c) close_bracket xs
opened (opn o ns) xs h = regrouped_list open_bracket (opn_text o) (spaced_text ns) close_bracket xs
opened (quant q l b p) xs h = regrouped3 open_bracket (quant_text q) space (node_text l) (node_text b) (node_text p) close_bracket xs
opened _ xs h = absurd (omega arith)

spaced_ends : (ns : Nodes) (xs : List ℕ) → Ends (spaced_text ns ++ (41 ∷ xs))
spaced_ends no_nodes xs = refl
spaced_ends (node a ns) xs = refl

after_ends : (a : Node) (xs : List ℕ) → class a ≡ 4 → Ends (after a xs)
after_ends (op1 o a) xs h = refl
after_ends (op2 o a b) xs h = refl
after_ends (op3 o a b c) xs h = refl
after_ends (opn o ns) xs h = spaced_ends ns xs
after_ends (quant q l b p) xs h = refl
after_ends _ xs h = absurd (omega arith)

heads_same : (a b : Node) (xs ys : List ℕ) → class a ≡ 4 → class b ≡ 4 → node_text a ++ xs ≡ node_text b ++ ys → (operator a ≡ operator b) × (after a xs ≡ after b ys)
heads_same a b xs ys f g e =
    operators_same (operator a) (operator b) (after a xs) (after b ys) (after_ends a xs f) (after_ends b ys g)
    (same_tail 40 40 _ _ (sym (opened a xs f) ∙ e ∙ opened b ys g))

abbrev arity : Operator → ℕ
arity (one o) = 0
arity (two o) = 1
arity (three o) = 2
arity (many o) = 3
arity (over q) = 4

kinds_same : (a b : Node) (xs ys : List ℕ) → node_text a ++ xs ≡ node_text b ++ ys → (class a ≡ class b) × (class a ≡ 4 → class b ≡ 4 → arity (operator a) ≡ arity (operator b))
kinds_same a b xs ys e = (classes_same a b xs ys e, λ f g. ap arity (heads_same a b xs ys f g e).0)

-- ---- nodes

letter_number : (c j k : ℕ) (xs ys : List ℕ) → Ends xs → Ends ys → (c ∷ number_text j) ++ xs ≡ (c ∷ number_text k) ++ ys → (j ≡ k) × (xs ≡ ys)
letter_number c j k xs ys f g e =
    let s = split (number_text j) (number_text k) xs ys (number_word j) (number_word k) f g (same_tail c c _ _ e) in
    (number_same j k s.0, s.1)

op1_from : (o q : Op1) (a b : Node) → one o ≡ one q → a ≡ b → op1 o a ≡ op1 q b
op1_from o q a b e f = cc

op2_from : (o q : Op2) (a b x y : Node) → two o ≡ two q → a ≡ x → b ≡ y → op2 o a b ≡ op2 q x y
op2_from o q a b x y e f g = cc

op3_from : (o q : Op3) (a b c x y z : Node) → three o ≡ three q → a ≡ x → b ≡ y → c ≡ z → op3 o a b c ≡ op3 q x y z
op3_from o q a b c x y z e f g h = cc

opn_from : (o q : OpN) (ns ms : Nodes) → many o ≡ many q → ns ≡ ms → opn o ns ≡ opn q ms
opn_from o q ns ms e f = cc

quant_from : (o q : Quant) (a b c x y z : Node) → over o ≡ over q → a ≡ x → b ≡ y → c ≡ z → quant o a b c ≡ quant q x y z
quant_from o q a b c x y z e f g h = cc

flags_same : (b c : Bool) (xs ys : List ℕ) → flag_text b ++ xs ≡ flag_text c ++ ys → (b ≡ c) × (xs ≡ ys)
flags_same true true xs ys e = (refl, same_tail 84 84 _ _ e)
flags_same false false xs ys e = (refl, same_tail 70 70 _ _ e)
flags_same true false xs ys e = absurd (let h : 84 ≡ 70 = same_head 84 70 _ _ e in omega arith)
flags_same false true xs ys e = absurd (let h : 70 ≡ 84 = same_head 70 84 _ _ e in omega arith)

more_nodes : (a b : Node) (ns ms : Nodes) → a ≡ b → ns ≡ ms → node a ns ≡ node b ms
more_nodes a b ns ms e f = cc

next_part : (t u xs : List ℕ) → ((((32 ∷ []) ++ t)) ++ u) ++ (41 ∷ xs) ≡ 32 ∷ (t ++ (u ++ (41 ∷ xs)))
next_part t u xs = simp append_assoc

mutual
  pub nodes_apart : (a b : Node) (xs ys : List ℕ) → Ends xs → Ends ys → node_text a ++ xs ≡ node_text b ++ ys → (a ≡ b) × (xs ≡ ys)
  nodes_apart (num y) (num z) xs ys f g e =
      let s = split (whole_text y) (whole_text z) xs ys (whole_word y) (whole_word z) f g e in
      (ap num (whole_same y z s.0), s.1)
  nodes_apart (flag b) (flag c) xs ys f g e =
      let s = flags_same b c xs ys e in (ap flag s.0, s.1)
  nodes_apart (symbol j) (symbol k) xs ys f g e =
      let s = letter_number 115 j k xs ys f g e in (ap symbol s.0, s.1)
  nodes_apart (bound j) (bound k) xs ys f g e =
      let s = letter_number 98 j k xs ys f g e in (ap bound s.0, s.1)
  nodes_apart (op1 o a) (op1 q x) xs ys f g e =
      let h = heads_same (op1 o a) (op1 q x) xs ys refl refl e in
      let r = nodes_apart a x (41 ∷ xs) (41 ∷ ys) refl refl (same_tail 32 32 _ _ h.1) in
      (op1_from o q a x h.0 r.0, same_tail 41 41 _ _ r.1)
  nodes_apart (op2 o a b) (op2 q x y) xs ys f g e =
      let h = heads_same (op2 o a b) (op2 q x y) xs ys refl refl e in
      let r = nodes_apart a x _ _ refl refl (same_tail 32 32 _ _ h.1) in
      let s = nodes_apart b y (41 ∷ xs) (41 ∷ ys) refl refl (same_tail 32 32 _ _ r.1) in
      (op2_from o q a b x y h.0 r.0 s.0, same_tail 41 41 _ _ s.1)
  nodes_apart (op3 o a b c) (op3 q x y z) xs ys f g e =
      let h = heads_same (op3 o a b c) (op3 q x y z) xs ys refl refl e in
      let r = nodes_apart a x _ _ refl refl (same_tail 32 32 _ _ h.1) in
      let s = nodes_apart b y _ _ refl refl (same_tail 32 32 _ _ r.1) in
      let t = nodes_apart c z (41 ∷ xs) (41 ∷ ys) refl refl (same_tail 32 32 _ _ s.1) in
      (op3_from o q a b c x y z h.0 r.0 s.0 t.0, same_tail 41 41 _ _ t.1)
  nodes_apart (opn o ns) (opn q ms) xs ys f g e =
      let h = heads_same (opn o ns) (opn q ms) xs ys refl refl e in
      let r = lists_apart ns ms xs ys h.1 in
      (opn_from o q ns ms h.0 r.0, r.1)
  nodes_apart (quant o a b c) (quant q x y z) xs ys f g e =
      let h = heads_same (quant o a b c) (quant q x y z) xs ys refl refl e in
      let r = nodes_apart a x _ _ refl refl (same_tail 32 32 _ _ h.1) in
      let s = nodes_apart b y _ _ refl refl (same_tail 32 32 _ _ r.1) in
      let t = nodes_apart c z (41 ∷ xs) (41 ∷ ys) refl refl (same_tail 32 32 _ _ s.1) in
      (quant_from o q a b c x y z h.0 r.0 s.0 t.0, same_tail 41 41 _ _ t.1)
  nodes_apart (num y) b xs ys f g e = let k = kinds_same (num y) b xs ys e in absurd (omega (arith, k.0, k.1))
  nodes_apart (flag y) b xs ys f g e = let k = kinds_same (flag y) b xs ys e in absurd (omega (arith, k.0, k.1))
  nodes_apart (symbol j) b xs ys f g e = let k = kinds_same (symbol j) b xs ys e in absurd (omega (arith, k.0, k.1))
  nodes_apart (bound j) b xs ys f g e = let k = kinds_same (bound j) b xs ys e in absurd (omega (arith, k.0, k.1))
  nodes_apart (op1 o a) b xs ys f g e = let k = kinds_same (op1 o a) b xs ys e in absurd (omega (arith, k.0, k.1))
  nodes_apart (op2 o a c) b xs ys f g e = let k = kinds_same (op2 o a c) b xs ys e in absurd (omega (arith, k.0, k.1))
  nodes_apart (op3 o a c d) b xs ys f g e = let k = kinds_same (op3 o a c d) b xs ys e in absurd (omega (arith, k.0, k.1))
  nodes_apart (opn o ns) b xs ys f g e = let k = kinds_same (opn o ns) b xs ys e in absurd (omega (arith, k.0, k.1))
  nodes_apart (quant o a c d) b xs ys f g e = let k = kinds_same (quant o a c d) b xs ys e in absurd (omega (arith, k.0, k.1))

  lists_apart : (ns ms : Nodes) (xs ys : List ℕ) → spaced_text ns ++ (41 ∷ xs) ≡ spaced_text ms ++ (41 ∷ ys) → (ns ≡ ms) × (xs ≡ ys)
  lists_apart no_nodes no_nodes xs ys e = (refl, same_tail 41 41 _ _ e)
  lists_apart no_nodes (node b ms) xs ys e = absurd (let h : 41 ≡ 32 = same_head 41 32 _ _ e in omega arith)
  lists_apart (node a ns) no_nodes xs ys e = absurd (let h : 32 ≡ 41 = same_head 32 41 _ _ e in omega arith)
  lists_apart (node a ns) (node b ms) xs ys e =
      let r = nodes_apart a b (spaced_text ns ++ (41 ∷ xs)) (spaced_text ms ++ (41 ∷ ys)) (spaced_ends ns xs) (spaced_ends ms ys)
      (same_tail 32 32 _ _ (sym (next_part (node_text a) (spaced_text ns) xs) ∙ e ∙ next_part (node_text b) (spaced_text ms) ys)) in
      let s = lists_apart ns ms xs ys r.1 in
      (more_nodes a b ns ms r.0 s.0, s.1)

pub texts_apart : (a b : Node) → node_text a ≡ node_text b → a ≡ b
texts_apart a b e = (nodes_apart a b [] [] tt tt (ap (λ (t : List ℕ). t ++ []) e)).0
