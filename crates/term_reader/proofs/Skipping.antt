-- What is left of a text after the tree at its front.
use Rattle.std.proofs.Common.{◌≡◌, refl, sym, ◌∙◌, ap, ℕ, zero, suc, ◌+◌, ◌<◌, ◌/◌, ◌%◌, Bool, true, false, List, [], ◌∷◌, ◌++◌, arith, append_assoc, inl, inr}
use Rattle.std.specs.Prelude.{◌==◌, ◌||◌, ℤ, pos, negsuc, if◌then◌else◌}
use Rattle.std.proofs.lemmas.Bool.{false≢true, true≢false, cond-true, cond-false, cases_lt, ne_eqb, or_from}
use Rattle.std.proofs.lemmas.List.{append_cancel_right}
use Rattle.logic_terms.specs.Node.{add, sub, mul, quo, rem, mod_by, pow, Op1, bit, tru, neg, fst, lst, fld, Op2, arith as compute_by, le, eq, conj, disj, iff, sel, upd, Op3, ite, sto, fill, OpN, fields, call, Quant, all, any, Node, num, flag, sym as symbol, bound, op1, op2, op3, opn, quant, Nodes, no_nodes, node}
use Rattle.logic_terms.specs.Value.{Kind, numbers, truths, arrays, records, Kinds, no_kinds, kind}
use Rattle.logic_terms.specs.Text.{number_text, whole_text, op1_text, op2_text, op3_text, opn_text, quant_text, node_text, spaced_text}
use Rattle.logic_terms.proofs.Apart.{texts_apart}
use Rattle.term_reader.specs.Sorts.{kind_text, spaced_kinds}
use Rattle.term_reader.specs.Bytes.{is_digit, first, Ends, IsWhole}
use Rattle.term_reader.specs.Trees.{Tree, of_node, of_kind, tree_text}
use Rattle.term_reader.proofs.Digits.{digits_over, over_number, digit_first, digit_low, digit_high, is_a_digit, one_digit, more_digits}

-- what is left after so many brackets are closed
abbrev pub close : List ℕ → ℕ → List ℕ
close [] d = []
close (c ∷ cs) zero = c ∷ cs
close (c ∷ cs) (suc d) = if c == 40 then close cs (suc (suc d)) else (if c == 41 then close cs d else close cs (suc d))

closed : (xs : List ℕ) → close xs 0 ≡ xs
closed [] = refl
closed (c ∷ cs) = refl

-- ---- words have no brackets

not_open : (c : ℕ) → is_digit c ≡ true → (c == 40) ≡ false
not_open c h = let l = digit_low c h in ne_eqb c 40 (λ e. omega arith)

not_closed : (c : ℕ) → is_digit c ≡ true → (c == 41) ≡ false
not_closed c h = let l = digit_low c h in ne_eqb c 41 (λ e. omega arith)

digit_passes : (c d : ℕ) (cs : List ℕ) → is_digit c ≡ true → close (c ∷ cs) (suc d) ≡ close cs (suc d)
digit_passes c d cs h = cond-false (c == 40) _ _ (not_open c h) ∙ cond-false (c == 41) _ _ (not_closed c h)

passes_by : (fuel n d : ℕ) (xs : List ℕ) → n < fuel → close (number_text n ++ xs) (suc d) ≡ close xs (suc d)
passes_by zero n d xs h = absurd (omega arith)
passes_by (suc fuel) n d xs h = elim (cases_lt n 10) [
  | inl k ↦ ap (λ (ds : List ℕ). close (ds ++ xs) (suc d)) (one_digit n k) ∙ digit_passes (48 + n) d xs (is_a_digit n k)
  | inr k ↦ let r : n % 10 < 10 = grind arith in
      let q : n / 10 < fuel = grind arith in
      ap (λ (ds : List ℕ). close (ds ++ xs) (suc d)) (more_digits n k)
      ∙ ap (λ (ds : List ℕ). close ds (suc d)) (append_assoc (number_text (n / 10)) ((48 + n % 10) ∷ []) xs)
      ∙ passes_by fuel (n / 10) d ((48 + n % 10) ∷ xs) q
      ∙ digit_passes (48 + n % 10) d xs (is_a_digit (n % 10) r)
]

number_passes : (n d : ℕ) (xs : List ℕ) → close (number_text n ++ xs) (suc d) ≡ close xs (suc d)
number_passes n d xs = passes_by (suc n) n d xs (omega arith)

op1_passes : (o : Op1) (d : ℕ) (xs : List ℕ) → close (op1_text o ++ xs) (suc d) ≡ close xs (suc d)
op1_passes bit d xs = refl
op1_passes tru d xs = refl
op1_passes neg d xs = refl
op1_passes fst d xs = refl
op1_passes lst d xs = refl
op1_passes (fld k) d xs = number_passes k d xs

op2_passes : (o : Op2) (d : ℕ) (xs : List ℕ) → close (op2_text o ++ xs) (suc d) ≡ close xs (suc d)
op2_passes (compute_by add) d xs = refl
op2_passes (compute_by sub) d xs = refl
op2_passes (compute_by mul) d xs = refl
op2_passes (compute_by quo) d xs = refl
op2_passes (compute_by rem) d xs = refl
op2_passes (compute_by mod_by) d xs = refl
op2_passes (compute_by pow) d xs = refl
op2_passes le d xs = refl
op2_passes eq d xs = refl
op2_passes conj d xs = refl
op2_passes disj d xs = refl
op2_passes iff d xs = refl
op2_passes sel d xs = refl
op2_passes (upd k) d xs = number_passes k d xs

op3_passes : (o : Op3) (d : ℕ) (xs : List ℕ) → close (op3_text o ++ xs) (suc d) ≡ close xs (suc d)
op3_passes ite d xs = refl
op3_passes sto d xs = refl
op3_passes fill d xs = refl

opn_passes : (o : OpN) (d : ℕ) (xs : List ℕ) → close (opn_text o ++ xs) (suc d) ≡ close xs (suc d)
opn_passes fields d xs = refl
opn_passes (call k) d xs = number_passes k d xs

quant_passes : (q : Quant) (d : ℕ) (xs : List ℕ) → close (quant_text q ++ xs) (suc d) ≡ close xs (suc d)
quant_passes all d xs = refl
quant_passes any d xs = refl

whole_passes : (z : ℤ) (d : ℕ) (xs : List ℕ) → close (whole_text z ++ xs) (suc d) ≡ close xs (suc d)
whole_passes (pos n) d xs = number_passes n d xs
whole_passes (negsuc n) d xs = number_passes (suc n) d xs

flag_passes : (b : Bool) (d : ℕ) (xs : List ℕ) → close (node_text (flag b) ++ xs) (suc d) ≡ close xs (suc d)
flag_passes true d xs = refl
flag_passes false d xs = refl

-- ---- trees have as many closing brackets as opening ones

grouped1 : (o t s u c xs : List ℕ) → (((o ++ t) ++ (s ++ u)) ++ c) ++ xs ≡ o ++ (t ++ (s ++ (u ++ (c ++ xs))))
grouped1 o t s u c xs = simp append_assoc

grouped2 : (o t s u v c xs : List ℕ) → ((((o ++ t) ++ (s ++ u)) ++ (s ++ v)) ++ c) ++ xs ≡ o ++ (t ++ (s ++ (u ++ (s ++ (v ++ (c ++ xs))))))
grouped2 o t s u v c xs = simp append_assoc

grouped3 : (o t s u v w c xs : List ℕ) → (((((o ++ t) ++ (s ++ u)) ++ (s ++ v)) ++ (s ++ w)) ++ c) ++ xs ≡ o ++ (t ++ (s ++ (u ++ (s ++ (v ++ (s ++ (w ++ (c ++ xs))))))))
grouped3 o t s u v w c xs = simp append_assoc

grouped_list : (o t u c xs : List ℕ) → (((o ++ t) ++ u) ++ c) ++ xs ≡ o ++ (t ++ (u ++ (c ++ xs)))
grouped_list o t u c xs = simp append_assoc

pub regrouped1 : (o a xs : List ℕ) → ((((40 ∷ []) ++ o) ++ ((32 ∷ []) ++ a)) ++ (41 ∷ [])) ++ xs ≡ 40 ∷ (o ++ (32 ∷ (a ++ (41 ∷ xs))))
regrouped1 o a xs = grouped1 (40 ∷ []) o (32 ∷ []) a (41 ∷ []) xs

pub regrouped2 : (o a b xs : List ℕ) → (((((40 ∷ []) ++ o) ++ ((32 ∷ []) ++ a)) ++ ((32 ∷ []) ++ b)) ++ (41 ∷ [])) ++ xs ≡ 40 ∷ (o ++ (32 ∷ (a ++ (32 ∷ (b ++ (41 ∷ xs))))))
regrouped2 o a b xs = grouped2 (40 ∷ []) o (32 ∷ []) a b (41 ∷ []) xs

pub regrouped3 : (o a b c xs : List ℕ) → ((((((40 ∷ []) ++ o) ++ ((32 ∷ []) ++ a)) ++ ((32 ∷ []) ++ b)) ++ ((32 ∷ []) ++ c)) ++ (41 ∷ [])) ++ xs ≡ 40 ∷ (o ++ (32 ∷ (a ++ (32 ∷ (b ++ (32 ∷ (c ++ (41 ∷ xs))))))))
regrouped3 o a b c xs = grouped3 (40 ∷ []) o (32 ∷ []) a b c (41 ∷ []) xs

pub regrouped_list : (o l xs : List ℕ) → ((((40 ∷ []) ++ o) ++ l) ++ (41 ∷ [])) ++ xs ≡ 40 ∷ (o ++ (l ++ (41 ∷ xs)))
regrouped_list o l xs = grouped_list (40 ∷ []) o l (41 ∷ []) xs

next_part : (t u xs : List ℕ) → (((32 ∷ []) ++ t) ++ u) ++ xs ≡ 32 ∷ (t ++ (u ++ xs))
next_part t u xs = simp append_assoc

-- a bracket, and what closes it
record Opened (t : List ℕ) (xs : List ℕ) : Type 0 where
  inside : List ℕ
  is_text : t ++ xs ≡ 40 ∷ inside
  passes : (d : ℕ) → close inside (suc d) ≡ close xs d

passes_open : (t xs : List ℕ) (d : ℕ) → Opened t xs → close (t ++ xs) (suc d) ≡ close xs (suc d)
passes_open t xs d o = ap (λ (ys : List ℕ). close ys (suc d)) o.is_text ∙ o.passes (suc d)

mutual
  node_passes : (n : Node) (d : ℕ) (xs : List ℕ) → close (node_text n ++ xs) (suc d) ≡ close xs (suc d)
  node_passes (num z) d xs = whole_passes z d xs
  node_passes (flag b) d xs = flag_passes b d xs
  node_passes (symbol k) d xs = number_passes k d xs
  node_passes (bound k) d xs = number_passes k d xs
  node_passes (op1 o a) d xs =
      ap (λ (ys : List ℕ). close ys (suc d)) (regrouped1 (op1_text o) (node_text a) xs)
      ∙ op1_passes o (suc d) _ ∙ node_passes a (suc d) (41 ∷ xs)
  node_passes (op2 o a b) d xs =
      ap (λ (ys : List ℕ). close ys (suc d)) (regrouped2 (op2_text o) (node_text a) (node_text b) xs)
      ∙ op2_passes o (suc d) _ ∙ node_passes a (suc d) _ ∙ node_passes b (suc d) (41 ∷ xs)
  node_passes (op3 o a b c) d xs =
      ap (λ (ys : List ℕ). close ys (suc d)) (regrouped3 (op3_text o) (node_text a) (node_text b) (node_text c) xs)
      ∙ op3_passes o (suc d) _ ∙ node_passes a (suc d) _ ∙ node_passes b (suc d) _ ∙ node_passes c (suc d) (41 ∷ xs)
  node_passes (opn o ns) d xs =
      ap (λ (ys : List ℕ). close ys (suc d)) (regrouped_list (opn_text o) (spaced_text ns) xs)
      ∙ opn_passes o (suc d) _ ∙ nodes_pass ns (suc d) (41 ∷ xs)
  node_passes (quant q a b c) d xs =
      ap (λ (ys : List ℕ). close ys (suc d)) (regrouped3 (quant_text q) (node_text a) (node_text b) (node_text c) xs)
      ∙ quant_passes q (suc d) _ ∙ node_passes a (suc d) _ ∙ node_passes b (suc d) _ ∙ node_passes c (suc d) (41 ∷ xs)

  nodes_pass : (ns : Nodes) (d : ℕ) (xs : List ℕ) → close (spaced_text ns ++ xs) (suc d) ≡ close xs (suc d)
  nodes_pass no_nodes d xs = refl
  nodes_pass (node a ns) d xs =
      ap (λ (ys : List ℕ). close ys (suc d)) (next_part (node_text a) (spaced_text ns) xs)
      ∙ node_passes a d _ ∙ nodes_pass ns d xs

mutual
  kind_passes : (k : Kind) (d : ℕ) (xs : List ℕ) → close (kind_text k ++ xs) (suc d) ≡ close xs (suc d)
  kind_passes numbers d xs = refl
  kind_passes truths d xs = refl
  kind_passes (arrays k) d xs =
      ap (λ (ys : List ℕ). close ys (suc d)) (regrouped1 (65 ∷ []) (kind_text k) xs) ∙ kind_passes k (suc d) (41 ∷ xs)
  kind_passes (records ks) d xs =
      ap (λ (ys : List ℕ). close ys (suc d)) (regrouped_list (82 ∷ []) (spaced_kinds ks) xs) ∙ kinds_pass ks (suc d) (41 ∷ xs)

  kinds_pass : (ks : Kinds) (d : ℕ) (xs : List ℕ) → close (spaced_kinds ks ++ xs) (suc d) ≡ close xs (suc d)
  kinds_pass no_kinds d xs = refl
  kinds_pass (kind k ks) d xs =
      ap (λ (ys : List ℕ). close ys (suc d)) (next_part (kind_text k) (spaced_kinds ks) xs)
      ∙ kind_passes k d _ ∙ kinds_pass ks d xs

-- ---- what is left

-- what is left after a tree
abbrev pub skip : List ℕ → List ℕ
skip [] = []
skip (c ∷ cs) = if c == 40 then close cs 1 else (if c == 84 || (c == 70 || (c == 78 || c == 66)) then cs else digits_over cs)

not_letter : (c : ℕ) → is_digit c ≡ true → (c == 84 || (c == 70 || (c == 78 || c == 66))) ≡ false
not_letter c h =
    let l = digit_high c h in
    or_from _ _ (ne_eqb c 84 (λ e. omega arith)) (or_from _ _ (ne_eqb c 70 (λ e. omega arith)) (or_from _ _ (ne_eqb c 78 (λ e. omega arith)) (ne_eqb c 66 (λ e. omega arith))))

skip_digits : (xs : List ℕ) → is_digit (first xs) ≡ true → skip xs ≡ digits_over xs
skip_digits [] h = absurd (false≢true h)
skip_digits (c ∷ cs) h =
    cond-false (c == 40) _ _ (not_open c h) ∙ cond-false _ _ _ (not_letter c h) ∙ sym (cond-true (is_digit c) _ _ h)

skip_number : (n : ℕ) (k : List ℕ) → Ends k → skip (number_text n ++ k) ≡ k
skip_number n k h = skip_digits (number_text n ++ k) (digit_first n k) ∙ over_number n k h

skip_open : (xs ys : List ℕ) → xs ≡ 40 ∷ ys → skip xs ≡ close ys 1
skip_open xs ys e = ap skip e

-- whether no digit at the end could be followed by another
abbrev pub is_solid : Node → Bool
is_solid (num z) = false
is_solid (symbol k) = false
is_solid (bound k) = false
is_solid _ = true

skip_solid : (n : Node) (k : List ℕ) → is_solid n ≡ true → skip (node_text n ++ k) ≡ k
skip_solid (num z) k h = absurd (false≢true h)
skip_solid (symbol n) k h = absurd (false≢true h)
skip_solid (bound n) k h = absurd (false≢true h)
skip_solid (flag true) k h = refl
skip_solid (flag false) k h = refl
skip_solid (op1 o a) k h =
    skip_open _ _ (regrouped1 (op1_text o) (node_text a) k) ∙ op1_passes o 0 _ ∙ node_passes a 0 (41 ∷ k) ∙ closed k
skip_solid (op2 o a b) k h =
    skip_open _ _ (regrouped2 (op2_text o) (node_text a) (node_text b) k)
    ∙ op2_passes o 0 _ ∙ node_passes a 0 _ ∙ node_passes b 0 (41 ∷ k) ∙ closed k
skip_solid (op3 o a b c) k h =
    skip_open _ _ (regrouped3 (op3_text o) (node_text a) (node_text b) (node_text c) k)
    ∙ op3_passes o 0 _ ∙ node_passes a 0 _ ∙ node_passes b 0 _ ∙ node_passes c 0 (41 ∷ k) ∙ closed k
skip_solid (opn o ns) k h =
    skip_open _ _ (regrouped_list (opn_text o) (spaced_text ns) k) ∙ opn_passes o 0 _ ∙ nodes_pass ns 0 (41 ∷ k) ∙ closed k
skip_solid (quant q a b c) k h =
    skip_open _ _ (regrouped3 (quant_text q) (node_text a) (node_text b) (node_text c) k)
    ∙ quant_passes q 0 _ ∙ node_passes a 0 _ ∙ node_passes b 0 _ ∙ node_passes c 0 (41 ∷ k) ∙ closed k

skip_node : (n : Node) (k : List ℕ) → Ends k → skip (node_text n ++ k) ≡ k
skip_node (num (pos n)) k h = skip_number n k h
skip_node (num (negsuc n)) k h = over_number (suc n) k h
skip_node (symbol n) k h = over_number n k h
skip_node (bound n) k h = over_number n k h
skip_node (flag b) k h = skip_solid (flag b) k refl
skip_node (op1 o a) k h = skip_solid (op1 o a) k refl
skip_node (op2 o a b) k h = skip_solid (op2 o a b) k refl
skip_node (op3 o a b c) k h = skip_solid (op3 o a b c) k refl
skip_node (opn o ns) k h = skip_solid (opn o ns) k refl
skip_node (quant q a b c) k h = skip_solid (quant q a b c) k refl

skip_kind : (s : Kind) (k : List ℕ) → skip (kind_text s ++ k) ≡ k
skip_kind numbers k = refl
skip_kind truths k = refl
skip_kind (arrays s) k = skip_open _ _ (regrouped1 (65 ∷ []) (kind_text s) k) ∙ kind_passes s 0 (41 ∷ k) ∙ closed k
skip_kind (records ss) k = skip_open _ _ (regrouped_list (82 ∷ []) (spaced_kinds ss) k) ∙ kinds_pass ss 0 (41 ∷ k) ∙ closed k

skip_tree : (t : Tree) (k : List ℕ) → Ends k → skip (tree_text t ++ k) ≡ k
skip_tree (of_node n) k h = skip_node n k h
skip_tree (of_kind s) k h = skip_kind s k

-- what follows two trees is the same where the whole is
pub same_rest : (t u : Tree) (xs ys : List ℕ) → Ends xs → Ends ys → tree_text t ++ xs ≡ tree_text u ++ ys → xs ≡ ys
same_rest t u xs ys f g e = sym (skip_tree t xs f) ∙ ap skip e ∙ skip_tree u ys g

-- a text that is left off exactly is whole
left_whole : (t : Tree) (c : ℕ) → ((rest : List ℕ) → skip (tree_text t ++ (c ∷ rest)) ≡ c ∷ rest) → IsWhole tree_text t c
left_whole t c h = λ u k rest f e. sym (skip_tree u k f) ∙ ap skip e ∙ h rest

pub ended_whole : (t : Tree) (c : ℕ) → is_digit c ≡ false → IsWhole tree_text t c
ended_whole t c h = left_whole t c (λ rest. skip_tree t (c ∷ rest) h)

pub solid_whole : (n : Node) (c : ℕ) → is_solid n ≡ true → IsWhole tree_text (of_node n) c
solid_whole n c h = left_whole (of_node n) c (λ rest. skip_solid n (c ∷ rest) h)

pub kind_whole : (k : Kind) (c : ℕ) → IsWhole tree_text (of_kind k) c
kind_whole k c = left_whole (of_kind k) c (λ rest. skip_kind k (c ∷ rest))

not_bracket : (n : ℕ) (k : List ℕ) → first (number_text n ++ k) ≡ 40 → ⊥
not_bracket n k e = true≢false (sym (digit_first n k) ∙ ap is_digit e)

-- a bracket closes itself
pub bracket_whole : (t : Tree) (c : ℕ) → ((k : List ℕ) → first (tree_text t ++ k) ≡ 40) → IsWhole tree_text t c
bracket_whole (of_kind k) c h = kind_whole k c
bracket_whole (of_node (num (pos n))) c h = absurd (not_bracket n [] (h []))
bracket_whole (of_node (num (negsuc n))) c h = absurd (let e : 45 ≡ 40 = h [] in omega arith)
bracket_whole (of_node (symbol k)) c h = absurd (let e : 115 ≡ 40 = h [] in omega arith)
bracket_whole (of_node (bound k)) c h = absurd (let e : 98 ≡ 40 = h [] in omega arith)
bracket_whole (of_node (flag b)) c h = solid_whole (flag b) c refl
bracket_whole (of_node (op1 o a)) c h = solid_whole (op1 o a) c refl
bracket_whole (of_node (op2 o a b)) c h = solid_whole (op2 o a b) c refl
bracket_whole (of_node (op3 o a b d)) c h = solid_whole (op3 o a b d) c refl
bracket_whole (of_node (opn o ns)) c h = solid_whole (opn o ns) c refl
bracket_whole (of_node (quant q a b d)) c h = solid_whole (quant q a b d) c refl

-- and so are the nodes
pub nodes_same : (m n : Node) (xs ys : List ℕ) → Ends xs → Ends ys → node_text m ++ xs ≡ node_text n ++ ys → (m ≡ n) × (xs ≡ ys)
nodes_same m n xs ys f g e =
    let r : xs ≡ ys = same_rest (of_node m) (of_node n) xs ys f g e in
    (texts_apart m n (append_cancel_right (node_text m) (node_text n) ys (ap (λ (zs : List ℕ). node_text m ++ zs) (sym r) ∙ e)), r)
