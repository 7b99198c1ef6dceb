-- Trees by what stands after their bracket and by their parts.
use Rattle.std.proofs.Common.{◌≡◌, refl, sym, ◌∙◌, ap, subst, ℕ, suc, ◌+◌, ◌<◌, Bool, true, false, List, [], ◌∷◌, ◌++◌, length, arith, append_assoc}
use Rattle.std.specs.Prelude.{◌==◌, ◌&&◌, pos, negsuc, Option, Some}
use Rattle.std.proofs.lemmas.Bool.{and_parts, and_from, and_left, false≢true, true≢false, eqb-true}
use Rattle.std.proofs.lemmas.List.{append-nil}
use Rattle.logic_terms.specs.Node.{Op1, bit, tru, neg, fst, lst, fld, Op2, arith as compute_by, le, eq, conj, disj, iff, sel, upd, Op3, ite, sto, fill, OpN, Quant, Node, num, flag, sym as symbol, bound, op1, op2, op3, opn, quant, Nodes, no_nodes, node}
use Rattle.logic_terms.specs.Value.{Kind, numbers, truths, arrays, records, Kinds, no_kinds, kind}
use Rattle.logic_terms.specs.Text.{op1_text, op2_text, op3_text, opn_text, quant_text, node_text, spaced_text}
use Rattle.term_reader.specs.Sorts.{kind_text, spaced_kinds}
use Rattle.term_reader.specs.Values.{is_index, is_whole, same_side, gives1, takes1, fits1, gives2, takes2, fits2, takes3, fitsn, is_node, are_terms}
use Rattle.term_reader.specs.Trees.{Tree, of_node, of_kind, tree_text, is_of, IsOf, Build, one, two, three, many, over, an_array, a_record, build_text, gives, wants, is_full, nodes_in, kinds_in, made, spaced, is_wanted, all_wanted, IsRight}
use Rattle.term_reader.specs.declared.part.Side.{Side}
use Rattle.term_reader.specs.declared.part.Side.TheVariants.{Term, Formula, Sort}
use Rattle.term_reader.proofs.Skipping.{regrouped1, regrouped2, regrouped3, regrouped_list}

-- ---- tests that hold together

and3 : (x y z : Bool) → (x && (y && z)) ≡ true → (x ≡ true) × (y ≡ true) × (z ≡ true)
and3 true y z h = let p = and_parts y z h in (refl, p.0, p.1)
and3 false y z h = absurd (false≢true h)

from3 : (x y z : Bool) → x ≡ true → y ≡ true → z ≡ true → (x && (y && z)) ≡ true
from3 x y z f g h = and_from x (y && z) f (and_from y z g h)

all1 : (x : Bool) → (x && true) ≡ true → x ≡ true
all1 x h = (and_parts x true h).0

all2 : (x y : Bool) → (x && (y && true)) ≡ true → (x ≡ true) × (y ≡ true)
all2 x y h = let p = and3 x y true h in (p.0, p.1)

all3 : (x y z : Bool) → (x && (y && (z && true))) ≡ true → (x ≡ true) × (y ≡ true) × (z ≡ true)
all3 x y z h = let p = and3 x y (z && true) h in (p.0, p.1, all1 z p.2)

of1 : (x : Bool) → x ≡ true → (x && true) ≡ true
of1 x f = and_from x true f refl

of2 : (x y : Bool) → x ≡ true → y ≡ true → (x && (y && true)) ≡ true
of2 x y f g = and_from x (y && true) f (of1 y g)

of3 : (x y z : Bool) → x ≡ true → y ≡ true → z ≡ true → (x && (y && (z && true))) ≡ true
of3 x y z f g h = and_from x (y && (z && true)) f (of2 y z g h)

-- ---- sides

pub same_side_is : (s t : Side) → same_side s t ≡ true → s ≡ t
same_side_is Term Term h = refl
same_side_is Formula Formula h = refl
same_side_is Sort Sort h = refl
same_side_is Term Formula h = absurd (false≢true h)
same_side_is Term Sort h = absurd (false≢true h)
same_side_is Formula Term h = absurd (false≢true h)
same_side_is Formula Sort h = absurd (false≢true h)
same_side_is Sort Term h = absurd (false≢true h)
same_side_is Sort Formula h = absurd (false≢true h)

same_side_refl : (s : Side) → same_side s s ≡ true
same_side_refl Term = refl
same_side_refl Formula = refl
same_side_refl Sort = refl

no_sort1 : (o : Op1) → same_side (takes1 o) Sort ≡ false
no_sort1 bit = refl
no_sort1 tru = refl
no_sort1 neg = refl
no_sort1 fst = refl
no_sort1 lst = refl
no_sort1 (fld k) = refl

no_sort2 : (o : Op2) → same_side (takes2 o) Sort ≡ false
no_sort2 (compute_by o) = refl
no_sort2 le = refl
no_sort2 eq = refl
no_sort2 conj = refl
no_sort2 disj = refl
no_sort2 iff = refl
no_sort2 sel = refl
no_sort2 (upd k) = refl

no_sort3 : (o : Op3) → same_side (takes3 o) Sort ≡ false
no_sort3 ite = refl
no_sort3 sto = refl
no_sort3 fill = refl

no_sort_gives1 : (o : Op1) → same_side Sort (gives1 o) ≡ false
no_sort_gives1 bit = refl
no_sort_gives1 tru = refl
no_sort_gives1 neg = refl
no_sort_gives1 fst = refl
no_sort_gives1 lst = refl
no_sort_gives1 (fld k) = refl

no_sort_gives2 : (o : Op2) → same_side Sort (gives2 o) ≡ false
no_sort_gives2 (compute_by o) = refl
no_sort_gives2 le = refl
no_sort_gives2 eq = refl
no_sort_gives2 conj = refl
no_sort_gives2 disj = refl
no_sort_gives2 iff = refl
no_sort_gives2 sel = refl
no_sort_gives2 (upd k) = refl

pub no_sort_node : (n : Node) → is_node Sort n ≡ false
no_sort_node (num z) = refl
no_sort_node (flag b) = refl
no_sort_node (symbol k) = refl
no_sort_node (bound k) = refl
no_sort_node (op1 o a) = and_left _ _ (no_sort_gives1 o)
no_sort_node (op2 o a b) = and_left _ _ (no_sort_gives2 o)
no_sort_node (op3 o a b c) = refl
no_sort_node (opn o ns) = refl
no_sort_node (quant q a b c) = refl

-- ---- lists of parts

abbrev pub trees_in : Nodes → List Tree
trees_in no_nodes = []
trees_in (node a ns) = of_node a ∷ trees_in ns

abbrev pub trees_of : Kinds → List Tree
trees_of no_kinds = []
trees_of (kind k ks) = of_kind k ∷ trees_of ks

spaced_in : (ns : Nodes) → spaced_text ns ≡ spaced (trees_in ns)
spaced_in no_nodes = refl
spaced_in (node a ns) = ap (λ (t : List ℕ). 32 ∷ (node_text a ++ t)) (spaced_in ns)

spaced_of : (ks : Kinds) → spaced_kinds ks ≡ spaced (trees_of ks)
spaced_of no_kinds = refl
spaced_of (kind k ks) = ap (λ (t : List ℕ). 32 ∷ (kind_text k ++ t)) (spaced_of ks)

terms_wanted : (o : OpN) (i : ℕ) (ns : Nodes) → are_terms ns ≡ true → all_wanted (many o) i (trees_in ns) ≡ true
terms_wanted o i no_nodes h = refl
terms_wanted o i (node a ns) h = and_from _ _ (and_parts _ _ h).0 (terms_wanted o (suc i) ns (and_parts _ _ h).1)

sorts_wanted : (i : ℕ) (ks : Kinds) → all_wanted a_record i (trees_of ks) ≡ true
sorts_wanted i no_kinds = refl
sorts_wanted i (kind k ks) = sorts_wanted (suc i) ks

wanted_terms : (o : OpN) (i : ℕ) (ts : List Tree) → all_wanted (many o) i ts ≡ true → (are_terms (nodes_in ts) ≡ true) × (spaced_text (nodes_in ts) ≡ spaced ts)
wanted_terms o i [] h = (refl, refl)
wanted_terms o i (of_node a ∷ ts) h =
    let k = wanted_terms o (suc i) ts (and_parts _ _ h).1 in
    (and_from _ _ (and_parts _ _ h).0 k.0, ap (λ (t : List ℕ). 32 ∷ (node_text a ++ t)) k.1)
wanted_terms o i (of_kind s ∷ ts) h = absurd (false≢true h)

wanted_sorts : (i : ℕ) (ts : List Tree) → all_wanted a_record i ts ≡ true → spaced_kinds (kinds_in ts) ≡ spaced ts
wanted_sorts i [] h = refl
wanted_sorts i (of_kind s ∷ ts) h = ap (λ (t : List ℕ). 32 ∷ (kind_text s ++ t)) (wanted_sorts (suc i) ts h)
wanted_sorts i (of_node a ∷ ts) h = absurd (true≢false (sym (and_parts _ _ h).0 ∙ no_sort_node a))

-- ---- texts of nodes by their parts

listed1 : (a n c : List ℕ) → (a ++ n) ++ c ≡ a ++ (n ++ c)
listed1 a n c = append_assoc a n c

listed2 : (a s b n c : List ℕ) → (a ++ (s ++ (b ++ n))) ++ c ≡ a ++ (s ++ (b ++ (n ++ c)))
listed2 a s b n c = simp append_assoc

listed3 : (a s b d n c : List ℕ) → (a ++ (s ++ (b ++ (s ++ (d ++ n))))) ++ c ≡ a ++ (s ++ (b ++ (s ++ (d ++ (n ++ c)))))
listed3 a s b d n c = simp append_assoc

text1 : (o a xs : List ℕ) → ((((40 ∷ []) ++ o) ++ ((32 ∷ []) ++ a)) ++ (41 ∷ [])) ++ xs ≡ 40 ∷ (o ++ ((32 ∷ (a ++ [])) ++ (41 ∷ xs)))
text1 o a xs = regrouped1 o a xs ∙ ap (λ (t : List ℕ). 40 ∷ (o ++ (32 ∷ t))) (sym (listed1 a [] (41 ∷ xs)))

text2 : (o a b xs : List ℕ) → (((((40 ∷ []) ++ o) ++ ((32 ∷ []) ++ a)) ++ ((32 ∷ []) ++ b)) ++ (41 ∷ [])) ++ xs ≡ 40 ∷ (o ++ ((32 ∷ (a ++ (32 ∷ (b ++ [])))) ++ (41 ∷ xs)))
text2 o a b xs = regrouped2 o a b xs ∙ ap (λ (t : List ℕ). 40 ∷ (o ++ (32 ∷ t))) (sym (listed2 a (32 ∷ []) b [] (41 ∷ xs)))

text3 : (o a b c xs : List ℕ) → ((((((40 ∷ []) ++ o) ++ ((32 ∷ []) ++ a)) ++ ((32 ∷ []) ++ b)) ++ ((32 ∷ []) ++ c)) ++ (41 ∷ [])) ++ xs ≡ 40 ∷ (o ++ ((32 ∷ (a ++ (32 ∷ (b ++ (32 ∷ (c ++ [])))))) ++ (41 ∷ xs)))
text3 o a b c xs = regrouped3 o a b c xs ∙ ap (λ (t : List ℕ). 40 ∷ (o ++ (32 ∷ t))) (sym (listed3 a (32 ∷ []) b c [] (41 ∷ xs)))

text_list : (o l m xs : List ℕ) → l ≡ m → ((((40 ∷ []) ++ o) ++ l) ++ (41 ∷ [])) ++ xs ≡ 40 ∷ (o ++ (m ++ (41 ∷ xs)))
text_list o l m xs e = ap (λ (t : List ℕ). ((((40 ∷ []) ++ o) ++ t) ++ (41 ∷ [])) ++ xs) e ∙ regrouped_list o m xs

-- the tree begins with a bracket
pub record Branch (s : Side) (t : Tree) : Type 0 where
  pub build : Build
  pub parts : List Tree
  pub given : gives build ≡ s
  pub right : IsRight build parts
  pub full : is_full build (length parts) ≡ true
  pub is_text : (xs : List ℕ) → tree_text t ++ xs ≡ 40 ∷ (build_text build ++ (spaced parts ++ (41 ∷ xs)))

branch1 : (s : Side) (o : Op1) (a : Node) → IsOf s (of_node (op1 o a)) → Branch s (of_node (op1 o a))
branch1 s o a h =
    let p = and3 (same_side s (gives1 o)) (fits1 o) (is_node (takes1 o) a) h in record {
      build = one o;
      parts = of_node a ∷ [];
      given = sym (same_side_is s (gives1 o) p.0);
      right = (p.1, of1 (is_node (takes1 o) a) p.2);
      full = refl;
      is_text = λ xs. text1 (op1_text o) (node_text a) xs;
    }

branch2 : (s : Side) (o : Op2) (a b : Node) → IsOf s (of_node (op2 o a b)) → Branch s (of_node (op2 o a b))
branch2 s o a b h =
    let p = and3 (same_side s (gives2 o)) (fits2 o) (is_node (takes2 o) a && is_node (takes2 o) b) h in
    let r = and_parts (is_node (takes2 o) a) (is_node (takes2 o) b) p.2 in record {
      build = two o;
      parts = of_node a ∷ of_node b ∷ [];
      given = sym (same_side_is s (gives2 o) p.0);
      right = (p.1, of2 (is_node (takes2 o) a) (is_node (takes2 o) b) r.0 r.1);
      full = refl;
      is_text = λ xs. text2 (op2_text o) (node_text a) (node_text b) xs;
    }

branch3 : (s : Side) (o : Op3) (a b c : Node) → IsOf s (of_node (op3 o a b c)) → Branch s (of_node (op3 o a b c))
branch3 s o a b c h =
    let p = and_parts (same_side s Term) (is_node (takes3 o) a && (is_node Term b && is_node Term c)) h in
    let r = and3 (is_node (takes3 o) a) (is_node Term b) (is_node Term c) p.1 in record {
      build = three o;
      parts = of_node a ∷ of_node b ∷ of_node c ∷ [];
      given = sym (same_side_is s Term p.0);
      right = (refl, of3 (is_node (takes3 o) a) (is_node Term b) (is_node Term c) r.0 r.1 r.2);
      full = refl;
      is_text = λ xs. text3 (op3_text o) (node_text a) (node_text b) (node_text c) xs;
    }

branch_many : (s : Side) (o : OpN) (ns : Nodes) → IsOf s (of_node (opn o ns)) → Branch s (of_node (opn o ns))
branch_many s o ns h =
    let p = and3 (same_side s Term) (fitsn o) (are_terms ns) h in record {
      build = many o;
      parts = trees_in ns;
      given = sym (same_side_is s Term p.0);
      right = (p.1, terms_wanted o 0 ns p.2);
      full = refl;
      is_text = λ xs. text_list (opn_text o) (spaced_text ns) (spaced (trees_in ns)) xs (spaced_in ns);
    }

branch_over : (s : Side) (o : Quant) (a b c : Node) → IsOf s (of_node (quant o a b c)) → Branch s (of_node (quant o a b c))
branch_over s o a b c h =
    let p = and_parts (same_side s Formula) (is_node Term a && (is_node Term b && is_node Formula c)) h in
    let r = and3 (is_node Term a) (is_node Term b) (is_node Formula c) p.1 in record {
      build = over o;
      parts = of_node a ∷ of_node b ∷ of_node c ∷ [];
      given = sym (same_side_is s Formula p.0);
      right = (refl, of3 (is_node Term a) (is_node Term b) (is_node Formula c) r.0 r.1 r.2);
      full = refl;
      is_text = λ xs. text3 (quant_text o) (node_text a) (node_text b) (node_text c) xs;
    }

branch_array : (s : Side) (k : Kind) → IsOf s (of_kind (arrays k)) → Branch s (of_kind (arrays k))
branch_array s k h = record {
  build = an_array;
  parts = of_kind k ∷ [];
  given = sym (same_side_is s Sort h);
  right = (refl, refl);
  full = refl;
  is_text = λ xs. text1 (65 ∷ []) (kind_text k) xs;
}

branch_record : (s : Side) (ks : Kinds) → IsOf s (of_kind (records ks)) → Branch s (of_kind (records ks))
branch_record s ks h = record {
  build = a_record;
  parts = trees_of ks;
  given = sym (same_side_is s Sort h);
  right = (refl, sorts_wanted 0 ks);
  full = refl;
  is_text = λ xs. text_list (82 ∷ []) (spaced_kinds ks) (spaced (trees_of ks)) xs (spaced_of ks);
}

-- ---- trees by their first byte

pub data View (s : Side) (t : Tree) : Type 0 where
  a_number : (n : ℕ) → s ≡ Term → is_whole (pos n) ≡ true → t ≡ of_node (num (pos n)) → View s t
  a_negative : (n : ℕ) → s ≡ Term → is_whole (negsuc n) ≡ true → t ≡ of_node (num (negsuc n)) → View s t
  a_symbol : (k : ℕ) → s ≡ Term → is_index k ≡ true → t ≡ of_node (symbol k) → View s t
  a_bound : (k : ℕ) → s ≡ Term → is_index k ≡ true → t ≡ of_node (bound k) → View s t
  a_flag : (b : Bool) → s ≡ Formula → t ≡ of_node (flag b) → View s t
  of_numbers : s ≡ Sort → t ≡ of_kind numbers → View s t
  of_truths : s ≡ Sort → t ≡ of_kind truths → View s t
  a_branch : Branch s t → View s t

pub view : (s : Side) (t : Tree) → IsOf s t → View s t
view s (of_node (num (pos n))) h = let p = and_parts _ _ h in a_number n (same_side_is s Term p.0) p.1 refl
view s (of_node (num (negsuc n))) h = let p = and_parts _ _ h in a_negative n (same_side_is s Term p.0) p.1 refl
view s (of_node (flag b)) h = a_flag b (same_side_is s Formula h) refl
view s (of_node (symbol k)) h = let p = and_parts _ _ h in a_symbol k (same_side_is s Term p.0) p.1 refl
view s (of_node (bound k)) h = let p = and_parts _ _ h in a_bound k (same_side_is s Term p.0) p.1 refl
view s (of_node (op1 o a)) h = a_branch (branch1 s o a h)
view s (of_node (op2 o a b)) h = a_branch (branch2 s o a b h)
view s (of_node (op3 o a b c)) h = a_branch (branch3 s o a b c h)
view s (of_node (opn o ns)) h = a_branch (branch_many s o ns h)
view s (of_node (quant q a b c)) h = a_branch (branch_over s q a b c h)
view s (of_kind numbers) h = of_numbers (same_side_is s Sort h) refl
view s (of_kind truths) h = of_truths (same_side_is s Sort h) refl
view s (of_kind (arrays k)) h = a_branch (branch_array s k h)
view s (of_kind (records ks)) h = a_branch (branch_record s ks h)

-- ---- trees from their parts

pub record Made (o : Build) (ts : List Tree) : Type 0 where
  pub right : IsOf (gives o) (made o ts)
  pub is_text : (xs : List ℕ) → tree_text (made o ts) ++ xs ≡ 40 ∷ (build_text o ++ (spaced ts ++ (41 ∷ xs)))

too_many : (n m : ℕ) → (n == m) ≡ true → m < n → ⊥
too_many n m h l = let e : n ≡ m = eqb-true n m h in omega arith

no_sort : (b : Bool) (x : Bool) → b ≡ false → (b && x) ≡ true → ⊥
no_sort b x e h = false≢true (sym e ∙ (and_parts b x h).0)

made_one : (o : Op1) (ts : List Tree) → IsRight (one o) ts → is_full (one o) (length ts) ≡ true → Made (one o) ts
made_one o [] r f = absurd (false≢true f)
made_one o (of_node a ∷ []) r f = record {
  right = from3 (same_side (gives1 o) (gives1 o)) (fits1 o) (is_node (takes1 o) a) (same_side_refl (gives1 o)) r.0 (all1 (is_node (takes1 o) a) r.1);
  is_text = λ xs. text1 (op1_text o) (node_text a) xs;
}
made_one o (of_kind k ∷ []) r f = absurd (no_sort (same_side (takes1 o) Sort) true (no_sort1 o) r.1)
made_one o (a ∷ b ∷ ts) r f = absurd (too_many (suc (suc (length ts))) 1 f (omega arith))

made_two : (o : Op2) (ts : List Tree) → IsRight (two o) ts → is_full (two o) (length ts) ≡ true → Made (two o) ts
made_two o [] r f = absurd (false≢true f)
made_two o (a ∷ []) r f = absurd (false≢true f)
made_two o (of_node a ∷ of_node b ∷ []) r f =
    let p = all2 (is_node (takes2 o) a) (is_node (takes2 o) b) r.1 in record {
      right = from3 (same_side (gives2 o) (gives2 o)) (fits2 o) (is_node (takes2 o) a && is_node (takes2 o) b) (same_side_refl (gives2 o)) r.0 (and_from (is_node (takes2 o) a) (is_node (takes2 o) b) p.0 p.1);
      is_text = λ xs. text2 (op2_text o) (node_text a) (node_text b) xs;
    }
made_two o (of_kind k ∷ b ∷ []) r f = absurd (no_sort (same_side (takes2 o) Sort) (is_of (takes2 o) b && true) (no_sort2 o) r.1)
made_two o (of_node a ∷ of_kind k ∷ []) r f =
    absurd (false≢true (sym (no_sort2 o) ∙ (all2 (is_node (takes2 o) a) (same_side (takes2 o) Sort) r.1).1))
made_two o (a ∷ b ∷ c ∷ ts) r f = absurd (too_many (suc (suc (suc (length ts)))) 2 f (omega arith))

made_three : (o : Op3) (ts : List Tree) → IsRight (three o) ts → is_full (three o) (length ts) ≡ true → Made (three o) ts
made_three o [] r f = absurd (false≢true f)
made_three o (a ∷ []) r f = absurd (false≢true f)
made_three o (a ∷ b ∷ []) r f = absurd (false≢true f)
made_three o (of_node a ∷ of_node b ∷ of_node c ∷ []) r f =
    let p = all3 (is_node (takes3 o) a) (is_node Term b) (is_node Term c) r.1 in record {
      right = from3 (is_node (takes3 o) a) (is_node Term b) (is_node Term c) p.0 p.1 p.2;
      is_text = λ xs. text3 (op3_text o) (node_text a) (node_text b) (node_text c) xs;
    }
made_three o (of_kind k ∷ b ∷ c ∷ []) r f =
    absurd (no_sort (same_side (takes3 o) Sort) (is_of Term b && (is_of Term c && true)) (no_sort3 o) r.1)
made_three o (of_node a ∷ of_kind k ∷ c ∷ []) r f = absurd (false≢true (all3 (is_node (takes3 o) a) false (is_of Term c) r.1).1)
made_three o (of_node a ∷ of_node b ∷ of_kind k ∷ []) r f = absurd (false≢true (all3 (is_node (takes3 o) a) (is_node Term b) false r.1).2)
made_three o (a ∷ b ∷ c ∷ d ∷ ts) r f = absurd (too_many (suc (suc (suc (suc (length ts))))) 3 f (omega arith))

made_bound : (q : Quant) (ts : List Tree) → IsRight (over q) ts → is_full (over q) (length ts) ≡ true → Made (over q) ts
made_bound o [] r f = absurd (false≢true f)
made_bound o (a ∷ []) r f = absurd (false≢true f)
made_bound o (a ∷ b ∷ []) r f = absurd (false≢true f)
made_bound o (of_node a ∷ of_node b ∷ of_node c ∷ []) r f =
    let p = all3 (is_node Term a) (is_node Term b) (is_node Formula c) r.1 in record {
      right = from3 (is_node Term a) (is_node Term b) (is_node Formula c) p.0 p.1 p.2;
      is_text = λ xs. text3 (quant_text o) (node_text a) (node_text b) (node_text c) xs;
    }
made_bound o (of_kind k ∷ b ∷ c ∷ []) r f = absurd (false≢true r.1)
made_bound o (of_node a ∷ of_kind k ∷ c ∷ []) r f = absurd (false≢true (all3 (is_node Term a) false (is_of Formula c) r.1).1)
made_bound o (of_node a ∷ of_node b ∷ of_kind k ∷ []) r f = absurd (false≢true (all3 (is_node Term a) (is_node Term b) false r.1).2)
made_bound o (a ∷ b ∷ c ∷ d ∷ ts) r f = absurd (too_many (suc (suc (suc (suc (length ts))))) 3 f (omega arith))

made_many : (o : OpN) (ts : List Tree) → IsRight (many o) ts → Made (many o) ts
made_many o ts r =
    let k = wanted_terms o 0 ts r.1 in record {
      right = and_from (fitsn o) (are_terms (nodes_in ts)) r.0 k.0;
      is_text = λ xs. text_list (opn_text o) (spaced_text (nodes_in ts)) (spaced ts) xs k.1;
    }

made_arrays : (ts : List Tree) → IsRight an_array ts → is_full an_array (length ts) ≡ true → Made an_array ts
made_arrays [] r f = absurd (false≢true f)
made_arrays (of_kind k ∷ []) r f = record { right = refl; is_text = λ xs. text1 (65 ∷ []) (kind_text k) xs }
made_arrays (of_node a ∷ []) r f = absurd (no_sort (is_node Sort a) true (no_sort_node a) r.1)
made_arrays (a ∷ b ∷ ts) r f = absurd (too_many (suc (suc (length ts))) 1 f (omega arith))

made_records : (ts : List Tree) → IsRight a_record ts → Made a_record ts
made_records ts r = record {
  right = refl;
  is_text = λ xs. text_list (82 ∷ []) (spaced_kinds (kinds_in ts)) (spaced ts) xs (wanted_sorts 0 ts r.1);
}

pub made_right : (o : Build) (ts : List Tree) → IsRight o ts → is_full o (length ts) ≡ true → Made o ts
made_right (one o) ts r f = made_one o ts r f
made_right (two o) ts r f = made_two o ts r f
made_right (three o) ts r f = made_three o ts r f
made_right (many o) ts r f = made_many o ts r
made_right (over q) ts r f = made_bound q ts r f
made_right an_array ts r f = made_arrays ts r f
made_right a_record ts r f = made_records ts r

-- ---- one part more

all_pushed : (o : Build) (i n : ℕ) (ts : List Tree) (t : Tree) → n ≡ i + length ts → all_wanted o i ts ≡ true → is_wanted (wants o n) t ≡ true → all_wanted o i (ts ++ t ∷ []) ≡ true
all_pushed o i n [] t e h w =
    let k : n ≡ i = omega arith in and_from _ _ (ap (λ (x : ℕ). is_wanted (wants o x) t) (sym k) ∙ w) refl
all_pushed o i n (u ∷ ts) t e h w =
    let k : n ≡ suc i + length ts = omega arith in
    and_from _ _ (and_parts _ _ h).0 (all_pushed o (suc i) n ts t k (and_parts _ _ h).1 w)

pub pushed : (o : Build) (ts : List Tree) (s : Side) (t : Tree) → IsRight o ts → wants o (length ts) ≡ Some s → IsOf s t → IsRight o (ts ++ t ∷ [])
pushed o ts s t r w h =
    (r.0, all_pushed o 0 (length ts) ts t (omega arith) r.1 (ap (λ (x : Option Side). is_wanted x t) w ∙ h))

-- what part `n` of right parts is
pub part_wanted : (o : Build) (i n : ℕ) (vs : List Tree) (t : Tree) (ts : List Tree) → n ≡ i + length vs → all_wanted o i (vs ++ t ∷ ts) ≡ true → is_wanted (wants o n) t ≡ true
part_wanted o i n [] t ts e h =
    let k : n ≡ i = omega arith in ap (λ (x : ℕ). is_wanted (wants o x) t) k ∙ (and_parts _ _ h).0
part_wanted o i n (v ∷ vs) t ts e h =
    let k : n ≡ suc i + length vs = omega arith in part_wanted o (suc i) n vs t ts k (and_parts _ _ h).1

-- ---- the parts that lack

abbrev pub sample : Side → Tree
sample Term = of_node (num (pos 0))
sample Formula = of_node (flag true)
sample Sort = of_kind numbers

pub sample_of : (s : Side) → IsOf s (sample s)
sample_of Term = refl
sample_of Formula = refl
sample_of Sort = refl

-- parts that make some parts enough
pub record Filled (o : Build) (ts : List Tree) : Type 0 where
  pub more : List Tree
  pub right : IsRight o (ts ++ more)
  pub full : is_full o (length (ts ++ more)) ≡ true

enough : (o : Build) (ts : List Tree) → IsRight o ts → is_full o (length ts) ≡ true → Filled o ts
enough o ts r f =
    let e : ts ≡ ts ++ [] = sym (append-nil ts) in record {
      more = [];
      right = subst (λ (us : List Tree). IsRight o us) e r;
      full = ap (λ (us : List Tree). is_full o (length us)) (sym e) ∙ f;
    }

none_right : (x : Bool) → (x && false) ≡ true → ⊥
none_right x h = false≢true (and_parts x false h).1

two_right : (x y : Bool) → (x && (y && false)) ≡ true → ⊥
two_right x y h = none_right y (and_parts x (y && false) h).1

three_right : (x y z : Bool) → (x && (y && (z && false))) ≡ true → ⊥
three_right x y z h = two_right y z (and_parts x (y && (z && false)) h).1

fill_one : (o : Op1) (ts : List Tree) → IsRight (one o) ts → Filled (one o) ts
fill_one o [] r = record {
  more = sample (takes1 o) ∷ [];
  right = (r.0, of1 (is_of (takes1 o) (sample (takes1 o))) (sample_of (takes1 o)));
  full = refl;
}
fill_one o (a ∷ []) r = record { more = []; right = r; full = refl }
fill_one o (a ∷ b ∷ ts) r = absurd (none_right (is_of (takes1 o) a) r.1)

fill_two : (o : Op2) (ts : List Tree) → IsRight (two o) ts → Filled (two o) ts
fill_two o [] r = record {
  more = sample (takes2 o) ∷ sample (takes2 o) ∷ [];
  right = (r.0, of2 (is_of (takes2 o) (sample (takes2 o))) (is_of (takes2 o) (sample (takes2 o))) (sample_of (takes2 o)) (sample_of (takes2 o)));
  full = refl;
}
fill_two o (a ∷ []) r = record {
  more = sample (takes2 o) ∷ [];
  right = (r.0, of2 (is_of (takes2 o) a) (is_of (takes2 o) (sample (takes2 o))) (all1 (is_of (takes2 o) a) r.1) (sample_of (takes2 o)));
  full = refl;
}
fill_two o (a ∷ b ∷ []) r = record { more = []; right = r; full = refl }
fill_two o (a ∷ b ∷ c ∷ ts) r = absurd (two_right (is_of (takes2 o) a) (is_of (takes2 o) b) r.1)

fill_three : (o : Op3) (ts : List Tree) → IsRight (three o) ts → Filled (three o) ts
fill_three o [] r = record {
  more = sample (takes3 o) ∷ sample Term ∷ sample Term ∷ [];
  right = (r.0, of3 (is_of (takes3 o) (sample (takes3 o))) true true (sample_of (takes3 o)) refl refl);
  full = refl;
}
fill_three o (a ∷ []) r = record {
  more = sample Term ∷ sample Term ∷ [];
  right = (r.0, of3 (is_of (takes3 o) a) true true (all1 (is_of (takes3 o) a) r.1) refl refl);
  full = refl;
}
fill_three o (a ∷ b ∷ []) r =
    let p = all2 (is_of (takes3 o) a) (is_of Term b) r.1 in record {
      more = sample Term ∷ [];
      right = (r.0, of3 (is_of (takes3 o) a) (is_of Term b) true p.0 p.1 refl);
      full = refl;
    }
fill_three o (a ∷ b ∷ c ∷ []) r = record { more = []; right = r; full = refl }
fill_three o (a ∷ b ∷ c ∷ d ∷ ts) r = absurd (three_right (is_of (takes3 o) a) (is_of Term b) (is_of Term c) r.1)

fill_over : (o : Quant) (ts : List Tree) → IsRight (over o) ts → Filled (over o) ts
fill_over o [] r = record { more = sample Term ∷ sample Term ∷ sample Formula ∷ []; right = (r.0, refl); full = refl }
fill_over o (a ∷ []) r = record {
  more = sample Term ∷ sample Formula ∷ [];
  right = (r.0, of3 (is_of Term a) true true (all1 (is_of Term a) r.1) refl refl);
  full = refl;
}
fill_over o (a ∷ b ∷ []) r =
    let p = all2 (is_of Term a) (is_of Term b) r.1 in record {
      more = sample Formula ∷ [];
      right = (r.0, of3 (is_of Term a) (is_of Term b) true p.0 p.1 refl);
      full = refl;
    }
fill_over o (a ∷ b ∷ c ∷ []) r = record { more = []; right = r; full = refl }
fill_over o (a ∷ b ∷ c ∷ d ∷ ts) r = absurd (three_right (is_of Term a) (is_of Term b) (is_of Formula c) r.1)

fill_array : (ts : List Tree) → IsRight an_array ts → Filled an_array ts
fill_array [] r = record { more = sample Sort ∷ []; right = (refl, refl); full = refl }
fill_array (a ∷ []) r = record { more = []; right = r; full = refl }
fill_array (a ∷ b ∷ ts) r = absurd (none_right (is_of Sort a) r.1)

pub filled : (o : Build) (ts : List Tree) → IsRight o ts → Filled o ts
filled (one o) ts r = fill_one o ts r
filled (two o) ts r = fill_two o ts r
filled (three o) ts r = fill_three o ts r
filled (many o) ts r = enough (many o) ts r refl
filled (over q) ts r = fill_over q ts r
filled an_array ts r = fill_array ts r
filled a_record ts r = enough a_record ts r refl
