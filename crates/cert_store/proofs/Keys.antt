-- A set of texts as a set of formulas.
use Rattle.std.proofs.Common.{◌≡◌, refl, sym, ◌∙◌, ap, subst, ℕ, Bool, true, false, List, [], ◌∷◌, ◌++◌, map, length, take, get_or, ◌<◌, ◌+◌}
use Rattle.std.specs.Prelude.{◌||◌}
use Rattle.std.proofs.lemmas.Bool.{true≢false}
use Rattle.std.proofs.lemmas.List.{take_more}
use Rattle.std.specs.Global.{Vec}
use Rattle.std.specs.BTreeSet.{BTreeSet, contains_by, Updates}
use Rattle.std.specs.Cmp.{eq_by_cmp_equiv}
use Rattle.std.specs.Cmp.Lexicographic.{slice_cmp, nat_list_cmp_total, texts_ties, bytes_decides}
use Rattle.std.specs.Ordering.{is_eq, nat_cmp, eq_by_cmp}
use Rattle.std.specs.List.{list_any}
use Rattle.std.specs.Map.{IsKeyTest, AreApart}
use Rattle.std.specs.Set.{KeepsOthers}
use Rattle.logic_terms.specs.Node.{bit, Node, op1}
use Rattle.logic_terms.specs.View.{formula}
use Rattle.logic_terms.specs.Binding.{negated}
use Rattle.logic_terms.specs.Same.{same_node}
use Rattle.logic_terms.specs.declared.syntax.Formula.{Formula}
use Rattle.logic_terms.proofs.SameNodes.{same_node-is, same_node-refl}
use Rattle.logic_terms.proofs.Apart.{texts_apart}
use Rattle.cert_rules.specs.Propagation.{among}
use Rattle.cert_store.specs.Assumed.{key_of, assumes, Adds, Agrees}

-- formulas with one text are one
keys_apart : (p q : Node) → key_of p ≡ key_of q → p ≡ q
keys_apart p q e = let h = texts_apart (op1 bit p) (op1 bit q) e in cc

-- texts that tie are one
tied : (xs ys : List ℕ) → is_eq (slice_cmp nat_cmp xs ys) ≡ true → xs ≡ ys
tied xs ys e = (bytes_decides xs ys).0 (texts_ties xs ys ∙ e)

not_true : (b : Bool) → (b ≡ true → ⊥) → b ≡ false
not_true true f = absurd (f refl)
not_true false f = refl

by_cases : (b f g : Bool) → (b ≡ true → g ≡ true) → (b ≡ false → g ≡ f) → g ≡ (b || f)
by_cases true f g t e = t refl
by_cases false f g t e = e refl

kept : {K : Type 0} (eq : K → K → Bool) (test other : K → Bool) (old new : List K) → KeepsOthers eq test old new → IsKeyTest eq other → AreApart test other → list_any other new ≡ list_any other old
unfolding KeepsOthers
kept eq test other old new h k a = h other k a

module _ (p q : Node) (s n : BTreeSet (Vec ℕ)) (k : Vec ℕ) (is : k.items ≡ key_of q) (u : Updates (λ x y. slice_cmp nat_cmp x.items y.items) s n k true) where
  stands : same_node p q ≡ true → assumes n p ≡ true
  stands e = subst (λ (xs : List ℕ). contains_by (λ (y : Vec ℕ). slice_cmp nat_cmp xs y.items) n ≡ true) (is ∙ ap key_of (sym (same_node-is p q e))) u.1

  differs : same_node p q ≡ false → (y : Vec ℕ) → is_eq (slice_cmp nat_cmp k.items y.items) ≡ true → is_eq (slice_cmp nat_cmp (key_of p) y.items) ≡ true → ⊥
  differs e y a b =
      let h = keys_apart p q (tied (key_of p) y.items b ∙ sym (tied k.items y.items a) ∙ is) in
      true≢false (sym (same_node-refl q) ∙ ap (λ (r : Node). same_node r q) (sym h) ∙ e)

  stays : same_node p q ≡ false → assumes n p ≡ assumes s p
  stays e =
      kept (eq_by_cmp (λ (x y : Vec ℕ). slice_cmp nat_cmp x.items y.items)) (λ (y : Vec ℕ). is_eq (slice_cmp nat_cmp k.items y.items)) (λ (y : Vec ℕ). is_eq (slice_cmp nat_cmp (key_of p) y.items)) s.keys n.keys u.3
      (λ x y. (eq_by_cmp_equiv nat_list_cmp_total).congr (key_of p) x.items y.items)
      (λ y a. not_true _ (differs e y a))

-- a set of texts after one is inserted
pub adds_key : (q : Node) (s n : BTreeSet (Vec ℕ)) (k : Vec ℕ) → k.items ≡ key_of q → Updates (λ x y. slice_cmp nat_cmp x.items y.items) s n k true → Adds q (assumes s) (assumes n)
adds_key q s n k is u p = by_cases (same_node p q) (assumes s p) (assumes n p) (stands p q s n k is u) (stays p q s n k is u)

-- ---- several

swapped : (a b c : Bool) → (a || (b || c)) ≡ (b || (a || c))
swapped true true c = refl
swapped true false c = refl
swapped false true c = refl
swapped false false c = refl

among_more : (p q : Node) (xs : List Node) → among p (xs ++ q ∷ []) ≡ (same_node p q || among p xs)
among_more p q [] = refl
among_more p q (x ∷ xs) = ap (λ (b : Bool). same_node p x || b) (among_more p q xs) ∙ swapped (same_node p x) (same_node p q) (among p xs)

mapped_more : {A B : Type 0} (f : A → B) (xs : List A) (x : A) → map f (xs ++ x ∷ []) ≡ map f xs ++ f x ∷ []
mapped_more f [] x = refl
mapped_more f (y ∷ xs) x = ap (λ zs. f y ∷ zs) (mapped_more f xs x)

abbrev pub negations_of : List Formula → List Node
negations_of ps = map negated (map formula ps)

-- one more of the formulas, as a loop comes to it
pub taken_more : (ps : List Formula) (i : ℕ) (p : Formula) → i < length ps → p ≡ get_or ps i p → map formula (take (i + 1) ps) ≡ map formula (take i ps) ++ formula p ∷ []
taken_more ps i p h e = ap (λ (xs : List Formula). map formula xs) (take_more ps i p h) ∙ mapped_more formula (take i ps) (get_or ps i p) ∙ ap (λ (r : Formula). map formula (take i ps) ++ formula r ∷ []) (sym e)

pub agrees_more : (ps : List Formula) (i : ℕ) (p : Formula) (q : Node) (f g : Node → Bool) → i < length ps → p ≡ get_or ps i p → q ≡ negated (formula p) → Adds q f g → Agrees f (negations_of (take i ps)) → Agrees g (negations_of (take (i + 1) ps))
agrees_more ps i p q f g h e is a known r =
    a r ∙ ap (λ (b : Bool). same_node r q || b) (known r) ∙ sym (among_more r q (negations_of (take i ps)))
    ∙ ap (λ (xs : List Node). among r xs)
    (ap (λ (x : Node). negations_of (take i ps) ++ x ∷ []) is
    ∙ sym (mapped_more negated (map formula (take i ps)) (formula p))
    ∙ sym (ap (λ (xs : List Node). map negated xs) (taken_more ps i p h e)))
