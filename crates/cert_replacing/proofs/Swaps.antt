-- Replacing part after part gives what the definition of the rule does.
use Rattle.std.proofs.Common.{◌≡◌, refl, sym, ◌∙◌, ap, ℕ, zero, suc, Bool, true, false, ◌<◌, ◌+◌, List, [], ◌∷◌, ◌++◌, length, get_or, take, Option, Some, None}
use Rattle.std.proofs.lemmas.List.{take_more}
use Rattle.logic_terms.specs.Node.{Node, num, flag, sym as symbol, bound, op1, op2, op3, opn, quant, Nodes, no_nodes, node}
use Rattle.logic_terms.specs.Same.{same_node}
use Rattle.logic_terms.specs.View.{term, terms}
use Rattle.logic_terms.specs.declared.syntax.Term.{Term}
use Rattle.logic_terms.proofs.Lists.{then_node, terms-push}
use Rattle.cert_rules.specs.Replacing.{Replaced, done, passed, on_in, here, replaced, replaced_among}
use Rattle.cert_replacing.specs.Swapping.{Swapped, met, entered, reached, on1, on2, on3, swap, swap_among, swap_parts}

abbrev told : {A : Type 0} → A → Replaced A → A × Option ℕ
told a (done b) = (b, None)
told a (passed k) = (a, Some k)

abbrev onward : {A : Type 0} → Option ℕ → A → (ℕ → Replaced A) → A × Option ℕ
onward None a f = (a, None)
onward (Some k) a f = told a (f k)

told1 : {A B : Type 0} (f : A → B) (a : A) (r : Replaced A) → (f (told a r).0, (told a r).1) ≡ told (f a) (on_in f r passed)
told1 f a (done b) = refl
told1 f a (passed k) = refl

told2 : {A B C : Type 0} (f : A → B → C) (a : A) (b : B) (r : Replaced A) (s : ℕ → Replaced B) → (f (told a r).0 (onward (told a r).1 b s).0, (onward (told a r).1 b s).1) ≡ told (f a b) (on_in (λ c. f c b) r (λ i. on_in (f a) (s i) passed))
told2 f a b (done c) s = refl
told2 f a b (passed i) s = told1 (f a) b (s i)

told3 : (f : Node → Node → Node → Node) (a b c : Node) (r : Replaced Node) (s t : ℕ → Replaced Node) →
    on2 (f (told a r).0) (onward (told a r).1 b s) (λ l. onward l c t) ≡ told (f a b c) (on_in (λ d. f d b c) r (λ i. on_in (λ d. f a d c) (s i) (λ h. on_in (f a b) (t h) passed)))
told3 f a b c (done d) s t = refl
told3 f a b c (passed i) s t = told2 (f a) b c (s i) t

-- at a node, where what its parts give is known
reached_told : (b : Bool) (y p : Node) (l : Option ℕ) (parts : Swapped) (f : ℕ → Replaced Node) → ((k : ℕ) → l ≡ Some k → parts ≡ told p (f k)) → reached l b y p parts ≡ onward l p (λ k. here b y k f)
reached_told b y p None parts f h = refl
reached_told true y p (Some zero) parts f h = refl
reached_told true y p (Some (suc k)) parts f h = refl
reached_told false y p (Some k) parts f h = h k refl

module _ (x y : Node) where
  parts1 : (g : Node → Node) (a : Node) (l : Option ℕ) → swap x y a l ≡ onward l a (replaced x y a) → (k : ℕ) → l ≡ Some k → on1 g (swap x y a l) ≡ told (g a) (on_in g (replaced x y a k) passed)
  parts1 g a l e k is = ap (on1 g) (e ∙ ap (λ m. onward m a (replaced x y a)) is) ∙ told1 g a (replaced x y a k)

  parts2 : (g : Node → Node → Node) (a b : Node) (l : Option ℕ) → swap x y a l ≡ onward l a (replaced x y a) → ((m : Option ℕ) → swap x y b m ≡ onward m b (replaced x y b)) → (k : ℕ) → l ≡ Some k → on2 g (swap x y a l) (swap x y b) ≡ told (g a b) (on_in (λ c. g c b) (replaced x y a k) (λ i. on_in (g a) (replaced x y b i) passed))
  parts2 g a b l e f k is =
      let u = told a (replaced x y a k) in
      ap (λ v. on2 g v (swap x y b)) (e ∙ ap (λ m. onward m a (replaced x y a)) is) ∙ ap (on1 (g u.0)) (f u.1) ∙ told2 g a b (replaced x y a k) (replaced x y b)

  parts3 : (g : Node → Node → Node → Node) (a b c : Node) (l : Option ℕ) → swap x y a l ≡ onward l a (replaced x y a) → ((m : Option ℕ) → swap x y b m ≡ onward m b (replaced x y b)) → ((m : Option ℕ) → swap x y c m ≡ onward m c (replaced x y c)) → (k : ℕ) → l ≡ Some k →
      on3 g (swap x y a l) (swap x y b) (swap x y c) ≡ told (g a b c) (on_in (λ d. g d b c) (replaced x y a k) (λ i. on_in (λ d. g a d c) (replaced x y b i) (λ h. on_in (g a b) (replaced x y c h) passed)))
  parts3 g a b c l e f h k is =
      let u = told a (replaced x y a k) in
      let v = onward u.1 b (replaced x y b) in
      ap (λ w. on3 g w (swap x y b) (swap x y c)) (e ∙ ap (λ m. onward m a (replaced x y a)) is) ∙ ap (λ w. on2 (g u.0) w (swap x y c)) (f u.1)
      ∙ ap (on1 (g u.0 v.0)) (h v.1) ∙ told3 g a b c (replaced x y a k) (replaced x y b) (replaced x y c)

  nodes_told : (a : Node) (ns : Nodes) (l : Option ℕ) → (let u = onward l a (replaced x y a) in let v = onward u.1 ns (replaced_among x y ns) in (node u.0 v.0, v.1)) ≡ onward l (node a ns) (replaced_among x y (node a ns))
  nodes_told a ns None = refl
  nodes_told a ns (Some k) = told2 node a ns (replaced x y a k) (replaced_among x y ns)

  mutual
    swap_told : (p : Node) (l : Option ℕ) → swap x y p l ≡ onward l p (replaced x y p)
    swap_told (num n) l = reached_told (same_node x (num n)) y (num n) l (num n, l) passed (λ k is. ap (λ m. (num n, m)) is)
    swap_told (flag n) l = reached_told (same_node x (flag n)) y (flag n) l (flag n, l) passed (λ k is. ap (λ m. (flag n, m)) is)
    swap_told (symbol n) l = reached_told (same_node x (symbol n)) y (symbol n) l (symbol n, l) passed (λ k is. ap (λ m. (symbol n, m)) is)
    swap_told (bound n) l = reached_told (same_node x (bound n)) y (bound n) l (bound n, l) passed (λ k is. ap (λ m. (bound n, m)) is)
    swap_told (op1 o a) l = reached_told (same_node x (op1 o a)) y (op1 o a) l _ (λ j. on_in (op1 o) (replaced x y a j) passed) (parts1 (op1 o) a l (swap_told a l))
    swap_told (op2 o a b) l = reached_told (same_node x (op2 o a b)) y (op2 o a b) l _ (λ j. on_in (λ c. op2 o c b) (replaced x y a j) (λ i. on_in (op2 o a) (replaced x y b i) passed)) (parts2 (op2 o) a b l (swap_told a l) (swap_told b))
    swap_told (op3 o a b c) l = reached_told (same_node x (op3 o a b c)) y (op3 o a b c) l _ (λ j. on_in (λ d. op3 o d b c) (replaced x y a j) (λ i. on_in (λ d. op3 o a d c) (replaced x y b i) (λ h. on_in (op3 o a b) (replaced x y c h) passed))) (parts3 (op3 o) a b c l (swap_told a l) (swap_told b) (swap_told c))
    swap_told (opn o ns) l = reached_told (same_node x (opn o ns)) y (opn o ns) l _ (λ j. on_in (opn o) (replaced_among x y ns j) passed)
        (λ k is. ap (λ u. (opn o u.0, u.1)) (swap_among_told ns l ∙ ap (λ m. onward m ns (replaced_among x y ns)) is) ∙ told1 (opn o) ns (replaced_among x y ns k))
    swap_told (quant q a b c) l = reached_told (same_node x (quant q a b c)) y (quant q a b c) l _ (λ j. on_in (λ d. quant q d b c) (replaced x y a j) (λ i. on_in (λ d. quant q a d c) (replaced x y b i) (λ h. on_in (quant q a b) (replaced x y c h) passed))) (parts3 (quant q) a b c l (swap_told a l) (swap_told b) (swap_told c))

    swap_among_told : (ns : Nodes) (l : Option ℕ) → swap_among x y ns l ≡ onward l ns (replaced_among x y ns)
    swap_among_told no_nodes None = refl
    swap_among_told no_nodes (Some k) = refl
    swap_among_told (node a ns) l =
        let u = onward l a (replaced x y a) in
        ap (λ v. let w = swap_among x y ns v.1 in (node v.0 w.0, w.1)) (swap_told a l) ∙ ap (λ w. (node u.0 w.0, w.1)) (swap_among_told ns u.1) ∙ nodes_told a ns l

  done_by : (p : Node) (r : Replaced Node) → (told p r).1 ≡ None → r ≡ done (told p r).0
  done_by p (done q) e = refl
  done_by p (passed k) e = absurd (cc)

  passed_by : (p : Node) (r : Replaced Node) (k : ℕ) → (told p r).1 ≡ Some k → r ≡ passed k
  passed_by p (done q) k e = absurd (cc)
  passed_by p (passed j) k e = let is : j ≡ k = cc in ap passed is

  pub swap_done : (p q : Node) (k : ℕ) → q ≡ (swap x y p (Some k)).0 → None ≡ (swap x y p (Some k)).1 → replaced x y p k ≡ done q
  swap_done p q k e n =
      let is = swap_told p (Some k) in
      done_by p (replaced x y p k) (sym (n ∙ ap (λ u. u.1) is)) ∙ ap done (sym (e ∙ ap (λ u. u.0) is))

  pub swap_passed : (p : Node) (k j : ℕ) → Some j ≡ (swap x y p (Some k)).1 → replaced x y p k ≡ passed j
  swap_passed p k j n = passed_by p (replaced x y p k) j (sym (n ∙ ap (λ u. u.1) (swap_told p (Some k))))

  -- ---- the turns of the code

  pub swap_none : (p : Node) → swap x y p None ≡ (p, None)
  swap_none (num n) = refl
  swap_none (flag n) = refl
  swap_none (symbol n) = refl
  swap_none (bound n) = refl
  swap_none (op1 o a) = refl
  swap_none (op2 o a b) = refl
  swap_none (op3 o a b c) = refl
  swap_none (opn o ns) = refl
  swap_none (quant q a b c) = refl

  entered_swap : (p : Node) (k : ℕ) → swap x y p (Some k) ≡ entered (same_node x p) y p k (swap_parts x y p (Some k))
  entered_swap (num n) k = refl
  entered_swap (flag n) k = refl
  entered_swap (symbol n) k = refl
  entered_swap (bound n) k = refl
  entered_swap (op1 o a) k = refl
  entered_swap (op2 o a b) k = refl
  entered_swap (op3 o a b c) k = refl
  entered_swap (opn o ns) k = refl
  entered_swap (quant q a b c) k = refl

  pub swap_met : (p : Node) (k : ℕ) → same_node x p ≡ true → swap x y p (Some k) ≡ met y p k
  swap_met p k e = entered_swap p k ∙ ap (λ b. entered b y p k (swap_parts x y p (Some k))) e

  pub swap_apart : (p : Node) (k : ℕ) → same_node x p ≡ false → swap x y p (Some k) ≡ swap_parts x y p (Some k)
  swap_apart p k e = entered_swap p k ∙ ap (λ b. entered b y p k (swap_parts x y p (Some k))) e

  abbrev then_swapped : Nodes × Option ℕ → Node → Nodes × Option ℕ
  then_swapped u a = let v = swap x y a u.1 in (then_node u.0 v.0, v.1)

  among_then : (ns : Nodes) (a : Node) (l : Option ℕ) → swap_among x y (then_node ns a) l ≡ then_swapped (swap_among x y ns l) a
  among_then no_nodes a l = refl
  among_then (node b ns) a l = ap (λ v. (node (swap x y b l).0 v.0, v.1)) (among_then ns a (swap x y b l).1)

  -- one turn of a loop over terms
  pub among_more : (items xs new : List Term) (i : ℕ) (t v : Term) (l m n : Option ℕ) → i < length items → t ≡ get_or items i t → (terms xs ≡ (swap_among x y (terms (take i items)) l).0) × (m ≡ (swap_among x y (terms (take i items)) l).1) → term v ≡ (swap x y (term t) m).0 → n ≡ (swap x y (term t) m).1 → new ≡ xs ++ v ∷ [] →
      (terms new ≡ (swap_among x y (terms (take (i + 1) items)) l).0) × (n ≡ (swap_among x y (terms (take (i + 1) items)) l).1)
  among_more items xs new i t v l m n h is before e r more =
      let read : take (i + 1) items ≡ take i items ++ t ∷ [] = take_more items i t h ∙ ap (λ z. take i items ++ z ∷ []) (sym is) in
      let past = swap_among x y (terms (take i items)) l in
      let turn = ap (λ ys. swap_among x y (terms ys) l) read ∙ ap (λ ns. swap_among x y ns l) (terms-push (take i items) t) ∙ among_then (terms (take i items)) (term t) l in
      let value = e ∙ ap (λ k. (swap x y (term t) k).0) before.1 in (
        ap terms more ∙ terms-push xs v ∙ ap (λ ns. then_node ns (term v)) before.0 ∙ ap (then_node past.0) value ∙ sym (ap (λ u. u.0) turn),
        r ∙ ap (λ k. (swap x y (term t) k).1) before.1 ∙ sym (ap (λ u. u.1) turn),
      )
