-- Equals for equals at one occurrence of a term.
use Rattle.std.proofs.Common.{◌≡◌, refl, sym, ◌∙◌, ap, ℕ, zero, suc, Bool, true, false, ◌&&◌, List, [], ◌∷◌, Option, Some, None}
use Rattle.std.proofs.Math.Path.{fun_ext}
use Rattle.std.proofs.lemmas.Bool.{and_parts, and_from}
use Rattle.std.specs.Prelude.{ℤ}
use Rattle.logic_terms.specs.Node.{tru, eq, iff, Node, num, flag, sym as symbol, bound, op1, op2, op3, opn, quant, Nodes, no_nodes, node}
use Rattle.logic_terms.specs.Value.{Kind, truths, Value, number, value, as_truth}
use Rattle.logic_terms.specs.Meaning.{World, meaning, meanings, holds, apply1, apply2, apply3, applyn}
use Rattle.logic_terms.specs.Binding.{is_closed}
use Rattle.logic_terms.specs.Same.{same_node}
use Rattle.logic_terms.specs.Sorting.{IsWorldOf, on1, on2}
use Rattle.logic_terms.proofs.Substitution.{over, meaning-more}
use Rattle.logic_terms.proofs.SameNodes.{same_node-is}
use Rattle.cert_lines.specs.Line.{replacing}
use Rattle.cert_rules.specs.Judged.{and_then}
use Rattle.cert_rules.specs.Context.{Context, signature, next_symbol, kind_in, is_formula}
use Rattle.cert_rules.specs.Replacing.{Replaced, done, passed, on_in, here, replaced, replaced_among, directed, replacing_clause, replacement}
use Rattle.cert_rules.specs.Rules.{judge}
use Rattle.cert_rules.proofs.Names.{names_below, all_names_below}
use Rattle.cert_rules.proofs.NumberedClauses.{IsSound, when_sound}
use Rattle.cert_rules.proofs.Opposite.{negated_below}
use Rattle.cert_rules.proofs.Sorting.{kind_below, kind_closed, formula_kind}
use Rattle.cert_rules.proofs.Premises.{unless_negated, last_holds, last_below}
use Rattle.cert_rules.proofs.Values.{value_has, same_value-is, equals-are}

-- ---- the meaning is kept

-- a node with the occurrence replaced has the value of the node
abbrev Keeps : {A V : Type 0} → (A → V) → A → Replaced A → Type 0
Keeps f a (done b) = f b ≡ f a
Keeps f a (passed k) = Unit {0}

module _ (x y : Node) (w : World) (x_closed : is_closed x ≡ true) (y_closed : is_closed y ≡ true) (equal : meaning w [] x ≡ meaning w [] y) where
  everywhere : (vs : List Value) → meaning w vs y ≡ meaning w vs x
  everywhere vs = meaning-more w [] vs y y_closed ∙ sym equal ∙ sym (meaning-more w [] vs x x_closed)

  here-keeps : (vs : List Value) (a : Node) (b : Bool) (k : ℕ) (g : ℕ → Replaced Node) → (b ≡ true → x ≡ a) → ((j : ℕ) → Keeps (meaning w vs) a (g j)) → Keeps (meaning w vs) a (here b y k g)
  here-keeps vs a true zero g e h = everywhere vs ∙ ap (meaning w vs) (e refl)
  here-keeps vs a true (suc k) g e h = tt
  here-keeps vs a false k g e h = h k

  on-keeps : {A B V W : Type 0} (m : A → V) (n : B → W) (f : A → B) (a : A) (b : B) (t : Replaced A) (g : ℕ → Replaced B) → Keeps m a t → ((c : A) → m c ≡ m a → n (f c) ≡ n b) → ((j : ℕ) → Keeps n b (g j)) → Keeps n b (on_in f t g)
  on-keeps m n f a b (done c) g k h r = h c k
  on-keeps m n f a b (passed j) g k h r = r j

  all-keep : {A : Type 0} (m : A → ℤ → Value) (a : A) (t : Replaced A) → ((n : ℤ) → Keeps (λ c. m c n) a t) → Keeps m a t
  all-keep m a (done b) h = fun_ext h
  all-keep m a (passed k) h = tt

  abbrev body : List Value → Node → ℤ → Value
  body vs p i = meaning w (number i ∷ vs) p

  mutual
    replaced-keeps : (vs : List Value) (p : Node) (k : ℕ) → Keeps (meaning w vs) p (replaced x y p k)
    replaced-keeps vs (num n) k = here-keeps vs _ _ k _ (same_node-is x _) (λ j. tt)
    replaced-keeps vs (flag n) k = here-keeps vs _ _ k _ (same_node-is x _) (λ j. tt)
    replaced-keeps vs (symbol n) k = here-keeps vs _ _ k _ (same_node-is x _) (λ j. tt)
    replaced-keeps vs (bound n) k = here-keeps vs _ _ k _ (same_node-is x _) (λ j. tt)
    replaced-keeps vs (op1 o a) k = here-keeps vs _ _ k _ (same_node-is x _) (λ j.
        on-keeps (meaning w vs) (meaning w vs) (op1 o) a (op1 o a) _ _ (replaced-keeps vs a j) (λ c e. ap (apply1 o) e) (λ i. tt))
    replaced-keeps vs (op2 o a b) k = here-keeps vs _ _ k _ (same_node-is x _) (λ j.
        on-keeps (meaning w vs) (meaning w vs) (λ c. op2 o c b) a (op2 o a b) _ _ (replaced-keeps vs a j) (λ c e. ap (λ v. apply2 o v (meaning w vs b)) e) (λ i.
        on-keeps (meaning w vs) (meaning w vs) (op2 o a) b (op2 o a b) _ _ (replaced-keeps vs b i) (λ c e. ap (apply2 o (meaning w vs a)) e) (λ h. tt)))
    replaced-keeps vs (op3 o a b c) k = here-keeps vs _ _ k _ (same_node-is x _) (λ j.
        on-keeps (meaning w vs) (meaning w vs) (λ d. op3 o d b c) a (op3 o a b c) _ _ (replaced-keeps vs a j) (λ d e. ap (λ v. apply3 o v (meaning w vs b) (meaning w vs c)) e) (λ i.
        on-keeps (meaning w vs) (meaning w vs) (λ d. op3 o a d c) b (op3 o a b c) _ _ (replaced-keeps vs b i) (λ d e. ap (λ v. apply3 o (meaning w vs a) v (meaning w vs c)) e) (λ h.
        on-keeps (meaning w vs) (meaning w vs) (op3 o a b) c (op3 o a b c) _ _ (replaced-keeps vs c h) (λ d e. ap (apply3 o (meaning w vs a) (meaning w vs b)) e) (λ g. tt))))
    replaced-keeps vs (opn o ns) k = here-keeps vs _ _ k _ (same_node-is x _) (λ j.
        on-keeps (meanings w vs) (meaning w vs) (opn o) ns (opn o ns) _ _ (replaced_among-keeps vs ns j) (λ c e. ap (applyn w o) e) (λ i. tt))
    replaced-keeps vs (quant q l u p) k = here-keeps vs _ _ k _ (same_node-is x _) (λ j.
        on-keeps (meaning w vs) (meaning w vs) (λ d. quant q d u p) l (quant q l u p) _ _ (replaced-keeps vs l j) (λ d e. ap (λ v. over q v (meaning w vs u) (λ n. as_truth (body vs p n))) e) (λ i.
        on-keeps (meaning w vs) (meaning w vs) (λ d. quant q l d p) u (quant q l u p) _ _ (replaced-keeps vs u i) (λ d e. ap (λ v. over q (meaning w vs l) v (λ n. as_truth (body vs p n))) e) (λ h.
        on-keeps (body vs) (meaning w vs) (quant q l u) p (quant q l u p) _ _ (all-keep (body vs) p _ (λ n. replaced-keeps (number n ∷ vs) p h)) (λ d e. ap (λ (f : ℤ → Value). over q (meaning w vs l) (meaning w vs u) (λ n. as_truth (f n))) e) (λ g. tt))))

    replaced_among-keeps : (vs : List Value) (ns : Nodes) (k : ℕ) → Keeps (meanings w vs) ns (replaced_among x y ns k)
    replaced_among-keeps vs no_nodes k = tt
    replaced_among-keeps vs (node a ns) k =
        on-keeps (meaning w vs) (meanings w vs) (λ d. node d ns) a (node a ns) _ _ (replaced-keeps vs a k) (λ d e. ap (λ v. value v (meanings w vs ns)) e) (λ i.
        on-keeps (meanings w vs) (meanings w vs) (node a) ns (node a ns) _ _ (replaced_among-keeps vs ns i) (λ d e. ap (value (meaning w vs a)) e) (λ h. tt))

-- ---- no symbol comes in but those of the new term

abbrev Below : {A : Type 0} → (A → Bool) → Replaced A → Type 0
Below f (done b) = f b ≡ true
Below f (passed k) = Unit {0}

module _ (x y : Node) (d : ℕ) (y_below : names_below d y ≡ true) where
  here-below : (b : Bool) (k : ℕ) (g : ℕ → Replaced Node) → ((j : ℕ) → Below (names_below d) (g j)) → Below (names_below d) (here b y k g)
  here-below true zero g h = y_below
  here-below true (suc k) g h = tt
  here-below false k g h = h k

  on-below : {A B : Type 0} (m : A → Bool) (n : B → Bool) (f : A → B) (t : Replaced A) (g : ℕ → Replaced B) → Below m t → ((c : A) → m c ≡ true → n (f c) ≡ true) → ((j : ℕ) → Below n (g j)) → Below n (on_in f t g)
  on-below m n f (done c) g k h r = h c k
  on-below m n f (passed j) g k h r = r j

  mutual
    replaced-below : (p : Node) (k : ℕ) → names_below d p ≡ true → Below (names_below d) (replaced x y p k)
    replaced-below (num n) k h = here-below (same_node x (num n)) k passed (λ j. tt)
    replaced-below (flag n) k h = here-below (same_node x (flag n)) k passed (λ j. tt)
    replaced-below (symbol n) k h = here-below (same_node x (symbol n)) k passed (λ j. tt)
    replaced-below (bound n) k h = here-below (same_node x (bound n)) k passed (λ j. tt)
    replaced-below (op1 o a) k h = here-below _ k _ (λ j.
        on-below (names_below d) (names_below d) (op1 o) _ _ (replaced-below a j h) (λ c e. e) (λ i. tt))
    replaced-below (op2 o a b) k h = let p = and_parts _ _ h in here-below _ k _ (λ j.
        on-below (names_below d) (names_below d) (λ c. op2 o c b) _ _ (replaced-below a j p.0) (λ c e. and_from _ _ e p.1) (λ i.
        on-below (names_below d) (names_below d) (op2 o a) _ _ (replaced-below b i p.1) (λ c e. and_from _ _ p.0 e) (λ g. tt)))
    replaced-below (op3 o a b c) k h = let p = and_parts _ _ h in let q = and_parts _ _ p.1 in here-below _ k _ (λ j.
        on-below (names_below d) (names_below d) (λ z. op3 o z b c) _ _ (replaced-below a j p.0) (λ z e. and_from _ _ e p.1) (λ i.
        on-below (names_below d) (names_below d) (λ z. op3 o a z c) _ _ (replaced-below b i q.0) (λ z e. and_from _ _ p.0 (and_from _ _ e q.1)) (λ g.
        on-below (names_below d) (names_below d) (op3 o a b) _ _ (replaced-below c g q.1) (λ z e. and_from _ _ p.0 (and_from _ _ q.0 e)) (λ f. tt))))
    replaced-below (opn o ns) k h = here-below _ k _ (λ j.
        on-below (all_names_below d) (names_below d) (opn o) _ _ (replaced_among-below ns j h) (λ c e. e) (λ i. tt))
    replaced-below (quant o a b c) k h = let p = and_parts _ _ h in let q = and_parts _ _ p.1 in here-below _ k _ (λ j.
        on-below (names_below d) (names_below d) (λ z. quant o z b c) _ _ (replaced-below a j p.0) (λ z e. and_from _ _ e p.1) (λ i.
        on-below (names_below d) (names_below d) (λ z. quant o a z c) _ _ (replaced-below b i q.0) (λ z e. and_from _ _ p.0 (and_from _ _ e q.1)) (λ g.
        on-below (names_below d) (names_below d) (quant o a b) _ _ (replaced-below c g q.1) (λ z e. and_from _ _ p.0 (and_from _ _ q.0 e)) (λ f. tt))))

    replaced_among-below : (ns : Nodes) (k : ℕ) → all_names_below d ns ≡ true → Below (all_names_below d) (replaced_among x y ns k)
    replaced_among-below no_nodes k h = tt
    replaced_among-below (node a ns) k h = let p = and_parts _ _ h in
        on-below (names_below d) (all_names_below d) (λ z. node z ns) _ _ (replaced-below a k p.0) (λ z e. and_from _ _ e p.1) (λ i.
        on-below (all_names_below d) (all_names_below d) (node a) _ _ (replaced_among-below ns i p.1) (λ z e. and_from _ _ p.0 e) (λ g. tt))

-- ---- the rule

-- the clause of an equation, where a node came from the replacing
clause-sound : (w : World) (d : ℕ) (e p : Node) (r : Replaced Node) → names_below d e ≡ true → names_below d p ≡ true → (holds w [] e ≡ true → Keeps (meaning w []) p r) → Below (names_below d) r → IsSound w d (replacing_clause e p r)
clause-sound w d e p (done q) eb pb f b = (
  unless_negated w e _ (λ h. unless_negated w p _ (λ i. last_holds _ (ap as_truth (f h) ∙ i))),
  and_from _ _ (negated_below d e eb) (and_from _ _ (negated_below d p pb) (last_below _ b)),
)
clause-sound w d e p (passed k) eb pb f b = tt

-- two closed sides, in either direction
replaced-sound : (w : World) (d : ℕ) (e p x y : Node) (k : ℕ) → names_below d e ≡ true → names_below d p ≡ true → names_below d y ≡ true → is_closed x ≡ true → is_closed y ≡ true → (holds w [] e ≡ true → meaning w [] x ≡ meaning w [] y) → IsSound w d (replacing_clause e p (replaced x y p k))
replaced-sound w d e p x y k eb pb yb xc yc equal =
    clause-sound w d e p (replaced x y p k) eb pb (λ h. replaced-keeps x y w xc yc (equal h) [] p k) (replaced-below x y d yb p k pb)

turned-sound : (w : World) (d : ℕ) (e p x y : Node) (n k : ℕ) → names_below d e ≡ true → names_below d p ≡ true → names_below d x ≡ true → names_below d y ≡ true → is_closed x ≡ true → is_closed y ≡ true → (holds w [] e ≡ true → meaning w [] x ≡ meaning w [] y) → IsSound w d (and_then (directed n (x, y)) (λ t. replacing_clause e p (replaced t.0 t.1 p k)))
turned-sound w d e p x y zero k eb pb xb yb xc yc equal = replaced-sound w d e p x y k eb pb yb xc yc equal
turned-sound w d e p x y (suc zero) k eb pb xb yb xc yc equal = replaced-sound w d e p y x k eb pb xb yc xc (λ h. sym (equal h))
turned-sound w d e p x y (suc (suc n)) k eb pb xb yb xc yc equal = tt

eq_kinds : (x y : Option Kind) (k : Kind) → on2 eq x y ≡ Some k → (j : Kind) × (x ≡ Some j) × (i : Kind) × (y ≡ Some i)
eq_kinds None y k e = absurd (cc)
eq_kinds (Some j) None k e = absurd (cc)
eq_kinds (Some j) (Some i) k e = (j, refl, i, refl)

tru_kind : (x : Option Kind) (k : Kind) → on1 tru x ≡ Some k → x ≡ Some truths
tru_kind None k e = absurd (cc)
tru_kind (Some truths) k e = refl
tru_kind (Some j) k e = absurd (cc)

iff_kinds : (x y : Option Kind) (k : Kind) → on2 iff (on1 tru x) (on1 tru y) ≡ Some k → (x ≡ Some truths) × (y ≡ Some truths)
iff_kinds (Some truths) (Some truths) k e = (refl, refl)
iff_kinds None y k e = absurd (cc)
iff_kinds (Some truths) None k e = absurd (cc)
iff_kinds (Some truths) (Some j) k e = absurd (cc)
iff_kinds (Some j) y k e = absurd (cc)

module _ (c : Context) (w : World) (fits : IsWorldOf (signature c) w) where
  replacement_sound : (d k : ℕ) (e p : Node) → kind_in c e ≡ Some truths → kind_in c p ≡ Some truths → IsSound w (next_symbol c) (replacement d k e p)
  replacement_sound d k (op2 eq x y) p h i =
      let b = kind_below c (op2 eq x y) truths h in
      let q = and_parts (names_below (next_symbol c) x) (names_below (next_symbol c) y) b in
      let s = eq_kinds (kind_in c x) (kind_in c y) truths h in
      turned-sound w (next_symbol c) (op2 eq x y) p x y d k b (kind_below c p truths i) q.0 q.1 (kind_closed c x s.0 s.1) (kind_closed c y s.2 s.3) (λ t. same_value-is _ _ t)
  replacement_sound d k (op2 iff (op1 tru x) (op1 tru y)) p h i =
      let b = kind_below c (op2 iff (op1 tru x) (op1 tru y)) truths h in
      let q = and_parts (names_below (next_symbol c) x) (names_below (next_symbol c) y) b in
      let s = iff_kinds (kind_in c x) (kind_in c y) truths h in
      turned-sound w (next_symbol c) (op2 iff (op1 tru x) (op1 tru y)) p x y d k b (kind_below c p truths i) q.0 q.1 (kind_closed c x truths s.0) (kind_closed c y truths s.1)
      (λ t. equals-are w [] truths x y (value_has (signature c) w fits x truths s.0) (value_has (signature c) w fits y truths s.1) t)
  replacement_sound d k _ p h i = tt

pub replacing-sound : (c : Context) (w : World) → IsWorldOf (signature c) w → (d k : ℕ) (e p : Node) → IsSound w (next_symbol c) (judge c (replacing d k e p))
replacing-sound c w fits d k e p = when_sound w (next_symbol c) (is_formula c e && is_formula c p) (replacement d k e p) (λ h.
    let q = and_parts (is_formula c e) (is_formula c p) h in
    replacement_sound c w fits d k e p (formula_kind c e q.0) (formula_kind c p q.1))
