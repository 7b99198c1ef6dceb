-- Which checks are among the sites of a program.
use Rattle.std.proofs.Common.{◌≡◌, ℕ, zero, suc, ◌+◌, ◌<◌, ◌≤◌, map, arith, refl, ap, sym, ◌∙◌, subst, List, [], ◌∷◌, ◌++◌, Bool, true, false, inl, inr}
use Rattle.std.specs.Prelude.{cond, Some, None, slice_get, ◌⊎◌}
use Rattle.std.specs.List.{Contains}
use Rattle.std.proofs.lemmas.List.Elements.{Contains-append_left, Contains-append_right, Contains-append_cases}
use Rattle.typed_units.specs.declared.checks.SiteKey.{SiteKey}
use Rattle.typed_units.specs.Sites.{same_site, site_before}
use Rattle.typed_units.proofs.Sites.{same_is_equal, same_itself, before_chain}
use Rattle.typed_units.specs.Syntax.{Routine, Text}
use Rattle.unit_nodes.specs.Nodes.{Node, routine_onto}
use Rattle.check_sites.specs.declared.site.Site.{Site}
use Rattle.check_sites.specs.Has.{HasCheck}
use Rattle.check_sites.specs.Ordered.{sites_of}
use Rattle.check_sites.specs.Sites.{checks_from, checks_of, node_checks}
use Rattle.check_sites.proofs.Keys.{by_cases, differ_after}
use Rattle.check_sites.proofs.Ascending.{Ascends, AscendsFrom, ascends-in_order, first_at, first-in_order}

-- ---- elements of lists

contains_head : {X : Type 0} (x : X) (xs : List X) → Contains (x ∷ xs) x
contains_head x xs = (0, omega arith, refl)

contains_tail : {X : Type 0} (x y : X) (xs : List X) → Contains xs y → Contains (x ∷ xs) y
contains_tail x y xs (k, l, e) = (suc k, omega (arith, l), e)

contains_nil : {X : Type 0} (y : X) → Contains [] y → ⊥
contains_nil y (k, l, e) = omega (arith, l)

contains_cases : {X : Type 0} (x y : X) (xs : List X) → Contains (x ∷ xs) y → (x ≡ y) ⊎ Contains xs y
contains_cases x y xs (zero, l, e) = inl e
contains_cases x y xs (suc k, l, e) = inr (k, omega (arith, l), e)

some_same : {X : Type 0} (x y : X) → Some x ≡ Some y → x ≡ y
some_same x y e = cc

zero_plus : (k : ℕ) → 0 + k ≡ k
zero_plus k = omega arith

abbrev owned : ℕ → SiteKey → Site
owned k c = record { key = c; owner = k }

contains_owned : (k : ℕ) (c : SiteKey) (cs : List SiteKey) → Contains cs c → Contains (map (λ x. owned k x) cs) (owned k c)
contains_owned k c [] h = absurd (contains_nil c h)
contains_owned k c (d ∷ ds) h =
    elim (contains_cases d c ds h) [
      | inl e ↦ subst (λ (x : SiteKey). Contains (map (λ y. owned k y) (d ∷ ds)) (owned k x)) e (contains_head (owned k d) (map (λ y. owned k y) ds))
      | inr i ↦ contains_tail (owned k d) (owned k c) (map (λ y. owned k y) ds) (contains_owned k c ds i)
    ]

record IsOwned (k : ℕ) (cs : List SiteKey) (s : Site) : Type 0 where
  pub owner : s.owner ≡ k
  pub key : Contains cs s.key

from_owned : (k : ℕ) (cs : List SiteKey) (s : Site) → Contains (map (λ x. owned k x) cs) s → IsOwned k cs s
from_owned k [] s h = absurd (contains_nil s h)
from_owned k (d ∷ ds) s h =
    elim (contains_cases (owned k d) s (map (λ x. owned k x) ds) h) [
      | inl e ↦ record { owner = sym (ap (λ (x : Site). x.owner) e); key = subst (λ (x : Site). Contains (d ∷ ds) x.key) e (contains_head d ds) }
      | inr i ↦ let r = from_owned k ds s i in record { owner = r.owner; key = contains_tail d s.key ds r.key }
    ]

-- ---- checks of nodes, of subprograms

of_node : (t : Text) (k : ℕ) (n : Node) (c : SiteKey) (ns : List Node) → Contains ns n → Contains (node_checks t n) c → Contains (checks_of t k ns) (owned k c)
of_node t k n c [] h w = absurd (contains_nil n h)
of_node t k n c (m ∷ ms) h w =
    elim (contains_cases m n ms h) [
      | inl e ↦ Contains-append_left (map (λ x. owned k x) (node_checks t m)) (checks_of t k ms) (owned k c)
          (contains_owned k c (node_checks t m) (subst (λ (x : Node). Contains (node_checks t x) c) (sym e) w))
      | inr i ↦ Contains-append_right (map (λ x. owned k x) (node_checks t m)) (checks_of t k ms) (owned k c) (of_node t k n c ms i w)
    ]

record OfNode (t : Text) (k : ℕ) (ns : List Node) (s : Site) : Type 0 where
  pub owner : s.owner ≡ k
  pub node : Node
  pub among : Contains ns node
  pub check : Contains (node_checks t node) s.key

from_nodes : (t : Text) (k : ℕ) (ns : List Node) (s : Site) → Contains (checks_of t k ns) s → OfNode t k ns s
from_nodes t k [] s h = absurd (contains_nil s h)
from_nodes t k (n ∷ ns) s h =
    elim (Contains-append_cases (map (λ x. owned k x) (node_checks t n)) (checks_of t k ns) s h) [
      | inl i ↦ let r = from_owned k (node_checks t n) s i in record { owner = r.owner; node = n; among = contains_head n ns; check = r.key }
      | inr i ↦ let r = from_nodes t k ns s i in record { owner = r.owner; node = r.node; among = contains_tail n r.node ns r.among; check = r.check }
    ]

abbrev own : Text → ℕ → Routine → List Site
own t k r = checks_of t k (routine_onto [] r)

of_routine : (t : Text) (j k : ℕ) (r : Routine) (n : Node) (c : SiteKey) (rs : List Routine) → slice_get rs j ≡ Some r → Contains (routine_onto [] r) n → Contains (node_checks t n) c → Contains (checks_from t k rs) (owned (k + j) c)
of_routine t j k r n c [] e h w = absurd (cc)
of_routine t zero k r n c (q ∷ qs) e h w =
    let same : q ≡ r = some_same q r e in
    let number : k ≡ k + 0 = omega arith in
    Contains-append_left (own t k q) (checks_from t (suc k) qs) (owned (k + 0) c)
    (subst (λ (m : ℕ). Contains (own t k q) (owned m c)) number
    (of_node t k n c (routine_onto [] q) (subst (λ (x : Routine). Contains (routine_onto [] x) n) (sym same) h) w))
of_routine t (suc j) k r n c (q ∷ qs) e h w =
    let number : suc k + j ≡ k + suc j = omega arith in
    Contains-append_right (own t k q) (checks_from t (suc k) qs) (owned (k + suc j) c)
    (subst (λ (m : ℕ). Contains (checks_from t (suc k) qs) (owned m c)) number (of_routine t j (suc k) r n c qs e h w))

record OfRoutine (t : Text) (k : ℕ) (rs : List Routine) (s : Site) : Type 0 where
  pub number : ℕ
  pub owner : s.owner ≡ k + number
  pub routine : Routine
  pub numbered : slice_get rs number ≡ Some routine
  pub node : Node
  pub among : Contains (routine_onto [] routine) node
  pub check : Contains (node_checks t node) s.key

from_routines : (t : Text) (k : ℕ) (rs : List Routine) (s : Site) → Contains (checks_from t k rs) s → OfRoutine t k rs s
from_routines t k [] s h = absurd (contains_nil s h)
from_routines t k (r ∷ rs) s h =
    elim (Contains-append_cases (own t k r) (checks_from t (suc k) rs) s h) [
      | inl i ↦ let f = from_nodes t k (routine_onto [] r) s i in
          let o = f.owner in
          record { number = 0; owner = omega (arith, o); routine = r; numbered = refl; node = f.node; among = f.among; check = f.check }
      | inr i ↦ let f = from_routines t (suc k) rs s i in
          let o = f.owner in
          record { number = suc f.number; owner = omega (arith, o); routine = f.routine; numbered = f.numbered; node = f.node; among = f.among; check = f.check }
    ]

-- ---- the first site of a key

first_here : (s : Site) (ss : List Site) → first_at s.key (s ∷ ss) ≡ Some s
first_here s ss = ap (λ (b : Bool). cond b (Some s) (first_at s.key ss)) (same_itself s.key)

above : (d : SiteKey) (s : Site) (ss : List Site) → AscendsFrom d ss → Contains ss s → site_before d s.key ≡ true
above d s [] a h = absurd (contains_nil s h)
above d s (x ∷ xs) a h =
    elim (contains_cases x s xs h) [
      | inl e ↦ subst (λ (y : Site). site_before d y.key ≡ true) e a.0
      | inr i ↦ before_chain d x.key s.key a.0 (above x.key s xs a.1 i)
    ]

first_from : (d : SiteKey) (s : Site) (ss : List Site) → AscendsFrom d ss → Contains ss s → first_at s.key ss ≡ Some s
first_from d s [] a h = absurd (contains_nil s h)
first_from d s (x ∷ xs) a h =
    elim (contains_cases x s xs h) [
      | inl e ↦ subst (λ (y : Site). first_at y.key (x ∷ xs) ≡ Some y) e (first_here x xs)
      | inr i ↦ ap (λ (b : Bool). cond b (Some x) (first_at s.key xs)) (differ_after x.key s.key (above x.key s xs a.1 i)) ∙ first_from x.key s xs a.1 i
    ]

first_among : (s : Site) (ss : List Site) → Ascends ss → Contains ss s → first_at s.key ss ≡ Some s
first_among s [] a h = absurd (contains_nil s h)
first_among s (x ∷ xs) a h =
    elim (contains_cases x s xs h) [
      | inl e ↦ subst (λ (y : Site). first_at y.key (x ∷ xs) ≡ Some y) e (first_here x xs)
      | inr i ↦ ap (λ (b : Bool). cond b (Some x) (first_at s.key xs)) (differ_after x.key s.key (above x.key s xs a i)) ∙ first_from x.key s xs a i
    ]

record IsFirst (c : SiteKey) (ss : List Site) (s : Site) : Type 0 where
  pub among : Contains ss s
  pub key : s.key ≡ c

is_first : (c : SiteKey) (ss : List Site) (s : Site) → first_at c ss ≡ Some s → IsFirst c ss s
is_first c [] s e = absurd (cc)
is_first c (x ∷ xs) s e =
    by_cases (same_site c x.key)
    (λ t.
    let h : x ≡ s = some_same x s (sym (ap (λ (b : Bool). cond b (Some x) (first_at c xs)) t) ∙ e) in
    record { among = subst (λ (y : Site). Contains (x ∷ xs) y) h (contains_head x xs); key = sym (ap (λ (y : Site). y.key) h) ∙ sym (same_is_equal c x.key t) })
    (λ f.
    let r = is_first c xs s (sym (ap (λ (b : Bool). cond b (Some x) (first_at c xs)) f) ∙ e) in
    record { among = contains_tail x s xs r.among; key = r.key })

-- some site has the key
some_first : (s : Site) (ss : List Site) → Contains ss s → (x : Site) × (first_at s.key ss ≡ Some x)
some_first s [] h = absurd (contains_nil s h)
some_first s (x ∷ xs) h =
    by_cases (same_site s.key x.key)
    (λ t. (x, ap (λ (b : Bool). cond b (Some x) (first_at s.key xs)) t))
    (λ f.
    let step : first_at s.key (x ∷ xs) ≡ first_at s.key xs = ap (λ (b : Bool). cond b (Some x) (first_at s.key xs)) f in
    elim (contains_cases x s xs h) [
      | inl e ↦ let u : true ≡ false = sym (same_itself s.key) ∙ ap (λ (y : Site). same_site s.key y.key) (sym e) ∙ f in absurd (cc)
      | inr i ↦ let r = some_first s xs i in (r.0, step ∙ r.1)
    ])

-- ---- the laws

abbrev checks : Text → List Site
checks t = checks_from t 0 t.routines

has_owned : (t : Text) (k : ℕ) (c : SiteKey) → HasCheck t k c → Contains (checks t) (owned k c)
has_owned t k c h =
    subst (λ (m : ℕ). Contains (checks t) (owned m c)) (zero_plus k) (of_routine t k 0 h.routine h.node c t.routines h.numbered h.among h.check)

pub each_site : (t : Text) (k : ℕ) (c : SiteKey) → HasCheck t k c → (s : Site) × Contains (sites_of t) s × (s.key ≡ c)
each_site t k c h =
    let f = some_first (owned k c) (checks t) (has_owned t k c h) in
    let r = is_first c (sites_of t) f.0 (first-in_order c (checks t) ∙ f.1) in
    (f.0, r.among, r.key)

first_check : (t : Text) (s : Site) → Contains (sites_of t) s → first_at s.key (checks t) ≡ Some s
first_check t s h = sym (first-in_order s.key (checks t)) ∙ first_among s (sites_of t) (ascends-in_order (checks t)) h

pub only_checks : (t : Text) (s : Site) → Contains (sites_of t) s → HasCheck t s.owner s.key
only_checks t s h =
    let r = is_first s.key (checks t) s (first_check t s h) in
    let f = from_routines t 0 t.routines s r.among in
    let o = f.owner in
    let e : f.number ≡ s.owner = omega (arith, o) in
    record { routine = f.routine; numbered = subst (λ (m : ℕ). slice_get t.routines m ≡ Some f.routine) e f.numbered; node = f.node; among = f.among; check = f.check }

-- ---- owners rise

abbrev OwnersFrom : ℕ → List Site → Type 0
OwnersFrom k ss = (s : Site) → Contains ss s → k ≤ s.owner

owners_of : (t : Text) (k : ℕ) (rs : List Routine) → OwnersFrom k (checks_from t k rs)
owners_of t k rs s h = let f = from_routines t k rs s h in let o = f.owner in omega (arith, o)

first_append : (c : SiteKey) (xs ys : List Site) (s : Site) → first_at c (xs ++ ys) ≡ Some s → (first_at c xs ≡ Some s) ⊎ ((first_at c xs ≡ None) × (first_at c ys ≡ Some s))
first_append c [] ys s e = inr (refl, e)
first_append c (x ∷ xs) ys s e =
    by_cases (same_site c x.key)
    (λ t. inl (ap (λ (b : Bool). cond b (Some x) (first_at c xs)) t ∙ sym (ap (λ (b : Bool). cond b (Some x) (first_at c (xs ++ ys))) t) ∙ e))
    (λ f.
    let step : first_at c (x ∷ xs) ≡ first_at c xs = ap (λ (b : Bool). cond b (Some x) (first_at c xs)) f in
    elim (first_append c xs ys s (sym (ap (λ (b : Bool). cond b (Some x) (first_at c (xs ++ ys))) f) ∙ e)) [
      | inl i ↦ inl (step ∙ i)
      | inr i ↦ inr (step ∙ i.0, i.1)
    ])

none_some : (x : Site) → None ≡ Some x → ⊥
none_some x e = absurd (cc)

first_least : (t : Text) (k : ℕ) (rs : List Routine) (s y : Site) → first_at y.key (checks_from t k rs) ≡ Some s → Contains (checks_from t k rs) y → s.owner ≤ y.owner
first_least t k [] s y e h = absurd (contains_nil y h)
first_least t k (r ∷ rs) s y e h =
    elim (first_append y.key (own t k r) (checks_from t (suc k) rs) s e) [
      | inl i ↦
          let f = from_nodes t k (routine_onto [] r) s (is_first y.key (own t k r) s i).among in
          let o = f.owner in
          let l = owners_of t k (r ∷ rs) y h in
          omega (arith, o, l)
      | inr i ↦
          elim (Contains-append_cases (own t k r) (checks_from t (suc k) rs) y h) [
            | inl j ↦ let u = some_first y (own t k r) j in absurd (none_some u.0 (sym i.0 ∙ u.1))
            | inr j ↦ first_least t (suc k) rs s y i.1 j
          ]
    ]

pub first_owner : (t : Text) (s : Site) (k : ℕ) → Contains (sites_of t) s → HasCheck t k s.key → s.owner ≤ k
first_owner t s k h w = first_least t 0 t.routines s (owned k s.key) (first_check t s h) (has_owned t k s.key w)

-- ---- the order

at_from : (d : SiteKey) (ss : List Site) (j : ℕ) (x : Site) → AscendsFrom d ss → slice_get ss j ≡ Some x → site_before d x.key ≡ true
at_from d [] j x a e = absurd (cc)
at_from d (s ∷ ss) zero x a e = subst (λ (y : Site). site_before d y.key ≡ true) (some_same s x e) a.0
at_from d (s ∷ ss) (suc j) x a e = before_chain d s.key x.key a.0 (at_from s.key ss j x a.1 e)

ascends_tail : (s : Site) (ss : List Site) → Ascends (s ∷ ss) → Ascends ss
ascends_tail s [] a = tt
ascends_tail s (x ∷ xs) a = a.1

in_turn : (ss : List Site) (i j : ℕ) (x y : Site) → Ascends ss → slice_get ss i ≡ Some x → slice_get ss j ≡ Some y → i < j → site_before x.key y.key ≡ true
in_turn [] i j x y a e f l = absurd (cc)
in_turn (s ∷ ss) i zero x y a e f l = absurd (omega (arith, l))
in_turn (s ∷ ss) zero (suc j) x y a e f l = subst (λ (z : Site). site_before z.key y.key ≡ true) (some_same s x e) (at_from s.key ss j y a f)
in_turn (s ∷ ss) (suc i) (suc j) x y a e f l = in_turn ss i j x y (ascends_tail s ss a) e f (omega (arith, l))

pub ascending : (t : Text) (i j : ℕ) (c d : Site) → slice_get (sites_of t) i ≡ Some c → slice_get (sites_of t) j ≡ Some d → i < j → site_before c.key d.key ≡ true
ascending t i j c d e f l = in_turn (sites_of t) i j c d (ascends-in_order (checks t)) e f l
