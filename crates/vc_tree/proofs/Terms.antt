-- Where an expression has a term, its value is the term's in a world that agrees with the frame.
use Rattle.std.proofs.Common.{◌≡◌, ℕ, zero, suc, refl, ap, sym, ◌∙◌, inl, inr, Bool, Option, Some, None, [], ℤ}
use Rattle.std.specs.Prelude.{not}
use Rattle.std.specs.Ordering.{int_eq}
use Rattle.std.specs.Int.RustNames.{int_lt, int_le}
use Rattle.ada_values.specs.Value as ada
use Rattle.ada_values.specs.declared.place.Place.{Place}
use Rattle.typed_units.specs.declared.operators.Relation.{Relation}
use Rattle.typed_units.specs.declared.operators.Relation.TheVariants as relation
use Rattle.typed_units.specs.declared.checks.SiteKey.{SiteKey}
use Rattle.typed_units.specs.Syntax.{Var, param, present, compare, Ex, at, static, read, op2}
use Rattle.ada_semantics.specs.Outcome.{gives, fails, bind, wanted}
use Rattle.ada_semantics.specs.Store.{Frame, whole}
use Rattle.ada_semantics.specs.Operators as run
use Rattle.ada_semantics.specs.Values.{Calls, value_of}
use Rattle.logic_terms.specs.Node as node
use Rattle.logic_terms.specs.Node.{Node}
use Rattle.logic_terms.specs.Value as logic
use Rattle.logic_terms.specs.Meaning.{World, meaning, holds}
use Rattle.vc_tree.specs.Rules.{and_then, related, term_of, formula_of, symbol_of}
use Rattle.vc_tree.proofs.Results.{bind_gives, bind_fails, none_some, short_gives, short_fails}
use Rattle.vc_tree.proofs.Numbers.{int_eq_same, int_lt_next}

-- a value and a term that are one number
pub record Same (w : World) (v : ada.Val) (a : Node) : Type 0 where
  pub size : ℤ
  pub value_is : v ≡ ada.number size
  pub term_is : meaning w [] a ≡ logic.number size

-- each parameter that is set is a number, and that of its symbol
abbrev pub Agree : Frame → World → Type 0
Agree f w = (k : ℕ) (v : ada.Val) → whole (f.state (param k)) ≡ Some v → Same w v (node.sym k)

wanted_gives : (o : Option ada.Val) (n : ℕ) (v : ada.Val) (m : ℕ) → wanted o n ≡ gives v m → o ≡ Some v
wanted_gives None n v m h = cc
wanted_gives (Some u) n v m h = cc

wanted_never_fails : (o : Option ada.Val) (n : ℕ) (c : SiteKey) → wanted o n ≡ fails c → ⊥
wanted_never_fails None n c h = cc
wanted_never_fails (Some u) n c h = cc

read_term : (f : Frame) (w : World) → Agree f w → (x : Var) (a : Node) → symbol_of x ≡ Some a → (v : ada.Val) → whole (f.state x) ≡ Some v → Same w v a
read_term f w g (param k) a h v e = let s : node.sym k ≡ a = cc in subst_term f w v s (g k v e)
  where
    subst_term : (f : Frame) (w : World) (v : ada.Val) {a b : Node} → a ≡ b → Same w v a → Same w v b
    subst_term f w v e s = record { size = s.size; value_is = s.value_is; term_is = ap (meaning w []) (sym e) ∙ s.term_is }
read_term f w g x a h v e = none_some a h

pub term_value : (calls : Calls) (f : Frame) (w : World) → Agree f w → (e : Ex) (a : Node) → term_of symbol_of e ≡ Some a
    → (n : ℕ) (v : ada.Val) (m : ℕ) → value_of calls e f n ≡ gives v m → Same w v a
term_value calls f w g (at p z x) a t zero v m h = short_gives v m h
term_value calls f w g (at p z (static (ada.number x))) a t (suc n) v m h =
    record { size = x; value_is = cc; term_is = let s : node.num x ≡ a = cc in ap (meaning w []) (sym s) }
term_value calls f w g (at p z (read b present x)) a t (suc n) v m h =
    read_term f w g x a t v (wanted_gives (whole (f.state x)) n v m h)
term_value calls f w g (at p z x) a t (suc n) v m h = none_some a t

pub term_never_fails : (calls : Calls) (f : Frame) (e : Ex) (a : Node) → term_of symbol_of e ≡ Some a
    → (n : ℕ) (c : SiteKey) → value_of calls e f n ≡ fails c → ⊥
term_never_fails calls f (at p z x) a t zero c h = short_fails c h
term_never_fails calls f (at p z (static (ada.number x))) a t (suc n) c h = cc
term_never_fails calls f (at p z (read b present x)) a t (suc n) c h = wanted_never_fails (whole (f.state x)) n c h
term_never_fails calls f (at p z x) a t (suc n) c h = none_some a t

-- ---- comparisons

same_flag : (w : World) (p : Node) → holds w [] p ≡ holds w [] p
same_flag w p = refl

equal_numbers : (w : World) (x y : ℤ) (a b : Node) → meaning w [] a ≡ logic.number x → meaning w [] b ≡ logic.number y
    → holds w [] (related relation.Equal a b) ≡ int_eq x y
equal_numbers w x y a b p q = rw (p, q) (sym (int_eq_same x y))

at_most_numbers : (w : World) (x y : ℤ) (a b : Node) → meaning w [] a ≡ logic.number x → meaning w [] b ≡ logic.number y
    → holds w [] (related relation.AtMost a b) ≡ int_le x y
at_most_numbers w x y a b p q = rw (p, q)

less_numbers : (w : World) (x y : ℤ) (a b : Node) → meaning w [] a ≡ logic.number x → meaning w [] b ≡ logic.number y
    → holds w [] (related relation.Less a b) ≡ int_lt x y
less_numbers w x y a b p q = rw (p, q) (sym (int_lt_next x y))

-- a comparison of two numbers is its formula
pub related_holds : (w : World) (r : Relation) (x y : ℤ) (a b : Node) → meaning w [] a ≡ logic.number x → meaning w [] b ≡ logic.number y
    → holds w [] (related r a b) ≡ run.ordered r x y
related_holds w relation.Equal x y a b p q = equal_numbers w x y a b p q
related_holds w relation.Differs x y a b p q = ap not (equal_numbers w x y a b p q)
related_holds w relation.Less x y a b p q = less_numbers w x y a b p q
related_holds w relation.AtMost x y a b p q = at_most_numbers w x y a b p q
related_holds w relation.Greater x y a b p q = less_numbers w y x b a q p
related_holds w relation.AtLeast x y a b p q = at_most_numbers w y x b a q p

-- what a comparison of two numbers gives
pub related_gives : (r : Relation) (x y : ℤ) (n : ℕ) → run.related r (ada.number x) (ada.number y) n ≡ gives (ada.truth (run.ordered r x y)) n
related_gives relation.Equal x y n = refl
related_gives relation.Differs x y n = refl
related_gives relation.Less x y n = refl
related_gives relation.AtMost x y n = refl
related_gives relation.Greater x y n = refl
related_gives relation.AtLeast x y n = refl

-- an expression that has a formula gives its truth
pub record Truth (w : World) (v : ada.Val) (p : Node) : Type 0 where
  pub flag : Bool
  pub value_is : v ≡ ada.truth flag
  pub holds_is : holds w [] p ≡ flag

pub record Both (t : Var → Option Node) (r : Relation) (a b : Ex) (p : Node) : Type 0 where
  pub left : Node
  pub right : Node
  pub left_is : term_of t a ≡ Some left
  pub right_is : term_of t b ≡ Some right
  pub formula_is : related r left right ≡ p

two_terms : (t : Var → Option Node) (r : Relation) (a b : Ex) (p : Node) (x y : Option Node) → term_of t a ≡ x → term_of t b ≡ y
    → and_then x (λ c. and_then y (λ d. Some (related r c d))) ≡ Some p → Both t r a b p
two_terms t r a b p None y e f h = none_some p h
two_terms t r a b p (Some c) None e f h = none_some p h
two_terms t r a b p (Some c) (Some d) e f h = record { left = c; right = d; left_is = e; right_is = f; formula_is = cc }

both_terms : (t : Var → Option Node) (p : Place) (z : ℕ) (r : Relation) (a b : Ex) (q : Node) → formula_of t (at p z (op2 (compare r) a b)) ≡ Some q → Both t r a b q
both_terms t p z r a b q h = two_terms t r a b q (term_of t a) (term_of t b) refl refl h

compared : (w : World) (r : Relation) (u v : ada.Val) (a b : Node) (n : ℕ) → Same w u a → Same w v b → (x : ada.Val) (m : ℕ)
    → run.related r u v n ≡ gives x m → Truth w x (related r a b)
compared w r u v a b n s t x m h = record {
  flag = run.ordered r s.size t.size;
  value_is = let e : run.related r (ada.number s.size) (ada.number t.size) n ≡ gives x m = rw (s.value_is, t.value_is) at h in
      let d = related_gives r s.size t.size n in cc;
  holds_is = related_holds w r s.size t.size a b s.term_is t.term_is;
}

retold : {w : World} {v : ada.Val} {p q : Node} → p ≡ q → Truth w v p → Truth w v q
retold {w = w} e t = record { flag = t.flag; value_is = t.value_is; holds_is = ap (holds w []) (sym e) ∙ t.holds_is }

pub formula_value : (calls : Calls) (f : Frame) (w : World) → Agree f w → (e : Ex) (q : Node) → formula_of symbol_of e ≡ Some q
    → (n : ℕ) (v : ada.Val) (m : ℕ) → value_of calls e f n ≡ gives v m → Truth w v q
formula_value calls f w g (at p z x) q t zero v m h = short_gives v m h
formula_value calls f w g (at p z (static (ada.truth b))) q t (suc n) v m h =
    record { flag = b; value_is = cc; holds_is = let s : node.flag b ≡ q = cc in ap (holds w []) (sym s) }
formula_value calls f w g (at p z (op2 (compare r) a b)) q t (suc n) v m h =
    let s = both_terms symbol_of p z r a b q t in
    let first = bind_gives (value_of calls a f n) (λ u k. bind (value_of calls b f k) (λ x j. run.related r u x j)) v m h in
    let second = bind_gives (value_of calls b f first.left) (λ x j. run.related r first.value x j) v m first.then_ in
    retold s.formula_is (compared w r first.value second.value s.left s.right second.left
    (term_value calls f w g a s.left s.left_is n first.value first.left first.first)
    (term_value calls f w g b s.right s.right_is first.left second.value second.left second.first)
    v m second.then_)
formula_value calls f w g (at p z x) q t (suc n) v m h = none_some q t

related_never_fails : (w : World) (r : Relation) (u v : ada.Val) (a b : Node) (n : ℕ) → Same w u a → Same w v b → (c : SiteKey)
    → run.related r u v n ≡ fails c → ⊥
related_never_fails w r u v a b n s t c h =
    let e : run.related r (ada.number s.size) (ada.number t.size) n ≡ fails c = rw (s.value_is, t.value_is) at h in
    let d = related_gives r s.size t.size n in cc

pub formula_never_fails : (calls : Calls) (f : Frame) (w : World) → Agree f w → (e : Ex) (q : Node) → formula_of symbol_of e ≡ Some q
    → (n : ℕ) (c : SiteKey) → value_of calls e f n ≡ fails c → ⊥
formula_never_fails calls f w g (at p z x) q t zero c h = short_fails c h
formula_never_fails calls f w g (at p z (static (ada.truth b))) q t (suc n) c h = cc
formula_never_fails calls f w g (at p z (op2 (compare r) a b)) q t (suc n) c h =
    let s = both_terms symbol_of p z r a b q t in
    elim (bind_fails (value_of calls a f n) (λ u k. bind (value_of calls b f k) (λ x j. run.related r u x j)) c h) [
      | inl e ↦ term_never_fails calls f a s.left s.left_is n c e
      | inr first ↦ elim (bind_fails (value_of calls b f first.left) (λ x j. run.related r first.value x j) c first.then_) [
        | inl e ↦ term_never_fails calls f b s.right s.right_is first.left c e
        | inr second ↦ related_never_fails w r first.value second.value s.left s.right second.left
            (term_value calls f w g a s.left s.left_is n first.value first.left first.first)
            (term_value calls f w g b s.right s.right_is first.left second.value second.left second.first)
            c second.then_
      ]
    ]
formula_never_fails calls f w g (at p z x) q t (suc n) c h = none_some q t
