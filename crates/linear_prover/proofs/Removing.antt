-- Variables that are left, without the one that is eliminated.
use Rattle.std.proofs.Common.{◌≡◌, refl, sym, ◌∙◌, ap, subst, ℕ, zero, suc, ◌<◌, Bool, true, false, List, [], ◌∷◌, ◌++◌, length, arith}
use Rattle.std.specs.Prelude.{if◌then◌else◌, ◌||◌, Some, slice_get, remove}
use Rattle.std.proofs.lemmas.Bool.{false≢true}
use Rattle.logic_terms.specs.Node.{Node}
use Rattle.logic_terms.specs.Same.{same_node}
use Rattle.logic_terms.proofs.SameNodes.{same_node-is, same_node-refl}
use Rattle.linear_forms.specs.Form.{Monomial, Form}
use Rattle.linear_prover.specs.Forms.{stands, with_variables, with_all_variables, variables_of}
use Rattle.linear_prover.specs.Elimination.{is_least, first_least}
use Rattle.linear_prover.specs.Points.{AreAll}
use Rattle.linear_prover.proofs.Solving.{stands_last}
use Rattle.linear_prover.proofs.Going.{Uses, Lessened}

abbrev pub Distinct : List Node → Type 0
Distinct [] = Unit {0}
Distinct (v ∷ vs) = (stands v vs ≡ false) × Distinct vs

or_turned : (a b : Bool) → (a || b) ≡ (b || a)
or_turned true true = refl
or_turned true false = refl
or_turned false true = refl
or_turned false false = refl

or_grouped : (a b c : Bool) → (a || (b || c)) ≡ ((a || b) || c)
or_grouped true b c = refl
or_grouped false b c = refl

or_of_false : (a b : Bool) → a ≡ false → (a || b) ≡ true → b ≡ true
or_of_false true b e h = absurd (false≢true (sym e))
or_of_false false b e h = h

or_both : (a b c : Bool) → (b ≡ true → c ≡ true) → (a || b) ≡ true → (a || c) ≡ true
or_both true b c f h = refl
or_both false b c f h = f h

or_none : (a b : Bool) → (a || b) ≡ false → (a ≡ false) × (b ≡ false)
or_none true b e = absurd (false≢true (sym e))
or_none false b e = (refl, e)

or_false : (a b : Bool) → a ≡ false → b ≡ false → (a || b) ≡ false
or_false true b e f = e
or_false false b e f = f

or_true : (a b : Bool) → b ≡ true → (a || b) ≡ true
or_true true b e = refl
or_true false b e = e

pub same_turned : (u v : Node) → same_node u v ≡ false → same_node v u ≡ false
same_turned u v e = by (same_node v u) refl
  where
    by : (b : Bool) → same_node v u ≡ b → b ≡ false
    by true h = absurd (false≢true (sym e ∙ ap (same_node u) (same_node-is v u h) ∙ same_node-refl u))
    by false h = refl

not_same : (x v : Node) (xs : List Node) → stands x xs ≡ false → stands v xs ≡ true → same_node v x ≡ false
not_same x v xs e h = by (same_node v x) refl
  where
    by : (b : Bool) → same_node v x ≡ b → b ≡ false
    by true k = absurd (false≢true (sym e ∙ ap (λ (n : Node). stands n xs) (sym (same_node-is v x k)) ∙ h))
    by false k = refl

pub record Removed (v : Node) (us ws : List Node) : Type 0 where
  pub gone : stands v ws ≡ false
  pub less : Lessened v us ws
  pub same : (u : Node) → stands u us ≡ (stands u ws || same_node u v)
  pub distinct : Distinct ws
  pub count : length us ≡ suc (length ws)

some_node : (x v : Node) → Some x ≡ Some v → x ≡ v
some_node x v e = cc

removed_first : (x : Node) (xs : List Node) → Distinct (x ∷ xs) → Removed x (x ∷ xs) xs
removed_first x xs d = record {
  gone = d.0;
  less = λ u e h. or_of_false (same_node u x) (stands u xs) (same_turned x u e) h;
  same = λ u. or_turned (same_node u x) (stands u xs);
  distinct = d.1;
  count = refl;
}

removed_later : (x v : Node) (xs ys : List Node) → Distinct (x ∷ xs) → Removed v xs ys → Removed v (x ∷ xs) (x ∷ ys)
removed_later x v xs ys d r =
    let in_xs : stands v xs ≡ true = r.same v ∙ or_true (stands v ys) (same_node v v) (same_node-refl v) in
    record {
      gone = or_false (same_node v x) (stands v ys) (not_same x v xs d.0 in_xs) r.gone;
      less = λ u e h. or_both (same_node u x) (stands u xs) (stands u ys) (r.less u e) h;
      same = λ u. ap (λ (b : Bool). same_node u x || b) (r.same u) ∙ or_grouped (same_node u x) (stands u ys) (same_node u v);
      distinct = ((or_none (stands x ys) (same_node x v) (sym (r.same x) ∙ d.0)).0, r.distinct);
      count = ap suc r.count;
    }

pub removed : (us : List Node) (i : ℕ) (v : Node) → slice_get us i ≡ Some v → Distinct us → Removed v us (remove us i)
removed [] i v e d = cc
removed (x ∷ xs) zero v e d = subst (λ (u : Node). Removed u (x ∷ xs) xs) (some_node x v e) (removed_first x xs d)
removed (x ∷ xs) (suc i) v e d = removed_later x v xs (remove xs i) d (removed xs i v e d.1)

-- ---- the next variable is one that is left

first_by : (b : Bool) (k n : ℕ) → k < n → (if b then 0 else suc k) < suc n
first_by true k n h = omega arith
first_by false k n h = omega arith

pub first_below : (n : ℕ) (ns : List ℕ) → first_least (n ∷ ns) < suc (length ns)
first_below n [] = omega arith
first_below n (k ∷ ks) = first_by (is_least n (k ∷ ks)) (first_least (k ∷ ks)) (suc (length ks)) (first_below k ks)

pub got : (us : List Node) (i : ℕ) → i < length us → (v : Node) × (slice_get us i ≡ Some v)
got [] i h = absurd (omega arith)
got (u ∷ us) zero h = (u, refl)
got (u ∷ us) (suc i) h = got us i (omega arith)

-- ---- the variables of forms

distinct_last : (vs : List Node) (v : Node) → Distinct vs → stands v vs ≡ false → Distinct (vs ++ v ∷ [])
distinct_last [] v d e = (refl, tt)
distinct_last (x ∷ vs) v d e =
    let p = or_none (same_node v x) (stands v vs) e in
    (stands_last x v vs ∙ or_false (stands x vs) (same_node x v || false) d.0 (or_false (same_node x v) false (same_turned v x p.0) refl), distinct_last vs v d.1 p.1)

distinct_by : (b : Bool) (vs : List Node) (v : Node) → stands v vs ≡ b → Distinct vs → Distinct (if b then vs else vs ++ v ∷ [])
distinct_by true vs v e d = d
distinct_by false vs v e d = distinct_last vs v d e

with_distinct : (ms : List Monomial) (vs : List Node) → Distinct vs → Distinct (with_variables ms vs)
with_distinct [] vs d = d
with_distinct (m ∷ ms) vs d = with_distinct ms _ (distinct_by (stands m.variable vs) vs m.variable refl d)

all_distinct : (fs : List Form) (vs : List Node) → Distinct vs → Distinct (with_all_variables fs vs)
all_distinct [] vs d = d
all_distinct (f ∷ fs) vs d = all_distinct fs _ (with_distinct f.monomials vs d)

pub variables_distinct : (fs : List Form) → Distinct (variables_of fs)
variables_distinct fs = all_distinct fs [] tt

stays_by : (b : Bool) (u : Node) (vs : List Node) (v : Node) → stands u vs ≡ true → stands u (if b then vs else vs ++ v ∷ []) ≡ true
stays_by true u vs v h = h
stays_by false u vs v h = stands_last u v vs ∙ ap (λ (b : Bool). b || (same_node u v || false)) h

with_stays : (ms : List Monomial) (u : Node) (vs : List Node) → stands u vs ≡ true → stands u (with_variables ms vs) ≡ true
with_stays [] u vs h = h
with_stays (m ∷ ms) u vs h = with_stays ms u _ (stays_by (stands m.variable vs) u vs m.variable h)

all_stay : (fs : List Form) (u : Node) (vs : List Node) → stands u vs ≡ true → stands u (with_all_variables fs vs) ≡ true
all_stay [] u vs h = h
all_stay (f ∷ fs) u vs h = all_stay fs u _ (with_stays f.monomials u vs h)

here_by : (b : Bool) (v : Node) (vs : List Node) → stands v vs ≡ b → stands v (if b then vs else vs ++ v ∷ []) ≡ true
here_by true v vs e = e
here_by false v vs e = stands_last v v vs ∙ or_true (stands v vs) (same_node v v || false) (ap (λ (b : Bool). b || false) (same_node-refl v))

with_uses : (ms : List Monomial) (vs : List Node) → Uses (with_variables ms vs) ms
with_uses [] vs = tt
with_uses (m ∷ ms) vs = (with_stays ms m.variable _ (here_by (stands m.variable vs) m.variable vs refl), with_uses ms _)

uses_more : (ms : List Monomial) (fs : List Form) (vs : List Node) → Uses vs ms → Uses (with_all_variables fs vs) ms
uses_more [] fs vs u = tt
uses_more (m ∷ ms) fs vs u = (all_stay fs m.variable vs u.0, uses_more ms fs vs u.1)

all_use : (fs : List Form) (vs : List Node) → AreAll (λ f. Uses (with_all_variables fs vs) f.monomials) fs
all_use [] vs = tt
all_use (f ∷ fs) vs = (uses_more f.monomials fs _ (with_uses f.monomials vs), all_use fs (with_variables f.monomials vs))

pub variables_used : (fs : List Form) → AreAll (λ f. Uses (variables_of fs) f.monomials) fs
variables_used fs = all_use fs []
