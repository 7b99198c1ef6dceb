-- A run of assertions that fails at a site makes one of the site's goals invalid.
use Rattle.std.proofs.Common.{◌≡◌, ℕ, zero, suc, refl, ap, sym, subst, ◌∙◌, ◌⊎◌, inl, inr, Bool, true, false, Option, Some, None, List, [], ◌∷◌, ◌++◌, map}
use Rattle.ada_values.specs.Value as ada
use Rattle.ada_values.specs.declared.place.Place.{Place}
use Rattle.typed_units.specs.declared.checks.CheckKind.TheVariants as check_kind
use Rattle.typed_units.specs.declared.checks.SiteKey.{SiteKey}
use Rattle.typed_units.specs.Syntax as text
use Rattle.typed_units.specs.Syntax.{at, Nd, st, assert, Sts, done}
use Rattle.ada_semantics.specs.Outcome.{gives, fails, site, check}
use Rattle.ada_semantics.specs.Store.{Frame}
use Rattle.ada_semantics.specs.Operators.{truth_of}
use Rattle.ada_semantics.specs.Values.{Calls, value_of}
use Rattle.ada_semantics.specs.Running.{Stop, goes, next, run_of, step_of}
use Rattle.logic_terms.specs.Node.{Node}
use Rattle.logic_terms.specs.Value as logic
use Rattle.logic_terms.specs.Value.{numbers}
use Rattle.logic_terms.specs.Meaning.{World, holds}
use Rattle.logic_terms.specs.Sorting.{Called, nth, HasKind, is_of, IsWorldOf, AllHold, IsValid}
use Rattle.logic_terms.specs.Goals.{symbols_in, calls_in, all_symbols, all_calls, symbols_of_goal, calls_of_goal, place_in, numbered}
use Rattle.vc_tree.specs.Tree as tree
use Rattle.vc_tree.specs.Tree.{Tree}
use Rattle.vc_tree.specs.Goals.{Way, learn, kind_met, call_known, goal_at, goals_from}
use Rattle.vc_tree.specs.Rules.{and_then, formula_of, symbol_of, statements}
use Rattle.vc_tree.specs.Sound.{ValidAt}
use Rattle.vc_tree.proofs.Results.{bind_gives, bind_fails, none_some, short_gives, short_fails}
use Rattle.vc_tree.proofs.Renaming.{In, in_left, in_right, in_each_once, number_at, number_at-place_in, Renames, meaning-renamed}
use Rattle.vc_tree.proofs.Terms.{Agree, Truth, formula_value, formula_never_fails}

-- ---- hypotheses that are true

pub AllHold-append : (w : World) (ps : List Node) (q : Node) → AllHold w ps → holds w [] q ≡ true → AllHold w (ps ++ q ∷ [])
AllHold-append w [] q h e = (e, tt)
AllHold-append w (p ∷ ps) q h e = (h.0, AllHold-append w ps q h.1 e)

-- ---- the world of a goal

-- each symbol is a number, and so is what each call answers
pub record IsNumeric (w : World) : Type 0 where
  pub symbol : (k : ℕ) → is_of numbers (w.symbol k) ≡ true
  pub answer : (k : ℕ) (us : logic.Values) → is_of numbers (w.call k us) ≡ true

-- the way met numbers alone
abbrev pub MetNumbers : Way → Type 0
MetNumbers y = (x : ℕ) → kind_met y.symbols x ≡ numbers

-- the world with the symbols and the calls of some formulas in the order of first appearance
abbrev pub renumbered : List Node → World → World
renumbered ps w = record {
  symbol = λ k. w.symbol (number_at (symbols_of_goal ps) k);
  call = λ k us. w.call (number_at (calls_of_goal ps) k) us;
}

abbrev pub Is : Node → List Node → Type 0
Is p [] = ⊥
Is p (q ∷ ps) = (q ≡ p) ⊎ Is p ps

pub last_is : (ps : List Node) (p : Node) → Is p (ps ++ p ∷ [])
last_is [] p = inl refl
last_is (q ∷ ps) p = inr (last_is ps p)

pub in_symbols : (ps : List Node) (p : Node) (k : ℕ) → Is p ps → In k (symbols_in p) → In k (all_symbols ps)
in_symbols [] p k e h = absurd e
in_symbols (q ∷ ps) p k (inl e) h = in_left k (symbols_in q) (all_symbols ps) (rw e h)
in_symbols (q ∷ ps) p k (inr e) h = in_right k (symbols_in q) (all_symbols ps) (in_symbols ps p k e h)

pub in_calls : (ps : List Node) (p : Node) (k : ℕ) → Is p ps → In k (calls_in p) → In k (all_calls ps)
in_calls [] p k e h = absurd e
in_calls (q ∷ ps) p k (inl e) h = in_left k (calls_in q) (all_calls ps) (rw e h)
in_calls (q ∷ ps) p k (inr e) h = in_right k (calls_in q) (all_calls ps) (in_calls ps p k e h)

renames : (w : World) (ps : List Node) (p : Node) → Is p ps
    → Renames (place_in (symbols_of_goal ps)) (place_in (calls_of_goal ps)) w (renumbered ps w) (symbols_in p) (calls_in p)
renames w ps p e = record {
  symbols_same = λ k h. ap w.symbol (number_at-place_in (symbols_of_goal ps) k (in_each_once k (all_symbols ps) (in_symbols ps p k e h)));
  calls_same = λ k h us. ap (λ (j : ℕ). w.call j us) (number_at-place_in (calls_of_goal ps) k (in_each_once k (all_calls ps) (in_calls ps p k e h)));
}

-- a formula of the goal is as true there
pub holds-numbered : (w : World) (ps : List Node) (p : Node) → Is p ps → holds (renumbered ps w) [] (numbered ps p) ≡ holds w [] p
holds-numbered w ps p e = ap logic.as_truth
    (meaning-renamed (place_in (symbols_of_goal ps)) (place_in (calls_of_goal ps)) w (renumbered ps w) p (renames w ps p e) [])

all_hold : (w : World) (ps qs : List Node) → ((p : Node) → Is p qs → Is p ps) → AllHold w qs → AllHold (renumbered ps w) (map (numbered ps) qs)
all_hold w ps [] sub h = tt
all_hold w ps (q ∷ qs) sub h = (holds-numbered w ps q (sub q (inl refl)) ∙ h.0, all_hold w ps qs (λ p e. sub p (inr e)) h.1)

pub is_before : (ps : List Node) (q p : Node) → Is p ps → Is p (ps ++ q ∷ [])
is_before [] q p e = absurd e
is_before (r ∷ ps) q p (inl e) = inl e
is_before (r ∷ ps) q p (inr e) = inr (is_before ps q p e)

kinds_numbers : (y : Way) → MetNumbers y → (ks : List ℕ) (n : ℕ) (w : World) → IsNumeric w → (f : ℕ → ℕ)
    → HasKind (nth (map (kind_met y.symbols) ks) n) (w.symbol (f n))
kinds_numbers y m [] n w i f = tt
kinds_numbers y m (k ∷ ks) zero w i f = rw (m k) (i.symbol (f zero))
kinds_numbers y m (k ∷ ks) (suc n) w i f = kinds_numbers y m ks n w i (λ j. f (suc j))

answers_numbers : (ks : List ℕ) (n : ℕ) (c : Called) → nth (map (call_known []) ks) n ≡ Some c → c.gives ≡ numbers
answers_numbers [] n c h = none_some c h
answers_numbers (k ∷ ks) zero c h = let e : call_known [] k ≡ c = cc in ap (λ (d : Called). d.gives) (sym e)
answers_numbers (k ∷ ks) (suc n) c h = answers_numbers ks n c h

fitting_answer : (c : Called) (v : logic.Value) → c.gives ≡ numbers → is_of numbers v ≡ true → is_of c.gives v ≡ true
fitting_answer c v e h = rw e h

world_fits : (w : World) (y : Way) (c : SiteKey) (p : Node) → IsNumeric w → MetNumbers y
    → IsWorldOf (goal_at [] y c p).problem.signature (renumbered (y.hypotheses ++ p ∷ []) w)
world_fits w y c p i m = let ps = y.hypotheses ++ p ∷ [] in record {
  symbols_fit = λ n. kinds_numbers y m (symbols_of_goal ps) n w i (number_at (symbols_of_goal ps));
  calls_fit = λ n d h us g. fitting_answer d (w.call (number_at (calls_of_goal ps) n) us) (answers_numbers (calls_of_goal ps) n d h)
      (i.answer (number_at (calls_of_goal ps) n) us);
}

-- a valid goal is true where its hypotheses are
pub goal_holds : (w : World) (y : Way) (c : SiteKey) (p : Node) → IsNumeric w → MetNumbers y → AllHold w y.hypotheses
    → IsValid (goal_at [] y c p).problem → holds w [] p ≡ true
goal_holds w y c p i m h valid =
    let ps = y.hypotheses ++ p ∷ [] in
    sym (holds-numbered w ps p (last_is y.hypotheses p))
    ∙ valid (renumbered ps w) (world_fits w y c p i m) (all_hold w ps y.hypotheses (is_before y.hypotheses p) h)

-- ---- statements

-- an assertion went on: its condition was True, and nothing changed
pub record Held (w : World) (f : Frame) (q : Node) (s : Stop) : Type 0 where
  pub stays : s ≡ goes f
  pub is_true : holds w [] q ≡ true

checked_gives : (w : World) (f : Frame) (p : Place) (q : Node) (v : ada.Val) (n : ℕ) (s : Stop) (m : ℕ) → Truth w v q
    → truth_of v (λ b. check b p check_kind.Assert (gives (goes f) n)) ≡ gives s m → Held w f q s
checked_gives w f p q v n s m t h = told t.flag t.holds_is (rw t.value_is at h)
  where
    told : (b : Bool) → holds w [] q ≡ b → check b p check_kind.Assert (gives (goes f) n) ≡ gives s m → Held w f q s
    told true e g = record { stays = cc; is_true = e }
    told false e g = cc

step_gives : (calls : Calls) (f : Frame) (w : World) → Agree f w → (r p : Place) (z : ℕ) (x : Nd) (q : Node) → formula_of symbol_of (at p z x) ≡ Some q
    → (n : ℕ) (s : Stop) (m : ℕ) → step_of calls (st r (assert (at p z x))) f n ≡ gives s m → Held w f q s
step_gives calls f w g r p z x q t zero s m h = short_gives s m h
step_gives calls f w g r p z x q t (suc n) s m h =
    let o = bind_gives (value_of calls (at p z x) f n) (λ v k. truth_of v (λ b. check b p check_kind.Assert (gives (goes f) k))) s m h in
    checked_gives w f p q o.value o.left s m (formula_value calls f w g (at p z x) q t n o.value o.left o.first) o.then_

-- an assertion failed: at its site, with a condition that was False
pub record Broke (w : World) (p : Place) (q : Node) (c : SiteKey) : Type 0 where
  pub there : site p check_kind.Assert ≡ c
  pub is_false : holds w [] q ≡ false

checked_fails : (w : World) (f : Frame) (p : Place) (q : Node) (v : ada.Val) (n : ℕ) (c : SiteKey) → Truth w v q
    → truth_of v (λ b. check b p check_kind.Assert (gives (goes f) n)) ≡ fails c → Broke w p q c
checked_fails w f p q v n c t h = told t.flag t.holds_is (rw t.value_is at h)
  where
    told : (b : Bool) → holds w [] q ≡ b → check b p check_kind.Assert (gives (goes f) n) ≡ fails c → Broke w p q c
    told true e g = cc
    told false e g = record { there = cc; is_false = e }

step_fails : (calls : Calls) (f : Frame) (w : World) → Agree f w → (r p : Place) (z : ℕ) (x : Nd) (q : Node) → formula_of symbol_of (at p z x) ≡ Some q
    → (n : ℕ) (c : SiteKey) → step_of calls (st r (assert (at p z x))) f n ≡ fails c → Broke w p q c
step_fails calls f w g r p z x q t zero c h = short_fails c h
step_fails calls f w g r p z x q t (suc n) c h =
    elim (bind_fails (value_of calls (at p z x) f n) (λ v k. truth_of v (λ b. check b p check_kind.Assert (gives (goes f) k))) c h) [
      | inl e ↦ absurd (formula_never_fails calls f w g (at p z x) q t n c e)
      | inr o ↦ checked_fails w f p q o.value o.left c (formula_value calls f w g (at p z x) q t n o.value o.left o.first) o.then_
    ]

-- the parts of the tree of an assertion
pub record Asserted (p : Place) (z : ℕ) (x : Nd) (rest : Sts) (u : Tree) : Type 0 where
  pub formula : Node
  pub others : Tree
  pub formula_is : formula_of symbol_of (at p z x) ≡ Some formula
  pub others_are : statements symbol_of rest ≡ Some others
  pub tree_is : tree.check (site p check_kind.Assert) formula others ≡ u

asserted : (p : Place) (z : ℕ) (x : Nd) (rest : Sts) (u : Tree) (o : Option Node) (t : Option Tree) → formula_of symbol_of (at p z x) ≡ o → statements symbol_of rest ≡ t
    → and_then o (λ f. and_then t (λ v. Some (tree.check (site p check_kind.Assert) f v))) ≡ Some u → Asserted p z x rest u
asserted p z x rest u None t e d h = none_some u h
asserted p z x rest u (Some f) None e d h = none_some u h
asserted p z x rest u (Some f) (Some v) e d h = record { formula = f; others = v; formula_is = e; others_are = d; tree_is = cc }

-- the walk along a list of assertions
pub walk : (calls : Calls) (f : Frame) (w : World) → Agree f w → IsNumeric w → (ss : Sts) (u : Tree) → statements symbol_of ss ≡ Some u
    → (n : ℕ) (c : SiteKey) → run_of calls ss f n ≡ fails c → (y : Way) → MetNumbers y → AllHold w y.hypotheses → ValidAt c (goals_from [] y u) → ⊥
walk calls f w g i done u t n c h y m a valid = cc
walk calls f w g i (text.then (st r (assert (at p z x))) rest) u t n c h y m a valid =
    let s = asserted p z x rest u (formula_of symbol_of (at p z x)) (statements symbol_of rest) refl refl t in
    let v = subst (λ (z : Tree). ValidAt c (goals_from [] y z)) (sym s.tree_is) valid in
    elim (bind_fails (step_of calls (st r (assert (at p z x))) f n) (next (run_of calls rest)) c h) [
      | inl e ↦ let b = step_fails calls f w g r p z x s.formula s.formula_is n c e in
          let k = goal_holds w y (site p check_kind.Assert) s.formula i m a (v.0 b.there) in
          let d = b.is_false in cc
      | inr o ↦ let b = step_gives calls f w g r p z x s.formula s.formula_is n o.value o.left o.first in
          walk calls f w g i rest s.others s.others_are o.left c (rw b.stays at o.then_) (learn y s.formula) m
          (AllHold-append w y.hypotheses s.formula a b.is_true) v.1
    ]
walk calls f w g i ss u t n c h y m a valid = none_some u t
