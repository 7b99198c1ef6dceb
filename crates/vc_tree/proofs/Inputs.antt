-- The inputs of a run make the assumptions of the tree true.
use Rattle.std.proofs.Common.{◌≡◌, ℕ, zero, suc, ◌+◌, refl, ap, sym, subst, ◌∙◌, Bool, true, false, Option, Some, None, List, [], ◌∷◌, ◌++◌, ℤ, pos, arith}
use Rattle.std.specs.Prelude.{◌&&◌, if◌then◌else◌, slice_get, ◌==◌}
use Rattle.ada_values.specs.Value as ada
use Rattle.ada_values.specs.Scalars.{in_scalar}
use Rattle.ada_values.specs.Shapes.{fits}
use Rattle.ada_values.specs.declared.scalars.Scalar.{Scalar}
use Rattle.ada_values.specs.declared.shapes.Shape.{Shape}
use Rattle.ada_values.specs.declared.shapes.Shape.TheVariants as shape
use Rattle.typed_units.specs.declared.checks.SiteKey.{SiteKey}
use Rattle.typed_units.specs.declared.programs.Mode.{Mode}
use Rattle.typed_units.specs.declared.programs.Mode.TheVariants as mode
use Rattle.typed_units.specs.Syntax.{Formal}
use Rattle.ada_semantics.specs.Outcome.{pick}
use Rattle.ada_semantics.specs.Store.{begin, whole, full_if, nth}
use Rattle.ada_semantics.specs.Plain.{in_mode, first_of, rest_of, given_params, param_fits, params_fit, started}
use Rattle.logic_terms.specs.Node as node
use Rattle.logic_terms.specs.Value as logic
use Rattle.logic_terms.specs.Value.{Kind, numbers}
use Rattle.logic_terms.specs.Meaning.{World, holds}
use Rattle.logic_terms.specs.Sorting.{AllHold}
use Rattle.vc_tree.specs.declared.AnyRole.TheVariants as any_role
use Rattle.vc_tree.specs.Tree as tree
use Rattle.vc_tree.specs.Tree.{Tree}
use Rattle.vc_tree.specs.Goals.{Met, Way, role_of, meet, learn, kind_met, goals_from}
use Rattle.vc_tree.specs.Rules.{and_then, scalar_of, bounds_of, is_in, inputs}
use Rattle.vc_tree.specs.Sound.{ValidAt}
use Rattle.vc_tree.proofs.Results.{none_some}
use Rattle.vc_tree.proofs.Terms.{Agree}
use Rattle.vc_tree.proofs.Walk.{IsNumeric, AllHold-append}

-- ---- the world of the inputs

abbrev pub size_of : ada.Val → ℤ
size_of (ada.number x) = x
size_of _ = pos 0

abbrev pub size_at : List ada.Val → ℕ → ℤ
size_at [] k = pos 0
size_at (v ∷ vs) zero = size_of v
size_at (v ∷ vs) (suc k) = size_at vs k

-- each input is the symbol of its number
abbrev pub world_of : List ada.Val → World
world_of vs = record { symbol = λ k. logic.number (size_at vs k); call = λ k us. logic.number (pos 0) }

pub world_numeric : (vs : List ada.Val) → IsNumeric (world_of vs)
world_numeric vs = record { symbol = λ k. refl; answer = λ k us. refl }

-- ---- one input

pub record Number (s : Scalar) (v : ada.Val) : Type 0 where
  pub size : ℤ
  pub value_is : v ≡ ada.number size
  pub lies_within : in_scalar s size ≡ true

scalar_value : (shapes : List Shape) (o : Option Shape) (s : Scalar) → scalar_of o ≡ Some s → (v : ada.Val) → fits shapes o v ≡ true → Number s v
scalar_value shapes (Some (shape.Number s)) r t (ada.number x) h =
    record { size = x; value_is = refl; lies_within = let e : s ≡ r = cc in subst (λ (z : Scalar). in_scalar z x ≡ true) e h }
scalar_value shapes (Some (shape.Number s)) r t v h = cc
scalar_value shapes o r t v h = none_some r t

pub record Input (shapes : List Shape) (p : Formal) (ps : List Formal) (k : ℕ) (rest t : Tree) : Type 0 where
  pub scalar : Scalar
  pub others : Tree
  pub is_input : in_mode p.mode ≡ true
  pub scalar_is : scalar_of (slice_get shapes p.subtype) ≡ Some scalar
  pub others_are : inputs shapes ps (suc k) rest ≡ Some others
  pub tree_is : tree.any k numbers (any_role.Input k) (tree.assume (bounds_of scalar (node.sym k)) others) ≡ t

in_is : (m : Mode) → is_in m ≡ true → in_mode m ≡ true
in_is mode.In h = refl
in_is mode.Out h = cc
in_is mode.InOut h = cc

input_parts : (shapes : List Shape) (p : Formal) (ps : List Formal) (k : ℕ) (rest t : Tree) (o : Option Tree) (b : Bool) (s : Option Scalar)
    → inputs shapes ps (suc k) rest ≡ o → is_in p.mode ≡ b → scalar_of (slice_get shapes p.subtype) ≡ s
    → and_then o (λ u. if b then and_then s (λ a. Some (tree.any k numbers (any_role.Input k) (tree.assume (bounds_of a (node.sym k)) u))) else None) ≡ Some t
    → Input shapes p ps k rest t
input_parts shapes p ps k rest t None b s d e f h = none_some t h
input_parts shapes p ps k rest t (Some u) false s d e f h = none_some t h
input_parts shapes p ps k rest t (Some u) true None d e f h = none_some t h
input_parts shapes p ps k rest t (Some u) true (Some a) d e f h =
    record { scalar = a; others = u; is_input = in_is p.mode e; scalar_is = f; others_are = d; tree_is = cc }

parts_of : (shapes : List Shape) (p : Formal) (ps : List Formal) (k : ℕ) (rest t : Tree) → inputs shapes (p ∷ ps) k rest ≡ Some t → Input shapes p ps k rest t
parts_of shapes p ps k rest t h =
    input_parts shapes p ps k rest t (inputs shapes ps (suc k) rest) (is_in p.mode) (scalar_of (slice_get shapes p.subtype)) refl refl refl h

pub both_true : (a b : Bool) → (a && b) ≡ true → (a ≡ true) × (b ≡ true)
both_true true b h = (refl, h)
both_true false b h = cc

-- the first of the values fits, and so do the others
pub record Fitting (shapes : List Shape) (p : Formal) (ps : List Formal) (s : Scalar) (vs : List ada.Val) : Type 0 where
  pub value : ada.Val
  pub first_is : first_of vs ≡ Some value
  pub number : Number s value
  pub others_fit : params_fit shapes ps (rest_of vs) ≡ true

first_fits : (shapes : List Shape) (p : Formal) (ps : List Formal) (s : Scalar) → scalar_of (slice_get shapes p.subtype) ≡ Some s → (vs : List ada.Val) (o : Option ada.Val)
    → first_of vs ≡ o → (param_fits shapes p o && params_fit shapes ps (rest_of vs)) ≡ true → Fitting shapes p ps s vs
first_fits shapes p ps s t vs None e h = cc
first_fits shapes p ps s t vs (Some v) e h =
    let b = both_true (param_fits shapes p (Some v)) (params_fit shapes ps (rest_of vs)) h in
    record { value = v; first_is = e; number = scalar_value shapes (slice_get shapes p.subtype) s t v b.0; others_fit = b.1 }

fitting : (shapes : List Shape) (p : Formal) (ps : List Formal) (k : ℕ) (rest t : Tree) (a : Input shapes p ps k rest t) (vs : List ada.Val)
    → params_fit shapes (p ∷ ps) vs ≡ true → Fitting shapes p ps a.scalar vs
fitting shapes p ps k rest t a vs h =
    first_fits shapes p ps a.scalar a.scalar_is vs (first_of vs) refl
    (subst (λ (b : Bool). pick b (param_fits shapes p (first_of vs) && params_fit shapes ps (rest_of vs)) (params_fit shapes ps vs) ≡ true) a.is_input h)

-- ---- the frame agrees with the world

size_first : (vs : List ada.Val) (v : ada.Val) (x : ℤ) → first_of vs ≡ Some v → v ≡ ada.number x → size_at vs zero ≡ x
size_first [] v x e n = none_some v e
size_first (u ∷ vs) v x e n = let d : u ≡ ada.number x = cc in ap size_of d

size_rest : (vs : List ada.Val) (k : ℕ) → size_at (rest_of vs) k ≡ size_at vs (suc k)
size_rest [] k = refl
size_rest (v ∷ vs) k = refl

pub record Sized (v : ada.Val) (x : ℤ) : Type 0 where
  pub is : v ≡ ada.number x

given_first : (p : Formal) (ps : List Formal) (vs : List ada.Val) (v : ada.Val) → in_mode p.mode ≡ true → nth (given_params (p ∷ ps) vs) zero ≡ Some v → first_of vs ≡ Some v
given_first p ps vs v e h = subst (λ (b : Bool). pick b (first_of vs) None ≡ Some v) e h

given_rest : (p : Formal) (ps : List Formal) (vs : List ada.Val) (k : ℕ) → in_mode p.mode ≡ true
    → nth (given_params (p ∷ ps) vs) (suc k) ≡ nth (given_params ps (rest_of vs)) k
given_rest p ps vs k e = ap (λ (b : Bool). nth (given_params ps (pick b (rest_of vs) vs)) k) e

pub param_sized : (shapes : List Shape) (ps : List Formal) (k : ℕ) (rest t : Tree) (vs : List ada.Val) → inputs shapes ps k rest ≡ Some t
    → params_fit shapes ps vs ≡ true → (j : ℕ) (v : ada.Val) → nth (given_params ps vs) j ≡ Some v → Sized v (size_at vs j)
param_sized shapes [] k rest t vs e f j v h = none_some v h
param_sized shapes (p ∷ ps) k rest t vs e f zero v h =
    let a = parts_of shapes p ps k rest t e in
    let b = fitting shapes p ps k rest t a vs f in
    let g = given_first p ps vs v a.is_input h in
    let d = size_first vs b.value b.number.size b.first_is b.number.value_is in
    record { is = let i : v ≡ b.value = (let x = b.first_is in cc) in i ∙ b.number.value_is ∙ ap ada.number (sym d) }
param_sized shapes (p ∷ ps) k rest t vs e f (suc j) v h =
    let a = parts_of shapes p ps k rest t e in
    let b = fitting shapes p ps k rest t a vs f in
    let s = param_sized shapes ps (suc k) rest a.others (rest_of vs) a.others_are b.others_fit j v (sym (given_rest p ps vs j a.is_input) ∙ h) in
    record { is = s.is ∙ ap ada.number (size_rest vs j) }

whole_if : (o : Option ada.Val) (v : ada.Val) → whole (full_if o) ≡ Some v → o ≡ Some v
whole_if None v h = none_some v h
whole_if (Some u) v h = h

pub inputs_agree : (shapes : List Shape) (ps : List Formal) (rest t : Tree) (vs : List ada.Val) (globals : List (Option ada.Val)) → inputs shapes ps 0 rest ≡ Some t
    → params_fit shapes ps vs ≡ true → Agree (begin (started (given_params ps vs) globals)) (world_of vs)
inputs_agree shapes ps rest t vs globals e f k v h =
    let s = param_sized shapes ps 0 rest t vs e f k v (whole_if (nth (given_params ps vs) k) v h) in
    record { size = size_at vs k; value_is = s.is; term_is = refl }

-- ---- the walk along the inputs

one_of : (b : Bool) (j k : Kind) → j ≡ numbers → k ≡ numbers → (if b then j else k) ≡ numbers
one_of true j k e h = e
one_of false j k e h = h

kind_rest : (b : Bool) (j k : Kind) → (if b then j else k) ≡ numbers → b ≡ false → k ≡ numbers
kind_rest true j k h e = cc
kind_rest false j k h e = h

abbrev pub AllNumbers : List Met → Type 0
AllNumbers [] = Unit {0}
AllNumbers (m ∷ ms) = (m.kind ≡ numbers) × AllNumbers ms

pub all_met : (ms : List Met) → AllNumbers ms → (x : ℕ) → kind_met ms x ≡ numbers
all_met [] h x = refl
all_met (m ∷ ms) h x = one_of (m.number == x) m.kind (kind_met ms x) h.0 (all_met ms h.1 x)

all_met-append : (ms : List Met) (m : Met) → AllNumbers ms → m.kind ≡ numbers → AllNumbers (ms ++ m ∷ [])
all_met-append [] m h e = (e, tt)
all_met-append (l ∷ ms) m h e = (h.0, all_met-append ms m h.1 e)

-- past the inputs the way has met numbers alone, and what it assumed is true
pub record Reached (c : SiteKey) (w : World) (rest : Tree) : Type 0 where
  pub way : Way
  pub met : AllNumbers way.symbols
  pub hold : AllHold w way.hypotheses
  pub valid : ValidAt c (goals_from [] way rest)

bounds_hold : (w : World) (s : Scalar) (k : ℕ) (x : ℤ) → w.symbol k ≡ logic.number x → in_scalar s x ≡ true → holds w [] (bounds_of s (node.sym k)) ≡ true
bounds_hold w s k x e h = rw e h

pub inputs_walk : (shapes : List Shape) (ps : List Formal) (k : ℕ) (rest t : Tree) (vs : List ada.Val) → inputs shapes ps k rest ≡ Some t
    → params_fit shapes ps vs ≡ true → (w : World) → ((i j : ℕ) → i ≡ k + j → w.symbol i ≡ logic.number (size_at vs j)) → (c : SiteKey) (y : Way)
    → AllNumbers y.symbols → AllHold w y.hypotheses → ValidAt c (goals_from [] y t) → Reached c w rest
inputs_walk shapes [] k rest t vs e f w g c y m a valid =
    let d : rest ≡ t = cc in record { way = y; met = m; hold = a; valid = subst (λ (z : Tree). ValidAt c (goals_from [] y z)) (sym d) valid }
inputs_walk shapes (p ∷ ps) k rest t vs e f w g c y m a valid =
    let i = parts_of shapes p ps k rest t e in
    let b = fitting shapes p ps k rest t i vs f in
    let d = size_first vs b.value b.number.size b.first_is b.number.value_is in
    let h : w.symbol k ≡ logic.number b.number.size = g k 0 (omega arith) ∙ ap logic.number d in
    inputs_walk shapes ps (suc k) rest i.others (rest_of vs) i.others_are b.others_fit w
    (λ n j q. g n (suc j) (omega arith) ∙ ap logic.number (sym (size_rest vs j))) c
    (learn (meet y k numbers (any_role.Input k)) (bounds_of i.scalar (node.sym k)))
    (all_met-append y.symbols (record { number = k; kind = numbers; role = role_of (any_role.Input k) y.choices }) m refl)
    (AllHold-append w y.hypotheses (bounds_of i.scalar (node.sym k)) a (bounds_hold w i.scalar k b.number.size h b.number.lies_within))
    (subst (λ (z : Tree). ValidAt c (goals_from [] y z)) (sym i.tree_is) valid)
