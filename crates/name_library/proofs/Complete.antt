-- The turns of an order come to each file, where no edge is on a circle.
use Rattle.std.proofs.Common.{◌≡◌, ◌⊎◌, inl, inr, ℕ, zero, suc, ◌+◌, ◌<◌, ◌≤◌, refl, sym, ap, subst, Bool, true, false, not, cond, List, [], ◌∷◌, length, length-append, Option, Some, None, arith}
use Rattle.std.specs.Prelude.{◌==◌, ◌&&◌, find}
use Rattle.std.proofs.lemmas.Bool.{and_cases, and_parts, cases_Bool, eqb-true, false≢true, not-true, or_cases, or_right}
use Rattle.name_library.specs.declared.circles.Dependence.{Dependence}
use Rattle.name_library.specs.Library.{contains}
use Rattle.name_library.specs.Chains.{all_in, is_next, next_added, reached, turns}
use Rattle.name_library.proofs.Members.{Distinct, Each, Within, all_there, at_most, contains_self, distinct_more, each_at, each_more, some_length}
use Rattle.name_library.proofs.Reaching.{Closed, Grows, files_of, grows_contains, grows_none, grows_then, reached_closed, reached_distinct, reached_each, reached_own}

abbrev pub IsIn : {X : Type 0} → X → List X → Type 0
IsIn x [] = ⊥
IsIn x (y ∷ ys) = (y ≡ x) ⊎ IsIn x ys

-- ---- what is found in a list

found_here : {X : Type 0} (b : Bool) (x y : X) (o : Option X) (p : X → Bool) (P : Type 0) → p x ≡ b → cond b (Some x) o ≡ Some y → (o ≡ Some y → P × (p y ≡ true)) → ((x ≡ y) ⊎ P) × (p y ≡ true)
found_here {X} true x y o p P q h f =
    let same : x ≡ y = cc in
    (inl same, subst (λ (z : X). p z ≡ true) same q)
found_here false x y o p P q h f = let r = f h in (inr r.0, r.1)

pub found_in : {X : Type 0} (p : X → Bool) (xs : List X) (y : X) → find p xs ≡ Some y → IsIn y xs × (p y ≡ true)
found_in p [] y h = absurd (let f : ⊥ = cc in f)
found_in p (x ∷ xs) y h = found_here (p x) x y (find p xs) p (IsIn y xs) refl h (found_in p xs y)

none_here : {X : Type 0} (b : Bool) (x : X) (o : Option X) → cond b (Some x) o ≡ None → (b ≡ false) × (o ≡ None)
none_here true x o h = absurd (let f : ⊥ = cc in f)
none_here false x o h = (refl, h)

pub none_in : {X : Type 0} (p : X → Bool) (xs : List X) (y : X) → find p xs ≡ None → IsIn y xs → p y ≡ false
none_in p [] y h i = absurd i
none_in {X} p (x ∷ xs) y h i =
    let r = none_here (p x) x (find p xs) h in
    elim i [ inl e ↦ subst (λ (z : X). p z ≡ false) e r.0 | inr more ↦ none_in p xs y r.1 more ]

-- ---- edges

closed_at : (P : ℕ → Type 0) (es : List Dependence) (e : Dependence) → Closed P es → IsIn e es → P e.file → Each P e.on
closed_at P [] e c i = absurd i
closed_at P (x ∷ xs) e c i = elim i [ inl same ↦ subst (λ (y : Dependence). P y.file → Each P y.on) same c.0 | inr more ↦ closed_at P xs e c.1 more ]

-- from no file to which an edge leads back to where it comes from
abbrev pub Forward : List Dependence → List Dependence → Type 0
Forward all [] = Unit {0}
Forward all (e ∷ es) = Each (λ m. contains e.file (reached all m) ≡ false) e.on × Forward all es

forward_at : (all es : List Dependence) (e : Dependence) → Forward all es → IsIn e es → Each (λ m. contains e.file (reached all m) ≡ false) e.on
forward_at all [] e f i = absurd i
forward_at all (x ∷ xs) e f i = elim i [
  | inl same ↦ subst (λ (y : Dependence). Each (λ m. contains y.file (reached all m) ≡ false) y.on) same f.0
  | inr more ↦ forward_at all xs e f.1 more
]

file_in : (e : Dependence) (es : List Dependence) → IsIn e es → contains e.file (files_of es) ≡ true
file_in e [] i = absurd i
file_in e (x ∷ xs) i = elim i [
  | inl same ↦ subst (λ (y : Dependence). contains y.file (x.file ∷ files_of xs) ≡ true) same (contains_self x.file (files_of xs))
  | inr more ↦ or_right (e.file == x.file) (contains e.file (files_of xs)) (file_in e xs more)
]

file_of : (n : ℕ) (es : List Dependence) → contains n (files_of es) ≡ true → (e : Dependence) × (IsIn e es × (e.file ≡ n))
file_of n [] h = absurd (false≢true h)
file_of n (x ∷ xs) h = elim (or_cases (n == x.file) (contains n (files_of xs)) h) [
  | inl t ↦ (x, (inl refl, same n x.file t))
  | inr more ↦ let r = file_of n xs more in (r.0, (inr r.1.0, r.1.1))
]
  where
    same : (a b : ℕ) → (a == b) ≡ true → b ≡ a
    same a b t = sym (eqb-true a b t)

-- along an edge less is reached
falls : (all : List Dependence) (e : Dependence) (m : ℕ) → Closed (λ n. contains n (files_of all) ≡ true) all → Forward all all → IsIn e all → contains m e.on ≡ true → length (reached all m) < length (reached all e.file)
falls all e m u f i c =
    let from = reached all e.file in
    let own : contains e.file from ≡ true = reached_own all e.file in
    let closed : Closed (λ n. contains n from ≡ true) all = reached_closed all e.file u (file_in e all i) in
    let there : contains m from ≡ true = each_at (λ n. contains n from ≡ true) e.on m (closed_at (λ n. contains n from ≡ true) all e closed i own) c in
    let within : Within from (reached all m) = reached_each (λ n. contains n from ≡ true) all m closed there in
    let back : contains e.file (reached all m) ≡ false = each_at (λ n. contains e.file (reached all n) ≡ false) e.on m (forward_at all all e f i) c in
    let more : length (e.file ∷ reached all m) ≤ length from = at_most (e.file ∷ reached all m) from (back, reached_distinct all m) (own, within) in
    omega (arith, more)

missing : (ns done : List ℕ) → all_in ns done ≡ false → (m : ℕ) × ((contains m ns ≡ true) × (contains m done ≡ false))
missing [] done h = absurd (false≢true (sym h))
missing (n ∷ ns) done h = elim (and_cases (contains n done) (all_in ns done) h) [
  | inl e ↦ (n, (contains_self n ns, e))
  | inr e ↦ let r = missing ns done e in (r.0, (or_right (r.0 == n) (contains r.0 ns) r.1.0, r.1.1))
]

not_yet : (b c : Bool) → (not b && c) ≡ false → b ≡ false → c ≡ false
not_yet true c h e = absurd (false≢true (sym e))
not_yet false c h e = h

-- where no unit is next, each is done
progress : (all : List Dependence) (done : List ℕ) → Closed (λ n. contains n (files_of all) ≡ true) all → Forward all all → ((e : Dependence) → IsIn e all → is_next done e ≡ false) → (k : ℕ) (e : Dependence) → IsIn e all → contains e.file done ≡ false → length (reached all e.file) ≤ k → ⊥
progress all done u f none zero e i n l = omega (arith, l, some_length e.file (reached all e.file) (reached_own all e.file))
progress all done u f none (suc k) e i n l =
    let lacks : all_in e.on done ≡ false = not_yet (contains e.file done) (all_in e.on done) (none e i) n in
    let m = missing e.on done lacks in
    let known : contains m.0 (files_of all) ≡ true = each_at (λ n. contains n (files_of all) ≡ true) e.on m.0 (closed_at (λ n. contains n (files_of all) ≡ true) all e u i (file_in e all i)) m.1.0 in
    let next = file_of m.0 all known in
    let undone : contains next.0.file done ≡ false = subst (λ (a : ℕ). contains a done ≡ false) (sym next.1.1) m.1.1 in
    let less : length (reached all m.0) < length (reached all e.file) = falls all e m.0 u f i m.1.0 in
    let same : length (reached all next.0.file) ≡ length (reached all m.0) = ap (λ (a : ℕ). length (reached all a)) next.1.1 in
    progress all done u f none k next.0 next.1.0 undone (omega (arith, less, same, l))

-- ---- the turns

added_grows : (done : List ℕ) (o : Option Dependence) → Grows done (next_added done o)
added_grows done None = grows_none done
added_grows done (Some e) = (e.file ∷ [], refl)

turns_grows : (all es : List Dependence) (done : List ℕ) → Grows done (turns all es done)
turns_grows all [] done = grows_none done
turns_grows all (e ∷ es) done =
    let next = next_added done (find (is_next done) all) in
    grows_then done next (turns all es next) (added_grows done (find (is_next done) all)) (turns_grows all es next)

abbrev Done : List Dependence → List Dependence → List ℕ → Type 0
Done all es done = Distinct done → Within (files_of all) done → length (files_of all) ≤ length done + length es → (e : Dependence) → IsIn e all → contains e.file (turns all es done) ≡ true

one_turn : (all es : List Dependence) (done : List ℕ) (o : Option Dependence) → find (is_next done) all ≡ o → Closed (λ n. contains n (files_of all) ≡ true) all → Forward all all → Distinct done → Within (files_of all) done → length (files_of all) ≤ length done + suc (length es) → (e : Dependence) → IsIn e all → Done all es (next_added done o) → contains e.file (turns all es (next_added done o)) ≡ true
one_turn all es done None q u f d w l e i rec = elim (cases_Bool (contains e.file done)) [
  | inl t ↦ grows_contains done (turns all es done) e.file (turns_grows all es done) t
  | inr t ↦ absurd (progress all done u f (λ y j. none_in (is_next done) all y q j) (length (reached all e.file)) e i t (omega arith))
]
one_turn all es done (Some y) q u f d w l e i rec =
    let r = found_in (is_next done) all y q in
    let new : contains y.file done ≡ false = not-true (contains y.file done) (and_parts (not (contains y.file done)) (all_in y.on done) r.1).0 in
    rec (distinct_more done y.file d new) (each_more (λ n. contains n (files_of all) ≡ true) done y.file w (file_in y all r.0)) (omega (arith, l, length-append done (y.file ∷ []))) e i

pub finish : (all es : List Dependence) (done : List ℕ) → Closed (λ n. contains n (files_of all) ≡ true) all → Forward all all → Distinct done → Within (files_of all) done → length (files_of all) ≤ length done + length es → (e : Dependence) → IsIn e all → contains e.file (turns all es done) ≡ true
finish all [] done u f d w l e i = all_there done (files_of all) e.file d w (omega (arith, l)) (file_in e all i)
finish all (x ∷ es) done u f d w l e i =
    let o = find (is_next done) all in
    one_turn all es done o refl u f d w l e i (finish all es (next_added done o) u f)
