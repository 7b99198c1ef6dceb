-- Each file of the order comes after what its unit depends on.
use Rattle.std.proofs.Common.{◌≡◌, ◌⊎◌, inl, inr, ℕ, suc, refl, sym, ap, ◌∙◌, subst, Bool, true, false, not, ◌&&◌, cond, List, [], ◌∷◌, ◌++◌, Option, Some, None, arith}
use Rattle.std.specs.Prelude.{Contains, find}
use Rattle.name_library.specs.declared.circles.Dependence.{Dependence}
use Rattle.name_library.specs.declared.library.LibraryUnit.{LibraryUnit}
use Rattle.name_library.specs.Library.{contains}
use Rattle.name_library.specs.Chains.{ComesAfter, all_in, dependences, is_next, next_added, order, turns}

none_some : (e : Dependence) → None ≡ Some e → ⊥
none_some e h = grind arith

found_by : (p : Dependence → Bool) (x : Dependence) (xs : List Dependence) (e : Dependence) → (find p xs ≡ Some e → (p e ≡ true) × Contains xs e) → (b : Bool) → p x ≡ b → cond b (Some x) (find p xs) ≡ Some e → (p e ≡ true) × Contains (x ∷ xs) e
found_by p x xs e rec true q h =
    let same : x ≡ e = cc in
    let P : Dependence → Type 0 = λ y. p y ≡ true in
    (subst P same q, (0, omega arith, same))
found_by p x xs e rec false q h =
    let r = rec h in (r.0, (suc r.1.0, omega (arith, r.1.1), r.1.2))

found : (p : Dependence → Bool) (xs : List Dependence) (e : Dependence) → find p xs ≡ Some e → (p e ≡ true) × Contains xs e
found p [] e h = absurd (none_some e h)
found p (x ∷ xs) e h = found_by p x xs e (found p xs e) (p x) refl h

both : (a b : Bool) → (not a && b) ≡ true → (a ≡ false) × (b ≡ true)
both true b h = (sym h, grind arith)
both false b h = (refl, h)

comes : (all : List Dependence) (done : List ℕ) (e : Dependence) → find (is_next done) all ≡ Some e → ComesAfter all done e.file
comes all done e h =
    let r = found (is_next done) all e h in
    let s = both (contains e.file done) (all_in e.on done) r.0 in
    (s.0, (e, (r.1, refl, s.1)))

never : (bs : List ℕ) (file : ℕ) (rest : List ℕ) → [] ≡ bs ++ file ∷ rest → ⊥
never [] file rest h = grind arith
never (b ∷ bs) file rest h = grind arith

-- a list with one more, cut before an element: that is the last, or the cut is earlier
cut : (done before rest : List ℕ) (x file : ℕ) → done ++ x ∷ [] ≡ before ++ file ∷ rest → ((done ≡ before) × (x ≡ file)) ⊎ ((more : List ℕ) × (done ≡ before ++ file ∷ more))
cut [] [] rest x file h = inl (refl, (cc))
cut [] (b ∷ bs) rest x file h = absurd (never bs file rest (cc))
cut (d ∷ ds) [] rest x file h = inr (ds, (cc))
cut (d ∷ ds) (b ∷ bs) rest x file h =
    let first : d ≡ b = cc in
    elim (cut ds bs rest x file (cc)) [ inl s ↦ inl (ap (λ y. y ∷ ds) first ∙ ap (λ ys. b ∷ ys) s.0, s.1) | inr s ↦ inr (s.0, ap (λ y. y ∷ ds) first ∙ ap (λ ys. b ∷ ys) s.1) ]

AllCome : List Dependence → List ℕ → Type 0
AllCome all done = (before rest : List ℕ) (file : ℕ) → done ≡ before ++ file ∷ rest → ComesAfter all before file

one_more : (all : List Dependence) (done : List ℕ) (x : ℕ) → AllCome all done → ComesAfter all done x → AllCome all (done ++ x ∷ [])
unfolding AllCome
one_more all done x h c before rest file e =
    let P : List ℕ → Type 0 = λ d. ComesAfter all d x in
    let Q : ℕ → Type 0 = λ y. ComesAfter all before y in
    elim (cut done before rest x file e) [ inl s ↦ subst Q s.1 (subst P s.0 c) | inr s ↦ h before s.0 file s.1 ]

next : (all : List Dependence) (done : List ℕ) (o : Option Dependence) → find (is_next done) all ≡ o → AllCome all done → AllCome all (next_added done o)
next all done None q h = h
next all done (Some e) q h = one_more all done e.file h (comes all done e q)

all_come : (all es : List Dependence) (done : List ℕ) → AllCome all done → AllCome all (turns all es done)
all_come all [] done h = h
all_come all (e ∷ es) done h = all_come all es (next_added done (find (is_next done) all)) (next all done (find (is_next done) all) refl h)

start : (all : List Dependence) → AllCome all []
unfolding AllCome
start all before rest file e = absurd (never before file rest e)

pub ordered : (l : List LibraryUnit) (before rest : List ℕ) (file : ℕ) → order l ≡ before ++ file ∷ rest → ComesAfter (dependences l) before file
unfolding AllCome
ordered l = all_come (dependences l) (dependences l) [] (start (dependences l))
