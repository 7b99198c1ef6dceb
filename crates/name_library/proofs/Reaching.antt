-- What is reached from a file by chains: what holds of all of it, and that no edge leads out of it.
use Rattle.std.proofs.Common.{◌≡◌, ℕ, ◌+◌, ◌<◌, ◌≤◌, refl, sym, ap, ◌∙◌, subst, true, false, List, [], ◌∷◌, ◌++◌, append_assoc, append-nil, length, length-append, map, arith}
use Rattle.std.specs.Prelude.{◌==◌}
use Rattle.std.proofs.lemmas.Bool.{cond_both, cond-true, eqb-true}
use Rattle.std.proofs.lemmas.Bool.Decides.{nat_tests}
use Rattle.std.proofs.lemmas.List.{length-map}
use Rattle.name_library.specs.declared.circles.Dependence.{Dependence}
use Rattle.name_library.specs.Library.{contains}
use Rattle.name_library.specs.Chains.{file_added, merged, one_onwards, onwards, reached, rounds}
use Rattle.name_library.proofs.Members.{Distinct, Each, Within, at_most, contains_last, contains_left, contains_self, distinct_more, each_at, each_more}

-- ---- lists that grow

abbrev pub Grows : List ℕ → List ℕ → Type 0
Grows ns ms = (more : List ℕ) × (ms ≡ ns ++ more)

pub grows_none : (ns : List ℕ) → Grows ns ns
grows_none ns = ([], sym (append-nil ns))

pub grows_then : (ns ms ls : List ℕ) → Grows ns ms → Grows ms ls → Grows ns ls
grows_then ns ms ls g h = (g.0 ++ h.0, h.1 ∙ ap (λ (l : List ℕ). l ++ h.0) g.1 ∙ append_assoc ns g.0 h.0)

pub grows_contains : (ns ms : List ℕ) (n : ℕ) → Grows ns ms → contains n ns ≡ true → contains n ms ≡ true
grows_contains ns ms n g c = subst (λ (l : List ℕ). contains n l ≡ true) (sym g.1) (contains_left n ns g.0 c)

grows_length : (ns ms : List ℕ) → Grows ns ms → length ns ≤ length ms
grows_length ns ms g = let e : length ms ≡ length (ns ++ g.0) = ap (length {A = ℕ}) g.1 in omega (arith, e, length-append ns g.0)

empty : (l : List ℕ) → length l ≡ 0 → l ≡ []
empty [] h = refl
empty (x ∷ xs) h = absurd (omega (arith, h))

-- what isn't longer hasn't grown
grows_back : (ns ms : List ℕ) → Grows ns ms → length ms ≤ length ns → ms ≡ ns
grows_back ns ms g h =
    let e : length ms ≡ length (ns ++ g.0) = ap (length {A = ℕ}) g.1 in
    let none : g.0 ≡ [] = empty g.0 (omega (arith, e, h, length-append ns g.0)) in
    g.1 ∙ ap (λ (l : List ℕ). ns ++ l) none ∙ append-nil ns

added_grows : (ns : List ℕ) (n : ℕ) → Grows ns (file_added ns n)
added_grows ns n = cond_both (contains n ns) ns (ns ++ n ∷ []) (λ (ms : List ℕ). Grows ns ms) (λ e. grows_none ns) (λ e. (n ∷ [], refl))

merged_grows : (ns ms : List ℕ) → Grows ns (merged ns ms)
merged_grows ns [] = grows_none ns
merged_grows ns (m ∷ ms) = grows_then ns (file_added ns m) (merged (file_added ns m) ms) (added_grows ns m) (merged_grows (file_added ns m) ms)

one_grows : (e : Dependence) (ns : List ℕ) → Grows ns (one_onwards e ns)
one_grows e ns = cond_both (contains e.file ns) (merged ns e.on) ns (λ (ms : List ℕ). Grows ns ms) (λ c. merged_grows ns e.on) (λ c. grows_none ns)

onwards_grows : (es : List Dependence) (ns : List ℕ) → Grows ns (onwards es ns)
onwards_grows [] ns = grows_none ns
onwards_grows (e ∷ es) ns = grows_then ns (one_onwards e ns) (onwards es (one_onwards e ns)) (one_grows e ns) (onwards_grows es (one_onwards e ns))

rounds_grows : (all es : List Dependence) (ns : List ℕ) → Grows ns (rounds all es ns)
rounds_grows all [] ns = grows_none ns
rounds_grows all (e ∷ es) ns = cond_both (length (onwards all ns) == length ns) (onwards all ns) (rounds all es (onwards all ns)) (λ (ms : List ℕ). Grows ns ms)
    (λ c. onwards_grows all ns)
    (λ c. grows_then ns (onwards all ns) (rounds all es (onwards all ns)) (onwards_grows all ns) (rounds_grows all es (onwards all ns)))

-- the file itself is reached
pub reached_own : (all : List Dependence) (file : ℕ) → contains file (reached all file) ≡ true
reached_own all file = grows_contains (file ∷ []) (reached all file) file (rounds_grows all all (file ∷ [])) (contains_self file [])

-- ---- each is there once

added_distinct : (ns : List ℕ) (n : ℕ) → Distinct ns → Distinct (file_added ns n)
added_distinct ns n d = cond_both (contains n ns) ns (ns ++ n ∷ []) (λ (ms : List ℕ). Distinct ms) (λ e. d) (λ e. distinct_more ns n d e)

merged_distinct : (ns ms : List ℕ) → Distinct ns → Distinct (merged ns ms)
merged_distinct ns [] d = d
merged_distinct ns (m ∷ ms) d = merged_distinct (file_added ns m) ms (added_distinct ns m d)

one_distinct : (e : Dependence) (ns : List ℕ) → Distinct ns → Distinct (one_onwards e ns)
one_distinct e ns d = cond_both (contains e.file ns) (merged ns e.on) ns (λ (ms : List ℕ). Distinct ms) (λ c. merged_distinct ns e.on d) (λ c. d)

onwards_distinct : (es : List Dependence) (ns : List ℕ) → Distinct ns → Distinct (onwards es ns)
onwards_distinct [] ns d = d
onwards_distinct (e ∷ es) ns d = onwards_distinct es (one_onwards e ns) (one_distinct e ns d)

rounds_distinct : (all es : List Dependence) (ns : List ℕ) → Distinct ns → Distinct (rounds all es ns)
rounds_distinct all [] ns d = d
rounds_distinct all (e ∷ es) ns d = cond_both (length (onwards all ns) == length ns) (onwards all ns) (rounds all es (onwards all ns)) (λ (ms : List ℕ). Distinct ms)
    (λ c. onwards_distinct all ns d)
    (λ c. rounds_distinct all es (onwards all ns) (onwards_distinct all ns d))

pub reached_distinct : (all : List Dependence) (file : ℕ) → Distinct (reached all file)
reached_distinct all file = rounds_distinct all all (file ∷ []) (refl, tt)

-- ---- what no edge leads out of

abbrev pub Closed : (ℕ → Type 0) → List Dependence → Type 0
Closed P [] = Unit {0}
Closed P (e ∷ es) = (P e.file → Each P e.on) × Closed P es

pub added_each : (P : ℕ → Type 0) (ns : List ℕ) (n : ℕ) → Each P ns → P n → Each P (file_added ns n)
added_each P ns n h p = cond_both (contains n ns) ns (ns ++ n ∷ []) (λ (ms : List ℕ). Each P ms) (λ e. h) (λ e. each_more P ns n h p)

merged_each : (P : ℕ → Type 0) (ns ms : List ℕ) → Each P ns → Each P ms → Each P (merged ns ms)
merged_each P ns [] h g = h
merged_each P ns (m ∷ ms) h g = merged_each P (file_added ns m) ms (added_each P ns m h g.0) g.1

one_each : (P : ℕ → Type 0) (e : Dependence) (ns : List ℕ) → (P e.file → Each P e.on) → Each P ns → Each P (one_onwards e ns)
one_each P e ns f h = cond_both (contains e.file ns) (merged ns e.on) ns (λ (ms : List ℕ). Each P ms) (λ c. merged_each P ns e.on h (f (each_at P ns e.file h c))) (λ c. h)

onwards_each : (P : ℕ → Type 0) (es : List Dependence) (ns : List ℕ) → Closed P es → Each P ns → Each P (onwards es ns)
onwards_each P [] ns c h = h
onwards_each P (e ∷ es) ns c h = onwards_each P es (one_onwards e ns) c.1 (one_each P e ns c.0 h)

rounds_each : (P : ℕ → Type 0) (all es : List Dependence) (ns : List ℕ) → Closed P all → Each P ns → Each P (rounds all es ns)
rounds_each P all [] ns c h = h
rounds_each P all (e ∷ es) ns c h = cond_both (length (onwards all ns) == length ns) (onwards all ns) (rounds all es (onwards all ns)) (λ (ms : List ℕ). Each P ms)
    (λ t. onwards_each P all ns c h)
    (λ t. rounds_each P all es (onwards all ns) c (onwards_each P all ns c h))

-- what holds of the file, and along edges, holds of all that is reached
pub reached_each : (P : ℕ → Type 0) (all : List Dependence) (file : ℕ) → Closed P all → P file → Each P (reached all file)
reached_each P all file c p = rounds_each P all all (file ∷ []) c (p, tt)

-- ---- the rounds end where no edge leads out

added_there : (ns : List ℕ) (n : ℕ) → contains n (file_added ns n) ≡ true
added_there ns n = cond_both (contains n ns) ns (ns ++ n ∷ []) (λ (ms : List ℕ). contains n ms ≡ true) (λ e. e) (λ e. contains_last n ns)

merged_there : (ns ms : List ℕ) → Within (merged ns ms) ms
merged_there ns [] = tt
merged_there ns (m ∷ ms) = (
  grows_contains (file_added ns m) (merged (file_added ns m) ms) m (merged_grows (file_added ns m) ms) (added_there ns m),
  merged_there (file_added ns m) ms,
)

-- where a round adds nothing
fixed : (es : List Dependence) (ns : List ℕ) → onwards es ns ≡ ns → Closed (λ n. contains n ns ≡ true) es
fixed [] ns h = tt
fixed (e ∷ es) ns h =
    let first = one_onwards e ns in
    let whole : length (onwards es first) ≡ length ns = ap (length {A = ℕ}) h in
    let same : first ≡ ns = grows_back ns first (one_grows e ns) (omega (arith, whole, grows_length first (onwards es first) (onwards_grows es first))) in (
      λ c. subst (λ (l : List ℕ). Within l e.on) (sym (cond-true (contains e.file ns) (merged ns e.on) ns c) ∙ same) (merged_there ns e.on),
      fixed es ns (ap (onwards es) (sym same) ∙ h),
    )

longer : (a b : ℕ) → a ≤ b → (b == a) ≡ false → a < b
longer a b h e = grind (arith, nat_tests)

rounds_closed : (all es : List Dependence) (ns most : List ℕ) → Distinct ns → Within most ns → Closed (λ n. contains n most ≡ true) all → length most < length ns + length es → Closed (λ n. contains n (rounds all es ns) ≡ true) all
rounds_closed all [] ns most d w c l = absurd (let few : length ns ≤ length most = at_most ns most d w in omega (arith, few, l))
rounds_closed all (e ∷ es) ns most d w c l =
    let next = onwards all ns in
    cond_both (length next == length ns) next (rounds all es next) (λ (ms : List ℕ). Closed (λ n. contains n ms ≡ true) all)
    (λ t.
    let even : length next ≡ length ns = eqb-true (length next) (length ns) t in
    let same : next ≡ ns = grows_back ns next (onwards_grows all ns) (omega (arith, even)) in
    subst (λ (ms : List ℕ). Closed (λ n. contains n ms ≡ true) all) (sym same) (fixed all ns same))
    (λ t.
    let more : length ns < length next = longer (length ns) (length next) (grows_length ns next (onwards_grows all ns)) t in
    rounds_closed all es next most (onwards_distinct all ns d) (onwards_each (λ n. contains n most ≡ true) all ns c w) c (omega (arith, l, more)))

abbrev pub files_of : List Dependence → List ℕ
files_of = map (λ e. e.file)

-- no edge leads out of what is reached from a unit's file, where all edges lead to such files
pub reached_closed : (all : List Dependence) (file : ℕ) → Closed (λ n. contains n (files_of all) ≡ true) all → contains file (files_of all) ≡ true → Closed (λ n. contains n (reached all file) ≡ true) all
reached_closed all file c h =
    rounds_closed all all (file ∷ []) (files_of all) (refl, tt) (h, tt) c (omega (arith, length-map all (λ (e : Dependence). e.file)))
