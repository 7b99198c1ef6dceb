-- An accepted certificate makes its goal valid.
use Rattle.std.proofs.Common.{◌≡◌, refl, sym, ◌∙◌, ap, subst, ℕ, zero, suc, ◌+◌, Bool, true, false, List, [], ◌∷◌, ◌++◌, length, length-append, append_assoc, Some, arith}
use Rattle.std.proofs.lemmas.Bool.{and_from, true_from_ne_false, false≢true}
use Rattle.std.proofs.lemmas.List.{append-nil}
use Rattle.std.specs.Prelude.{ℤ, ◌==◌, if◌then◌else◌}
use Rattle.logic_terms.specs.Node.{Node}
use Rattle.logic_terms.specs.Value.{Kind, numbers, truths, Value, number}
use Rattle.logic_terms.specs.Sorting.{Signature, Problem, nth, HasKind, IsWorldOf, AllHold, are_formulas, IsWellSorted}
use Rattle.logic_terms.specs.Meaning.{World, holds}
use Rattle.cert_lines.specs.Line.{Line, given, opening, choice, propagation, linear, trichotomy, instance, witness, replacing, array_fact, extensionality, field_fact, division, product, computing}
use Rattle.cert_rules.specs.Judged.{Judged, yields, refused, too_wide}
use Rattle.cert_lines.specs.Symbols.{new_kinds, with_new}
use Rattle.cert_rules.specs.Context.{Context, start, signature, next_symbol}
use Rattle.cert_rules.specs.Clause.{clause_holds, AllClausesHold}
use Rattle.cert_rules.specs.Rules.{judge}
use Rattle.cert_rules.specs.Checking.{Answer, accepted, no_end, new_symbols, with_line, ends_empty, answer_after, answer_from, CertificatesAreSound}
use Rattle.cert_rules.proofs.Names.{names_below, clause_below, with_symbol}
use Rattle.cert_rules.proofs.NumberedClauses.{IsSound, AllBelow}
use Rattle.cert_rules.proofs.Sorting.{names_known, kinds-length}
use Rattle.cert_rules.proofs.Fresh.{holds-fresh, all-fresh, clauses-fresh, below-more, clause_below-more, clauses_below-more}
use Rattle.cert_rules.proofs.Opening.{hypothesis-sound, opening-sound, choice-sound, trichotomy-sound, product-sound, computing-sound}
use Rattle.cert_rules.proofs.Propagation.{propagation-sound}
use Rattle.cert_rules.proofs.Linear.{linear-sound}
use Rattle.cert_rules.proofs.Quantifiers.{instance-sound, IsSoundAt, witness-sound}
use Rattle.cert_rules.proofs.Replacing.{replacing-sound}
use Rattle.cert_rules.proofs.Compound.{array-sound, extensionality-sound, field-sound}
use Rattle.cert_rules.proofs.Division.{division-sound}

-- What is so before each line: the goal fails in this world, and all clauses so far hold in it.
record Stands (c : Context) (w : World) : Type 0 where
  is_world : IsWorldOf (signature c) w
  clauses_hold : AllClausesHold w c.earlier
  clauses_below : AllBelow (next_symbol c) c.earlier
  hypotheses_hold : AllHold w c.goal.hypotheses
  hypotheses_below : clause_below (next_symbol c) c.goal.hypotheses ≡ true
  conclusion_fails : holds w [] c.goal.conclusion ≡ false
  conclusion_below : names_below (next_symbol c) c.goal.conclusion ≡ true

-- ---- one more clause

all-hold-more : (w : World) (cs : List (List Node)) (c : List Node) → AllClausesHold w cs → clause_holds w c ≡ true → AllClausesHold w (cs ++ c ∷ [])
all-hold-more w [] c h e = (e, tt)
all-hold-more w (b ∷ cs) c h e = (h.0, all-hold-more w cs c h.1 e)

all-below-more : (d : ℕ) (cs : List (List Node)) (c : List Node) → AllBelow d cs → clause_below d c ≡ true → AllBelow d (cs ++ c ∷ [])
all-below-more d [] c h e = (e, tt)
all-below-more d (b ∷ cs) c h e = (h.0, all-below-more d cs c h.1 e)

abbrev with_clause : Context → ℕ → List Node → Context
with_clause c n clause = record { goal = c.goal; fresh = n; earlier = c.earlier ++ clause ∷ [] }

none_more : (k n : ℕ) → k ≡ 0 → n ≡ k + n
none_more k n e = omega arith

-- a line that makes no symbol leaves the world as it is
stands-still : (c : Context) (w : World) → Stands c w → (l : Line) (clause : List Node) → new_symbols l ≡ 0 → IsSound w (next_symbol c) (judge c l) → judge c l ≡ yields clause → (v : World) × Stands (with_line c l clause) v
stands-still c w s l clause none sound e =
    let h = subst (IsSound w (next_symbol c)) e sound in
    let here : Stands (with_clause c c.fresh clause) w = record {
      is_world = s.is_world;
      clauses_hold = all-hold-more w c.earlier clause s.clauses_hold h.0;
      clauses_below = all-below-more (next_symbol c) c.earlier clause s.clauses_below h.1;
      hypotheses_hold = s.hypotheses_hold;
      hypotheses_below = s.hypotheses_below;
      conclusion_fails = s.conclusion_fails;
      conclusion_below = s.conclusion_below;
    } in
    (w, subst (λ n. Stands (with_clause c n clause) w) (none_more (new_symbols l) c.fresh none) here)

-- ---- one more symbol

kinds-more : (n : ℕ) → numbers ∷ new_kinds n ≡ new_kinds n ++ numbers ∷ []
kinds-more zero = refl
kinds-more (suc n) = ap (λ ks. numbers ∷ ks) (kinds-more n)

not-chosen : (k : Kind) (b : Bool) (v u : Value) → b ≡ false → HasKind (Some k) u → HasKind (Some k) (if b then v else u)
not-chosen k true v u e h = absurd (cc)
not-chosen k false v u e h = h

fits-last : (ks : List Kind) (f : ℕ → Value) (i : ℤ) → ((n : ℕ) → HasKind (nth ks n) (f n)) → (n : ℕ) → HasKind (nth (ks ++ numbers ∷ []) n) (if n == length ks then number i else f n)
fits-last [] f i h zero = refl
fits-last [] f i h (suc n) = tt
fits-last (k ∷ ks) f i h zero = not-chosen k (zero == suc (length ks)) (number i) (f zero) (grind arith) (h zero)
fits-last (k ∷ ks) f i h (suc n) =
    let e : (suc n == suc (length ks)) ≡ (n == length ks) = grind arith in
    subst (λ b. HasKind (nth (ks ++ numbers ∷ []) n) (if b then number i else f (suc n))) (sym e) (fits-last ks (λ m. f (suc m)) i (λ m. h (suc m)) n)

symbols-more : (xs : List Kind) (n : ℕ) → (xs ++ new_kinds n) ++ numbers ∷ [] ≡ xs ++ new_kinds (suc n)
symbols-more xs n = append_assoc xs (new_kinds n) (numbers ∷ []) ∙ ap (λ ks. xs ++ ks) (sym (kinds-more n))

all-length : (xs : List Kind) (n : ℕ) → length (xs ++ new_kinds n) ≡ length xs + n
all-length xs n = length-append xs (new_kinds n) ∙ ap (λ k. length xs + k) (kinds-length n)

symbols-fit : (s : Signature) (w : World) (n : ℕ) (i : ℤ) → IsWorldOf (with_new s n) w → (k : ℕ) → HasKind (nth (s.symbols ++ new_kinds (suc n)) k) ((with_symbol w (length s.symbols + n) (number i)).symbol k)
symbols-fit s w n i fits k =
    subst (λ d. HasKind (nth (s.symbols ++ new_kinds (suc n)) k) ((with_symbol w d (number i)).symbol k)) (all-length s.symbols n)
    (subst (λ ks. HasKind (nth ks k) ((with_symbol w (length (s.symbols ++ new_kinds n)) (number i)).symbol k)) (symbols-more s.symbols n)
    (fits-last (s.symbols ++ new_kinds n) w.symbol i fits.symbols_fit k))

world-more : (s : Signature) (w : World) (n : ℕ) (i : ℤ) → IsWorldOf (with_new s n) w → IsWorldOf (with_new s (suc n)) (with_symbol w (length s.symbols + n) (number i))
world-more s w n i fits = record { symbols_fit = symbols-fit s w n i fits; calls_fit = fits.calls_fit }

add-suc : (a n : ℕ) → suc (a + n) ≡ a + suc n
add-suc a n = omega arith

one_more : (n : ℕ) → suc n ≡ 1 + n
one_more n = omega arith

-- a new symbol has a number with which the line's clause holds
stands-more : (c : Context) (w : World) → Stands c w → (k : ℕ) (q : Node) (clause : List Node) → IsSoundAt w (next_symbol c) (judge c (witness k q)) → judge c (witness k q) ≡ yields clause → (v : World) × Stands (with_line c (witness k q) clause) v
stands-more c w s k q clause sound e =
    let h = subst (IsSoundAt w (next_symbol c)) e sound in
    let d = next_symbol c in
    let v = with_symbol w d (number h.0) in
    let up = add-suc (length c.goal.signature.symbols) c.fresh in
    let here : Stands (with_clause c (suc c.fresh) clause) v = record {
      is_world = world-more c.goal.signature w c.fresh h.0 s.is_world;
      clauses_hold = all-hold-more v c.earlier clause (clauses-fresh w d (number h.0) c.earlier s.clauses_below s.clauses_hold) h.1;
      clauses_below = subst (λ n. AllBelow n (c.earlier ++ clause ∷ [])) up (all-below-more (suc d) c.earlier clause (clauses_below-more d c.earlier s.clauses_below) h.2);
      hypotheses_hold = all-fresh w d (number h.0) c.goal.hypotheses s.hypotheses_below s.hypotheses_hold;
      hypotheses_below = subst (λ n. clause_below n c.goal.hypotheses ≡ true) up (clause_below-more d c.goal.hypotheses s.hypotheses_below);
      conclusion_fails = holds-fresh w d (number h.0) [] c.goal.conclusion s.conclusion_below ∙ s.conclusion_fails;
      conclusion_below = subst (λ n. names_below n c.goal.conclusion ≡ true) up (below-more d c.goal.conclusion s.conclusion_below);
    } in
    (v, subst (λ n. Stands (with_clause c n clause) v) (one_more c.fresh) here)

-- ---- each line

after-line : (c : Context) (w : World) → Stands c w → (l : Line) (clause : List Node) → judge c l ≡ yields clause → (v : World) × Stands (with_line c l clause) v
after-line c w s (given k) clause e =
    stands-still c w s (given k) clause refl (hypothesis-sound w (next_symbol c) c.goal.hypotheses c.goal.conclusion k s.hypotheses_hold s.hypotheses_below s.conclusion_fails s.conclusion_below) e
after-line c w s (opening n p) clause e = stands-still c w s (opening n p) clause refl (opening-sound c w s.is_world n p) e
after-line c w s (choice n t) clause e = stands-still c w s (choice n t) clause refl (choice-sound c w s.is_world n t) e
after-line c w s (propagation ps ks) clause e = stands-still c w s (propagation ps ks) clause refl (propagation-sound c w s.is_world s.clauses_hold ps ks) e
after-line c w s (linear ps ss) clause e = stands-still c w s (linear ps ss) clause refl (linear-sound c w s.is_world ps ss) e
after-line c w s (trichotomy a b) clause e = stands-still c w s (trichotomy a b) clause refl (trichotomy-sound c w s.is_world a b) e
after-line c w s (instance t q) clause e = stands-still c w s (instance t q) clause refl (instance-sound c w s.is_world t q) e
after-line c w s (witness k q) clause e = stands-more c w s k q clause (witness-sound c w k q) e
after-line c w s (replacing d k p q) clause e = stands-still c w s (replacing d k p q) clause refl (replacing-sound c w s.is_world d k p q) e
after-line c w s (array_fact n t) clause e = stands-still c w s (array_fact n t) clause refl (array-sound c w s.is_world n t) e
after-line c w s (extensionality a b) clause e = stands-still c w s (extensionality a b) clause refl (extensionality-sound c w s.is_world a b) e
after-line c w s (field_fact n t) clause e = stands-still c w s (field_fact n t) clause refl (field-sound c w s.is_world n t) e
after-line c w s (division n a d) clause e = stands-still c w s (division n a d) clause refl (division-sound c w s.is_world n a d) e
after-line c w s (product f g) clause e = stands-still c w s (product f g) clause refl (product-sound c w s.is_world f g) e
after-line c w s (computing p) clause e = stands-still c w s (computing p) clause refl (computing-sound c w s.is_world p) e

-- ---- the whole

empty-fails : (w : World) (cs : List (List Node)) → ends_empty cs ≡ true → AllClausesHold w cs → ⊥
empty-fails w [] h all = false≢true h
empty-fails w ([] ∷ []) h all = false≢true all.0
empty-fails w ((p ∷ ps) ∷ []) h all = false≢true h
empty-fails w (c ∷ d ∷ cs) h all = empty-fails w (d ∷ cs) h all.1

end-fails : (b : Bool) → (if b then accepted else no_end) ≡ accepted → b ≡ true
end-fails true h = refl
end-fails false h = absurd (cc)

after-judged : (c : Context) (w : World) → Stands c w → (l : Line) (x : Judged (List Node)) (goes_on : Context → Answer) → judge c l ≡ x → ((d : Context) (v : World) → Stands d v → goes_on d ≡ accepted → ⊥) → answer_after c l x goes_on ≡ accepted → ⊥
after-judged c w s l (yields clause) goes_on e later h =
    let r = after-line c w s l clause e in later (with_line c l clause) r.0 r.1 h
after-judged c w s l refused goes_on e later h = cc
after-judged c w s l too_wide goes_on e later h = cc

never-accepted : (ls : List Line) (c : Context) (w : World) → Stands c w → answer_from c ls ≡ accepted → ⊥
never-accepted [] c w s h = empty-fails w c.earlier (end-fails (ends_empty c.earlier) h) s.clauses_hold
never-accepted (l ∷ ls) c w s h =
    after-judged c w s l (judge c l) (λ d. answer_from d ls) refl (never-accepted ls) h

formulas-below : (s : Signature) (ps : List Node) → are_formulas s ps → clause_below (length s.symbols) ps ≡ true
formulas-below s [] h = refl
formulas-below s (p ∷ ps) h = and_from _ _ (names_known s p truths h.0) (formulas-below s ps h.1)

none_new : (n : ℕ) → n ≡ n + 0
none_new n = omega arith

start-stands : (g : Problem) (w : World) → IsWellSorted g → IsWorldOf g.signature w → AllHold w g.hypotheses → holds w [] g.conclusion ≡ false → Stands (start g) w
start-stands g w sorted fits all fails =
    let symbols = g.signature.symbols in
    record {
      is_world = record {
        symbols_fit = λ n. subst (λ ks. HasKind (nth ks n) (w.symbol n)) (sym (append-nil symbols)) (fits.symbols_fit n);
        calls_fit = fits.calls_fit;
      };
      clauses_hold = tt;
      clauses_below = tt;
      hypotheses_hold = all;
      hypotheses_below = subst (λ n. clause_below n g.hypotheses ≡ true) (none_new (length symbols)) (formulas-below g.signature g.hypotheses sorted.0);
      conclusion_fails = fails;
      conclusion_below = subst (λ n. names_below n g.conclusion ≡ true) (none_new (length symbols)) (names_known g.signature g.conclusion truths sorted.1);
    }

pub certificates-sound : CertificatesAreSound
certificates-sound g ls sorted e w fits all =
    true_from_ne_false (holds w [] g.conclusion) (λ no. never-accepted ls (start g) w (start-stands g w sorted fits all no) e)
