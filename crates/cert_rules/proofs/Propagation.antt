-- Rule C3: propagation of unit clauses.
use Rattle.std.proofs.Common.{◌≡◌, refl, ◌∙◌, ap, ℕ, zero, suc, inl, inr, Bool, true, false, not, ◌||◌, List, [], ◌∷◌, map, Option, Some, None}
use Rattle.std.proofs.lemmas.Bool.{or_cases, or_parts, or_left, or_right, not-true, true_from_ne_false, false≢true}
use Rattle.std.specs.Prelude.{if◌then◌else◌}
use Rattle.logic_terms.specs.Node.{Node}
use Rattle.logic_terms.specs.Same.{same_node}
use Rattle.logic_terms.specs.Sorting.{IsWorldOf, AllHold, nth}
use Rattle.logic_terms.specs.Meaning.{World, holds}
use Rattle.logic_terms.specs.Binding.{negated}
use Rattle.logic_terms.proofs.SameNodes.{same_node-is}
use Rattle.cert_lines.specs.Line.{propagation}
use Rattle.cert_rules.specs.Judged.{yields, when}
use Rattle.cert_rules.specs.Context.{Context, signature, next_symbol, all_formulas}
use Rattle.cert_rules.specs.Clause.{clause_holds, AllClausesHold}
use Rattle.cert_rules.specs.Propagation.{among, is_false, not_false, clause_at, after_hint, left_of, propagates, follows}
use Rattle.cert_rules.specs.Rules.{judge}
use Rattle.cert_rules.proofs.NumberedClauses.{IsSound, when_sound}
use Rattle.cert_rules.proofs.Opposite.{holds-negated}
use Rattle.cert_rules.proofs.Sorting.{formulas_below}

-- ---- literals

first_or_later : (w : World) (p q : Node) (b rest : Bool) → (b ≡ true → p ≡ q) → holds w [] q ≡ true → (rest ≡ true → holds w [] p ≡ true) → (b || rest) ≡ true → holds w [] p ≡ true
first_or_later w p q true rest f e g h = ap (holds w []) (f refl) ∙ e
first_or_later w p q false rest f e g h = g h

among-holds : (w : World) (p : Node) (qs : List Node) → AllHold w qs → among p qs ≡ true → holds w [] p ≡ true
among-holds w p [] all h = absurd (false≢true h)
among-holds w p (q ∷ qs) all h = first_or_later w p q (same_node p q) (among p qs) (same_node-is p q) all.0 (among-holds w p qs all.1) h

false-fails : (w : World) (assumed : List Node) (p : Node) → AllHold w assumed → is_false assumed p ≡ true → holds w [] p ≡ false
false-fails w assumed p all h = not-true _ (cc (holds-negated w [] p, among-holds w (negated p) assumed all h))

kept-or-not : (w : World) (p : Node) (b rest : Bool) (more : List Node) → (b ≡ true → holds w [] p ≡ false) → (rest ≡ true → clause_holds w more ≡ true) → (holds w [] p || rest) ≡ true → clause_holds w (if b then more else p ∷ more) ≡ true
kept-or-not w p true rest more f g h =
    elim (or_cases (holds w [] p) rest h) [ inl e ↦ absurd (cc (f refl)) | inr e ↦ g e ]
kept-or-not w p false rest more f g h =
    elim (or_cases (holds w [] p) rest h) [ inl e ↦ or_left _ _ e | inr e ↦ or_right (holds w [] p) _ (g e) ]

left-holds : (w : World) (assumed ps : List Node) → AllHold w assumed → clause_holds w ps ≡ true → clause_holds w (not_false assumed ps) ≡ true
left-holds w assumed [] all h = absurd (false≢true h)
left-holds w assumed (p ∷ ps) all h =
    kept-or-not w p (is_false assumed p) (clause_holds w ps) (not_false assumed ps) (false-fails w assumed p all) (left-holds w assumed ps all) h

-- ---- hints

-- where there is a clause, it holds
abbrev HoldsThere : World → Option (List Node) → Type 0
HoldsThere w None = Unit {0}
HoldsThere w (Some c) = clause_holds w c ≡ true

nth-holds : (w : World) (cs : List (List Node)) (k : ℕ) → AllClausesHold w cs → HoldsThere w (nth cs k)
nth-holds w [] k all = tt
nth-holds w (c ∷ cs) zero all = all.0
nth-holds w (c ∷ cs) (suc k) all = nth-holds w cs k all.1

clause_at-holds : (w : World) (cs : List (List Node)) (k : ℕ) → AllClausesHold w cs → HoldsThere w (clause_at cs k)
clause_at-holds w cs zero all = tt
clause_at-holds w cs (suc k) all = nth-holds w cs k all

left_of-holds : (w : World) (assumed : List Node) (o : Option (List Node)) → AllHold w assumed → HoldsThere w o → HoldsThere w (left_of assumed o)
left_of-holds w assumed None all h = tt
left_of-holds w assumed (Some c) all h = left-holds w assumed c all h

alone : (b : Bool) → (b || false) ≡ true → b ≡ true
alone true h = refl
alone false h = h

hint-refutes : (w : World) (assumed : List Node) (o : Option (List Node)) (ks : List ℕ) (goes_on : List Node → Bool) → AllHold w assumed → HoldsThere w o → ((more : List Node) → AllHold w more → goes_on more ≡ true → ⊥) → after_hint assumed o ks goes_on ≡ true → ⊥
hint-refutes w assumed None ks goes_on all there later h = false≢true h
hint-refutes w assumed (Some []) ks goes_on all there later h = false≢true there
hint-refutes w assumed (Some (p ∷ [])) ks goes_on all there later h = later (p ∷ assumed) (alone _ there, all) h
hint-refutes w assumed (Some (p ∷ q ∷ ps)) ks goes_on all there later h = false≢true h

refutes : (w : World) (cs : List (List Node)) (ks : List ℕ) → AllClausesHold w cs → (assumed : List Node) → AllHold w assumed → propagates cs assumed ks ≡ true → ⊥
refutes w cs [] earlier assumed all h = false≢true h
refutes w cs (k ∷ ks) earlier assumed all h =
    hint-refutes w assumed (left_of assumed (clause_at cs k)) ks (λ more. propagates cs more ks) all
    (left_of-holds w assumed (clause_at cs k) all (clause_at-holds w cs k earlier))
    (refutes w cs ks earlier) h

pub negations-hold : (w : World) (ps : List Node) → clause_holds w ps ≡ false → AllHold w (map negated ps)
negations-hold w [] h = tt
negations-hold w (p ∷ ps) h =
    let e = or_parts _ _ h in (holds-negated w [] p ∙ ap not e.0, negations-hold w ps e.1)

pub follows-holds : (w : World) (cs : List (List Node)) (ps : List Node) (ks : List ℕ) → AllClausesHold w cs → follows cs ps ks ≡ true → clause_holds w ps ≡ true
follows-holds w cs ps ks earlier h =
    true_from_ne_false (clause_holds w ps) (λ e. refutes w cs ks earlier (map negated ps) (negations-hold w ps e) h)

pub propagation-sound : (c : Context) (w : World) → IsWorldOf (signature c) w → AllClausesHold w c.earlier → (ps : List Node) (ks : List ℕ) → IsSound w (next_symbol c) (judge c (propagation ps ks))
propagation-sound c w fits earlier ps ks =
    when_sound w (next_symbol c) (all_formulas c ps) (when (follows c.earlier ps ks) (yields ps)) (λ f.
    when_sound w (next_symbol c) (follows c.earlier ps ks) (yields ps) (λ h.
    (follows-holds w c.earlier ps ks earlier h, formulas_below c ps f)))
