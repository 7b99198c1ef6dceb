-- Fields of a record that are found one after another.
use Rattle.std.proofs.Common.{◌≡◌, refl, sym, ◌∙◌, ap, ℕ, zero, suc, ◌+◌, ◌<◌, ◌≤◌, arith, List, [], ◌∷◌, ◌++◌, length, get_or, drop}
use Rattle.logic_terms.specs.Value.{Value, Values, no_values, value}
use Rattle.logic_terms.specs.Run.{Outcome, gives, wide, too_long, and_then, run, run_all}
use Rattle.logic_terms.specs.View.{term, terms}
use Rattle.logic_terms.specs.Node.{no_nodes}
use Rattle.logic_truth.specs.Found.{found, found_all}
use Rattle.logic_truth.specs.declared.found.Found.{Found}
use Rattle.logic_terms.specs.declared.syntax.Term.{Term}
use Rattle.logic_terms.proofs.Lists.{terms_drop}
use Rattle.logic_truth.proofs.Whole.{then_value, found-push}

abbrev pub both : Values → Values → Values
both no_values us = us
both (value v vs) us = value v (both vs us)

-- an outcome with more values before its own
abbrev pub after : Values → Outcome Values → Outcome Values
after vs x = and_then x (λ us n. gives (both vs us) n)

both-none : (vs : Values) → both vs no_values ≡ vs
both-none no_values = refl
both-none (value v vs) = ap (value v) (both-none vs)

both-then : (vs : Values) (v : Value) (us : Values) → both (then_value vs v) us ≡ both vs (value v us)
both-then no_values v us = refl
both-then (value u vs) v us = ap (value u) (both-then vs v us)

pub after_none : (x : Outcome Values) → after no_values x ≡ x
after_none (gives vs n) = refl
after_none wide = refl
after_none too_long = refl

after_one : (vs : Values) (v : Value) (x : Outcome Values) → after vs (and_then x (λ us r. gives (value v us) r)) ≡ after (then_value vs v) x
after_one vs v (gives us n) = ap (λ w. gives w n) (sym (both-then vs v us))
after_one vs v wide = refl
after_one vs v too_long = refl

-- one turn of the loop
pub prefix_more : (start : Outcome Values) (ts : List Term) (i n m : ℕ) (vs : List Value) (t : Term) (xs ys : List Found) (x : Found) → start ≡ after (found_all xs) (run_all n vs (terms (drop i ts))) → i < length ts → t ≡ get_or ts i t → run n vs (term t) ≡ gives (found x) m → ys ≡ xs ++ x ∷ [] → start ≡ after (found_all ys) (run_all m vs (terms (drop (i + 1) ts)))
prefix_more start ts i n m vs t xs ys x before h is e more =
    let rest = run_all m vs (terms (drop (i + 1) ts)) in
    before ∙ ap (λ ns. after (found_all xs) (run_all n vs ns)) (terms_drop ts i t h is)
    ∙ ap (λ o. after (found_all xs) (and_then o (λ v k. and_then (run_all k vs (terms (drop (i + 1) ts))) (λ us r. gives (value v us) r)))) e
    ∙ after_one (found_all xs) (found x) rest
    ∙ ap (λ us. after us rest) (sym (found-push xs x) ∙ ap found_all (sym more))

-- a turn that fails
pub prefix_fails : (start : Outcome Values) (ts : List Term) (i n : ℕ) (vs : List Value) (t : Term) (xs : List Found) (y : Outcome Value) (z : Outcome Values) → start ≡ after (found_all xs) (run_all n vs (terms (drop i ts))) → i < length ts → t ≡ get_or ts i t → run n vs (term t) ≡ y → after (found_all xs) (and_then y (λ v k. and_then (run_all k vs (terms (drop (i + 1) ts))) (λ us r. gives (value v us) r))) ≡ z → start ≡ z
prefix_fails start ts i n vs t xs y z before h is e f =
    before ∙ ap (λ ns. after (found_all xs) (run_all n vs ns)) (terms_drop ts i t h is)
    ∙ ap (λ o. after (found_all xs) (and_then o (λ v k. and_then (run_all k vs (terms (drop (i + 1) ts))) (λ us r. gives (value v us) r)))) e
    ∙ f

-- the end of the loop
pub prefix_ends : (start : Outcome Values) (n : ℕ) (vs : List Value) (xs : List Found) → start ≡ after (found_all xs) (run_all n vs no_nodes) → start ≡ gives (found_all xs) n
prefix_ends start n vs xs e = e ∙ ap (λ us. gives us n) (both-none (found_all xs))

terms_past : (ts : List Term) (i : ℕ) → length ts ≤ i → terms (drop i ts) ≡ no_nodes
terms_past [] zero h = refl
terms_past [] (suc i) h = refl
terms_past (t ∷ ts) zero h = absurd (omega arith)
terms_past (t ∷ ts) (suc i) h = terms_past ts i (omega arith)

pub prefix_done : (start : Outcome Values) (ts : List Term) (i n : ℕ) (vs : List Value) (xs : List Found) → start ≡ after (found_all xs) (run_all n vs (terms (drop i ts))) → length ts ≤ i → start ≡ gives (found_all xs) n
prefix_done start ts i n vs xs e h = prefix_ends start n vs xs (e ∙ ap (λ ns. after (found_all xs) (run_all n vs ns)) (terms_past ts i h))
