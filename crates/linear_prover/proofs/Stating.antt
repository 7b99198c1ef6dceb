-- What the parts of the machine's code do, as parts of the run.
use Rattle.std.proofs.Common.{◌≡◌, refl, sym, ◌∙◌, ap, ap₂, subst, ℕ, zero, suc, ◌≤◌, true, List, [], ◌∷◌, ◌++◌, map, length, arith}
use Rattle.std.specs.Prelude.{ℤ, Option, Some, None, Result, MatchOption, FitsSigned, slice_get}
use Rattle.std.specs.Int.{w128}
use Rattle.std.proofs.lemmas.List.{map-append}
use Rattle.logic_terms.specs.Node.{Node}
use Rattle.logic_terms.specs.View.{term}
use Rattle.logic_terms.specs.declared.syntax.Term.{Term}
use Rattle.linear_forms.specs.Form.{Form, combined}
use Rattle.linear_forms.specs.Fits.{combining_fits}
use Rattle.linear_forms.specs.View.{linear}
use Rattle.linear_forms.proofs.Narrow.{narrow_fits}
use Rattle.cert_lines.specs.Line.{sum_of}
use Rattle.linear_prover.specs.Machine.{Made, Aside, aside, State, Running, goes_on, ends, and_then, each, next, with_line, appended}
use Rattle.linear_prover.specs.Elimination.{summed, paired, all_paired, set_aside}
use Rattle.linear_prover.specs.View.{answer, made_of, aside_of, state, Runs}
use Rattle.linear_prover.specs.declared.answer.LinearAnswer.{LinearAnswer}
use Rattle.linear_prover.specs.declared.machine.MadeForm.{MadeForm}
use Rattle.linear_prover.specs.declared.machine.SetAside.{SetAside}
use Rattle.linear_prover.specs.declared.machine.LinearMachine.{LinearMachine}
use Rattle.linear_prover.proofs.Running.{then_same, each_map, summed_fits}

pub runs_along : {E : Type 0} (p q : Running) (m : LinearMachine) (r : Result (Option LinearAnswer) E) → p ≡ q → Runs p m r → Runs q m r
runs_along p q m r e h = let P : Running → Type 0 = λ x. Runs x m r in subst P e h

-- ---- pairs

pub summed_as : (m : ℤ) (x : Made) (n : ℤ) (y : Made) (s u : State) (f : Form) (k : ℕ) → FitsSigned w128 m → FitsSigned w128 n → f ≡ combined m x.body n y.body → combining_fits m x.body n y.body ≡ true → k ≡ next s → u ≡ with_line (sum_of x.number m y.number n) s → appended f k u ≡ summed m x n y s
summed_as m x n y s u f k a b e c h w =
    ap (λ (g : Form). appended g k u) e ∙ ap₂ (λ (j : ℕ) (v : State). appended (combined m x.body n y.body) j v) h w
    ∙ sym (summed_fits m x n y s (narrow_fits m a) (narrow_fits n b) c)

-- ---- variables

pub two_maps : (v : Node) (xs ys : List MadeForm) (s : State) → each (λ x. each (λ y. paired v (made_of x) (made_of y)) ys) xs s ≡ all_paired v (map made_of xs) (map made_of ys) s
two_maps v xs ys s = sym (each_map made_of (λ x. each (λ y. paired v x y) (map made_of ys)) xs s ∙ inner v xs ys s)
  where
    inner : (v : Node) (zs ys : List MadeForm) (t : State) → each (λ x. each (λ y. paired v (made_of x) y) (map made_of ys)) zs t ≡ each (λ x. each (λ y. paired v (made_of x) (made_of y)) ys) zs t
    inner v [] ys t = refl
    inner v (z ∷ zs) ys t =
        ap (λ (r : Running). and_then r (each (λ x. each (λ y. paired v (made_of x) y) (map made_of ys)) zs)) (each_map made_of (λ y. paired v (made_of z) y) ys t)
        ∙ then_same (each (λ y. paired v (made_of z) (made_of y)) ys t) (each (λ x. each (λ y. paired v (made_of x) y) (map made_of ys)) zs) (each (λ x. each (λ y. paired v (made_of x) (made_of y)) ys) zs) (λ u. inner v zs ys u)

pub bodies : (xs ys zs : List MadeForm) → zs ≡ xs ++ ys → map (λ x. x.body) (map made_of xs ++ map made_of ys) ≡ map (λ x. linear x.form) zs
bodies xs ys zs e = ap (map (λ (x : Made). x.body)) (sym (map-append made_of xs ys)) ∙ twice (xs ++ ys) ∙ sym (ap (map (λ (x : MadeForm). linear x.form)) e)
  where
    twice : (us : List MadeForm) → map (λ x. x.body) (map made_of us) ≡ map (λ x. linear x.form) us
    twice [] = refl
    twice (u ∷ us) = ap (λ (fs : List Form). linear u.form ∷ fs) (twice us)

pub got_none : (us : List Term) (i : ℕ) → length us ≤ i → slice_get (map term us) i ≡ None
got_none [] i h = refl
got_none (v ∷ us) zero h = absurd (omega arith)
got_none (v ∷ us) (suc i) h = got_none us i (omega arith)

pub set_aside_is : (s : State) (v : Node) (xs ys zs : List MadeForm) (vs ws : List SetAside) (a : SetAside) → s.eliminated ≡ map aside_of vs → ws ≡ a ∷ vs → aside_of a ≡ aside v (map (λ x. linear x.form) zs) → zs ≡ xs ++ ys → goes_on (record s { eliminated = map aside_of ws }) ≡ set_aside v (map made_of xs ++ map made_of ys) s
set_aside_is s v xs ys zs vs ws a e f g h =
    ap (λ (es : List Aside). goes_on (record s { eliminated = es }))
    (ap (map aside_of) f ∙ ap₂ (λ (b : Aside) (bs : List Aside). b ∷ bs) (g ∙ ap (aside v) (sym (bodies xs ys zs h))) (sym e))

-- ---- what a part of the run answered

pub went_on : (r : Running) (n : LinearMachine) (o : Option LinearAnswer) → MatchOption o (r ≡ goes_on (state n)) (λ a. r ≡ ends (answer a) n.budget) → o ≡ None → r ≡ goes_on (state n)
went_on r n o h e = let P : Option LinearAnswer → Type 0 = λ p. MatchOption p (r ≡ goes_on (state n)) (λ a. r ≡ ends (answer a) n.budget) in subst P e h

pub ended_by : (r : Running) (n : LinearMachine) (o : Option LinearAnswer) (a : LinearAnswer) → MatchOption o (r ≡ goes_on (state n)) (λ b. r ≡ ends (answer b) n.budget) → o ≡ Some a → r ≡ ends (answer a) n.budget
ended_by r n o a h e = let P : Option LinearAnswer → Type 0 = λ p. MatchOption p (r ≡ goes_on (state n)) (λ b. r ≡ ends (answer b) n.budget) in subst P e h
