-- Lines that are allowed where a condition holds.
use Rattle.std.proofs.Common.{◌≡◌, refl, sym, ◌∙◌, ap, subst, ℕ, suc, Bool, true, false, List, [], ◌∷◌, map, length, drop, get_or, ◌<◌, ◌≤◌, ◌+◌, Option, Some, None, Result, arith, add-one, drop-cons}
use Rattle.std.specs.Prelude.{◌&&◌, nat_eq, ◌-◌}
use Rattle.std.proofs.lemmas.Bool.{false≢true, eqb-true}
use Rattle.std.proofs.Common.{eq-eqb}
use Rattle.std.proofs.Math.ListN.{drop_of_length-le}
use Rattle.logic_terms.specs.Node.{Node}
use Rattle.logic_terms.specs.Value.{Kind}
use Rattle.logic_terms.specs.View.{formula}
use Rattle.logic_terms.specs.Names.{names_nothing, is_constant}
use Rattle.logic_terms.specs.Binding.{is_closed}
use Rattle.logic_terms.specs.Sorting.{Signature, node_kind}
use Rattle.logic_terms.specs.Sorts.{sort}
use Rattle.logic_terms.specs.declared.goal.Goal.{Goal}
use Rattle.logic_terms.specs.declared.goal.Symbol.{Symbol}
use Rattle.logic_terms.specs.declared.syntax.Formula.{Formula}
use Rattle.logic_terms.proofs.SortedClosed.{sorted_closed}
use Rattle.cert_rules.specs.Judged.{Judged, refused, when}
use Rattle.cert_lines.specs.Symbols.{is_some_truths}
use Rattle.cert_rules.specs.Context.{signature, is_formula, all_formulas}
use Rattle.cert_rules.specs.Judges.{IsFault, Judges, clause}
use Rattle.cert_rules.specs.Rules.{of_kind}
use Rattle.cert_rules.specs.declared.fault.LineFault.{LineFault}
use Rattle.cert_linear.specs.Here.{here}

-- a fault of what comes where the condition holds
pub fault_when : {A : Type 0} (e : LineFault) (b : Bool) (j : Judged A) → b ≡ true → IsFault e j → IsFault e (when b j)
fault_when e true j h f = f
fault_when e false j h f = absurd (false≢true h)

-- what a rule says where the condition holds
pub judged_when : (r : Result (List Formula) LineFault) (b : Bool) (j : Judged (List Node)) → b ≡ true → Judges clause j r → Judges clause (when b j) r
judged_when r true j h f = f
judged_when r false j h f = absurd (false≢true h)

-- what a rule says of a term of this kind
pub judged_of_kind : (r : Result (List Formula) LineFault) (o : Option Kind) (k : Kind) (f : Kind → Judged (List Node)) → o ≡ Some k → Judges clause (f k) r → Judges clause (of_kind o f) r
judged_of_kind r (Some j) k f h i = let s : k ≡ j = cc in subst (λ (m : Kind). Judges clause (f m) r) s i
judged_of_kind r None k f h i = absurd (cc)

-- ---- formulas, one after another

pub record AreFormulas (g : Goal) (n : ℕ) (ps : List Formula) (i : ℕ) : Type 0 where
  pub so : all_formulas (here g n) (map formula ps) ≡ all_formulas (here g n) (map formula (drop i ps))

pub none_yet : (g : Goal) (n : ℕ) (ps : List Formula) → AreFormulas g n ps 0
none_yet g n ps = record { so = refl }

module _ (g : Goal) (n : ℕ) (ps : List Formula) (i : ℕ) (a : AreFormulas g n ps i) where
  at_formula : (p : Formula) → i < length ps → p ≡ get_or ps i p → all_formulas (here g n) (map formula ps) ≡ (is_formula (here g n) (formula p) && all_formulas (here g n) (map formula (drop (i + 1) ps)))
  at_formula p h e =
      let cut : drop i ps ≡ get_or ps i p ∷ drop (i + 1) ps = rw (add-one, drop-cons ps i p) in
      a.so ∙ ap (λ (xs : List Formula). all_formulas (here g n) (map formula xs)) (cut ∙ ap (λ (x : Formula). x ∷ drop (i + 1) ps) (sym e))

  pub no_formula : (p : Formula) (b : Bool) → i < length ps → p ≡ get_or ps i p → b ≡ is_formula (here g n) (formula p) → b ≡ false → false ≡ all_formulas (here g n) (map formula ps)
  no_formula p b h e is f = sym (at_formula p h e ∙ ap (λ (c : Bool). c && all_formulas (here g n) (map formula (drop (i + 1) ps))) (sym is ∙ f))

  pub one_formula : (p : Formula) (b : Bool) → i < length ps → p ≡ get_or ps i p → b ≡ is_formula (here g n) (formula p) → b ≡ true → AreFormulas g n ps (i + 1)
  one_formula p b h e is t = record { so = at_formula p h e ∙ ap (λ (c : Bool). c && all_formulas (here g n) (map formula (drop (i + 1) ps))) (sym is ∙ t) }

  pub only_formulas : length ps ≤ i → true ≡ all_formulas (here g n) (map formula ps)
  only_formulas h = sym (a.so ∙ ap (λ (xs : List Formula). all_formulas (here g n) (map formula xs)) (drop_of_length-le ps h))

-- ---- constants

sorted_so : (s : Signature) (p : Node) (k : Option Kind) → node_kind s [] p ≡ k → is_some_truths k ≡ true → is_closed p ≡ true
sorted_so s p (Some k) e h = sorted_closed s p k e
sorted_so s p None e h = absurd (false≢true h)

and_true : (b c : Bool) → c ≡ true → (b && c) ≡ b
and_true true c e = e
and_true false c e = refl

-- a formula that is well sorted is a constant where it names nothing
pub constant_so : (s : Signature) (p : Node) → is_some_truths (node_kind s [] p) ≡ true → is_constant p ≡ names_nothing p
constant_so s p h = and_true (names_nothing p) (is_closed p) (sorted_so s p (node_kind s [] p) refl h)

module _ (g : Goal) (n : ℕ) (p : Node) (j : Judged (List Node)) where
  pub not_sorted : (b : Bool) → b ≡ is_formula (here g n) p → b ≡ false → when (is_formula (here g n) p && names_nothing p) j ≡ refused
  not_sorted b is f = ap (λ (x : Bool). when (x && names_nothing p) j) (sym is ∙ f)

  pub not_constant : (b d : Bool) → b ≡ is_formula (here g n) p → b ≡ true → d ≡ is_constant p → d ≡ false → when (is_formula (here g n) p && names_nothing p) j ≡ refused
  not_constant b d is t so f =
      ap (λ (x : Bool). when (x && names_nothing p) j) (sym is ∙ t)
      ∙ ap (λ (x : Bool). when x j) (sym (constant_so (signature (here g n)) p (sym is ∙ t)) ∙ sym so ∙ f)

-- ---- new symbols

mapped_length : (ss : List Symbol) → length (map (λ s. sort s.sort) ss) ≡ length ss
mapped_length [] = refl
mapped_length (s ∷ ss) = ap suc (mapped_length ss)

alike : (b c : Bool) → (b ≡ true → c ≡ true) → (c ≡ true → b ≡ true) → b ≡ c
alike true c f g = sym (f refl)
alike false true f g = g refl
alike false false f g = refl

pub is_next_so : (ss : List Symbol) (k n : ℕ) → length ss ≤ k → nat_eq (k - length ss) n ≡ nat_eq k (length (map (λ s. sort s.sort) ss) + n)
is_next_so ss k n h =
    let m = mapped_length ss in
    alike (nat_eq (k - length ss) n) (nat_eq k (length (map (λ s. sort s.sort) ss) + n))
    (λ t. let e = eqb-true (k - length ss) n t in eq-eqb k (length (map (λ s. sort s.sort) ss) + n) (omega arith))
    (λ t. let e = eqb-true k (length (map (λ s. sort s.sort) ss) + n) t in eq-eqb (k - length ss) n (omega arith))

no_truth : (b : Bool) → (b ≡ true → ⊥) → false ≡ b
no_truth true f = absurd (f refl)
no_truth false f = refl

pub is_not_next : (ss : List Symbol) (k n : ℕ) → k < length ss → false ≡ nat_eq k (length (map (λ s. sort s.sort) ss) + n)
is_not_next ss k n h =
    let m = mapped_length ss in
    no_truth (nat_eq k (length (map (λ s. sort s.sort) ss) + n)) (λ t. let e = eqb-true k (length (map (λ s. sort s.sort) ss) + n) t in omega arith)
