-- The steps of loops over values and bounds.
use Rattle.std.proofs.Common.{◌≡◌, refl, sym, ◌∙◌, ap, ℕ, ◌+◌, ◌<◌, ◌≤◌, true, false, List, [], ◌∷◌, map, length, get_or, drop}
use Rattle.std.specs.Prelude.{ℤ, pos}
use Rattle.logic_terms.specs.Node.{Node}
use Rattle.logic_terms.specs.View.{term}
use Rattle.logic_terms.specs.declared.syntax.Term.{Term}
use Rattle.logic_terms.specs.Same.{same_node}
use Rattle.linear_forms.specs.Form.{Form}
use Rattle.linear_forms.specs.View.{linear}
use Rattle.linear_prover.specs.Machine.{Answer, point}
use Rattle.linear_prover.specs.Values.{value_in, chosen}
use Rattle.linear_prover.specs.View.{aside_of}
use Rattle.linear_prover.specs.ValueView.{known_values}
use Rattle.linear_prover.specs.declared.values.KnownValue.{KnownValue}
use Rattle.linear_prover.specs.declared.machine.MadeForm.{MadeForm}
use Rattle.linear_prover.specs.declared.machine.SetAside.{SetAside}
use Rattle.linear_prover.proofs.Steps.{at_next, at_end, if_true, if_false}

-- ---- values

pub value_next : (v : Node) (ks : List KnownValue) (i : ℕ) (k : KnownValue) (w : ℤ) → i < length ks → k ≡ get_or ks i k → same_node v (term k.variable) ≡ false → value_in (known_values (drop i ks)) v ≡ w → value_in (known_values (drop (i + 1) ks)) v ≡ w
value_next v ks i k w h e t g = sym (if_false _ _ _ t) ∙ at_next (λ (ls : List KnownValue). value_in (known_values ls) v) ks i k w h e g

pub value_here : (v : Node) (ks : List KnownValue) (i : ℕ) (k : KnownValue) (w : ℤ) → i < length ks → k ≡ get_or ks i k → same_node v (term k.variable) ≡ true → value_in (known_values (drop i ks)) v ≡ w → k.value ≡ w
value_here v ks i k w h e t g = sym (if_true _ _ _ t) ∙ at_next (λ (ls : List KnownValue). value_in (known_values ls) v) ks i k w h e g

pub value_none : (v : Node) (ks : List KnownValue) (i : ℕ) (w : ℤ) → length ks ≤ i → value_in (known_values (drop i ks)) v ≡ w → pos 0 ≡ w
value_none v ks i w h g = at_end (λ (ls : List KnownValue). value_in (known_values ls) v) ks i w h g

-- ---- bounds

abbrev pub forms_of : List MadeForm → List Form
forms_of xs = map (λ x. linear x.form) xs

-- ---- choices

pub chosen_end : (vs : List Term) (es : List SetAside) (i : ℕ) (ks : List KnownValue) (ns : List ℤ) (w : Answer) → length es ≤ i → ns ≡ map (λ v. value_in (known_values ks) (term v)) vs → chosen (map term vs) (map aside_of (drop i es)) (known_values ks) ≡ w → point ns ≡ w
chosen_end vs es i ks ns w h e g =
    ap point (e ∙ twice vs) ∙ at_end (λ (xs : List SetAside). chosen (map term vs) (map aside_of xs) (known_values ks)) es i w h g
  where
    twice : (us : List Term) → map (λ v. value_in (known_values ks) (term v)) us ≡ map (value_in (known_values ks)) (map term us)
    twice [] = refl
    twice (u ∷ us) = ap (λ (zs : List ℤ). value_in (known_values ks) (term u) ∷ zs) (twice us)
