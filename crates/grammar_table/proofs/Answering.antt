-- The answers of a run over tokens.
use Rattle.std.proofs.Common.{◌≡◌, ℕ, suc, ◌+◌, ◌<◌, ◌≤◌, List, [], ◌∷◌, ◌++◌, Option, Some, None, length, map, get_or, refl, sym, ap, ◌∙◌, subst, arith}
use Rattle.std.specs.Prelude as list
use Rattle.std.specs.List.{slice_get}
use Rattle.std.specs.Option.{option_map}
use Rattle.std.proofs.lemmas.List.{length-take-le, take_more}
use Rattle.std.proofs.lemmas.Option.{slice_get_within, slice_get-map, slice_get-get_or, get_or_from_slice_get}
use Rattle.ada_text.specs.declared.token.Token.{Token}
use Rattle.grammar_table.specs.declared.answers.SyntaxFault.{SyntaxFault}
use Rattle.grammar_table.specs.declared.answers.SyntaxFault.TheVariants as fault
use Rattle.grammar_table.specs.Parses.{Production}
use Rattle.grammar_table.specs.declared.run.Progress.{Progress}
use Rattle.grammar_table.specs.declared.run.Progress.TheVariants as progress
use Rattle.grammar_table.specs.declared.symbols.Construct.{Construct}
use Rattle.grammar_table.specs.declared.symbols.Symbol.{Symbol}
use Rattle.grammar_table.specs.declared.symbols.Terminal.{Terminal}
use Rattle.grammar_table.specs.Answers.{with_end, BeginsWith, GoesOn, IsUnexpected, IsTooDeep, IsFault, terminal_of, terminals}
use Rattle.grammar_table.specs.Levels.{IsShallow}
use Rattle.grammar_table.specs.Parses.{effects}
use Rattle.grammar_table.specs.Productions.{productions}
use Rattle.grammar_table.specs.Runs.{Reached, IsProgress, IsTooDeepAfter, and_then}
use Rattle.grammar_table.proofs.Fronts.{front_is, front_next, front_end}
use Rattle.grammar_table.proofs.Reaching.{goes_on}

pub progress_taken : (p : Progress) (ts : List Terminal) (t : Terminal) (ns : List ℕ) (os : List Construct) (ss : List Symbol) → p ≡ progress.Taken → IsProgress p ts t ns os ss → Reached (map Some (ts ++ t ∷ [])) (ts ++ t ∷ []) ns os ss
progress_taken p ts t ns os ss e h = subst (λ (q : Progress). IsProgress q ts t ns os ss) e h

pub progress_unexpected : (p : Progress) (ts : List Terminal) (t : Terminal) (ns : List ℕ) (os : List Construct) (ss : List Symbol) → p ≡ progress.Unexpected → IsProgress p ts t ns os ss → GoesOn productions (and_then ts (Some t)) → ⊥
progress_unexpected p ts t ns os ss e h = subst (λ (q : Progress). IsProgress q ts t ns os ss) e h

pub progress_deep : (p : Progress) (ts : List Terminal) (t : Terminal) (ns : List ℕ) (os : List Construct) (ss : List Symbol) → p ≡ progress.TooDeep → IsProgress p ts t ns os ss → IsTooDeepAfter ts t
progress_deep p ts t ns os ss e h = subst (λ (q : Progress). IsProgress q ts t ns os ss) e h

-- a run that has taken the first k tokens
unexpected : (ts : List Terminal) (k : ℕ) (next : Option Terminal) (ns : List ℕ) (os : List Construct) (ss : List Symbol) → k ≤ length ts → list.take (suc k) (with_end ts) ≡ and_then (list.take k ts) next → Reached (map Some (list.take k ts)) (list.take k ts) ns os ss → (GoesOn productions (and_then (list.take k ts) next) → ⊥) → IsUnexpected productions ts k
unexpected ts k next ns os ss h front r never =
    let (steps, b, shallow) = goes_on (map Some (list.take k ts)) (list.take k ts) ns os ss r in (
      h,
      (
        steps,
        subst (λ (l : List (Option Terminal)). BeginsWith productions l steps) (sym (front_is k ts h)) b,
        subst (λ (i : ℕ). IsShallow (list.take i (effects steps))) (length-take-le k ts h) shallow,
      ),
      λ g. never (subst (λ (l : List (Option Terminal)). GoesOn productions l) front g),
    )

within : (ts : List Terminal) (k : ℕ) (t : Terminal) → slice_get ts k ≡ Some t → k < length ts
within ts k t e = slice_get_within ts k t e

pub unexpected_at : (ts : List Terminal) (k : ℕ) (t : Terminal) (ns : List ℕ) (os : List Construct) (ss : List Symbol) → slice_get ts k ≡ Some t → Reached (map Some (list.take k ts)) (list.take k ts) ns os ss → (GoesOn productions (and_then (list.take k ts) (Some t)) → ⊥) → IsUnexpected productions ts k
unexpected_at ts k t ns os ss e r never =
    let h : k < length ts = within ts k t e in
    unexpected ts k (Some t) ns os ss (omega arith) (front_next k ts t e) r never

pub unexpected_end : (ts : List Terminal) (k : ℕ) (ns : List ℕ) (os : List Construct) (ss : List Symbol) → k ≡ length ts → list.take k ts ≡ ts → Reached (map Some (list.take k ts)) (list.take k ts) ns os ss → (GoesOn productions (and_then (list.take k ts) None) → ⊥) → IsUnexpected productions ts k
unexpected_end ts k ns os ss e all r never =
    unexpected ts k None ns os ss (omega arith) (ap (λ (i : ℕ). list.take (suc i) (with_end ts)) e ∙ front_end ts ∙ ap (λ (l : List Terminal). and_then l None) (sym all)) r never

pub deep_at : (ts : List Terminal) (k : ℕ) (t : Terminal) → slice_get ts k ≡ Some t → IsTooDeepAfter (list.take k ts) t → IsTooDeep productions ts k
deep_at ts k t e (steps, b, shallow, deep) =
    let h : k < length ts = within ts k t e in
    let count : length (list.take k ts) ≡ k = length-take-le k ts (omega arith) in (
      h,
      (
        steps,
        subst (λ (l : List (Option Terminal)). BeginsWith productions l steps) (sym (front_next k ts t e)) b,
        subst (λ (i : ℕ). IsShallow (list.take i (effects steps))) count shallow,
        λ s. deep (subst (λ (i : ℕ). IsShallow (list.take (suc i) (effects steps))) (sym count) s),
      ),
    )

-- the token at a place
pub at_is : (ts : List Token) (k : ℕ) (t : Terminal) (d : Token) → k < length ts → t ≡ terminal_of (get_or ts k d).kind → slice_get (terminals ts) k ≡ Some t
at_is ts k t d h e =
    slice_get-map (λ (x : Token). terminal_of x.kind) ts k ∙ ap (option_map (λ (x : Token). terminal_of x.kind)) (slice_get-get_or ts k d h) ∙ ap (λ (x : Terminal). Some x) (sym e)

-- one more token
pub more_taken : (ts : List Terminal) (k : ℕ) (t : Terminal) (ns : List ℕ) (os : List Construct) (ss : List Symbol) → slice_get ts k ≡ Some t → Reached (map Some (list.take k ts ++ t ∷ [])) (list.take k ts ++ t ∷ []) ns os ss → Reached (map Some (list.take (k + 1) ts)) (list.take (k + 1) ts) ns os ss
more_taken ts k t ns os ss e r =
    let h : k < length ts = within ts k t e in
    let one : list.take (k + 1) ts ≡ list.take k ts ++ t ∷ [] = take_more ts k t h ∙ ap (λ (x : Terminal). list.take k ts ++ x ∷ []) (get_or_from_slice_get ts k t t e) in
    subst (λ (l : List Terminal). Reached (map Some l) l ns os ss) (sym one) r

pub right_fault : (g : List Production) (ts : List Terminal) (k : ℕ) (f : SyntaxFault) → f ≡ fault.Unexpected k → IsUnexpected g ts k → IsFault g ts f
right_fault g ts k f e h = subst (λ (x : SyntaxFault). IsFault g ts x) (sym e) h

pub as_long : (ts : List Token) → length (terminals ts) ≡ length ts
as_long [] = refl
as_long (t ∷ ts) = ap suc (as_long ts)
