-- What a run has reached, from step to step.
use Rattle.std.proofs.Common.{◌≡◌, ℕ, suc, ◌<◌, ◌≤◌, List, [], ◌∷◌, ◌++◌, Option, Some, None, length, map, refl, sym, ap, ◌∙◌, subst, inl, inr, append_assoc, append-nil, length-append, arith}
use Rattle.std.specs.Prelude as list
use Rattle.std.proofs.lemmas.Bool.{cases_lt}
use Rattle.std.proofs.lemmas.List.{append_cancel_left, map-append, take-append-le, take_all}
use Rattle.std.proofs.Math.Seq.{take-nil, take-append_seam}
use Rattle.grammar_table.specs.declared.symbols.Construct.{Construct}
use Rattle.grammar_table.specs.declared.symbols.Effect.{Effect}
use Rattle.grammar_table.specs.declared.symbols.Nonterminal.{Nonterminal}
use Rattle.grammar_table.specs.declared.symbols.Symbol.{Symbol}
use Rattle.grammar_table.specs.declared.symbols.Symbol.TheVariants.{Token, Phrase}
use Rattle.grammar_table.specs.declared.symbols.Terminal.{Terminal}
use Rattle.grammar_table.specs.Answers.{start, with_end, BeginsWith, GoesOn, Derives}
use Rattle.grammar_table.specs.Choices.{place, predict}
use Rattle.grammar_table.specs.Levels.{after, open_after, IsShallow}
use Rattle.grammar_table.specs.Parses.{Step, take, expand, left_of, right_of, Parses, taken, effects, used}
use Rattle.grammar_table.specs.Productions.{productions}
use Rattle.grammar_table.specs.Runs.{IsConsistent, Reached, and_then, IsTooDeepAfter}
use Rattle.grammar_table.proofs.Completions.{completes}
use Rattle.grammar_table.proofs.Fronts.{with_end-append}
use Rattle.grammar_table.proofs.Laws.{own}
use Rattle.grammar_table.proofs.Only.{start_consistent}
use Rattle.grammar_table.proofs.Parsing.{next_of, expand_consistent, choice_is, parse_end, parse_token, parse_phrase}

taken-append : (xs ys : List Step) → taken (xs ++ ys) ≡ taken xs ++ taken ys
taken-append [] ys = refl
taken-append (take t e ∷ xs) ys = ap (λ l. t ∷ l) (taken-append xs ys)
taken-append (expand k ∷ xs) ys = taken-append xs ys

effects-append : (xs ys : List Step) → effects (xs ++ ys) ≡ effects xs ++ effects ys
effects-append [] ys = refl
effects-append (take t e ∷ xs) ys = ap (λ l. e ∷ l) (effects-append xs ys)
effects-append (expand k ∷ xs) ys = effects-append xs ys

used-append : (xs ys : List Step) → used (xs ++ ys) ≡ used xs ++ used ys
used-append [] ys = refl
used-append (take t e ∷ xs) ys = used-append xs ys
used-append (expand k ∷ xs) ys = ap (λ l. k ∷ l) (used-append xs ys)

as_many : (xs : List Step) → length (effects xs) ≡ length (taken xs)
as_many [] = refl
as_many (take t e ∷ xs) = ap suc (as_many xs)
as_many (expand k ∷ xs) = as_many xs

open_after-append : (o : List Construct) (xs ys : List Effect) → open_after o (xs ++ ys) ≡ open_after (open_after o xs) ys
open_after-append o [] ys = refl
open_after-append o (x ∷ xs) ys = open_after-append (after x o) xs ys

-- the next token of steps whose tokens begin so
next_is : (steps : List Step) (a : Option Terminal) (more : List (Option Terminal)) → with_end (taken steps) ≡ a ∷ more → next_of steps ≡ a
next_is [] a more e = cc
next_is (take t d ∷ steps) a more e = cc
next_is (expand k ∷ steps) a more e = next_is steps a more e

-- of what goes on so, the next token is the last one seen
next_seen : (ts : List Terminal) (a : Option Terminal) (done steps rest : List Step) → taken done ≡ ts → BeginsWith productions (and_then ts a) steps → steps ≡ done ++ rest → next_of rest ≡ a
next_seen ts a done steps rest t b e =
    let long : map Some ts ++ with_end (taken rest) ≡ map Some ts ++ (a ∷ b.1.0) =
    ap (λ l. map Some l ++ with_end (taken rest)) (sym t)
    ∙ sym (with_end-append (taken done) (taken rest))
    ∙ ap with_end (sym (taken-append done rest) ∙ ap taken (sym e))
    ∙ b.1.1
    ∙ append_assoc (map Some ts) (a ∷ []) b.1.0 in
    next_is rest a b.1.0 (append_cancel_left (map Some ts) (with_end (taken rest)) (a ∷ b.1.0) long)

-- at the start nothing is done
pub reached_start : Reached [] [] [] [] start
reached_start = record {
  done = [];
  leads = record { onward = λ rest p. p; only = λ steps b. (steps, refl, b.0); consistent = start_consistent };
  taken_is = refl;
  used_is = refl;
  levels_are = refl;
  shallow = λ k. subst (λ (l : List Effect). length (open_after [] l) ≤ 200) (sym (take-nil k)) (omega arith);
}

-- one more token is seen
pub reached_seen : (seen more : List (Option Terminal)) (ts : List Terminal) (ns : List ℕ) (o : List Construct) (ss : List Symbol) → Reached seen ts ns o ss → Reached (seen ++ more) ts ns o ss
reached_seen seen more ts ns o ss r = record {
  done = r.done;
  leads = record {
    onward = r.leads.onward;
    only = λ steps b. r.leads.only steps (b.0, (more ++ b.1.0, b.1.1 ∙ append_assoc seen more b.1.0));
    consistent = r.leads.consistent;
  };
  taken_is = r.taken_is;
  used_is = r.used_is;
  levels_are = r.levels_are;
  shallow = r.shallow;
}

-- the only production for the phrase that stands first
must_expand : (ts : List Terminal) (a : Option Terminal) (done steps rest : List Step) (n : Nonterminal) (ss : List Symbol) → taken done ≡ ts → BeginsWith productions (and_then ts a) steps → steps ≡ done ++ rest → IsConsistent (Phrase n ∷ ss) → Parses productions (Phrase n ∷ ss) rest → (j : ℕ) × (more : List Step) × (rest ≡ expand j ∷ more) × (predict n a ≡ Some j) × Parses productions (right_of productions j ++ ss) more
must_expand ts a done steps rest n ss t b e c p =
    let (j, more, is, left, there) = parse_phrase productions n ss rest p in
    let next : next_of more ≡ a = ap next_of (sym is) ∙ next_seen ts a done steps rest t b e in
    (j, more, is, ap (λ (x : Option Terminal). predict n x) (sym next) ∙ choice_is n j ss more c left there, there)

same_some : (j k : ℕ) (o : Option ℕ) → o ≡ Some j → o ≡ Some k → j ≡ k
same_some j k o p q = cc

-- a phrase is replaced
pub reached_expand : (ts : List Terminal) (a : Option Terminal) (ns : List ℕ) (o : List Construct) (n : Nonterminal) (ss : List Symbol) (k : ℕ) → predict n a ≡ Some k → Reached (and_then ts a) ts ns o (Phrase n ∷ ss) → Reached (and_then ts a) ts (ns ++ k ∷ []) o (right_of productions k ++ ss)
reached_expand ts a ns o n ss k is r =
    let left : left_of productions k ≡ Some n = own n (place a) k is in
    record {
      done = r.done ++ expand k ∷ [];
      leads = record {
        onward = λ rest p. subst (λ (l : List Step). Parses productions start l) (sym (append_assoc r.done (expand k ∷ []) rest)) (r.leads.onward (expand k ∷ rest) (left, p));
        only = λ steps b. expanded steps b left;
        consistent = expand_consistent n k ss left r.leads.consistent;
      };
      taken_is = taken-append r.done (expand k ∷ []) ∙ append-nil (taken r.done) ∙ r.taken_is;
      used_is = used-append r.done (expand k ∷ []) ∙ ap (λ l. l ++ k ∷ []) r.used_is;
      levels_are = ap (open_after []) (effects-append r.done (expand k ∷ []) ∙ append-nil (effects r.done)) ∙ r.levels_are;
      shallow = subst (λ (l : List Effect). IsShallow l) (sym (effects-append r.done (expand k ∷ []) ∙ append-nil (effects r.done))) r.shallow;
    }
  where
    expanded : (steps : List Step) → BeginsWith productions (and_then ts a) steps → left_of productions k ≡ Some n → (rest : List Step) × (steps ≡ (r.done ++ expand k ∷ []) ++ rest) × Parses productions (right_of productions k ++ ss) rest
    expanded steps b left =
        let (rest, e, p) = r.leads.only steps b in
        let (j, more, first, chosen, there) = must_expand ts a r.done steps rest n ss r.taken_is b e r.leads.consistent p in
        let same : j ≡ k = same_some j k (predict n a) chosen is in (
          more,
          e ∙ ap (λ l. r.done ++ l) (first ∙ ap (λ (i : ℕ). expand i ∷ more) same) ∙ sym (append_assoc r.done (expand k ∷ []) more),
          subst (λ (i : ℕ). Parses productions (right_of productions i ++ ss) more) same there,
        )

none_some : (k : ℕ) (o : Option ℕ) → o ≡ None → o ≡ Some k → ⊥
none_some k o p q = cc

-- without a production nothing goes on so
pub no_production : (ts : List Terminal) (a : Option Terminal) (ns : List ℕ) (o : List Construct) (n : Nonterminal) (ss : List Symbol) → predict n a ≡ None → Reached (and_then ts a) ts ns o (Phrase n ∷ ss) → GoesOn productions (and_then ts a) → ⊥
no_production ts a ns o n ss is r (steps, b) =
    let (rest, e, p) = r.leads.only steps b in
    let (j, more, first, chosen, there) = must_expand ts a r.done steps rest n ss r.taken_is b e r.leads.consistent p in
    none_some j (predict n a) is chosen

-- nor with another token than the one that stands first
pub no_token : (ts : List Terminal) (a : Option Terminal) (ns : List ℕ) (o : List Construct) (t : Terminal) (d : Effect) (ss : List Symbol) → (a ≡ Some t → ⊥) → Reached (and_then ts a) ts ns o (Token t d ∷ ss) → GoesOn productions (and_then ts a) → ⊥
no_token ts a ns o t d ss not r (steps, b) =
    let (rest, e, p) = r.leads.only steps b in
    let (more, first, there) = parse_token productions t d ss rest p in
    not (sym (next_seen ts a r.done steps rest r.taken_is b e) ∙ ap next_of first)

-- nor with a token where nothing is left
pub no_more : (ts : List Terminal) (a : Option Terminal) (ns : List ℕ) (o : List Construct) → (a ≡ None → ⊥) → Reached (and_then ts a) ts ns o [] → GoesOn productions (and_then ts a) → ⊥
no_more ts a ns o not r (steps, b) =
    let (rest, e, p) = r.leads.only steps b in
    not (sym (next_seen ts a r.done steps rest r.taken_is b e) ∙ ap next_of (parse_end productions rest p))

-- one more effect
front_of : (es : List Effect) (e : Effect) (k : ℕ) → k ≤ length es → list.take k (es ++ e ∷ []) ≡ list.take k es
front_of es e k h = take-append-le k es (e ∷ []) h

all_of : (es : List Effect) (e : Effect) (k : ℕ) → length es < k → list.take k (es ++ e ∷ []) ≡ es ++ e ∷ []
all_of es e k h = take_all k (es ++ e ∷ []) (omega (arith, length-append es (e ∷ [])))

shallow_more : (es : List Effect) (e : Effect) → IsShallow es → length (after e (open_after [] es)) ≤ 200 → IsShallow (es ++ e ∷ [])
shallow_more es e s h k = elim (cases_lt (length es) k) [
  | inl past ↦ subst (λ (l : List Effect). length (open_after [] l) ≤ 200) (sym (all_of es e k past)) (subst (λ (l : List Construct). length l ≤ 200) (sym (open_after-append [] es (e ∷ []))) h)
  | inr within ↦ subst (λ (l : List Effect). length (open_after [] l) ≤ 200) (sym (front_of es e k within)) (s k)
]

deep_last : (es : List Effect) (e : Effect) → 200 < length (after e (open_after [] es)) → IsShallow (es ++ e ∷ []) → ⊥
deep_last es e h s =
    let last : length (open_after [] (es ++ e ∷ [])) ≤ 200 = subst (λ (l : List Effect). length (open_after [] l) ≤ 200) (take_all (length (es ++ e ∷ [])) (es ++ e ∷ []) (omega arith)) (s (length (es ++ e ∷ []))) in
    let same : length (open_after [] (es ++ e ∷ [])) ≡ length (after e (open_after [] es)) = ap length (open_after-append [] es (e ∷ [])) in
    omega arith

-- the token that stands first is taken
pub reached_take : (ts : List Terminal) (ns : List ℕ) (o : List Construct) (t : Terminal) (d : Effect) (ss : List Symbol) → length (after d o) ≤ 200 → Reached (and_then ts (Some t)) ts ns o (Token t d ∷ ss) → Reached (map Some (ts ++ t ∷ [])) (ts ++ t ∷ []) ns (after d o) ss
reached_take ts ns o t d ss low r = record {
  done = r.done ++ take t d ∷ [];
  leads = record {
    onward = λ rest p. subst (λ (l : List Step). Parses productions start l) (sym (append_assoc r.done (take t d ∷ []) rest)) (r.leads.onward (take t d ∷ rest) (refl, refl, p));
    only = λ steps b. took steps (subst (λ (l : List (Option Terminal)). BeginsWith productions l steps) (map-append Some ts (t ∷ [])) b);
    consistent = r.leads.consistent;
  };
  taken_is = taken-append r.done (take t d ∷ []) ∙ ap (λ l. l ++ t ∷ []) r.taken_is;
  used_is = used-append r.done (take t d ∷ []) ∙ append-nil (used r.done) ∙ r.used_is;
  levels_are = ap (open_after []) (effects-append r.done (take t d ∷ [])) ∙ open_after-append [] (effects r.done) (d ∷ []) ∙ ap (after d) r.levels_are;
  shallow = subst (λ (l : List Effect). IsShallow l) (sym (effects-append r.done (take t d ∷ []))) (shallow_more (effects r.done) d r.shallow (subst (λ (l : List Construct). length (after d l) ≤ 200) (sym r.levels_are) low));
}
  where
    took : (steps : List Step) → BeginsWith productions (and_then ts (Some t)) steps → (rest : List Step) × (steps ≡ (r.done ++ take t d ∷ []) ++ rest) × Parses productions ss rest
    took steps b =
        let (rest, e, p) = r.leads.only steps b in
        let (more, first, there) = parse_token productions t d ss rest p in
        (more, e ∙ ap (λ l. r.done ++ l) first ∙ sym (append_assoc r.done (take t d ∷ []) more), there)

-- something begins with the tokens that were taken, and is as shallow
pub goes_on : (seen : List (Option Terminal)) (ts : List Terminal) (ns : List ℕ) (o : List Construct) (ss : List Symbol) → Reached seen ts ns o ss → (steps : List Step) × BeginsWith productions (map Some ts) steps × IsShallow (list.take (length ts) (effects steps))
goes_on seen ts ns o ss r =
    let (rest, p) = completes ss in
    let count : length ts ≡ length (effects r.done) = ap length (sym r.taken_is) ∙ sym (as_many r.done) in (
      r.done ++ rest,
      (
        r.leads.onward rest p,
        (with_end (taken rest), ap with_end (taken-append r.done rest) ∙ with_end-append (taken r.done) (taken rest) ∙ ap (λ l. map Some l ++ with_end (taken rest)) r.taken_is),
      ),
      subst (λ (l : List Effect). IsShallow l) (sym (ap (λ (i : ℕ). list.take i (effects (r.done ++ rest))) count ∙ ap (list.take (length (effects r.done))) (effects-append r.done rest) ∙ take-append_seam (effects r.done) (effects rest))) r.shallow,
    )

-- a token opens level 201
pub too_deep : (ts : List Terminal) (ns : List ℕ) (o : List Construct) (t : Terminal) (d : Effect) (ss : List Symbol) → 200 < length (after d o) → Reached (and_then ts (Some t)) ts ns o (Token t d ∷ ss) → IsTooDeepAfter ts t
too_deep ts ns o t d ss high r =
    let (rest, p) = completes ss in
    let steps : List Step = r.done ++ take t d ∷ rest in
    let count : length ts ≡ length (effects r.done) = ap length (sym r.taken_is) ∙ sym (as_many r.done) in
    let long : effects steps ≡ effects r.done ++ (d ∷ effects rest) = effects-append r.done (take t d ∷ rest) in
    let longer : effects steps ≡ (effects r.done ++ d ∷ []) ++ effects rest = long ∙ sym (append_assoc (effects r.done) (d ∷ []) (effects rest)) in
    let all : suc (length ts) ≡ length (effects r.done ++ d ∷ []) = omega (arith, length-append (effects r.done) (d ∷ [])) in (
      steps,
      (
        r.leads.onward (take t d ∷ rest) (refl, refl, p),
        (
          with_end (taken rest),
          ap with_end (taken-append r.done (take t d ∷ rest))
              ∙ with_end-append (taken r.done) (t ∷ taken rest)
              ∙ ap (λ l. map Some l ++ (Some t ∷ with_end (taken rest))) r.taken_is
              ∙ sym (append_assoc (map Some ts) (Some t ∷ []) (with_end (taken rest))),
        ),
      ),
      subst (λ (l : List Effect). IsShallow l) (sym (ap (λ (i : ℕ). list.take i (effects steps)) count ∙ ap (list.take (length (effects r.done))) long ∙ take-append_seam (effects r.done) (d ∷ effects rest))) r.shallow,
      λ s. deep_last (effects r.done) d (subst (λ (l : List Construct). 200 < length (after d l)) (sym r.levels_are) high) (subst (λ (l : List Effect). IsShallow l) (ap (λ (i : ℕ). list.take i (effects steps)) all ∙ ap (list.take (length (effects r.done ++ d ∷ []))) longer ∙ take-append_seam (effects r.done ++ d ∷ []) (effects rest)) s),
    )

-- where nothing is left the tokens are derived
pub derived : (seen : List (Option Terminal)) (ts : List Terminal) (ns : List ℕ) (o : List Construct) → Reached seen ts ns o [] → Derives productions ts ns
derived seen ts ns o r = (r.done, subst (λ (l : List Step). Parses productions start l) (append-nil r.done) (r.leads.onward [] tt), r.taken_is, r.used_is, r.shallow)
