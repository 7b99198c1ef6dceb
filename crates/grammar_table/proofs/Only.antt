-- At most one answer is right.
use Rattle.std.proofs.Common.{◌≡◌, ℕ, zero, suc, ◌+◌, ◌<◌, ◌≤◌, List, [], ◌∷◌, ◌++◌, Option, Some, None, Result, Ok, Err, length, map, refl, sym, ap, ◌∙◌, subst, inl, inr, arith}
use Rattle.std.specs.Prelude as list
use Rattle.std.proofs.lemmas.Bool.{cases_lt}
use Rattle.grammar_table.specs.declared.answers.Derivation.{Derivation}
use Rattle.grammar_table.specs.declared.answers.SyntaxFault.{SyntaxFault}
use Rattle.grammar_table.specs.declared.answers.SyntaxFault.TheVariants as fault
use Rattle.grammar_table.specs.declared.symbols.Effect.{Effect}
use Rattle.grammar_table.specs.declared.symbols.Symbol.{Symbol}
use Rattle.grammar_table.specs.declared.symbols.Symbol.TheVariants.{Token, Phrase}
use Rattle.grammar_table.specs.declared.symbols.Terminal.{Terminal}
use Rattle.grammar_table.specs.Answers.{start, BeginsWith, GoesOn, Derives, IsUnexpected, IsTooDeep, IsAnswer, with_end}
use Rattle.grammar_table.specs.Levels.{IsShallow}
use Rattle.grammar_table.specs.Parses.{Step, take, expand, right_of, Parses, taken, effects, used}
use Rattle.grammar_table.specs.Productions.{productions}
use Rattle.grammar_table.specs.Runs.{IsConsistent}
use Rattle.grammar_table.proofs.Fronts.{take_less, shorter_front, whole_front, front_tokens, shallow_front}
use Rattle.grammar_table.proofs.Laws.{end_follows}
use Rattle.grammar_table.proofs.Parsing.{head, next_taken, expand_consistent, parse_end, parse_token, parse_phrase, same_choice, same_parse}

pub start_consistent : IsConsistent start
start_consistent = (λ at h e. subst (λ (p : ℕ). Rattle.grammar_table.specs.Choices.follows Rattle.grammar_table.specs.declared.symbols.Nonterminal.TheVariants.File p ≡ Rattle.std.proofs.Common.true) (sym e) end_follows, tt)

head_take : (m : ℕ) (ts : List Terminal) → head (list.take (suc m) ts) ≡ head ts
head_take m [] = refl
head_take m (t ∷ ts) = refl

tail_is : (t u : Terminal) (ts us : List Terminal) → t ∷ ts ≡ u ∷ us → ts ≡ us
tail_is t u ts us e = cc

-- two parses that agree on the first m tokens agree on what these do to the levels
same_effects : (m : ℕ) (ss : List Symbol) (s r : List Step) → IsConsistent ss → Parses productions ss s → Parses productions ss r → list.take m (taken s) ≡ list.take m (taken r) → list.take m (effects s) ≡ list.take m (effects r)
same_effects zero ss s r c p q e = refl
same_effects (suc m) [] [] r c p q e = ap (λ l. list.take (suc m) (effects l)) (sym (parse_end productions r q))
same_effects (suc m) [] (take u f ∷ s) r c p q e = absurd p
same_effects (suc m) [] (expand k ∷ s) r c p q e = absurd p
same_effects (suc m) (Token t d ∷ ss) [] r c p q e = absurd p
same_effects (suc m) (Token t d ∷ ss) (take u f ∷ s) r c p q e =
    let (rest, is, there) = parse_token productions t d ss r q in
    let tails : u ∷ list.take m (taken s) ≡ t ∷ list.take m (taken rest) = e ∙ ap (λ l. list.take (suc m) (taken l)) is in
    (λ i. sym p.1 i ∷ same_effects m ss s rest c p.2 there (tail_is u t (list.take m (taken s)) (list.take m (taken rest)) tails) i)
    ∙ ap (λ l. list.take (suc m) (effects l)) (sym is)
same_effects (suc m) (Token t d ∷ ss) (expand k ∷ s) r c p q e = absurd p
same_effects (suc m) (Phrase n ∷ ss) [] r c p q e = absurd p
same_effects (suc m) (Phrase n ∷ ss) (take u f ∷ s) r c p q e = absurd p
same_effects (suc m) (Phrase n ∷ ss) (expand k ∷ s) r c p q e =
    let (j, rest, is, left, there) = parse_phrase productions n ss r q in
    let tokens : list.take (suc m) (taken s) ≡ list.take (suc m) (taken rest) = e ∙ ap (λ l. list.take (suc m) (taken l)) is in
    let heads : head (taken rest) ≡ head (taken s) = sym (head_take m (taken rest)) ∙ ap head (sym tokens) ∙ head_take m (taken s) in
    let same : j ≡ k = same_choice n j k ss rest s c left there p.0 p.1 (next_taken rest ∙ heads ∙ sym (next_taken s)) in
    same_effects (suc m) (right_of productions k ++ ss) s rest (expand_consistent n k ss p.0 c) p.1 (subst (λ (m : ℕ). Parses productions (right_of productions m ++ ss) rest) same there) tokens
    ∙ ap (λ l. list.take (suc m) (effects l)) (sym is)

-- what is shallow after n tokens is shallow after the first m of them, in every parse
deep_shallow : (ts : List Terminal) (m n : ℕ) (s r : List Step) → Parses productions start s → Parses productions start r → m ≤ n → list.take m (taken s) ≡ list.take m ts → list.take n (taken r) ≡ list.take n ts → IsShallow (list.take n (effects r)) → IsShallow (list.take m (effects s))
deep_shallow ts m n s r p q h a b shallow =
    let tokens : list.take m (taken s) ≡ list.take m (taken r) = a ∙ sym (take_less m n ts h) ∙ ap (list.take m) (sym b) ∙ take_less m n (taken r) h in
    subst (λ (l : List Effect). IsShallow l) (sym (same_effects m start s r start_consistent p q tokens ∙ sym (take_less m n (effects r) h))) (shallow_front m (list.take n (effects r)) shallow)

goes_less : (ts : List Terminal) (i m : ℕ) (s : List Step) → i ≤ m → BeginsWith productions (list.take m (with_end ts)) s → GoesOn productions (list.take i (with_end ts))
goes_less ts i m s h b = (s, (b.0, shorter_front i m (with_end (taken s)) (with_end ts) b.1.0 h b.1.1))

both_derive : (ts : List Terminal) (d e : List ℕ) → Derives productions ts d → Derives productions ts e → d ≡ e
both_derive ts d e (s, p, a, u, h) (r, q, b, v, k) = sym u ∙ ap used (same_parse start s r start_consistent p q (a ∙ sym b)) ∙ v

derives_unexpected : (ts : List Terminal) (d : List ℕ) (k : ℕ) → Derives productions ts d → IsUnexpected productions ts k → ⊥
derives_unexpected ts d k (s, p, a, u, h) x = x.2 (s, (p, whole_front (suc k) (with_end (taken s)) (with_end ts) (ap with_end a)))

derives_deep : (ts : List Terminal) (d : List ℕ) (k : ℕ) → Derives productions ts d → IsTooDeep productions ts k → ⊥
derives_deep ts d k (s, p, a, u, h) (low, (r, b, g, deep)) =
    deep (deep_shallow ts (suc k) (suc k) r s b.0 p (omega arith) (front_tokens (suc k) (taken r) ts b.1.0 low b.1.1) (ap (list.take (suc k)) a) (shallow_front (suc k) (effects s) h))

unexpected_less : (ts : List Terminal) (j k : ℕ) → IsUnexpected productions ts j → IsUnexpected productions ts k → j < k → ⊥
unexpected_less ts j k x (low, (s, b, g), y) h = x.2 (goes_less ts (suc j) k s h b)

unexpected_deep : (ts : List Terminal) (j k : ℕ) → IsUnexpected productions ts j → IsTooDeep productions ts k → ⊥
unexpected_deep ts j k (high, (s, b, g), x) (low, (r, d, f, deep)) = elim (cases_lt k j) [
  | inl less ↦ deep (deep_shallow ts (suc k) j r s d.0 b.0 less (front_tokens (suc k) (taken r) ts d.1.0 low d.1.1) (front_tokens j (taken s) ts b.1.0 high b.1.1) g)
  | inr more ↦ x (goes_less ts (suc j) (suc k) r (omega arith) d)
]

deep_less : (ts : List Terminal) (j k : ℕ) → IsTooDeep productions ts j → IsTooDeep productions ts k → j < k → ⊥
deep_less ts j k (low, (r, d, f, deep)) (high, (s, b, g, x)) h =
    let less = shorter_front k (suc k) (with_end (taken s)) (with_end ts) b.1.0 (omega arith) b.1.1 in
    let tokens : list.take k (taken s) ≡ list.take k ts = front_tokens k (taken s) ts less.0 (omega arith) less.1 in
    deep (deep_shallow ts (suc j) k r s d.0 b.0 h (front_tokens (suc j) (taken r) ts d.1.0 low d.1.1) tokens g)

equal : (j k : ℕ) → (j < k → ⊥) → (k < j → ⊥) → j ≡ k
equal j k a b = elim (cases_lt j k) [
  | inl less ↦ absurd (a less)
  | inr more ↦ elim (cases_lt k j) [ inl less ↦ absurd (b less) | inr same ↦ omega arith ]
]

pub only_answer : (ts : List Terminal) (a b : Result Derivation SyntaxFault) → IsAnswer productions ts a → IsAnswer productions ts b → a ≡ b
only_answer ts (Ok d) (Ok e) x y = ap (λ (l : List ℕ). Ok (record { productions = l })) (both_derive ts d.productions e.productions x y)
only_answer ts (Ok d) (Err (fault.Unexpected k)) x y = absurd (derives_unexpected ts d.productions k x y)
only_answer ts (Ok d) (Err (fault.TooDeep k)) x y = absurd (derives_deep ts d.productions k x y)
only_answer ts (Ok d) (Err fault.Starved) x y = absurd y
only_answer ts (Err fault.Starved) b x y = absurd x
only_answer ts (Err (fault.Unexpected j)) (Ok e) x y = absurd (derives_unexpected ts e.productions j y x)
only_answer ts (Err (fault.Unexpected j)) (Err (fault.Unexpected k)) x y = ap (λ (i : ℕ). Err (fault.Unexpected i)) (equal j k (unexpected_less ts j k x y) (unexpected_less ts k j y x))
only_answer ts (Err (fault.Unexpected j)) (Err (fault.TooDeep k)) x y = absurd (unexpected_deep ts j k x y)
only_answer ts (Err (fault.Unexpected j)) (Err fault.Starved) x y = absurd y
only_answer ts (Err (fault.TooDeep j)) (Ok e) x y = absurd (derives_deep ts e.productions j y x)
only_answer ts (Err (fault.TooDeep j)) (Err (fault.Unexpected k)) x y = absurd (unexpected_deep ts k j y x)
only_answer ts (Err (fault.TooDeep j)) (Err (fault.TooDeep k)) x y = ap (λ (i : ℕ). Err (fault.TooDeep i)) (equal j k (deep_less ts j k x y) (deep_less ts k j y x))
only_answer ts (Err (fault.TooDeep j)) (Err fault.Starved) x y = absurd y
