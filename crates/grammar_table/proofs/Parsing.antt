-- Parses of consistent symbols, which their tokens determine.
use Rattle.std.proofs.Common.{◌≡◌, ℕ, ◌<◌, true, List, [], ◌∷◌, ◌++◌, Option, Some, None, refl, sym, ap, ◌∙◌, subst}
use Rattle.grammar_table.specs.declared.symbols.Effect.{Effect}
use Rattle.grammar_table.specs.declared.symbols.Nonterminal.{Nonterminal}
use Rattle.grammar_table.specs.declared.symbols.Symbol.{Symbol}
use Rattle.grammar_table.specs.declared.symbols.Symbol.TheVariants.{Token, Phrase}
use Rattle.grammar_table.specs.declared.symbols.Terminal.{Terminal}
use Rattle.grammar_table.specs.Choices.{place, predict, follows}
use Rattle.grammar_table.specs.Parses.{Production, Step, take, expand, left_of, right_of, Parses, taken}
use Rattle.grammar_table.specs.Productions.{productions}
use Rattle.grammar_table.specs.Runs.{Ahead, IsConsistent}
use Rattle.grammar_table.proofs.Laws.{chosen, may_follow, place_below}
use Rattle.grammar_table.proofs.Checks.{AheadIn, FollowIn}

-- the next token of a parse, or the end
abbrev pub next_of : List Step → Option Terminal
next_of [] = None
next_of (take t e ∷ steps) = Some t
next_of (expand k ∷ steps) = next_of steps

-- what may follow, as the table's tests have it
MayFollow : Nonterminal → List Symbol → Type 0
MayFollow n ss = (at : ℕ) → at < 128 → Ahead ss at → follows n at ≡ true

ahead_in : (n : Nonterminal) (rs ss : List Symbol) (p : ℕ) → ((at : ℕ) → at < 128 → Ahead ss at → follows n at ≡ true) → p < 128 → Ahead (rs ++ ss) p → AheadIn n rs p
ahead_in n [] ss p f h a = f p h a
ahead_in n (Token t e ∷ rs) ss p f h a = a
ahead_in n (Phrase m ∷ rs) ss p f h a = a

append_consistent : (n : Nonterminal) (rs ss : List Symbol) → FollowIn n rs → ((at : ℕ) → at < 128 → Ahead ss at → follows n at ≡ true) → IsConsistent ss → IsConsistent (rs ++ ss)
append_consistent n [] ss g f c = c
append_consistent n (Token t e ∷ rs) ss g f c = append_consistent n rs ss g f c
append_consistent n (Phrase m ∷ rs) ss g f c = (λ p h a. g.0 p h (ahead_in n rs ss p f h a), append_consistent n rs ss g.1 f c)

-- a phrase is replaced, and the symbols stay consistent
pub expand_consistent : (n : Nonterminal) (k : ℕ) (ss : List Symbol) → left_of productions k ≡ Some n → IsConsistent (Phrase n ∷ ss) → IsConsistent (right_of productions k ++ ss)
expand_consistent n k ss is c = append_consistent n (right_of productions k) ss (may_follow k n is) c.0 c.1

chosen_by : (n : Nonterminal) (k : ℕ) (ss : List Symbol) (a : Option Terminal) → left_of productions k ≡ Some n → IsConsistent (Phrase n ∷ ss) → Ahead (right_of productions k ++ ss) (place a) → predict n a ≡ Some k
chosen_by n k ss a is c h = chosen k n (place a) is (place_below a) (ahead_in n (right_of productions k) ss (place a) c.0 (place_below a) h)

-- a parse begins with a token that its symbols can begin with
pub first_is : (ss : List Symbol) (steps : List Step) → IsConsistent ss → Parses productions ss steps → Ahead ss (place (next_of steps))
first_is [] [] c p = refl
first_is [] (take u f ∷ steps) c p = absurd p
first_is [] (expand k ∷ steps) c p = absurd p
first_is (Token t e ∷ ss) [] c p = absurd p
first_is (Token t e ∷ ss) (take u f ∷ steps) c p = ap (λ (v : Terminal). place (Some v)) (sym p.0)
first_is (Token t e ∷ ss) (expand k ∷ steps) c p = absurd p
first_is (Phrase n ∷ ss) [] c p = absurd p
first_is (Phrase n ∷ ss) (take u f ∷ steps) c p = absurd p
first_is (Phrase n ∷ ss) (expand k ∷ steps) c p = (k, chosen_by n k ss (next_of steps) p.0 c (first_is (right_of productions k ++ ss) steps (expand_consistent n k ss p.0 c) p.1))

-- and the table says which production replaces a phrase there
pub choice_is : (n : Nonterminal) (k : ℕ) (ss : List Symbol) (steps : List Step) → IsConsistent (Phrase n ∷ ss) → left_of productions k ≡ Some n → Parses productions (right_of productions k ++ ss) steps → predict n (next_of steps) ≡ Some k
choice_is n k ss steps c is p = chosen_by n k ss (next_of steps) is c (first_is (right_of productions k ++ ss) steps (expand_consistent n k ss is c) p)

-- how a parse of each kind of symbols begins
pub parse_end : (g : List Production) (steps : List Step) → Parses g [] steps → steps ≡ []
parse_end g [] p = refl
parse_end g (take u f ∷ steps) p = absurd p
parse_end g (expand k ∷ steps) p = absurd p

pub parse_token : (g : List Production) (t : Terminal) (e : Effect) (ss : List Symbol) (steps : List Step) → Parses g (Token t e ∷ ss) steps → (rest : List Step) × (steps ≡ take t e ∷ rest) × Parses g ss rest
parse_token g t e ss [] p = absurd p
parse_token g t e ss (take u f ∷ steps) p = (steps, (λ i. take (sym p.0 i) (sym p.1 i) ∷ steps), p.2)
parse_token g t e ss (expand k ∷ steps) p = absurd p

pub parse_phrase : (g : List Production) (n : Nonterminal) (ss : List Symbol) (steps : List Step) → Parses g (Phrase n ∷ ss) steps → (k : ℕ) × (rest : List Step) × (steps ≡ expand k ∷ rest) × (left_of g k ≡ Some n) × Parses g (right_of g k ++ ss) rest
parse_phrase g n ss [] p = absurd p
parse_phrase g n ss (take u f ∷ steps) p = absurd p
parse_phrase g n ss (expand k ∷ steps) p = (k, steps, refl, p.0, p.1)

-- the first token of a list
abbrev pub head : List Terminal → Option Terminal
head [] = None
head (t ∷ ts) = Some t

pub next_taken : (steps : List Step) → next_of steps ≡ head (taken steps)
next_taken [] = refl
next_taken (take t e ∷ steps) = refl
next_taken (expand k ∷ steps) = next_taken steps

some_one : (i j : ℕ) → Path (Option ℕ) (Some i) (Some j) → i ≡ j
some_one i j e = cc

pub same_choice : (n : Nonterminal) (j k : ℕ) (ss : List Symbol) (r s : List Step) → IsConsistent (Phrase n ∷ ss) → left_of productions j ≡ Some n → Parses productions (right_of productions j ++ ss) r → left_of productions k ≡ Some n → Parses productions (right_of productions k ++ ss) s → next_of r ≡ next_of s → j ≡ k
same_choice n j k ss r s c a p b q e =
    some_one j k (sym (choice_is n j ss r c a p) ∙ ap (λ (o : Option Terminal). predict n o) e ∙ choice_is n k ss s c b q)

same_tail : (t u : Terminal) (ts us : List Terminal) → t ∷ ts ≡ u ∷ us → ts ≡ us
same_tail t u ts us e = cc

-- two parses of the same tokens are one
pub same_parse : (ss : List Symbol) (s r : List Step) → IsConsistent ss → Parses productions ss s → Parses productions ss r → taken s ≡ taken r → s ≡ r
same_parse [] [] r c p q e = sym (parse_end productions r q)
same_parse [] (take u f ∷ s) r c p q e = absurd p
same_parse [] (expand k ∷ s) r c p q e = absurd p
same_parse (Token t d ∷ ss) [] r c p q e = absurd p
same_parse (Token t d ∷ ss) (take u f ∷ s) r c p q e =
    let (rest, is, there) = parse_token productions t d ss r q in
    let tails : u ∷ taken s ≡ t ∷ taken rest = e ∙ ap taken is in
    (λ i. take (sym p.0 i) (sym p.1 i) ∷ same_parse ss s rest c p.2 there (same_tail u t (taken s) (taken rest) tails) i) ∙ sym is
same_parse (Token t d ∷ ss) (expand k ∷ s) r c p q e = absurd p
same_parse (Phrase n ∷ ss) [] r c p q e = absurd p
same_parse (Phrase n ∷ ss) (take u f ∷ s) r c p q e = absurd p
same_parse (Phrase n ∷ ss) (expand k ∷ s) r c p q e =
    let (j, rest, is, left, there) = parse_phrase productions n ss r q in
    let tokens : taken s ≡ taken rest = e ∙ ap taken is in
    let same : j ≡ k = same_choice n j k ss rest s c left there p.0 p.1 (next_taken rest ∙ ap head (sym tokens) ∙ sym (next_taken s)) in
    (λ i. expand (sym same i) ∷ same_parse (right_of productions k ++ ss) s rest (expand_consistent n k ss p.0 c) p.1 (subst (λ (m : ℕ). Parses productions (right_of productions m ++ ss) rest) same there) tokens i) ∙ sym is
