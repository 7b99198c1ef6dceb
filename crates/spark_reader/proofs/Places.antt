-- Tokens and faults lie within their text.
use Rattle.std.proofs.Common.{◌≡◌, ◌≤◌, ◌<◌, ◌+◌, ◌++◌, ◌∙◌, ap, refl, sym, subst, ℕ, zero, suc, List, [], ◌∷◌, length, Option, Some, None, Result, Ok, Err, arith, Bool, true, false, length-drop}
use Rattle.std.specs.Prelude.{slice_index, nat_eq, nat_lt, codes, if◌then◌else◌, drop, ◌&&◌, pos, ◌-◌, ◌^◌}
use Rattle.std.specs.Char.{is_ascii_alphabetic, is_ascii_digit}
use Rattle.std.specs.List.{starts_with}
use Rattle.std.proofs.lemmas.Bool.{false≢true}
use Rattle.ada_text.specs.declared.item.Item.{Item}
use Rattle.ada_text.specs.declared.number.Literal.{Literal}
use Rattle.ada_text.specs.declared.token.Token.{Token}
use Rattle.ada_text.specs.declared.token.LexFault.{LexFault}
use Rattle.ada_text.specs.declared.token.LexFault.TheVariants.{BadByte, BadNumber, TooWide}
use Rattle.ada_text.specs.declared.token.TokenKind.TheVariants.{Number}
use Rattle.ada_text.specs.Bytes.{comment_length, is_blank, skipped}
use Rattle.ada_text.specs.Delimiters.{mark_at}
use Rattle.ada_text.specs.Numbers.{literal_at, literal_value, number_at, number_with}
use Rattle.ada_text.specs.declared.token.TokenKind.{TokenKind}
use Rattle.ada_text.specs.Tokens.{AreInOrder, after_item, before, gap, item_at, mark_or_fault, spelled, tokens_from, tokens_in, tokens_of, word_at}
use Rattle.grammar_table.specs.declared.answers.SyntaxFault.{SyntaxFault}
use Rattle.grammar_table.specs.declared.answers.SyntaxFault.TheVariants as syntax
use Rattle.grammar_table.specs.Answers.{terminals, IsFault}
use Rattle.grammar_table.specs.Productions.{productions}
use Rattle.spark_reader.specs.declared.refusal.ReadRefusal.{ReadRefusal}
use Rattle.spark_reader.specs.declared.refusal.ReadRefusal.TheVariants.{Lex, Syntax, Starved}
use Rattle.spark_reader.specs.Reads.{Refuses, token_of, token_place, place_among, place_of, told_place, lex_place, of_syntax}

-- a text has no more tokens than bytes
pub few_tokens : (a : ℕ) (ts : List Token) (b : ℕ) → AreInOrder a ts b → a + length ts ≤ b
few_tokens a [] b h = omega (arith, h)
few_tokens a (t ∷ ts) b h = let rest = few_tokens t.span.to ts b h.2 in let from = h.0 in let some = h.1 in omega arith

pub few_in_text : (ts : List Token) (b limit : ℕ) → AreInOrder 0 ts b → b < limit → length ts < limit
few_in_text ts b limit h l = let few = few_tokens 0 ts b h in omega arith

-- ---- faults

placed : (f g : LexFault) (at : ℕ) → lex_place g ≡ at → g ≡ f → lex_place f ≤ at
placed f g at p same = let here : lex_place g ≡ lex_place f = ap lex_place same in omega arith

wide_fault : (f : LexFault) (at : ℕ) (b : Bool) (i : Item) → (if b then Ok i else Err (TooWide at)) ≡ Err f → lex_place f ≤ at
wide_fault f at true i e = cc
wide_fault f at false i e = let same : TooWide at ≡ f = cc in placed f (TooWide at) at refl same

literal_fault : (f : LexFault) (at : ℕ) (l : Option Literal) (bs : List ℕ) → number_with at l bs ≡ Err f → lex_place f ≤ at
literal_fault f at None bs e = let same : BadNumber at ≡ f = cc in placed f (BadNumber at) at refl same
literal_fault f at (Some l) bs e = wide_fault f at (nat_lt (literal_value bs l) (2 ^ 127)) (record { kind = Some (Number (pos (literal_value bs l))); length = l.exponent.to }) e

number_fault : (f : LexFault) (at : ℕ) (bs : List ℕ) → number_at at bs ≡ Err f → lex_place f ≤ at
unfolding number_at
number_fault f at bs e = literal_fault f at (literal_at bs) bs e

mark_fault : (f : LexFault) (at : ℕ) (o : Option Item) → mark_or_fault at o ≡ Err f → lex_place f ≤ at
mark_fault f at None e = let same : BadByte at ≡ f = cc in placed f (BadByte at) at refl same
mark_fault f at (Some i) e = cc

either_fault : (f : LexFault) (at : ℕ) (a b c d : Bool) (x y z : Item) (n m : Result Item LexFault)
    → (n ≡ Err f → lex_place f ≤ at) → (m ≡ Err f → lex_place f ≤ at)
    → (if a then Ok x else (if b then Ok y else (if c then Ok z else (if d then n else m)))) ≡ Err f → lex_place f ≤ at
either_fault f at true b c d x y z n m g h e = cc
either_fault f at false true c d x y z n m g h e = cc
either_fault f at false false true d x y z n m g h e = cc
either_fault f at false false false true x y z n m g h e = g e
either_fault f at false false false false x y z n m g h e = h e

item_fault : (f : LexFault) (at : ℕ) (bs : List ℕ) → item_at at bs ≡ Err f → lex_place f ≤ at
unfolding item_at
item_fault f at bs e =
    let b = slice_index bs 0 in
    either_fault f at (is_blank b) (starts_with nat_eq bs (codes "--")) (is_ascii_alphabetic b) (is_ascii_digit b) (gap 1) (gap (comment_length bs)) (word_at bs)
    (number_at at bs) (mark_or_fault at (mark_at bs)) (number_fault f at bs) (mark_fault f at (mark_at bs)) e

before_fault : (f : LexFault) (ts : List Token) (r : Result (List Token) LexFault) → before ts r ≡ Err f → r ≡ Err f
before_fault f ts (Ok us) e = cc
before_fault f ts (Err g) e = e

raised : (f : LexFault) (at n : ℕ) → lex_place f ≤ at + 1 + n → lex_place f ≤ at + suc n
raised f at n h = omega arith

-- a fault after an item lies there, where one in what follows lies in that
after_fault : (f : LexFault) (at end : ℕ) (bs : List ℕ) (rest : ℕ → Result (List Token) LexFault) → at ≤ end → ((left : ℕ) → rest left ≡ Err f → lex_place f ≤ end)
    → (r : Result Item LexFault) → item_at at bs ≡ r → after_item at r rest ≡ Err f → lex_place f ≤ end
after_fault f at end bs rest h more (Ok i) is e = more (i.length - 1) (before_fault f (tokens_of at i) (rest (i.length - 1)) e)
after_fault f at end bs rest h more (Err g) is e =
    let same : g ≡ f = cc in
    let here = item_fault f at bs (is ∙ ap Err same) in omega arith

tokens_fault : (f : LexFault) (at left : ℕ) (bs : List ℕ) → tokens_from at left bs ≡ Err f → lex_place f ≤ at + length bs
tokens_fault f at left [] e = cc
tokens_fault f at (suc left) (b ∷ bs) e = let rest = tokens_fault f (at + 1) left bs e in omega arith
tokens_fault f at zero (b ∷ bs) e =
    let more : (left : ℕ) → tokens_from (at + 1) left bs ≡ Err f → lex_place f ≤ at + suc (length bs) = λ left h. raised f at (length bs) (tokens_fault f (at + 1) left bs h) in
    after_fault f at (at + suc (length bs)) (b ∷ bs) (λ left. tokens_from (at + 1) left bs) (omega arith) more (item_at at (b ∷ bs)) refl e

and_false : (b : Bool) → (b && false) ≡ true → ⊥
and_false true e = false≢true e
and_false false e = false≢true e

and_last : (a b : Bool) → (a && b) ≡ true → b ≡ true
and_last true b e = e
and_last false b e = absurd (false≢true e)

three : (text : List ℕ) → starts_with nat_eq text (239 ∷ 187 ∷ 191 ∷ []) ≡ true → 3 ≤ length text
three [] e = absurd (false≢true e)
three (a ∷ []) e = absurd (and_false (nat_eq 239 a) e)
three (a ∷ b ∷ []) e = absurd (and_false (nat_eq 187 b) (and_last (nat_eq 239 a) (nat_eq 187 b && false) e))
three (a ∷ b ∷ c ∷ rest) e = omega arith

skipped_few : (text : List ℕ) → skipped text ≤ length text
unfolding skipped
skipped_few text = by_front (starts_with nat_eq text (239 ∷ 187 ∷ 191 ∷ [])) (three text)
  where
    by_front : (b : Bool) → (b ≡ true → 3 ≤ length text) → (if b then 3 else 0) ≤ length text
    by_front true h = h refl
    by_front false h = omega arith

-- the first fault of a text's tokens lies within it
pub fault_within : (text : List ℕ) (f : LexFault) → tokens_in text ≡ Err f → lex_place f ≤ length text
unfolding tokens_in
fault_within text f e = let within = tokens_fault f (skipped text) 0 (drop (skipped text) text) e in let few = skipped_few text in let rest = length-drop (skipped text) text in omega arith

-- ---- tokens

-- each of these tokens begins before this end
abbrev BeginIn : ℕ → List Token → Type 0
BeginIn end ts = (k : ℕ) → token_place ts k end ≤ end

none_begin : (end : ℕ) → BeginIn end []
none_begin end k = omega arith

one_begins : (end at n : ℕ) (k : TokenKind) (ts : List Token) → at ≤ end → BeginIn end ts → BeginIn end (record { kind = k; span = record { from = at; to = at + n } } ∷ ts)
one_begins end at n k ts h more zero = h
one_begins end at n k ts h more (suc j) = more j

spelled_begin : (end at n : ℕ) (kind : Option TokenKind) (ts : List Token) → at ≤ end → BeginIn end ts → BeginIn end (spelled (record { from = at; to = at + n }) kind ++ ts)
spelled_begin end at n None ts h more = more
spelled_begin end at n (Some k) ts h more = one_begins end at n k ts h more

before_begin : (end at n : ℕ) (kind : Option TokenKind) (ts : List Token) (r : Result (List Token) LexFault) → at ≤ end → ((us : List Token) → r ≡ Ok us → BeginIn end us)
    → before (spelled (record { from = at; to = at + n }) kind) r ≡ Ok ts → BeginIn end ts
before_begin end at n kind ts (Ok us) h more e =
    let same : spelled (record { from = at; to = at + n }) kind ++ us ≡ ts = cc in
    subst (λ (l : List Token). BeginIn end l) same (spelled_begin end at n kind us h (more us refl))
before_begin end at n kind ts (Err g) h more e = cc

item_begins : (end at : ℕ) (ts : List Token) (rest : ℕ → Result (List Token) LexFault) (r : Result Item LexFault) → at ≤ end → ((left : ℕ) (us : List Token) → rest left ≡ Ok us → BeginIn end us)
    → after_item at r rest ≡ Ok ts → BeginIn end ts
item_begins end at ts rest (Ok i) h more e = before_begin end at i.length i.kind ts (rest (i.length - 1)) h (more (i.length - 1)) e
item_begins end at ts rest (Err g) h more e = cc

tokens_begin : (end at left : ℕ) (bs : List ℕ) (ts : List Token) → at + length bs ≤ end → tokens_from at left bs ≡ Ok ts → BeginIn end ts
tokens_begin end at left [] ts h e = let none : [] ≡ ts = cc in subst (λ (l : List Token). BeginIn end l) none (none_begin end)
tokens_begin end at (suc left) (b ∷ bs) ts h e = tokens_begin end (at + 1) left bs ts (omega arith) e
tokens_begin end at zero (b ∷ bs) ts h e =
    item_begins end at ts (λ left. tokens_from (at + 1) left bs) (item_at at (b ∷ bs)) (omega arith) (λ left us f. tokens_begin end (at + 1) left bs us (omega arith) f) e

-- each token of a text begins within it
token_within : (text : List ℕ) (ts : List Token) (k : ℕ) → tokens_in text ≡ Ok ts → token_place ts k (length text) ≤ length text
unfolding tokens_in
token_within text ts k e =
    let few = skipped_few text in let rest = length-drop (skipped text) text in
    tokens_begin (length text) (skipped text) 0 (drop (skipped text) text) ts (omega arith) e k

-- ---- refusals

-- the place that a right refusal tells is its place
pub place_told : (text : List ℕ) (r : ReadRefusal) → Refuses text r → told_place r ≡ place_of text r
place_told text (Lex f) h = refl
place_told text (Syntax f at) h = h.3 ∙ sym (ap (λ r. place_among r (token_of f) (length text)) h.1)
place_told text Starved h = absurd h

pub refusal_within : (text : List ℕ) (r : ReadRefusal) → Refuses text r → told_place r ≤ length text
refusal_within text (Lex f) h = fault_within text f h
refusal_within text (Syntax f at) h = let within = token_within text h.0 (token_of f) h.1 in let same = h.3 in omega (arith, same)
refusal_within text Starved h = absurd h

-- a fault of the grammar, at the place of its token
pub refused_by : (text : List ℕ) (ts : List Token) (f : SyntaxFault) (r : ReadRefusal) → Ok ts ≡ tokens_in text → ((f ≡ syntax.Starved → ⊥) → IsFault productions (terminals ts) f)
    → r ≡ of_syntax f (token_place ts (token_of f) (length text)) → (r ≡ Starved → ⊥) → Refuses text r
refused_by text ts (syntax.Unexpected k) r e h is not = subst (λ (x : ReadRefusal). Refuses text x) (sym is) (ts, sym e, h (λ w. cc), refl)
refused_by text ts (syntax.TooDeep k) r e h is not = subst (λ (x : ReadRefusal). Refuses text x) (sym is) (ts, sym e, h (λ w. cc), refl)
refused_by text ts syntax.Starved r e h is not = absurd (not is)
