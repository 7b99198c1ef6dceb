-- A refusal of a text is no want of memory.
use Rattle.std.proofs.Common.{◌≡◌, ap, subst, ℕ, zero, suc, ◌+◌, List, [], ◌∷◌, Option, Some, None, Result, Ok, Err, Bool, true, false, refl, ◌∙◌}
use Rattle.std.specs.Prelude.{slice_index, nat_eq, nat_lt, codes, if◌then◌else◌, drop, ◌-◌, ◌^◌, pos}
use Rattle.std.specs.Char.{is_ascii_alphabetic, is_ascii_digit}
use Rattle.std.specs.List.{starts_with}
use Rattle.ada_text.specs.declared.item.Item.{Item}
use Rattle.ada_text.specs.declared.number.Literal.{Literal}
use Rattle.ada_text.specs.declared.token.Token.{Token}
use Rattle.ada_text.specs.declared.token.LexFault.{LexFault}
use Rattle.ada_text.specs.declared.token.LexFault.TheVariants.{BadByte, BadNumber, TooWide}
use Rattle.ada_text.specs.declared.token.TokenKind.TheVariants.{Number}
use Rattle.ada_text.specs.Bytes.{comment_length, is_blank, skipped}
use Rattle.ada_text.specs.Delimiters.{mark_at}
use Rattle.ada_text.specs.Numbers.{literal_at, literal_value, number_at, number_with}
use Rattle.ada_text.specs.Tokens.{after_item, before, gap, item_at, mark_or_fault, tokens_from, tokens_in, tokens_of, word_at}
use Rattle.grammar_table.specs.declared.answers.SyntaxFault.{SyntaxFault}
use Rattle.grammar_table.specs.declared.answers.SyntaxFault.TheVariants as syntax
use Rattle.spark_reader.specs.Reads.{Refuses}
use Rattle.spark_reader.specs.declared.refusal.ReadRefusal.{ReadRefusal}
use Rattle.spark_reader.specs.declared.refusal.ReadRefusal.TheVariants.{Lex, Syntax, Starved}
use Rattle.unit_front.specs.Reading.{IsToldLexical as IsLexTold, IsTold}

told : (f g : LexFault) → IsLexTold g → g ≡ f → IsLexTold f
told f g t same = subst IsLexTold same t

wide : (f : LexFault) (at : ℕ) (b : Bool) (i : Item) → (if b then Ok i else Err (TooWide at)) ≡ Err f → IsLexTold f
wide f at true i e = cc
wide f at false i e = let same : TooWide at ≡ f = cc in told f (TooWide at) tt same

literal : (f : LexFault) (at : ℕ) (l : Option Literal) (bs : List ℕ) → number_with at l bs ≡ Err f → IsLexTold f
literal f at None bs e = let same : BadNumber at ≡ f = cc in told f (BadNumber at) tt same
literal f at (Some l) bs e = wide f at (nat_lt (literal_value bs l) (2 ^ 127)) (record { kind = Some (Number (pos (literal_value bs l))); length = l.exponent.to }) e

number : (f : LexFault) (at : ℕ) (bs : List ℕ) → number_at at bs ≡ Err f → IsLexTold f
unfolding number_at
number f at bs e = literal f at (literal_at bs) bs e

mark : (f : LexFault) (at : ℕ) (o : Option Item) → mark_or_fault at o ≡ Err f → IsLexTold f
mark f at None e = let same : BadByte at ≡ f = cc in told f (BadByte at) tt same
mark f at (Some i) e = cc

either : (f : LexFault) (a b c d : Bool) (x y z : Item) (n m : Result Item LexFault)
    → (n ≡ Err f → IsLexTold f) → (m ≡ Err f → IsLexTold f)
    → (if a then Ok x else (if b then Ok y else (if c then Ok z else (if d then n else m)))) ≡ Err f → IsLexTold f
either f true b c d x y z n m g h e = cc
either f false true c d x y z n m g h e = cc
either f false false true d x y z n m g h e = cc
either f false false false true x y z n m g h e = g e
either f false false false false x y z n m g h e = h e

item : (f : LexFault) (at : ℕ) (bs : List ℕ) → item_at at bs ≡ Err f → IsLexTold f
unfolding item_at
item f at bs e =
    let b = slice_index bs 0 in
    either f (is_blank b) (starts_with nat_eq bs (codes "--")) (is_ascii_alphabetic b) (is_ascii_digit b) (gap 1) (gap (comment_length bs)) (word_at bs)
    (number_at at bs) (mark_or_fault at (mark_at bs)) (number f at bs) (mark f at (mark_at bs)) e

behind : (f : LexFault) (ts : List Token) (r : Result (List Token) LexFault) → before ts r ≡ Err f → r ≡ Err f
behind f ts (Ok us) e = cc
behind f ts (Err g) e = e

following : (f : LexFault) (at : ℕ) (bs : List ℕ) (rest : ℕ → Result (List Token) LexFault) → ((left : ℕ) → rest left ≡ Err f → IsLexTold f)
    → (r : Result Item LexFault) → item_at at bs ≡ r → after_item at r rest ≡ Err f → IsLexTold f
following f at bs rest more (Ok i) is e = more (i.length - 1) (behind f (tokens_of at i) (rest (i.length - 1)) e)
following f at bs rest more (Err g) is e =
    let same : g ≡ f = cc in
    item f at bs (is ∙ ap Err same)

tokens : (f : LexFault) (at left : ℕ) (bs : List ℕ) → tokens_from at left bs ≡ Err f → IsLexTold f
tokens f at left [] e = cc
tokens f at (suc left) (b ∷ bs) e = tokens f (at + 1) left bs e
tokens f at zero (b ∷ bs) e =
    following f at (b ∷ bs) (λ left. tokens_from (at + 1) left bs) (λ left h. tokens f (at + 1) left bs h) (item_at at (b ∷ bs)) refl e

text_fault : (text : List ℕ) (f : LexFault) → tokens_in text ≡ Err f → IsLexTold f
unfolding tokens_in
text_fault text f e = tokens f (skipped text) 0 (drop (skipped text) text) e

pub refusals_are_told : (text : List ℕ) (r : ReadRefusal) → Refuses text r → IsTold r
refusals_are_told text (Lex f) h = text_fault text f h
refusals_are_told text (Syntax (syntax.Unexpected k) at) h = tt
refusals_are_told text (Syntax (syntax.TooDeep k) at) h = tt
refusals_are_told text (Syntax syntax.Starved at) h = h.2
refusals_are_told text Starved h = h
