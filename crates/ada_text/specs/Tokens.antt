-- The tokens of a text.
use Rattle.std.specs.Prelude.{◌≡◌, ◌<◌, ◌≤◌, ℕ, zero, suc, ◌+◌, ◌-◌, List, [], ◌∷◌, ◌++◌, take, drop, slice_index, nat_eq, codes, Option, Some, None, Result, Ok, Err, if◌then◌else◌}
use Rattle.std.specs.Char.{is_ascii_alphabetic, is_ascii_digit}
use Rattle.std.specs.List.{starts_with}
use Rattle.ada_text.specs.declared.item.Item.{Item}
use Rattle.ada_text.specs.declared.token.Span.{Span}
use Rattle.ada_text.specs.declared.token.Token.{Token}
use Rattle.ada_text.specs.declared.token.TokenKind.{TokenKind}
use Rattle.ada_text.specs.declared.token.LexFault.{LexFault}
use Rattle.ada_text.specs.declared.token.LexFault.TheVariants.{BadByte}
use Rattle.ada_text.specs.Bytes.{is_blank, comment_length, numeral_length, skipped}
use Rattle.ada_text.specs.Words.{word_kind}
use Rattle.ada_text.specs.Delimiters.{mark_at}
use Rattle.ada_text.specs.Numbers.{number_at}

-- white space or a comment
abbrev pub gap : ℕ → Item
gap n = record { kind = None; length = n }

-- a letter, then letters and digits with single underscores between them (Ada RM 2.3)
unfoldable pub word_at : List ℕ → Item
word_at bytes = let n = numeral_length 36 bytes in record { kind = Some (word_kind (take n bytes)); length = n }

abbrev pub mark_or_fault : ℕ → Option Item → Result Item LexFault
mark_or_fault at None = Err (BadByte at)
mark_or_fault at (Some i) = Ok i

-- what stands at the front, which is the place `at` of the text (Ada RM 2.2)
unfoldable pub item_at : ℕ → List ℕ → Result Item LexFault
item_at at bytes =
    let b = slice_index bytes 0 in
    if is_blank b then Ok (gap 1)
    else (if starts_with nat_eq bytes (codes "--") then Ok (gap (comment_length bytes))
    else (if is_ascii_alphabetic b then Ok (word_at bytes)
    else (if is_ascii_digit b then number_at at bytes
    else mark_or_fault at (mark_at bytes))))

-- a token of this kind, or none
abbrev pub spelled : Span → Option TokenKind → List Token
spelled span None = []
spelled span (Some k) = record { kind = k; span = span } ∷ []

-- the token of an item at this place, if it is one
abbrev pub tokens_of : ℕ → Item → List Token
tokens_of at i = spelled (record { from = at; to = at + i.length }) i.kind

-- these tokens, and then the others
abbrev pub before : List Token → Result (List Token) LexFault → Result (List Token) LexFault
before ts (Ok us) = Ok (ts ++ us)
before ts (Err f) = Err f

-- the token of an item at this place, and then the tokens of the rest, after the bytes but one of the item, or the fault
abbrev pub after_item : ℕ → Result Item LexFault → (ℕ → Result (List Token) LexFault) → Result (List Token) LexFault
after_item at (Ok i) rest = before (tokens_of at i) (rest (i.length - 1))
after_item at (Err f) rest = Err f

-- The tokens from the place `at` on, up to the first fault. The second number counts the bytes that are left of an item.
abbrev pub tokens_from : ℕ → ℕ → List ℕ → Result (List Token) LexFault
tokens_from at left [] = Ok []
tokens_from at (suc left) (b ∷ bs) = tokens_from (at + 1) left bs
tokens_from at zero (b ∷ bs) = after_item at (item_at at (b ∷ bs)) (λ left. tokens_from (at + 1) left bs)

-- the tokens of a text, or its first fault
unfoldable pub tokens_in : List ℕ → Result (List Token) LexFault
tokens_in text = tokens_from (skipped text) 0 (drop (skipped text) text)

-- what stands at a token's place is of its kind, up to the end of its span
abbrev pub StandsIn : List ℕ → Token → Type 0
StandsIn text t = item_at t.span.from (drop t.span.from text) ≡ Ok (record { kind = Some t.kind; length = t.span.to - t.span.from })

-- spans of a byte or more, one after another between two places
abbrev pub AreInOrder : ℕ → List Token → ℕ → Type 0
AreInOrder from [] to = from ≤ to
AreInOrder from (t ∷ ts) to = (from ≤ t.span.from) × (t.span.from < t.span.to) × AreInOrder t.span.to ts to
