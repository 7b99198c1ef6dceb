-- The numbers of names. Upper and lower case are one (Ada RM 2.3).
use Rattle.std.specs.Prelude.{ℕ, zero, suc, ◌+◌, ◌-◌, ◌≤◌, ◌==◌, nat_lt, List, [], ◌∷◌, ◌++◌, map, take, drop, length, Option, Some, None, Result, Ok, Err, if◌then◌else◌}
use Rattle.std.specs.Str.{str_eq_ignore_ascii_case}
use Rattle.ada_text.specs.declared.token.LexFault.{LexFault}
use Rattle.ada_text.specs.declared.token.Span.{Span}
use Rattle.ada_text.specs.declared.token.Token.{Token}
use Rattle.ada_text.specs.declared.token.TokenKind.{TokenKind}
use Rattle.ada_text.specs.declared.token.TokenKind.TheVariants as kind
use Rattle.ada_text.specs.Tokens.{tokens_in}
use Rattle.name_library.specs.declared.events.Ident.{Ident}
use Rattle.name_numbers.specs.declared.words.TheConstants.{STANDARD_NAMES, WORDS}
use Rattle.name_numbers.specs.declared.words.Word.{Word}

-- the place of the first of the names that is this text
abbrev pub number_of : List (List ℕ) → List ℕ → ℕ
number_of [] text = 0
number_of (name ∷ names) text = if str_eq_ignore_ascii_case text name then 0 else 1 + number_of names text

-- ---- the names that are known before any text is read

unfoldable pub words : List (List ℕ × Word)
words = map (λ w. (w.0.now, w.1)) WORDS

unfoldable pub known_names : List (List ℕ)
known_names = map (λ n. n.now) STANDARD_NAMES ++ map (λ w. w.0) words

abbrev pub word_at : List (List ℕ × Word) → ℕ → Option Word
word_at [] n = None
word_at (w ∷ ws) zero = Some w.1
word_at (w ∷ ws) (suc n) = word_at ws n

-- the numbers of the words follow those of package Standard
unfoldable pub word_of : ℕ → Option Word
word_of n = if nat_lt n (length STANDARD_NAMES) then None else word_at words (n - length STANDARD_NAMES)

-- ---- the identifiers of a text

abbrev pub identifier_of : Token → TokenKind → List Span
identifier_of t kind.Id = t.span ∷ []
identifier_of t _ = []

abbrev pub identifiers_among : List Token → List Span
identifiers_among [] = []
identifiers_among (t ∷ ts) = identifier_of t t.kind ++ identifiers_among ts

-- a text with a lexical fault has none
abbrev pub identifiers_by : Result (List Token) LexFault → List Span
identifiers_by (Ok ts) = identifiers_among ts
identifiers_by (Err f) = []

abbrev pub identifiers : List ℕ → List Span
identifiers text = identifiers_by (tokens_in text)

abbrev pub text_at : List ℕ → Span → List ℕ
text_at text s = take (s.to - s.from) (drop s.from text)

-- ---- the numbers of all identifiers of a program

-- the texts of the identifiers of these texts, in their order
abbrev pub names_in : List (List ℕ) → List (List ℕ)
names_in [] = []
names_in (text ∷ texts) = map (text_at text) (identifiers text) ++ names_in texts

abbrev pub ident_by : List (List ℕ) → List ℕ → Span → Ident
ident_by names text s = record { name = number_of names (text_at text s); at = s.from }

abbrev pub numbered_by : List (List ℕ) → List ℕ → List Ident
numbered_by names text = map (ident_by names text) (identifiers text)

-- the identifiers of each text, numbered by the names that are known and those of all texts
abbrev pub numbered : List (List ℕ) → List (List Ident)
numbered texts = map (numbered_by (known_names ++ names_in texts)) texts

-- ---- looking numbers up

-- the number of the first identifier at a byte
abbrev pub number_at : List Ident → ℕ → ℕ
number_at [] at = 0
number_at (i ∷ is) at = if i.at == at then i.name else number_at is at

-- each begins after the one before, and the first at the byte `from` or later
abbrev pub AreRising : ℕ → List Ident → Type 0
AreRising from [] = Unit {0}
AreRising from (i ∷ is) = (from ≤ i.at) × AreRising (suc i.at) is
