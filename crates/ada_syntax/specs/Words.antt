-- Words: identifiers by their place, numbers by their value, reserved words and delimiters.
use Rattle.std.specs.Prelude.{ℤ, List, map, [], ◌∷◌, ◌++◌, Option, Some, None}
use Rattle.ada_text.specs.declared.token.Span.{Span}
use Rattle.ada_text.specs.declared.token.Token.{Token}
use Rattle.ada_text.specs.declared.token.TokenKind.{TokenKind}
use Rattle.ada_text.specs.declared.token.TokenKind.TheVariants as kind
use Rattle.ada_text.specs.declared.reserved.Reserved.{Reserved}
use Rattle.ada_text.specs.declared.delimiters.Delimiter.{Delimiter}

pub data Word : Type 0 where
  identifier : Span → Word
  number : ℤ → Word
  reserved : Reserved → Word
  mark : Delimiter → Word

abbrev pub Words : Type 0
Words = List Word

abbrev pub word_of_kind : Span → TokenKind → Word
word_of_kind s kind.Id = identifier s
word_of_kind s (kind.Number n) = number n
word_of_kind s (kind.Word r) = reserved r
word_of_kind s (kind.Mark m) = mark m

-- what a token reads as
abbrev pub word_of : Token → Word
word_of t = word_of_kind t.span t.kind

abbrev pub words : List Token → Words
words = map word_of

abbrev pub word : Reserved → Words
word r = reserved r ∷ []

abbrev pub symbol : Delimiter → Words
symbol d = mark d ∷ []

abbrev pub id : Span → Words
id s = identifier s ∷ []

-- what stands there, if it is there
abbrev pub where_some : {A : Type 0} → (A → Words) → Option A → Words
where_some f None = []
where_some f (Some x) = f x

-- one after another
abbrev pub each : {A : Type 0} → (A → Words) → List A → Words
each f [] = []
each f (x ∷ xs) = f x ++ each f xs

-- each after these words
abbrev pub after_each : {A : Type 0} → Words → (A → Words) → List A → Words
after_each w f = each (λ x. w ++ f x)

-- with these words between them
abbrev pub separated : {A : Type 0} → Words → (A → Words) → List A → Words
separated w f [] = []
separated w f (x ∷ xs) = f x ++ after_each w f xs
