-- Reserved words and identifiers.
use Rattle.std.specs.Prelude.{ℕ, zero, suc, ◌-◌, ◌&&◌, nat_le, Bool, Option, Some, None, List, [], ◌∷◌, map, codes, slice_index, if◌then◌else◌}
use Rattle.std.specs.Char.{to_ascii_lowercase}
use Rattle.std.specs.Str.{str_eq_ignore_ascii_case}
use Rattle.ada_text.specs.declared.reserved.TheConstants.{WORDS_BY_LETTER}
use Rattle.ada_text.specs.declared.reserved.Reserved.{Reserved}
use Rattle.ada_text.specs.declared.reserved.Reserved.TheVariants as word
use Rattle.ada_text.specs.declared.token.TokenKind.{TokenKind}
use Rattle.ada_text.specs.declared.token.TokenKind.TheVariants as kind

-- the reserved words (Ada RM 2.9)
unfoldable pub reserved_words : List (List ℕ × Reserved)
reserved_words =
    (codes "abort", word.Abort) ∷ (codes "abs", word.Abs) ∷ (codes "abstract", word.Abstract)
    ∷ (codes "accept", word.Accept) ∷ (codes "access", word.Access) ∷ (codes "aliased", word.Aliased)
    ∷ (codes "all", word.All) ∷ (codes "and", word.And) ∷ (codes "array", word.Array)
    ∷ (codes "at", word.At) ∷ (codes "begin", word.Begin) ∷ (codes "body", word.Body)
    ∷ (codes "case", word.Case) ∷ (codes "constant", word.Constant) ∷ (codes "declare", word.Declare)
    ∷ (codes "delay", word.Delay) ∷ (codes "delta", word.Delta) ∷ (codes "digits", word.Digits)
    ∷ (codes "do", word.Do) ∷ (codes "else", word.Else) ∷ (codes "elsif", word.Elsif)
    ∷ (codes "end", word.End) ∷ (codes "entry", word.Entry) ∷ (codes "exception", word.Exception)
    ∷ (codes "exit", word.Exit) ∷ (codes "for", word.For) ∷ (codes "function", word.Function)
    ∷ (codes "generic", word.Generic) ∷ (codes "goto", word.Goto) ∷ (codes "if", word.If)
    ∷ (codes "in", word.In) ∷ (codes "interface", word.Interface) ∷ (codes "is", word.Is)
    ∷ (codes "limited", word.Limited) ∷ (codes "loop", word.Loop) ∷ (codes "mod", word.Mod)
    ∷ (codes "new", word.New) ∷ (codes "not", word.Not) ∷ (codes "null", word.Null)
    ∷ (codes "of", word.Of) ∷ (codes "or", word.Or) ∷ (codes "others", word.Others)
    ∷ (codes "out", word.Out) ∷ (codes "overriding", word.Overriding) ∷ (codes "package", word.Package)
    ∷ (codes "pragma", word.Pragma) ∷ (codes "private", word.Private) ∷ (codes "procedure", word.Procedure)
    ∷ (codes "protected", word.Protected) ∷ (codes "raise", word.Raise) ∷ (codes "range", word.Range)
    ∷ (codes "record", word.Record) ∷ (codes "rem", word.Rem) ∷ (codes "renames", word.Renames)
    ∷ (codes "requeue", word.Requeue) ∷ (codes "return", word.Return) ∷ (codes "reverse", word.Reverse)
    ∷ (codes "select", word.Select) ∷ (codes "separate", word.Separate) ∷ (codes "some", word.Some)
    ∷ (codes "subtype", word.Subtype) ∷ (codes "synchronized", word.Synchronized) ∷ (codes "tagged", word.Tagged)
    ∷ (codes "task", word.Task) ∷ (codes "terminate", word.Terminate) ∷ (codes "then", word.Then)
    ∷ (codes "type", word.Type) ∷ (codes "until", word.Until) ∷ (codes "use", word.Use)
    ∷ (codes "when", word.When) ∷ (codes "while", word.While) ∷ (codes "with", word.With)
    ∷ (codes "xor", word.Xor) ∷ []

-- upper and lower case are one (Ada RM 2.3)
abbrev pub word_among : List (List ℕ × Reserved) → List ℕ → Option Reserved
word_among [] text = None
word_among (w ∷ ws) text = if str_eq_ignore_ascii_case w.0 text then Some w.1 else word_among ws text

abbrev pub kind_of_word : Option Reserved → TokenKind
kind_of_word None = kind.Id
kind_of_word (Some w) = kind.Word w

-- an identifier that is a reserved word is that word (Ada RM 2.9)
unfoldable pub word_kind : List ℕ → TokenKind
word_kind text = kind_of_word (word_among reserved_words text)

-- ---- the words by their first letter. No public contract rests on these definitions: that they have all words is proved.

-- the first letter of a word, in lower case
abbrev pub letter_of : List ℕ → ℕ
letter_of text = to_ascii_lowercase (slice_index text 0)

abbrev pub is_letter : ℕ → Bool
is_letter letter = nat_le 97 letter && nat_le letter 122

abbrev pub row_of : List (List (List ℕ × Reserved)) → ℕ → List (List ℕ × Reserved)
row_of [] k = []
row_of (r ∷ rs) zero = r
row_of (r ∷ rs) (suc k) = row_of rs k

unfoldable pub words_by_letter : List (List (List ℕ × Reserved))
words_by_letter = map (λ r. map (λ w. (w.0.now, w.1)) r.now) WORDS_BY_LETTER

unfoldable pub words_of : ℕ → List (List ℕ × Reserved)
words_of letter = if is_letter letter then row_of words_by_letter (letter - 97) else []
