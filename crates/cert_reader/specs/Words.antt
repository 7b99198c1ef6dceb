-- The words of lines.
use Rattle.std.specs.Prelude.{ℕ, List, [], ◌∷◌, codes, map}
use Rattle.cert_reader.specs.declared.line_word.LineWord.{LineWord}
use Rattle.cert_reader.specs.declared.line_word.LineWord.TheVariants as line

abbrev pub word_of : LineWord → List ℕ
word_of line.Given = codes "given"
word_of line.Open = codes "open"
word_of line.Case = codes "case"
word_of line.Rup = codes "rup"
word_of line.Lin = codes "lin"
word_of line.Tri = codes "tri"
word_of line.Ins = codes "ins"
word_of line.New = codes "new"
word_of line.Same = codes "same"
word_of line.Arr = codes "arr"
word_of line.Ext = codes "ext"
word_of line.Fld = codes "fld"
word_of line.Div = codes "div"
word_of line.Mul = codes "mul"
word_of line.Calc = codes "calc"
word_of line.End = codes "end"

-- in the order of the reader's table
abbrev pub line_words : List LineWord
line_words =
    line.Given ∷ line.Open ∷ line.Case ∷ line.Rup ∷ line.Lin ∷ line.Tri ∷ line.Ins ∷ line.New ∷ line.Same ∷ line.Arr
    ∷ line.Ext ∷ line.Fld ∷ line.Div ∷ line.Mul ∷ line.Calc ∷ line.End ∷ []

abbrev pub words : List (List ℕ)
words = map word_of line_words
