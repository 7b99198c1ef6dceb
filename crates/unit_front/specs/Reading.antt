-- What the texts of a program's files are: their trees, or the first refusal, by the lexical rules and then by the grammar.
use Rattle.std.specs.Prelude.{◌≡◌, ◌<◌, ◌-◌, ◌^◌, ℕ, zero, suc, List, [], ◌∷◌, map, length, Option, Some, None}
use Rattle.ada_text.specs.Places.{line_after, column_after, counted_before}
use Rattle.ada_text.specs.declared.token.LexFault.{LexFault}
use Rattle.ada_text.specs.declared.token.LexFault.TheVariants as lex
use Rattle.grammar_table.specs.declared.answers.SyntaxFault.{SyntaxFault}
use Rattle.grammar_table.specs.declared.answers.SyntaxFault.TheVariants as syntax
use Rattle.name_resolver.specs.declared.files.SourceFile.{SourceFile}
use Rattle.spark_reader.specs.declared.refusal.ReadRefusal.{ReadRefusal}
use Rattle.spark_reader.specs.declared.refusal.ReadRefusal.TheVariants as reading
use Rattle.spark_reader.specs.Reads.{Reads, Refuses, place_of}
use Rattle.front_codes.specs.declared.codes.Code.{Code}
use Rattle.front_codes.specs.declared.codes.Code.TheVariants as code
use Rattle.front_codes.specs.declared.codes.Refusal.{Refusal}
use Rattle.unit_front.specs.declared.files.NamedBytes.{NamedBytes}
use Rattle.unit_front.specs.declared.files.FrontRefusal.{FrontRefusal}
use Rattle.unit_front.specs.declared.files.FrontRefusal.TheVariants as front
use Rattle.unit_front.specs.declared.reading.FileRead.{FileRead}
use Rattle.unit_front.specs.declared.reading.FileRead.TheVariants.{Lexical, Syntactic, Tree}

-- ---- a refusal of a text

abbrev pub IsToldLexical : LexFault → Type 0
IsToldLexical lex.Starved = ⊥
IsToldLexical _ = Unit {0}

abbrev pub IsToldSyntactic : SyntaxFault → Type 0
IsToldSyntactic syntax.Starved = ⊥
IsToldSyntactic _ = Unit {0}

-- it is no want of memory
abbrev pub IsTold : ReadRefusal → Type 0
IsTold (reading.Lex f) = IsToldLexical f
IsTold (reading.Syntax f at) = IsToldSyntactic f
IsTold reading.Starved = ⊥

abbrev pub code_of_lexical : LexFault → Code
code_of_lexical (lex.BadByte at) = code.BadByte
code_of_lexical (lex.BadNumber at) = code.BadNumber
code_of_lexical (lex.TooWide at) = code.TooWide
code_of_lexical lex.Starved = code.BadByte

abbrev pub code_of_syntactic : SyntaxFault → Code
code_of_syntactic (syntax.Unexpected k) = code.Unexpected
code_of_syntactic (syntax.TooDeep k) = code.TooDeep
code_of_syntactic syntax.Starved = code.Unexpected

abbrev pub code_of : ReadRefusal → Code
code_of (reading.Lex f) = code_of_lexical f
code_of (reading.Syntax f at) = code_of_syntactic f
code_of reading.Starved = code.Unexpected

-- in the file of a number, at the line and the column of its place
abbrev pub refusal_of : ℕ → List ℕ → ReadRefusal → Refusal
refusal_of file text r =
    let front = counted_before text (place_of text r) in
    record { code = code_of r; place = record { file = file; line = line_after front; column = column_after front } }

-- ---- what a file is

abbrev pub IsFile : ℕ → List ℕ → FileRead → Type 0
IsFile k text (Lexical f) = (r : LexFault) × Refuses text (reading.Lex r) × (f ≡ refusal_of k text (reading.Lex r))
IsFile k text (Syntactic f) = (r : SyntaxFault) × (at : ℕ) × Refuses text (reading.Syntax r at) × (f ≡ refusal_of k text (reading.Syntax r at))
IsFile k text (Tree s) = (s.text ≡ text) × Reads text s.unit

-- the same of each file, where their numbers begin with k
abbrev pub AreFiles : ℕ → List (List ℕ) → List FileRead → Type 0
AreFiles k [] [] = Unit {0}
AreFiles k (text ∷ texts) (f ∷ fs) = IsFile k text f × AreFiles (suc k) texts fs
AreFiles k [] (f ∷ fs) = ⊥
AreFiles k (text ∷ texts) [] = ⊥

-- ---- the first refusal: the lexical ones of all files come before those of the grammar, and then the order of files decides

abbrev pub first_lexical : List FileRead → Option Refusal
first_lexical [] = None
first_lexical (Lexical f ∷ fs) = Some f
first_lexical (_ ∷ fs) = first_lexical fs

abbrev pub first_syntactic : List FileRead → Option Refusal
first_syntactic [] = None
first_syntactic (Syntactic f ∷ fs) = Some f
first_syntactic (_ ∷ fs) = first_syntactic fs

abbrev pub else_refusal : Option Refusal → Option Refusal → Option Refusal
else_refusal (Some f) g = Some f
else_refusal None g = g

abbrev pub first_refusal : List FileRead → Option Refusal
first_refusal fs = else_refusal (first_lexical fs) (first_syntactic fs)

-- the texts with trees among them, in order
abbrev pub trees : List FileRead → List SourceFile
trees [] = []
trees (Tree u ∷ fs) = u ∷ trees fs
trees (_ ∷ fs) = trees fs

-- ---- all files

abbrev pub texts_of : List NamedBytes → List (List ℕ)
texts_of = map (λ f. f.bytes)

-- each text has a tree, and these are the texts with their trees
abbrev pub HaveTrees : List (List ℕ) → List SourceFile → Type 0
HaveTrees texts ss = (fs : List FileRead) × AreFiles 0 texts fs × (first_refusal fs ≡ None) × (ss ≡ trees fs)

-- of the texts this is the first refusal
abbrev pub HaveFirst : List (List ℕ) → FrontRefusal → Type 0
HaveFirst texts (front.Refused f) = (fs : List FileRead) × AreFiles 0 texts fs × (first_refusal fs ≡ Some f)
HaveFirst texts front.Starved = Unit {0}

-- a refusal tells one of so many files
abbrev pub IsOf : ℕ → FrontRefusal → Type 0
IsOf n (front.Refused f) = f.place.file < n
IsOf n front.Starved = Unit {0}

-- a file's text has fewer bytes than a place can tell
abbrev pub AreShort : List (List ℕ) → Type 0
AreShort [] = Unit {0}
AreShort (text ∷ texts) = (length text < 2 ^ 32 - 1) × AreShort texts
