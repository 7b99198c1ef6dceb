-- The files of a program whose names are resolved, as the rules of types see them.
use Rattle.std.specs.Prelude.{ℕ, suc, List, [], ◌∷◌, Option, Some, None, slice_get}
use Rattle.name_library.specs.declared.links.Usage.{Usage}
use Rattle.name_links.specs.Links.{link_at}
use Rattle.name_numbers.specs.Numbers.{number_at, word_of}
use Rattle.name_library.specs.declared.events.Ident.{Ident}
use Rattle.name_resolver.specs.declared.files.SourceFile.{SourceFile}
use Rattle.program_scope.specs.Homes.{spelled_at}
use Rattle.statement_typing.specs.Files.{File}
use Rattle.syntax_view.specs.View.{source_unit}
use Rattle.text_lines.specs.Lines.{place_at}

-- a file of this number, by the numbers of its names, the beginnings of its lines, and the links of the program
abbrev pub file_from : ℕ → SourceFile → List Ident → List ℕ → List Usage → File
file_from k s names starts links = record {
  unit = source_unit s.unit;
  number = k;
  place = place_at starts k;
  link = λ at. link_at links (record { file = k; at = at });
  name = number_at names;
  word = λ at. word_of (number_at names at);
  spelled = spelled_at s.text;
}

-- the files from this number on
abbrev pub files_from : ℕ → List SourceFile → List (List Ident) → List (List ℕ) → List Usage → List File
files_from k (s ∷ ss) (names ∷ tables) (starts ∷ lines) links = file_from k s names starts links ∷ files_from (suc k) ss tables lines links
files_from k _ _ _ links = []

abbrev pub files_of : List SourceFile → List (List Ident) → List (List ℕ) → List Usage → List File
files_of ss tables lines links = files_from 0 ss tables lines links

-- a file of this number, where each list has something of that number
abbrev pub file_by : ℕ → Option SourceFile → Option (List Ident) → Option (List ℕ) → List Usage → Option File
file_by k (Some s) (Some names) (Some starts) links = Some (file_from k s names starts links)
file_by k _ _ _ links = None

abbrev pub file_at : ℕ → List SourceFile → List (List Ident) → List (List ℕ) → List Usage → Option File
file_at k ss tables lines links = file_by k (slice_get ss k) (slice_get tables k) (slice_get lines k) links
