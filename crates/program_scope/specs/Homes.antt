-- The files of a program and where declarations stand, in the words of the rules.
use Rattle.std.specs.Prelude.{ℕ, Bool, ◌||◌, ◌==◌, List, take, drop}
use Rattle.std.specs.Char.{is_ascii_alphanumeric}
use Rattle.std.specs.List.{prefix_len}
use Rattle.name_links.specs.Links.{link_at}
use Rattle.name_numbers.specs.Numbers.{number_at, word_of}
use Rattle.program_scope.specs.declared.file.File as code
use Rattle.program_scope.specs.declared.home.Home as standing
use Rattle.reading_scope.specs.Numbers.{number_in}
use Rattle.statement_typing.specs.Files.{File, Home}
use Rattle.syntax_view.specs.View.{source_unit}
use Rattle.text_lines.specs.Lines as lines

-- a letter, a digit or an underline
abbrev pub is_in_name : ℕ → Bool
is_in_name b = is_ascii_alphanumeric b || b == 95

-- the identifier from a byte on, which ends where no letter, digit or underline follows -- Ada RM 2.3
abbrev pub spelled_at : List ℕ → ℕ → List ℕ
spelled_at text at = take (prefix_len is_in_name (drop at text)) (drop at text)

abbrev pub file_of : code.File → File
file_of f = record {
  unit = source_unit f.unit.now;
  number = f.number;
  place = lines.place_at f.lines.now f.number;
  link = λ at. link_at f.links.now (record { file = f.number; at = at });
  name = number_at f.names.now;
  word = λ at. word_of (number_at f.names.now at);
  spelled = spelled_at f.text.now;
}

abbrev pub home_of : standing.Home → Home
home_of h = record {
  file = file_of h.file.now;
  own = h.own;
  number = number_in h.numbers.now;
  globals = h.globals.now;
  routines = h.routines.now;
}
