-- The beginning, of the variables and the subprograms of a program.
use Rattle.std.specs.Prelude.{List, [], map}
use Rattle.name_library.specs.declared.links.Spot.{Spot}
use Rattle.type_base.specs.Standard.{standard}
use Rattle.statement_typing.specs.declared.draft.Draft.{Draft}
use Rattle.statement_typing.specs.declared.parts.Variable.{Variable}
use Rattle.statement_typing.specs.Files.{File}
use Rattle.statement_typing.specs.Units.{blank_global, blank_sub, declared_text, no_routine, standard_names}

abbrev pub start_with : List File → List Variable → List Spot → Draft
start_with fs vs qs = record {
  world = record standard { routines = map no_routine qs };
  names = standard_names;
  globals = map blank_global vs;
  subs = map (λ s. blank_sub (declared_text fs s)) qs;
  locals = [];
  opening = [];
}
