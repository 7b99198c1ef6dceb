-- Headings by the home of the contract and how many indexes that has.
use Rattle.std.specs.Prelude.{ℕ, true, Option, []}
use Rattle.front_codes.specs.declared.codes.Refusal.{Refusal}
use Rattle.syntax_view.specs.Trees as tree
use Rattle.statement_typing.specs.declared.draft.Draft.{Draft}
use Rattle.statement_typing.specs.Aspects.{aspects_found}
use Rattle.statement_typing.specs.Files.{Home}
use Rattle.statement_typing.specs.Objects.{present}
use Rattle.statement_typing.specs.Routines.{profile, with_profile}
use Rattle.statement_typing.specs.Tellings.{each_told, told}
use Rattle.subprogram_draft.specs.Counted.{contract_with}

-- subprogram q, whose contract stands at k
abbrev pub profiled : Home → Home → ℕ → tree.Heading → Draft → Draft
profiled h k q s d = with_profile h q s.name (profile (present k d) s) d

abbrev pub heading_with : Home → Home → ℕ → tree.Heading → ℕ → Draft → Draft
heading_with h k q s indexes d = contract_with q (aspects_found k (profiled h k q s d).world true [] s.aspects) indexes (profiled h k q s d)

abbrev pub told_with : Home → Home → ℕ → tree.Heading → Draft → Option Refusal → Option Refusal
told_with h k q s d t = each_told (told t (profile (present k d) s)) (aspects_found k (profiled h k q s d).world true [] s.aspects)
