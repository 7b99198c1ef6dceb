-- Contracts and bodies of subprograms by how many indexes, turns and loops their text has.
use Rattle.std.specs.Prelude.{ℕ, ◌+◌, List}
use Rattle.ada_values.specs.declared.place.Place.{Place}
use Rattle.typed_units.specs.declared.programs.Sub.{Sub}
use Rattle.typed_units.specs.declared.statements.Stmt.{Stmt}
use Rattle.typing_rules.specs.declared.prefix.Found.{Found}
use Rattle.typing_rules.specs.declared.prefix.Found.TheVariants.{Refused, Unknown, Is}
use Rattle.statement_typing.specs.declared.draft.Draft.{Draft}
use Rattle.statement_typing.specs.declared.parts.Stated.{Stated}
use Rattle.statement_typing.specs.Aspects.{with_aspects}
use Rattle.statement_typing.specs.Objects.{changed_at}
use Rattle.statement_typing.specs.Units.{opened}

-- subprogram q with what its aspects state, whose contract has so many indexes
abbrev pub contract_with : ℕ → List (Found Stated) → ℕ → Draft → Draft
contract_with q as' indexes d = record d { subs = changed_at q (λ x. record x { indexes = indexes }) (with_aspects q as' d).subs }

abbrev pub filled_by : Draft → Place → ℕ → ℕ → ℕ → List Stmt → Sub → Sub
filled_by d p turns indexes loops ss x = record x {
  place = p;
  locals = d.locals;
  turns = turns;
  indexes = x.indexes + indexes;
  loops = loops;
  opening = d.opening;
  body = ss;
}

-- subprogram q with its body, which has so many turns, indexes and loops
abbrev pub body_with : Place → ℕ → ℕ → ℕ → ℕ → Found (List Stmt) → Draft → Draft
body_with p q turns indexes loops (Is xs) d = opened (record d { subs = changed_at q (filled_by d p turns indexes loops xs) d.subs })
body_with p q turns indexes loops Unknown d = opened d
body_with p q turns indexes loops (Refused f) d = opened d
