-- One change of a subprogram.
use Rattle.std.specs.Prelude.{◌+◌, Some, ◌∷◌, [], ◌++◌}
use Rattle.typed_units.specs.declared.programs.Sub.{Sub}
use Rattle.subprogram_draft.specs.declared.changes.Change.{Change}
use Rattle.subprogram_draft.specs.declared.changes.Change.TheVariants.{Body, Global, Indexes, Parameter, Post, Pre, Returns}
use Rattle.subprogram_draft.specs.declared.changes.Filling.{Filling}

-- a body's parts take the places of those before, and its indexes are added to the contract's
abbrev pub filled_with : Filling → Sub → Sub
filled_with f x = record x {
  place = f.place;
  locals = f.locals;
  turns = f.turns;
  indexes = x.indexes + f.indexes;
  loops = f.loops;
  opening = f.opening;
  body = f.body;
}

abbrev pub changed_by : Change → Sub → Sub
changed_by (Parameter p) x = record x { params = x.params ++ p ∷ [] }
changed_by (Returns r) x = record x { result = r }
changed_by (Pre c) x = record x { pre = Some c }
changed_by (Post c) x = record x { post = Some c }
changed_by (Global g) x = record x { global = Some g }
changed_by (Indexes n) x = record x { indexes = n }
changed_by (Body f) x = filled_with f x
