use Rattle.std.proofs.Common.{◌≡◌, ◌++◌, map, drop}
use Rattle.typed_units.specs.View.{routine, text_of}
use Rattle.check_sites.specs.Sites.{checks_from}
use Rattle.check_sites.proofs.program.checks.Given as goal

abbrev pub invariant-loop-sub : goal.invariant-loop-sub
invariant-loop-sub l = record {
  numbered : l.owner ≡ l.sub-index;
  rest : l.found.items ++ checks_from (text_of l.program) l.owner (map (routine l.program.shapes) (drop l.sub-index l.sub-items)) ≡ checks_from (text_of l.program) 0 (map (routine l.program.shapes) l.sub-items);
}
