use Rattle.std.proofs.Common.{◌≡◌, ◌++◌, map, drop}
use Rattle.typed_units.specs.View.{routine}
use Rattle.flow_rules.specs.Functions.{faults_from}
use Rattle.flow_rules.specs.Headed.{heading}
use Rattle.flow_effects.proofs.functions.function_faults.Given as goal

abbrev pub invariant-loop-sub : goal.invariant-loop-sub
invariant-loop-sub l = record {
  numbered : l.number ≡ l.sub-index;
  rest : l.found ++ faults_from l.effects l.number (map heading (drop l.sub-index l.sub-items)) (map (routine l.program.shapes) (drop l.sub-index l.sub-items)) ≡ faults_from l.effects 0 (map heading l.sub-items) (map (routine l.program.shapes) l.sub-items);
}
