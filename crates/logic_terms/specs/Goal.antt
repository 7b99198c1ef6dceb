-- The problem that a goal states.
use Rattle.std.specs.Prelude.{map}
use Rattle.logic_terms.specs.View.{formula}
use Rattle.logic_terms.specs.Sorts.{sort, kinds_in}
use Rattle.logic_terms.specs.Sorting.{Problem, Called}
use Rattle.logic_terms.specs.declared.goal.Goal.{Goal}
use Rattle.logic_terms.specs.declared.goal.Call.{Call}

abbrev pub called_as : Call → Called
called_as c = record { takes = kinds_in (map sort c.arguments); gives = sort c.answer }

abbrev pub problem : Goal → Problem
problem g = record {
  signature = record { symbols = map (λ s. sort s.sort) g.symbols; calls = map called_as g.calls };
  hypotheses = map formula g.hypotheses;
  conclusion = formula g.conclusion;
}
