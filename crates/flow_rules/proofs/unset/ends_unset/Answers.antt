use Rattle.std.proofs.Common.{refl, [], ◌∷◌}
use Rattle.ada_values.specs.Scalars.{integer}
use Rattle.flow_rules.specs.Paths.{assigns, ends, goes_on}
use Rattle.flow_rules.specs.Unset.{at_last, in_statements, inside, itself, number, out_parameter}
use Rattle.flow_rules.proofs.unset.ends_unset.Goals as goal

pub returns : goal.returns
returns c = record {
  component = record {
    routine = _;
    numbered = refl;
    part = record { object = _; components = 1 ∷ [] };
    subtype = 1;
    starts = out_parameter 0 _ refl refl;
    is_part = inside 1 _ 1 0 [] refl refl (itself 0 _ refl (number integer));
    path = record { outcome = _; state = _; path = in_statements _ _ (ends _) (goes_on _ _ _ _ _ (assigns _ _ _ _ _) (ends _)); end = at_last _; is_unset = refl };
  };
}
