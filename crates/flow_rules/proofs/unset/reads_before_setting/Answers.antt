use Rattle.std.proofs.Common.{refl, arith, []}
use Rattle.ada_values.specs.Scalars.{integer}
use Rattle.flow_rules.specs.Paths.{by_read, ends, goes_on, reads_now, stops, branches, passes, takes_else, assigns}
use Rattle.flow_rules.specs.Unset.{at_last, in_body, in_post, in_statements, itself, number, array, of_its_own, out_parameter, to_be_set}
use Rattle.flow_rules.proofs.unset.reads_before_setting.Goals as goal

pub returns-clause-local : goal.returns-clause-local
returns-clause-local c = record {
  routine = _;
  numbered = refl;
  part = record { object = _; components = [] };
  subtype = 0;
  starts = of_its_own 0 0 refl;
  is_part = itself 0 _ refl (number integer);
  path = in_body (in_statements _ _ (ends _) (stops _ _ _ _ (by_read _) (reads_now _ _ _ _ (record { name = _; among = (0, omega arith, refl); of_part = refl; is_unset = refl; there = refl }))));
}

pub returns-clause-one_branch : goal.returns-clause-one_branch
returns-clause-one_branch c = record {
  routine = _;
  numbered = refl;
  part = record { object = _; components = [] };
  subtype = 0;
  starts = of_its_own 0 0 refl;
  is_part = itself 0 _ refl (number integer);
  path = in_body (in_statements _ _ (ends _) (goes_on _ _ _ _ _ (branches _ _ _ _ (passes _ _ _ _ _ (takes_else _ _ _ (ends _)))) (stops _ _ _ _ (by_read _) (reads_now _ _ _ _ (record { name = _; among = (0, omega arith, refl); of_part = refl; is_unset = refl; there = refl })))));
}

pub returns-clause-item : goal.returns-clause-item
returns-clause-item c = record {
  routine = _;
  numbered = refl;
  part = record { object = _; components = [] };
  subtype = 2;
  starts = to_be_set _ _ (out_parameter 0 _ refl refl);
  is_part = itself 2 _ refl (array _);
  path = in_body (in_statements _ _ (ends _) (stops _ _ _ _ (by_read _) (reads_now _ _ _ _ (record { name = _; among = (0, omega arith, refl); of_part = refl; is_unset = refl; there = refl }))));
}

pub returns-clause-entry : goal.returns-clause-entry
returns-clause-entry c = record {
  routine = _;
  numbered = refl;
  part = record { object = _; components = [] };
  subtype = 0;
  starts = to_be_set _ _ (out_parameter 0 _ refl refl);
  is_part = itself 0 _ refl (number integer);
  path = in_post _ _ (in_statements _ _ (ends _) (goes_on _ _ _ _ _ (assigns _ _ _ _ _) (ends _))) (at_last _) (record { name = _; among = (0, omega arith, refl); of_part = refl; is_unset = refl; there = refl });
}
