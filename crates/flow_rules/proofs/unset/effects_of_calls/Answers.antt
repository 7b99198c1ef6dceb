use Rattle.std.proofs.Common.{refl, arith}
use Rattle.flow_rules.specs.Sets.{by_call, by_name}
use Rattle.flow_rules.proofs.unset.effects_of_calls.Goals as goal

pub returns-clause-reads : goal.returns-clause-reads
returns-clause-reads c = by_call 2 1 1 _ refl (0, omega arith, refl) (by_name 1 1 _ refl (0, omega arith, refl))

pub returns-clause-writes : goal.returns-clause-writes
returns-clause-writes c = by_call 2 0 0 _ refl (1, omega arith, refl) (by_name 0 0 _ refl (0, omega arith, refl))
