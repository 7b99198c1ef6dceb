use Rattle.name_rules.proofs.Circles.{in_order}
use Rattle.name_rules.proofs.laws.named_units_are_in_order.Goals as goal

pub returns : goal.returns
returns c = in_order
