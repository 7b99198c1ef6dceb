use Rattle.std.proofs.Common.{rules}
use Rattle.program_scope.specs.Homes.{home_of}
use Rattle.routine_rules.proofs.Suffixed.{of_item}
use Rattle.routine_rules.proofs.modes.item_mode.Goals as goal

pub returns-in-Name : goal.returns-in-Name
returns-in-Name c = of_item (home_of c.args.home.now) c.args.item.now c.in-Plain.plain c.in-Name.name _ (search rules) (search rules) c.name_mode.ensures
