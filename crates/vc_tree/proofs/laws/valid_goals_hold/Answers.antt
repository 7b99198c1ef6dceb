use Rattle.vc_tree.proofs.Proved.{proved}
use Rattle.vc_tree.proofs.laws.valid_goals_hold.Goals as goal

pub returns : goal.returns
returns c = proved
