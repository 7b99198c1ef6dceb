use Rattle.ada_tree.proofs.Spelled.{tree_spelled}
use Rattle.ada_tree.proofs.laws.tree_spelled.Goals as goal

pub returns : goal.returns
returns c = tree_spelled
