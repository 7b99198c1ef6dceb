use Rattle.ada_tree.specs.Moves.{moves_of}
use Rattle.tree_parts.specs.Parts.{first, source_unit_of}
use Rattle.ada_tree.specs.Trees.{parts_of}
use Rattle.ada_tree.proofs.Total.{has_tree}
use Rattle.ada_tree.proofs.laws.has_tree.Goals as goal

pub returns : goal.returns
returns c = λ ts steps p t. (source_unit_of (first (parts_of (moves_of steps) ts)), (steps, p, t, has_tree steps ts p))
