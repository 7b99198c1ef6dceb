use Rattle.spark_reader.proofs.Only.{one_tree, not_both}
use Rattle.spark_reader.proofs.laws.one_answer.Goals as goal

pub returns-clause-tree : goal.returns-clause-tree
returns-clause-tree c = one_tree

pub returns-clause-either : goal.returns-clause-either
returns-clause-either c = not_both
