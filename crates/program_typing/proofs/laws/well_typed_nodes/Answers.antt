use Rattle.program_typing.proofs.Nodes.{node_gives, subtype_is}
use Rattle.program_typing.proofs.laws.well_typed_nodes.Goals as goal

pub returns-clause-subtype : goal.returns-clause-subtype
returns-clause-subtype c = subtype_is

pub returns-clause-node : goal.returns-clause-node
returns-clause-node c = node_gives
