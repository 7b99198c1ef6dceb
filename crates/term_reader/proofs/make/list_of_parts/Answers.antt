use Rattle.logic_terms.specs.Operators.{list_of}
use Rattle.logic_terms.specs.View.{term}
use Rattle.term_reader.proofs.Parts.{nodes_made}
use Rattle.term_reader.proofs.make.list_of_parts.Goals as goal

pub returns-in-Ok : goal.returns-in-Ok
returns-in-Ok c = nodes_made (list_of c.args.op) c.in-Ok.items c.args.parts (term c.list_term.result) c.list_term.ensures c.in-Ok.ensures
