use Rattle.std.proofs.Common.{drop}
use Rattle.term_reader.specs.Atoms.{atom_tree}
use Rattle.term_reader.proofs.Paths.{fault_of_part, part_read}
use Rattle.term_reader.proofs.steps.take_leaf.Goals as goal

pub returns-in-Err-clause-fault : goal.returns-in-Err-clause-fault
returns-in-Err-clause-fault c = λ text whole h.
    let f = c.in-Err.ensures.fault in (
      f.inside,
      fault_of_part text whole c.args.side _ (drop c.args.at c.args.bytes.now) (drop c.in-Err.to c.args.bytes.now) h f.fault,
    )

pub returns-in-Ok-place_atom-clause-ok : goal.returns-in-Ok-place_atom-clause-ok
returns-in-Ok-place_atom-clause-ok c = λ text whole h.
    let r = c.in-Ok.ensures.ok in
    c.in-Ok-place_atom.ensures text whole (drop c.in-Ok.leaf.to c.args.bytes.now)
    (part_read text whole c.args.side _ (drop c.args.at c.args.bytes.now) (drop c.in-Ok.leaf.to c.args.bytes.now) (atom_tree c.in-Ok.leaf.atom) h r.text r.right r.whole)
