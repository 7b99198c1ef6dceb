use Rattle.std.proofs.Common.{◌∙◌, ap, FitsSigned, rules}
use Rattle.std.proofs.lemmas.Int.{to_z-of_z}
use Rattle.std.specs.Int.{w128}
use Rattle.logic_terms.specs.Node.{num}
use Rattle.term_reader.specs.Atoms.{atom_tree}
use Rattle.term_reader.specs.Trees.{of_node}
use Rattle.term_reader.specs.declared.part.Side.TheVariants.{Term}
use Rattle.term_reader.proofs.Leaves.{read_as, whole_read, whole_unread}
use Rattle.term_reader.proofs.leaf.read_numeral.Goals as goal

pub returns-in-Err-clause-fault : goal.returns-in-Err-clause-fault
returns-in-Err-clause-fault c =
    whole_unread c.args.bytes.now c.args.at c.in-Err.to c.requires.open c.requires.symbol c.requires.bound c.in-Err.ensures.place c.in-Err.ensures.fault

pub returns-in-Ok-clause-ok : goal.returns-in-Ok-clause-ok
returns-in-Ok-clause-ok c =
    let h = c.in-Ok.ensures in
    let r = whole_read c.args.bytes.now c.args.at c.in-Ok.whole.to c.in-Ok.whole.value h.before h.inside h.number h.text h.ends in
    let f : FitsSigned w128 c.in-Ok.whole.value = search rules in
    let z = to_z-of_z w128 c.in-Ok.whole.value f in
    read_as Term (atom_tree c.number_leaf.result.atom) (of_node (num c.in-Ok.whole.value)) c.args.bytes.now c.args.at c.number_leaf.result.to c.in-Ok.whole.to
    (c.number_leaf.ensures.atom ∙ ap (λ y. of_node (num y)) z) c.number_leaf.ensures.to r
