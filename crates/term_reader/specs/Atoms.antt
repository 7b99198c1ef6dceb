-- What the reader's parts without brackets are.
use Rattle.std.specs.Prelude.{true, false}
use Rattle.logic_terms.specs.Node.{num, flag, sym, bound}
use Rattle.logic_terms.specs.Value.{numbers, truths}
use Rattle.term_reader.specs.Trees.{Tree, of_node, of_kind}
use Rattle.term_reader.specs.declared.atom.Atom.{Atom}

abbrev pub atom_tree : Atom → Tree
atom_tree (Atom.Num z) = of_node (num z)
atom_tree (Atom.Sym k) = of_node (sym k)
atom_tree (Atom.Bound k) = of_node (bound k)
atom_tree Atom.True = of_node (flag true)
atom_tree Atom.False = of_node (flag false)
atom_tree Atom.Numbers = of_kind numbers
atom_tree Atom.Truths = of_kind truths
