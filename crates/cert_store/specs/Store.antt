-- The clauses that a store holds.
use Rattle.std.specs.Prelude.{List, map}
use Rattle.logic_terms.specs.Node.{Node}
use Rattle.logic_terms.specs.View.{formula}
use Rattle.logic_terms.specs.declared.syntax.Formula.{Formula}
use Rattle.cert_store.specs.declared.store.ClauseStore.{ClauseStore}

abbrev pub nodes : List (List Formula) → List (List Node)
nodes cs = map (λ ps. map formula ps) cs

-- the clauses of the lines in order
abbrev pub clauses : ClauseStore → List (List Node)
clauses s = nodes s.clauses
