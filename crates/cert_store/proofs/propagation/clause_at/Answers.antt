use Rattle.std.proofs.Common.{◌∙◌, ap, List, map, Option}
use Rattle.std.specs.Prelude.{option_map}
use Rattle.logic_terms.specs.View.{formula}
use Rattle.logic_terms.specs.declared.syntax.Formula.{Formula}
use Rattle.cert_store.proofs.Hints.{clause_found}
use Rattle.cert_store.proofs.propagation.clause_at.Goals as goal

pub returns-in-Some : goal.returns-in-Some
returns-in-Some c = ap (λ (o : Option (List Formula)). option_map (λ ps. map formula ps) o) c.at.ensures ∙ clause_found c.args.clauses.now c.args.number c.in-Some.index c.in-Some.ensures.0 c.in-Some.ensures.1
