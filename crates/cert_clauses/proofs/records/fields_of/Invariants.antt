use Rattle.std.proofs.Common.{◌≡◌}
use Rattle.logic_terms.specs.View.{term, terms}
use Rattle.cert_rules.proofs.Parts.{so_many}
use Rattle.cert_clauses.proofs.records.fields_of.Given as goal

abbrev pub invariant-loop-i : goal.invariant-loop-i
invariant-loop-i l = terms l.made ≡ so_many 0 l.i (term l.t)
