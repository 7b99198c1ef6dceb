use Rattle.std.proofs.Common.{◌≡◌, ◌++◌, drop, map}
use Rattle.logic_terms.specs.View.{formula}
use Rattle.logic_text.specs.Certs.{nodes_text}
use Rattle.logic_text.proofs.cert_writer.push_formulas.Given as goal

abbrev pub invariant-loop-p : goal.invariant-loop-p
invariant-loop-p l = l.fn.text.items ++ nodes_text (map formula l.formulas) ≡ l.text.items ++ nodes_text (map formula (drop l.p-index l.p-items))
