use Rattle.std.proofs.Common.{◌≡◌, ◌++◌, drop}
use Rattle.logic_text.specs.Certs.{numbers_text}
use Rattle.logic_text.proofs.cert_writer.push_hints.Given as goal

abbrev pub invariant-loop-hint : goal.invariant-loop-hint
invariant-loop-hint l = l.fn.text.items ++ numbers_text l.hints ≡ l.text.items ++ numbers_text (drop l.hint-index l.hint-items)
