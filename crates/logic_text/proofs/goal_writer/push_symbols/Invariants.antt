use Rattle.std.proofs.Common.{◌≡◌, ◌++◌, drop, map}
use Rattle.logic_terms.specs.Sorts.{sort as kind_of}
use Rattle.logic_text.specs.Goals.{sorts_text}
use Rattle.logic_text.proofs.goal_writer.push_symbols.Given as goal

abbrev pub invariant-loop-symbol : goal.invariant-loop-symbol
invariant-loop-symbol l = l.fn.text.items ++ sorts_text (map (λ s. kind_of s.sort) l.symbols) ≡ l.text.items ++ sorts_text (map (λ s. kind_of s.sort) (drop l.symbol-index l.symbol-items))
