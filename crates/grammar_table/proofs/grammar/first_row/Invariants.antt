use Rattle.std.proofs.Common.{◌≡◌, ◌+◌, length, map}
use Rattle.grammar_table.specs.Choices.{first_from}
use Rattle.grammar_table.proofs.grammar.first_row.Given as goal

abbrev pub invariant-loop-rows : goal.invariant-loop-rows
invariant-loop-rows l =
    (first_from l.phrase l.number (map (λ r. r.0) l.rows) ≡ first_from l.phrase 0 (map (λ r. r.0) l.initial.rows)) × (l.number + length l.rows ≡ length l.initial.rows)

abbrev pub decreases-loop-rows : goal.decreases-loop-rows
decreases-loop-rows l = length l.rows
