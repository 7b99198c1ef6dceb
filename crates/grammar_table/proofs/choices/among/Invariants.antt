use Rattle.std.proofs.Common.{◌≡◌, ◌+◌, length, map}
use Rattle.grammar_table.specs.Choices.{pick}
use Rattle.grammar_table.proofs.choices.among.Given as goal

abbrev pub invariant-loop-rows : goal.invariant-loop-rows
invariant-loop-rows l =
    (pick l.phrase l.token l.number (map (λ r. r.0) l.rows) ≡ pick l.phrase l.token l.initial.number (map (λ r. r.0) l.initial.rows))
    × (l.number + length l.rows ≡ l.initial.number + length l.initial.rows)

abbrev pub decreases-loop-rows : goal.decreases-loop-rows
decreases-loop-rows l = length l.rows
