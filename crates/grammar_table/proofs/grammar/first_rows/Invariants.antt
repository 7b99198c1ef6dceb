use Rattle.std.proofs.Common.{◌≡◌, ℕ, ◌<◌, length, map}
use Rattle.std.specs.Prelude.{slice_index}
use Rattle.grammar_table.specs.Choices.{first_from}
use Rattle.grammar_table.proofs.grammar.first_rows.Given as goal

abbrev pub invariant-loop-phrase : goal.invariant-loop-phrase
invariant-loop-phrase l = (length l.firsts ≡ 81) × ((at : ℕ) → at < l.phrase → slice_index l.firsts at ≡ first_from at 0 (map (λ r. r.0) l.rows))
