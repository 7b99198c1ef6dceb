use Rattle.std.proofs.Common.{◌≡◌, ℕ, ◌+◌, ◌<◌, ◌≤◌, List, Bor, max, length, drop, map}
use Rattle.term_reader.specs.Words.{word_at, furthest_of}
use Rattle.term_reader.proofs.Choosing.{IsPassed}
use Rattle.term_reader.proofs.table.word_among.Given as goal

abbrev pub invariant-loop-place : goal.invariant-loop-place
invariant-loop-place g l =
    let ws : List (List ℕ) = map {A = Bor (List ℕ) × g.row.W.Denot} {B = List ℕ} (λ w. w.0.now) l.table in
    let s : List ℕ = drop l.at l.bytes in record {
      inside : l.at + l.furthest ≤ length l.bytes;
      passed : (k : ℕ) → k < l.place → IsPassed (word_at ws k) s;
      reached : furthest_of ws s ≡ max l.furthest (furthest_of (drop l.place ws) s);
    }
