-- Lines and columns.
use Rattle.std.specs.Prelude.{ℕ, ◌+◌, ◌==◌, List, take, drop, reverse, count_by}
use Rattle.std.specs.List.{prefix_len}
use Rattle.ada_text.specs.Bytes.{is_in_line, skipped}

-- one more than the line ends
abbrev pub line_after : List ℕ → ℕ
line_after front = 1 + count_by (λ b. b == 10) front

-- one more than the bytes after the last line end
abbrev pub column_after : List ℕ → ℕ
column_after front = 1 + prefix_len is_in_line (reverse front)

-- the bytes before a place, without those that are skipped at the start
abbrev pub counted_before : List ℕ → ℕ → List ℕ
counted_before text at = drop (skipped text) (take at text)
