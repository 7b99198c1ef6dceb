-- The lines of a text.
use Rattle.std.specs.Prelude.{ℕ, ◌+◌, ◌-◌, ◌^◌, ◌==◌, min, nat_le, List, [], ◌∷◌, drop, if◌then◌else◌}
use Rattle.ada_text.specs.Bytes.{skipped}
use Rattle.ada_text.specs.Places.{column_after, counted_before, line_after}
use Rattle.ada_values.specs.declared.place.Place.{Place}

-- the place of a byte of a file
abbrev pub place_in : List ℕ → ℕ → ℕ → Place
place_in text file at = record { file = file; line = line_after (counted_before text at); column = column_after (counted_before text at) }

-- the bytes after the ends of lines, of bytes from the place `at` on
abbrev pub starts_from : ℕ → List ℕ → List ℕ
starts_from at [] = []
starts_from at (b ∷ bs) = if b == 10 then (at + 1) ∷ starts_from (at + 1) bs else starts_from (at + 1) bs

-- the first bytes of the lines
abbrev pub line_starts : List ℕ → List ℕ
line_starts text = skipped text ∷ starts_from (skipped text) (drop (skipped text) text)

-- ---- how a place is looked for

-- the number and the start of the last line that doesn't begin after the place, of this one and those that follow
abbrev pub seek : ℕ → ℕ → List ℕ → ℕ → ℕ × ℕ
seek line start [] at = (line, start)
seek line start (s ∷ ss) at = if nat_le s at then seek (line + 1) s ss at else (line, start)

-- the place of a byte in a line that has this number and this start. No column is above the greatest number of 32 bits.
abbrev pub place_from : ℕ → ℕ → ℕ × ℕ → Place
place_from file at found = record { file = file; line = found.0; column = min (at - found.1 + 1) (2 ^ 32 - 1) }

-- the place of a byte of a file by the first bytes of its lines. Each text has a line: without one the byte stands in the first.
abbrev pub place_at : List ℕ → ℕ → ℕ → Place
place_at [] file at = place_from file at (1, 0)
place_at (s ∷ ss) file at = place_from file at (seek 1 s ss at)
