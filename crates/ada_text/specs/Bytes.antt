-- Classes of bytes. A text reads as 0 past its end.
use Rattle.std.specs.Prelude.{ℕ, ◌+◌, Bool, not, ◌&&◌, ◌||◌, ◌==◌, nat_le, nat_lt, nat_eq, List, [], ◌∷◌, slice_index, drop, if◌then◌else◌}
use Rattle.std.specs.Char.{digit_value}
use Rattle.std.specs.List.{prefix_len, starts_with}

-- white space: 9 to 13 and the space (Ada RM 2.1, 2.2)
abbrev pub is_blank : ℕ → Bool
is_blank b = b == 32 || (nat_le 9 b && nat_le b 13)

-- a line ends with LF
abbrev pub is_in_line : ℕ → Bool
is_in_line b = not (b == 10)

-- a digit of the radix; from 10 on letters of either case, so that letters and digits are the digits of radix 36
abbrev pub is_digit_of : ℕ → ℕ → Bool
is_digit_of radix b = nat_lt (digit_value b) radix

-- how many bytes at the front are digits of the radix, or single underscores before one
abbrev pub joined_length : ℕ → List ℕ → ℕ
joined_length radix [] = 0
joined_length radix (b ∷ bs) = if is_digit_of radix b || (b == 95 && is_digit_of radix (slice_index bs 0)) then 1 + joined_length radix bs else 0

-- how many bytes at the front are digits of the radix with single underscores between them (Ada RM 2.3, 2.4.1, 2.4.2)
unfoldable pub numeral_length : ℕ → List ℕ → ℕ
numeral_length radix bytes = if is_digit_of radix (slice_index bytes 0) then joined_length radix bytes else 0

-- how many bytes a comment has: from `--` to the end of the line (Ada RM 2.7)
abbrev pub comment_length : List ℕ → ℕ
comment_length bytes = 2 + prefix_len is_in_line (drop 2 bytes)

-- how many bytes at the start of a file are skipped: EF BB BF, or none
unfoldable pub skipped : List ℕ → ℕ
skipped bytes = if starts_with nat_eq bytes (239 ∷ 187 ∷ 191 ∷ []) then 3 else 0
