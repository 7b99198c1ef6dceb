-- Numbers.
use Rattle.std.specs.Prelude.{ℕ, ◌+◌, ◌*◌, ◌^◌, Bool, not, ◌&&◌, ◌||◌, ◌==◌, nat_le, nat_lt, List, take, drop, filter, slice_index, slice_range, Option, Some, None, Result, Ok, Err, pos, if◌then◌else◌}
use Rattle.std.specs.Char.{is_ascii_alphabetic, is_ascii_digit}
use Rattle.std.specs.Str.Parse.{digits_value}
use Rattle.ada_text.specs.declared.number.Part.{Part}
use Rattle.ada_text.specs.declared.number.Mantissa.{Mantissa}
use Rattle.ada_text.specs.declared.number.Literal.{Literal}
use Rattle.ada_text.specs.declared.item.Item.{Item}
use Rattle.ada_text.specs.declared.token.LexFault.{LexFault}
use Rattle.ada_text.specs.declared.token.LexFault.TheVariants.{BadNumber, TooWide}
use Rattle.ada_text.specs.declared.token.TokenKind.TheVariants.{Number}
use Rattle.ada_text.specs.Bytes.{numeral_length}

-- what is no underscore
abbrev pub is_written : ℕ → Bool
is_written b = not (b == 95)

-- the value of a numeral: underscores don't count (Ada RM 2.4.1)
unfoldable pub numeral_value : ℕ → List ℕ → ℕ
numeral_value radix text = digits_value radix (filter is_written text)

-- a base is from 2 to 16 (Ada RM 2.4.2)
unfoldable pub base_of : List ℕ → Option ℕ
base_of text = let value = numeral_value 10 text in if nat_le 2 value && nat_le value 16 then Some value else None

-- the digits between `#` and `#`, from this place on (Ada RM 2.4.2)
unfoldable pub based_at : ℕ → ℕ → List ℕ → Option Mantissa
based_at radix from bytes =
    let to = from + numeral_length radix (drop from bytes) in
    if nat_lt from to && slice_index bytes to == 35 then Some (record { radix = radix; digits = record { from = from; to = to }; end = to + 1 }) else None

abbrev pub with_base : Option ℕ → ℕ → List ℕ → Option Mantissa
with_base None from bytes = None
with_base (Some radix) from bytes = based_at radix from bytes

-- a number without its exponent: a numeral, or BASE#DIGITS# (Ada RM 2.4.1, 2.4.2)
unfoldable pub mantissa_at : List ℕ → Option Mantissa
mantissa_at bytes =
    let to = numeral_length 10 bytes in
    if slice_index bytes to == 35 then with_base (base_of (take to bytes)) (to + 1) bytes else Some (record { radix = 10; digits = record { from = 0; to = to }; end = to })

abbrev pub is_exponent_letter : ℕ → Bool
is_exponent_letter b = b == 69 || b == 101

-- the digits of the exponent after `E` or `E+`, or nothing where no `E` stands at this place (Ada RM 2.4.1)
unfoldable pub exponent_at : ℕ → List ℕ → Option Part
exponent_at at bytes =
    let from = if slice_index bytes (at + 1) == 43 then at + 2 else at + 1 in
    let to = from + numeral_length 10 (drop from bytes) in
    if is_exponent_letter (slice_index bytes at) then (if nat_lt from to then Some (record { from = from; to = to }) else None) else Some (record { from = at; to = at })

-- no letter or underscore, and no `.` with a digit, stands at this place (Ada RM 2.2)
unfoldable pub ends_at : ℕ → List ℕ → Bool
ends_at at bytes =
    let b = slice_index bytes at in not (is_ascii_alphabetic b || b == 95 || (b == 46 && is_ascii_digit (slice_index bytes (at + 1))))

abbrev pub with_exponent : Mantissa → Option Part → List ℕ → Option Literal
with_exponent m None bytes = None
with_exponent m (Some e) bytes = if ends_at e.to bytes then Some (record { radix = m.radix; digits = m.digits; exponent = e }) else None

abbrev pub with_mantissa : Option Mantissa → List ℕ → Option Literal
with_mantissa None bytes = None
with_mantissa (Some m) bytes = with_exponent m (exponent_at m.end bytes) bytes

-- the number at the front, if what stands there is one (Ada RM 2.4)
unfoldable pub literal_at : List ℕ → Option Literal
literal_at bytes = with_mantissa (mantissa_at bytes) bytes

-- the digits times the radix to the power of the exponent (Ada RM 2.4.1, 2.4.2)
unfoldable pub literal_value : List ℕ → Literal → ℕ
literal_value bytes l =
    numeral_value l.radix (slice_range bytes l.digits.from l.digits.to) * l.radix ^ numeral_value 10 (slice_range bytes l.exponent.from l.exponent.to)

abbrev pub number_with : ℕ → Option Literal → List ℕ → Result Item LexFault
number_with at None bytes = Err (BadNumber at)
number_with at (Some l) bytes =
    if nat_lt (literal_value bytes l) (2 ^ 127) then Ok (record { kind = Some (Number (pos (literal_value bytes l))); length = l.exponent.to }) else Err (TooWide at)

-- the number at the front, which is the place `at` of the text
unfoldable pub number_at : ℕ → List ℕ → Result Item LexFault
number_at at bytes = number_with at (literal_at bytes) bytes
