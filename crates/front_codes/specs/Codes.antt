-- The order of refusals.
use Rattle.std.specs.Prelude.{ℕ, Bool, ◌==◌, ◌&&◌, ◌||◌, nat_lt, if◌then◌else◌}
use Rattle.front_codes.specs.declared.codes.Code.{Code}
use Rattle.front_codes.specs.declared.codes.Code.TheVariants as code
use Rattle.front_codes.specs.declared.codes.Refusal.{Refusal}

-- the place of a code in the order of codes, which is that of the rules: text, grammar, names, types, flow
abbrev pub number_of : Code → ℕ
number_of code.BadByte = 0
number_of code.BadNumber = 1
number_of code.TooWide = 2
number_of code.Unexpected = 3
number_of code.TooDeep = 4
number_of code.UnknownName = 5
number_of code.AmbiguousName = 6
number_of code.Duplicate = 7
number_of code.Overloaded = 8
number_of code.WithCycle = 9
number_of code.MissingBody = 10
number_of code.SpecMismatch = 11
number_of code.LeftOut = 12
number_of code.L1 = 13
number_of code.L2 = 14
number_of code.L3 = 15
number_of code.L4 = 16
number_of code.L5 = 17
number_of code.L6 = 18
number_of code.L7 = 19
number_of code.L8 = 20
number_of code.L9 = 21
number_of code.L10 = 22
number_of code.L11 = 23
number_of code.L12 = 24
number_of code.L13 = 25
number_of code.L14 = 26
number_of code.L15 = 27
number_of code.L16 = 28
number_of code.L17 = 29
number_of code.L18 = 30
number_of code.L19 = 31
number_of code.L20 = 32
number_of code.L21 = 33
number_of code.L22 = 34
number_of code.L23 = 35
number_of code.L24 = 36
number_of code.L25 = 37
number_of code.L26 = 38
number_of code.L27 = 39
number_of code.L28 = 40
number_of code.L29 = 41
number_of code.L30 = 42
number_of code.F1 = 43
number_of code.F2 = 44
number_of code.F3 = 45
number_of code.F4 = 46
number_of code.F5 = 47
number_of code.F6 = 48

-- the first numbers decide, and where these are one the rest does
abbrev pub first_then : ℕ → ℕ → Bool → Bool
first_then x y rest = nat_lt x y || ((x == y) && rest)

-- a refusal is told in place of another: by file, line and column, then by code
abbrev pub is_before : Refusal → Refusal → Bool
is_before f g =
    first_then f.place.file g.place.file
    (first_then f.place.line g.place.line
    (first_then f.place.column g.place.column
    (nat_lt (number_of f.code) (number_of g.code))))

abbrev pub first_of_two : Refusal → Refusal → Refusal
first_of_two f g = if is_before g f then g else f
