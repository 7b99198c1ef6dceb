-- Which places and sites are the same, and their order: file, line, column, kind.
use Rattle.std.specs.Prelude.{ℕ, Bool, ◌==◌, ◌&&◌, ◌||◌, nat_lt}
use Rattle.ada_values.specs.declared.place.Place.{Place}
use Rattle.typed_units.specs.declared.checks.CheckKind.{CheckKind}
use Rattle.typed_units.specs.declared.checks.CheckKind.TheVariants as kind
use Rattle.typed_units.specs.declared.checks.SiteKey.{SiteKey}

abbrev pub same_place : Place → Place → Bool
same_place p q = (p.file == q.file) && (p.line == q.line) && (p.column == q.column)

-- the first numbers decide, and where these are one the rest does
abbrev pub first_then : ℕ → ℕ → Bool → Bool
first_then x y rest = nat_lt x y || ((x == y) && rest)

-- the kinds in the order in which a report lists those at one place
abbrev pub kind_number : CheckKind → ℕ
kind_number kind.Overflow = 0
kind_number kind.Range = 1
kind_number kind.Index = 2
kind_number kind.Division = 3
kind_number kind.Pre = 4
kind_number kind.Post = 5
kind_number kind.Assert = 6
kind_number kind.Assume = 7
kind_number kind.InvFirst = 8
kind_number kind.InvKept = 9
kind_number kind.Variant = 10

abbrev pub same_site : SiteKey → SiteKey → Bool
same_site c d = same_place c.place d.place && (kind_number c.kind == kind_number d.kind)

abbrev pub site_before : SiteKey → SiteKey → Bool
site_before c d =
    first_then c.place.file d.place.file
    (first_then c.place.line d.place.line
    (first_then c.place.column d.place.column
    (nat_lt (kind_number c.kind) (kind_number d.kind))))
