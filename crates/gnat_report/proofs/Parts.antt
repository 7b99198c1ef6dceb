-- The parts of a row's line.
use Rattle.std.proofs.Common.{◌≡◌, ◌≢◌, refl, sym, ◌∙◌, ap, arith, ℕ, ◌<◌, ◌^◌, List, [], ◌∷◌, ◌++◌, append_assoc}
use Rattle.std.specs.Fmt.{decimal}
use Rattle.std.proofs.lemmas.Fmt.{decimal_injective}
use Rattle.ada_values.specs.declared.place.Place.{Place}
use Rattle.gnat_report.specs.declared.rows.Row.{Row}
use Rattle.gnat_report.specs.Text.{outcome_text, place_text, row_line}
use Rattle.gnat_report.specs.Reading.{IsRowName, IsRow, SaysTheSame, FaultLinesDiffer, ErrorLinesDiffer}
use Rattle.gnat_report.proofs.Bytes.{Lacks, Lacks-from_All, Lacks-append, Lacks-from_test, same_at_first, begins_without}
use Rattle.gnat_report.proofs.Numbers.{decimal_lacks_colon, decimal_lacks_feed, decimal_lacks_blank}
use Rattle.gnat_report.proofs.Outcomes.{outcome_text-injective, outcome_text_lacks, outcome_is_no_error}

-- ---- a place's text in front of a rest
abbrev from_column : Place → List ℕ → List ℕ
from_column p rest = decimal p.column ++ 58 ∷ 32 ∷ rest

abbrev from_line : Place → List ℕ → List ℕ
from_line p rest = decimal p.line ++ 58 ∷ from_column p rest

place_opens : (p : Place) (rest : List ℕ) → place_text p ++ rest ≡ 58 ∷ from_line p rest
place_opens p rest = simp append_assoc

name_opens : (name : List ℕ) (p : Place) (rest : List ℕ) → name ++ (place_text p ++ rest) ≡ name ++ 58 ∷ from_line p rest
name_opens name p rest = ap (λ t. name ++ t) (place_opens p rest)

record SameParts (n m : List ℕ) (p q : Place) (u v : List ℕ) : Type 0 where
  name : n ≡ m
  line : decimal p.line ≡ decimal q.line
  column : decimal p.column ≡ decimal q.column
  rest : u ≡ v

same_parts : (n m : List ℕ) (p q : Place) (u v : List ℕ) → Lacks 58 n → Lacks 58 m → n ++ (place_text p ++ u) ≡ m ++ (place_text q ++ v) → SameParts n m p q u v
same_parts n m p q u v lacks_n lacks_m e =
    let opened : n ++ 58 ∷ from_line p u ≡ m ++ 58 ∷ from_line q v = sym (name_opens n p u) ∙ e ∙ name_opens m q v in
    let a = same_at_first 58 n m (from_line p u) (from_line q v) lacks_n lacks_m opened in
    let b = same_at_first 58 (decimal p.line) (decimal q.line) (from_column p u) (from_column q v) (decimal_lacks_colon p.line) (decimal_lacks_colon q.line) a.1 in
    let c = same_at_first 58 (decimal p.column) (decimal q.column) (32 ∷ u) (32 ∷ v) (decimal_lacks_colon p.column) (decimal_lacks_colon q.column) b.1 in
    let last : 32 ∷ u ≡ 32 ∷ v = c.1 in
    record { name = a.0; line = b.0; column = c.0; rest = cc }

-- ---- names
no_colon : (name : List ℕ) → IsRowName name → Lacks 58 name
no_colon name h = Lacks-from_All (λ c. (c ≢ 58) × (c ≢ 10)) 58 (λ c p. p.0) name h

no_feed : (name : List ℕ) → IsRowName name → Lacks 10 name
no_feed name h = Lacks-from_All (λ c. (c ≢ 58) × (c ≢ 10)) 10 (λ c p. p.1) name h

-- ---- rows
pub row_line_lacks : (row : Row) → IsRowName row.name → Lacks 10 (row_line row)
row_line_lacks row h =
    let p = row.key.place in
    let told = outcome_text row.key.kind row.status in
    let from_space : Lacks 10 (58 ∷ 32 ∷ told) = Lacks-append 10 (58 ∷ 32 ∷ []) told (Lacks-from_test 10 (58 ∷ 32 ∷ []) refl) (outcome_text_lacks row.key.kind row.status) in
    let columns : Lacks 10 (from_column p told) = Lacks-append 10 (decimal p.column) (58 ∷ 32 ∷ told) (decimal_lacks_feed p.column) from_space in
    let colon : Lacks 10 (58 ∷ from_column p told) = Lacks-append 10 (58 ∷ []) (from_column p told) (Lacks-from_test 10 (58 ∷ []) refl) columns in
    let lines : Lacks 10 (from_line p told) = Lacks-append 10 (decimal p.line) (58 ∷ from_column p told) (decimal_lacks_feed p.line) colon in
    let opened : Lacks 10 (58 ∷ from_line p told) = Lacks-append 10 (58 ∷ []) (from_line p told) (Lacks-from_test 10 (58 ∷ []) refl) lines in
    rw (place_opens p told) (Lacks-append 10 row.name (58 ∷ from_line p told) (no_feed row.name h) opened)

small : (n : ℕ) → n < 2 ^ 32 → n < 2 ^ 64
small n h = omega (arith)

pub row_line-injective : (row other : Row) → IsRow row → IsRow other → row_line row ≡ row_line other → SaysTheSame row other
row_line-injective row other h g e =
    let p = row.key.place in
    let q = other.key.place in
    let parts = same_parts row.name other.name p q (outcome_text row.key.kind row.status) (outcome_text other.key.kind other.status) (no_colon row.name h.name) (no_colon other.name g.name) e in
    let told = outcome_text-injective row.key.kind other.key.kind row.status other.status parts.rest in
    record {
      name = sym parts.name;
      line = sym (decimal_injective p.line q.line (small p.line h.place.line) (small q.line g.place.line) parts.line);
      column = sym (decimal_injective p.column q.column (small p.column h.place.column) (small q.column g.place.column) parts.column);
      kind = sym told.0;
      status = sym told.1;
    }

-- ---- other lines
gnatprove : List ℕ
gnatprove = 103 ∷ 110 ∷ 97 ∷ 116 ∷ 112 ∷ 114 ∷ 111 ∷ 118 ∷ 101 ∷ []

pub fault_lines_differ : FaultLinesDiffer
unfolding gnatprove
fault_lines_differ row rest h e =
    let p = row.key.place in
    let told = outcome_text row.key.kind row.status in
    let opened : row.name ++ 58 ∷ from_line p told ≡ gnatprove ++ 58 ∷ 32 ∷ rest = sym (name_opens row.name p told) ∙ e in
    let a = same_at_first 58 row.name gnatprove (from_line p told) (32 ∷ rest) (no_colon row.name h) (Lacks-from_test 58 gnatprove refl) opened in
    begins_without 32 58 (decimal p.line) (from_column p told) rest (decimal_lacks_blank p.line) (λ d. omega arith) a.1

pub error_lines_differ : ErrorLinesDiffer
error_lines_differ row name place rest h g e =
    let parts = same_parts row.name name row.key.place place (outcome_text row.key.kind row.status) (101 ∷ 114 ∷ 114 ∷ 111 ∷ 114 ∷ 58 ∷ 32 ∷ rest) (no_colon row.name h) (no_colon name g) e in
    outcome_is_no_error row.key.kind row.status (114 ∷ 114 ∷ 111 ∷ 114 ∷ 58 ∷ 32 ∷ rest) parts.rest
