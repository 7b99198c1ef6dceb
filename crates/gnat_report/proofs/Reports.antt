-- The whole lines of a report are those of its rows.
use Rattle.std.proofs.Common.{◌≡◌, refl, sym, ◌∙◌, ap, arith, ℕ, zero, suc, ◌<◌, length, get_or, inl, inr, List, [], ◌∷◌, ◌++◌, append_assoc, map, take, All, Any, subst}
use Rattle.gnat_report.specs.declared.rows.Row.{Row}
use Rattle.gnat_report.specs.Text.{row_line, report_text_of}
use Rattle.gnat_report.specs.Reading.{IsRowName, IsRow, SaysTheSame, LinesAreRows, LinesReadBack, whole_lines}
use Rattle.gnat_report.proofs.Lines.{CutIn, cut_in, whole_lines-first}
use Rattle.gnat_report.proofs.Parts.{row_line_lacks, row_line-injective}

abbrev Named : Row → Type 0
Named row = IsRowName row.name

report-cons : (r : Row) (rs : List Row) → report_text_of (r ∷ rs) ≡ row_line r ++ 10 ∷ report_text_of rs
report-cons r rs = append_assoc (row_line r) (10 ∷ []) (report_text_of rs)

-- ---- whole reports
whole : (rows : List Row) → All Named rows → whole_lines (report_text_of rows) ≡ map row_line rows
whole [] h = refl
whole (r ∷ rs) h =
    ap whole_lines (report-cons r rs)
    ∙ whole_lines-first (row_line r) (report_text_of rs) (row_line_lacks r (h zero r (omega arith)))
    ∙ ap (λ lines. row_line r ∷ lines) (whole rs (λ k d lt. h (suc k) d (omega arith)))

-- ---- reports that are cut
abbrev CutAt : List Row → ℕ → Type 0
CutAt rows k = (j : ℕ) × (whole_lines (take k (report_text_of rows)) ≡ map row_line (take j rows))

cut_at : (rows : List Row) (k : ℕ) → All Named rows → CutAt rows k
cut_at [] zero h = (zero, refl)
cut_at [] (suc k) h = (zero, refl)
cut_at (r ∷ rs) k h =
    let opened : whole_lines (take k (report_text_of (r ∷ rs))) ≡ whole_lines (take k (row_line r ++ 10 ∷ report_text_of rs))
    = ap (λ text. whole_lines (take k text)) (report-cons r rs) in
    let cut : CutIn (row_line r) (report_text_of rs) k
    = cut_in (row_line r) (report_text_of rs) k (row_line_lacks r (h zero r (omega arith))) in
    let more : (i : ℕ) → CutAt rs i = λ i. cut_at rs i (λ n d lt. h (suc n) d (omega arith)) in
    elim cut [ inl e ↦ (zero, opened ∙ e) | inr p ↦ (suc (more p.0).0, opened ∙ p.1 ∙ ap (λ lines. row_line r ∷ lines) (more p.0).1) ]

pub lines_are_rows : LinesAreRows
lines_are_rows rows h = (whole rows h, λ k. cut_at rows k h)

-- ---- the row of a line
row_of : (P : Row → Type 0) (line : List ℕ) → ((r : Row) → IsRow r → line ≡ row_line r → P r) → (rows : List Row) (j i : ℕ) → All IsRow rows → i < length (map row_line (take j rows)) → get_or (map row_line (take j rows)) i line ≡ line → Any P rows
row_of P line f [] zero i h lt e = absurd (omega arith)
row_of P line f [] (suc j) i h lt e = absurd (omega arith)
row_of P line f (r ∷ rs) zero i h lt e = absurd (omega arith)
row_of P line f (r ∷ rs) (suc j) zero h lt e = (zero, r, omega arith, refl, f r (h zero r (omega arith)) (sym e))
row_of P line f (r ∷ rs) (suc j) (suc i) h lt e =
    let a = row_of P line f rs j i (λ n d below. h (suc n) d (omega arith)) (omega arith) e in
    (suc a.0, a.1, omega arith, a.3, a.4)

pub lines_read_back : LinesReadBack
lines_read_back rows row k all is c =
    let cut : CutAt rows k = cut_at rows k (λ n d lt. (all n d lt).name) in
    let within = subst (λ lines. c.0 < length lines) cut.1 c.1 in
    let found = subst (λ lines. get_or lines c.0 (row_line row) ≡ row_line row) cut.1 c.2 in
    row_of (SaysTheSame row) (row_line row) (λ r h e. row_line-injective row r is h e) rows cut.0 c.0 all within found
