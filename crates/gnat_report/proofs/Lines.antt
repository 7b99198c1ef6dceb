-- The whole lines of a text.
use Rattle.std.proofs.Common.{◌≡◌, ◌≢◌, refl, ap, ◌∙◌, ℕ, zero, suc, Bool, cond, ◌⊎◌, inl, inr, List, [], ◌∷◌, ◌++◌, take}
use Rattle.std.proofs.lemmas.Bool.{ne_eqb}
use Rattle.gnat_report.specs.Reading.{whole_lines, with_first, OneLineIsWhole}
use Rattle.gnat_report.proofs.Bytes.{Lacks, Lacks-from_All}

-- a byte that is no line feed belongs to the first line
whole_lines-other : (c : ℕ) (bytes : List ℕ) → c ≢ 10 → whole_lines (c ∷ bytes) ≡ with_first c (whole_lines bytes)
whole_lines-other c bytes h = ap (λ (t : Bool). cond t ([] ∷ whole_lines bytes) (with_first c (whole_lines bytes))) (ne_eqb c 10 h)

pub whole_lines-first : (line rest : List ℕ) → Lacks 10 line → whole_lines (line ++ 10 ∷ rest) ≡ line ∷ whole_lines rest
whole_lines-first [] rest h = refl
whole_lines-first (c ∷ cs) rest h = whole_lines-other c (cs ++ 10 ∷ rest) h.0 ∙ ap (with_first c) (whole_lines-first cs rest h.1)

pub one_line_is_whole : OneLineIsWhole
one_line_is_whole line h = whole_lines-first line [] (Lacks-from_All (λ c. c ≢ 10) 10 (λ c p. p) line h)

-- the whole lines of a first part of a line and what follows it: none, or the line and those of a part of what follows
abbrev pub CutIn : List ℕ → List ℕ → ℕ → Type 0
CutIn line rest k =
    (whole_lines (take k (line ++ 10 ∷ rest)) ≡ []) ⊎ ((j : ℕ) × (whole_lines (take k (line ++ 10 ∷ rest)) ≡ line ∷ whole_lines (take j rest)))

pub cut_in : (line rest : List ℕ) (k : ℕ) → Lacks 10 line → CutIn line rest k
cut_in [] rest zero h = inl refl
cut_in [] rest (suc k) h = inr (k, refl)
cut_in (c ∷ cs) rest zero h = inl refl
cut_in (c ∷ cs) rest (suc k) h =
    let more = whole_lines-other c (take k (cs ++ 10 ∷ rest)) h.0 in
    elim (cut_in cs rest k h.1) [ inl e ↦ inl (more ∙ ap (with_first c) e) | inr r ↦ inr (r.0, more ∙ ap (with_first c) r.1) ]
