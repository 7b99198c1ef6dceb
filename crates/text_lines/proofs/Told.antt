-- The lines and columns that are found are those of the text.
use Rattle.std.proofs.Common.{◌≡◌, ℕ, suc, ◌+◌, ◌-◌, ◌^◌, ◌<◌, ◌≤◌, min, Bool, true, false, cond, List, [], ◌∷◌, ◌++◌, length, take, drop, reverse, refl, sym, ap, ◌∙◌, subst, append_assoc, append-nil, length-append, length-drop, inl, inr, arith}
use Rattle.std.specs.Prelude.{count_by, ◌==◌, not}
use Rattle.std.specs.List.{prefix_len}
use Rattle.std.proofs.lemmas.Bool.{cases_Bool, cases_lt, cond-false, cond-true}
use Rattle.std.proofs.lemmas.List.{drop-take, drop_all, length-take-le, reverse-append}
use Rattle.std.proofs.lemmas.List.Sums.{sum_by-cons}
use Rattle.ada_text.specs.Bytes.{is_in_line, skipped}
use Rattle.ada_text.specs.Places.{column_after, counted_before, line_after}
use Rattle.ada_values.specs.declared.place.Place.{Place}
use Rattle.text_lines.specs.Lines.{line_starts, place_at, place_in, seek, starts_from}
use Rattle.text_lines.proofs.Seeking.{none, passed, starts_above}

abbrev is_end : ℕ → Bool
is_end b = b == 10

abbrev in_line : List ℕ → ℕ
in_line bs = prefix_len is_in_line (reverse bs)

-- a byte that ends a line stops the count of those in it
stops : (xs ys : List ℕ) (b : ℕ) → is_end b ≡ true → prefix_len is_in_line (xs ++ b ∷ ys) ≡ prefix_len is_in_line xs
stops [] ys b e = cond-false (is_in_line b) (1 + prefix_len is_in_line ys) 0 (ap not e)
stops (x ∷ xs) ys b e = ap (λ n. cond (is_in_line x) (1 + n) 0) (stops xs ys b e)

line_ends : (ds bs : List ℕ) (b : ℕ) → is_end b ≡ true → in_line (ds ++ b ∷ bs) ≡ in_line bs
line_ends ds bs b e =
    let turned : reverse (ds ++ b ∷ bs) ≡ reverse bs ++ (b ∷ reverse ds) = reverse-append ds (b ∷ bs) ∙ ap (λ l. l ++ reverse ds) (reverse-append (b ∷ []) bs) ∙ append_assoc (reverse bs) (b ∷ []) (reverse ds) in
    ap (prefix_len is_in_line) turned ∙ stops (reverse bs) (reverse ds) b e

line_grows : (ds : List ℕ) (b : ℕ) → in_line ds ≡ length ds → is_end b ≡ false → in_line (ds ++ b ∷ []) ≡ length (ds ++ b ∷ [])
line_grows ds b full e =
    let turned : reverse (ds ++ b ∷ []) ≡ b ∷ reverse ds = reverse-append ds (b ∷ []) in
    let more : 1 + in_line ds ≡ length (ds ++ b ∷ []) = omega (arith, length-append ds (b ∷ []), full) in
    ap (prefix_len is_in_line) turned ∙ cond-true (is_in_line b) (1 + prefix_len is_in_line (reverse ds)) 0 (ap not e) ∙ more

end_counts : (b : ℕ) (bs : List ℕ) → is_end b ≡ true → count_by is_end (b ∷ bs) ≡ 1 + count_by is_end bs
end_counts b bs e = sum_by-cons (λ x. cond (is_end x) 1 0) b bs ∙ ap (λ n. n + count_by is_end bs) (cond-true (is_end b) 1 0 e)

other_counts : (b : ℕ) (bs : List ℕ) → is_end b ≡ false → count_by is_end (b ∷ bs) ≡ 0 + count_by is_end bs
other_counts b bs e = sum_by-cons (λ x. cond (is_end x) 1 0) b bs ∙ ap (λ n. n + count_by is_end bs) (cond-false (is_end b) 1 0 e)

-- what is found is the line after the bytes `front`, and its column where the bytes `ds` of it stand before them
abbrev Told : ℕ → List ℕ → List ℕ → ℕ → ℕ × ℕ → Type 0
Told line ds front at found = (found.0 ≡ line + count_by is_end front) × (in_line (ds ++ front) ≡ at - found.1)

told_here : (line from p at : ℕ) (ds bs front : List ℕ) → from + length ds ≡ p → in_line ds ≡ length ds → at ≡ p → front ≡ [] → Told line ds front at (seek line from (starts_from p bs) at)
told_here line from p at ds bs front counted full here empty =
    subst (λ found. Told line ds front at found) (sym (none line from p at (starts_from p bs) (starts_above p bs) (omega arith))) (
    subst (λ l. Told line ds l at (line, from)) (sym empty) (
      (let z : line ≡ line + 0 = omega arith in z),
      ap in_line (append-nil ds) ∙ full ∙ (let n : length ds ≡ at - from = omega arith in n),
    )
    )

mutual
  told : (line from p at : ℕ) (ds bs : List ℕ) → from + length ds ≡ p → in_line ds ≡ length ds → p ≤ at → at ≤ p + length bs → Told line ds (take (at - p) bs) at (seek line from (starts_from p bs) at)
  told line from p at ds [] counted full low high =
      let zero_left : at - p ≡ 0 = omega arith in
      told_here line from p at ds [] (take (at - p) []) counted full (omega arith) (ap (λ n. take n []) zero_left)
  told line from p at ds (b ∷ bs) counted full low high = elim (cases_lt p at) [
    | inr past ↦
        let zero_left : at - p ≡ 0 = omega arith in
        told_here line from p at ds (b ∷ bs) (take (at - p) (b ∷ bs)) counted full (omega arith) (ap (λ n. take n (b ∷ bs)) zero_left)
    | inl more ↦
        let left : at - p ≡ suc (at - (p + 1)) = omega arith in
        subst (λ n. Told line ds (take n (b ∷ bs)) at (seek line from (starts_from p (b ∷ bs)) at)) (sym left) (elim (cases_Bool (is_end b)) [
          | inl e ↦
              let ih = told (line + 1) (p + 1) (p + 1) at [] bs (omega arith) refl (omega arith) (omega arith) in
              let next : seek line from (starts_from p (b ∷ bs)) at ≡ seek (line + 1) (p + 1) (starts_from (p + 1) bs) at = ap (λ l. seek line from l at) (cond-true (is_end b) ((p + 1) ∷ starts_from (p + 1) bs) (starts_from (p + 1) bs) e) ∙ passed line from (p + 1) at (starts_from (p + 1) bs) (omega arith) in
              subst (λ found. Told line ds (b ∷ take (at - (p + 1)) bs) at found) (sym next) (
                ih.0 ∙ (let z : line + 1 + count_by is_end (take (at - (p + 1)) bs) ≡ line + count_by is_end (b ∷ take (at - (p + 1)) bs) = omega (arith, end_counts b (take (at - (p + 1)) bs) e) in z),
                line_ends ds (take (at - (p + 1)) bs) b e ∙ ih.1,
              )
          | inr e ↦
              let grown : from + length (ds ++ b ∷ []) ≡ p + 1 = omega (arith, length-append ds (b ∷ [])) in
              let ih = told line from (p + 1) at (ds ++ b ∷ []) bs grown (line_grows ds b full e) (omega arith) (omega arith) in
              let next : seek line from (starts_from p (b ∷ bs)) at ≡ seek line from (starts_from (p + 1) bs) at = ap (λ l. seek line from l at) (cond-false (is_end b) ((p + 1) ∷ starts_from (p + 1) bs) (starts_from (p + 1) bs) e) in
              subst (λ found. Told line ds (b ∷ take (at - (p + 1)) bs) at found) (sym next) (
                ih.0 ∙ (let z : line + count_by is_end (take (at - (p + 1)) bs) ≡ line + count_by is_end (b ∷ take (at - (p + 1)) bs) = omega (arith, other_counts b (take (at - (p + 1)) bs) e) in z),
                ap in_line (sym (append_assoc ds (b ∷ []) (take (at - (p + 1)) bs))) ∙ ih.1,
              )
        ])
  ]

pub same_place : (file line line' column column' : ℕ) → line ≡ line' → column ≡ column' → (let p : Place = record { file = file; line = line; column = column } in p) ≡ record { file = file; line = line'; column = column' }
same_place file line line' column column' e f = λ j. record { file = file; line = e j; column = f j }

-- the place that is found is that of the text
pub place_told : (text : List ℕ) (file at : ℕ) (found : ℕ × ℕ) → at ≤ length text → found ≡ seek 1 (skipped text) (starts_from (skipped text) (drop (skipped text) text)) at → (let p : Place = record { file = file; line = found.0; column = at - found.1 + 1 } in p) ≡ place_in text file at
place_told text file at found within is = elim (cases_lt at (skipped text)) [
  | inl before ↦
      let first : found ≡ (1, skipped text) = is ∙ none 1 (skipped text) (skipped text) at (starts_from (skipped text) (drop (skipped text) text)) (starts_above (skipped text) (drop (skipped text) text)) (omega arith) in
      let empty : counted_before text at ≡ [] = drop_all (skipped text) (take at text) (omega (arith, length-take-le at text within)) in
      let zero_left : at - skipped text + 1 ≡ 1 = omega arith in
      same_place file found.0 (line_after (counted_before text at)) (at - found.1 + 1) (column_after (counted_before text at))
      (ap (λ f. f.0) first ∙ sym (ap line_after empty))
      (ap (λ f. at - f.1 + 1) first ∙ zero_left ∙ sym (ap column_after empty))
  | inr after ↦
      let s = skipped text in
      let n : s + (at - s) ≡ at = omega arith in
      let front : counted_before text at ≡ take (at - s) (drop s text) = ap (λ k. drop s (take k text)) (sym n) ∙ drop-take s (at - s) text in
      let all = told 1 s s at [] (drop s text) (omega arith) refl after (omega (arith, length-drop s text)) in
      let column : at - found.1 + 1 ≡ 1 + in_line (take (at - s) (drop s text)) = omega (arith, ap (λ f. at - f.1) is, all.1) in
      same_place file found.0 (line_after (counted_before text at)) (at - found.1 + 1) (column_after (counted_before text at))
      (ap (λ f. f.0) is ∙ all.0 ∙ sym (ap line_after front))
      (column ∙ sym (ap column_after front))
]

bounded : (n most : ℕ) → n ≤ most → min n most ≡ n
bounded n most h = omega arith

-- the place by the lines is that in the text
pub place_by_lines : (text : List ℕ) (file at : ℕ) → at ≤ length text → at < 2 ^ 32 - 1 → place_at (line_starts text) file at ≡ place_in text file at
place_by_lines text file at within few =
    let found = seek 1 (skipped text) (starts_from (skipped text) (drop (skipped text) text)) at in
    let column : min (at - found.1 + 1) (2 ^ 32 - 1) ≡ at - found.1 + 1 = bounded (at - found.1 + 1) (2 ^ 32 - 1) (omega arith) in
    same_place file found.0 found.0 (min (at - found.1 + 1) (2 ^ 32 - 1)) (at - found.1 + 1) refl column ∙ place_told text file at found within refl
