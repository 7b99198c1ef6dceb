-- Looking a place up by halves.
use Rattle.std.proofs.Common.{◌≡◌, ℕ, zero, suc, ◌+◌, ◌-◌, ◌<◌, ◌≤◌, Bool, true, false, List, [], ◌∷◌, length, take, drop, get_or, refl, sym, ap, ◌∙◌, subst, length-drop, arith}
use Rattle.std.specs.Prelude.{◌==◌, nat_le, if◌then◌else◌}
use Rattle.std.proofs.lemmas.Bool.Decides.{nat_tests}
use Rattle.std.proofs.lemmas.List.{drop_more, length-take-le, take_rest}
use Rattle.text_lines.specs.Lines.{seek, starts_from}
use Rattle.text_lines.specs.Rising.{AreAbove}

-- ---- rising lists

pub passed : (line start s at : ℕ) (ss : List ℕ) → s ≤ at → seek line start (s ∷ ss) at ≡ seek (line + 1) s ss at
passed line start s at ss h = grind (arith, nat_tests)

stopped : (line start s at : ℕ) (ss : List ℕ) → at < s → seek line start (s ∷ ss) at ≡ (line, start)
stopped line start s at ss h = grind (arith, nat_tests)

-- where all begin after the place
pub none : (line start from at : ℕ) (ss : List ℕ) → AreAbove from ss → at ≤ from → seek line start ss at ≡ (line, start)
none line start from at [] above h = refl
none line start from at (s ∷ ss) above h = stopped line start s at ss (omega arith)

above_at : (from k d : ℕ) (ss : List ℕ) → AreAbove from ss → k < length ss → from < get_or ss k d
above_at from k d [] above h = absurd (omega arith)
above_at from zero d (s ∷ ss) above h = above.0
above_at from (suc k) d (s ∷ ss) above h = let more : s < get_or ss k d = above_at s k d ss above.1 (omega arith) in omega arith

pub seek_after : (line start from at k d : ℕ) (ss : List ℕ) → AreAbove from ss → k < length ss → get_or ss k d ≤ at → seek line start ss at ≡ seek (line + (k + 1)) (get_or ss k d) (drop (suc k) ss) at
seek_after line start from at k d [] above h l = absurd (omega arith)
seek_after line start from at zero d (s ∷ ss) above h l =
    let e : line + 1 ≡ line + (zero + 1) = omega arith in
    passed line start s at ss l ∙ ap (λ n. seek n s ss at) e
seek_after line start from at (suc k) d (s ∷ ss) above h l =
    let more : s < get_or ss k d = above_at s k d ss above.1 (omega arith) in
    let e : line + 1 + (k + 1) ≡ line + (suc k + 1) = omega arith in
    passed line start s at ss (omega arith) ∙ seek_after (line + 1) s s at k d ss above.1 (omega arith) l ∙ ap (λ n. seek n (get_or ss k d) (drop (suc k) ss) at) e

same_if : (t : Bool) (x y z : ℕ × ℕ) → x ≡ y → (if t then x else z) ≡ (if t then y else z)
same_if t x y z e = ap (λ w. if t then w else z) e

pub seek_before : (line start from at k d : ℕ) (ss : List ℕ) → AreAbove from ss → k < length ss → at < get_or ss k d → seek line start ss at ≡ seek line start (take k ss) at
seek_before line start from at k d [] above h l = absurd (omega arith)
seek_before line start from at zero d (s ∷ ss) above h l = stopped line start s at ss l
seek_before line start from at (suc k) d (s ∷ ss) above h l = same_if (nat_le s at) _ _ (line, start) (seek_before (line + 1) s s at k d ss above.1 (omega arith) l)

above_lower : (from to : ℕ) (ss : List ℕ) → to ≤ from → AreAbove from ss → AreAbove to ss
above_lower from to [] h above = tt
above_lower from to (s ∷ ss) h above = (omega arith, above.1)

above_drop : (from k : ℕ) (ss : List ℕ) → AreAbove from ss → AreAbove from (drop k ss)
above_drop from zero ss above = above
above_drop from (suc k) [] above = tt
above_drop from (suc k) (s ∷ ss) above = above_lower s from (drop k ss) (omega arith) (above_drop s k ss above.1)

above_take : (from k : ℕ) (ss : List ℕ) → AreAbove from ss → AreAbove from (take k ss)
above_take from zero ss above = tt
above_take from (suc k) [] above = tt
above_take from (suc k) (s ∷ ss) above = (above.0, above_take s k ss above.1)

-- ---- a turn of the search

pub record Kept (first line start at most : ℕ) (rest : List ℕ) (found : ℕ × ℕ) : Type 0 where
  pub above : AreAbove first rest
  pub seeks : seek line start rest at ≡ found
  pub counts : line + length rest ≤ most

more : (k : ℕ) → k + 1 ≡ suc k
more k = omega arith

pub turn_after : (first line start at most k d : ℕ) (rest : List ℕ) (found : ℕ × ℕ) → Kept first line start at most rest found → k < length rest → get_or rest k d ≤ at → Kept first (line + (k + 1)) (get_or rest k d) at most (take (length rest - (k + 1)) (drop (k + 1) rest)) found
turn_after first line start at most k d rest found kept h l =
    let e : take (length rest - (k + 1)) (drop (k + 1) rest) ≡ drop (suc k) rest = take_rest rest (k + 1) ∙ ap (λ m. drop m rest) (more k) in
    subst (λ (r : List ℕ). Kept first (line + (k + 1)) (get_or rest k d) at most r found) (sym e) (record {
      above = above_drop first (suc k) rest kept.above;
      seeks = sym (seek_after line start first at k d rest kept.above h l) ∙ kept.seeks;
      counts = omega (arith, length-drop (suc k) rest, kept.counts);
    })

pub turn_before : (first line start at most k d : ℕ) (rest : List ℕ) (found : ℕ × ℕ) → Kept first line start at most rest found → k < length rest → at < get_or rest k d → Kept first line start at most (take k rest) found
turn_before first line start at most k d rest found kept h l = record {
  above = above_take first k rest kept.above;
  seeks = sym (seek_before line start first at k d rest kept.above h l) ∙ kept.seeks;
  counts = omega (arith, length-take-le k rest, kept.counts);
}

-- ---- the lines of a text

above_if : (t : Bool) (at : ℕ) (ss : List ℕ) → AreAbove (at + 1) ss → AreAbove at (if t then (at + 1) ∷ ss else ss)
above_if true at ss h = (omega arith, h)
above_if false at ss h = above_lower (at + 1) at ss (omega arith) h

pub starts_above : (at : ℕ) (bs : List ℕ) → AreAbove at (starts_from at bs)
starts_above at [] = tt
starts_above at (b ∷ bs) = above_if (b == 10) at (starts_from (at + 1) bs) (starts_above (at + 1) bs)

count_if : (t : Bool) (at n : ℕ) (ss : List ℕ) → length ss ≤ n → length (if t then (at + 1) ∷ ss else ss) ≤ suc n
count_if true at n ss h = omega arith
count_if false at n ss h = omega arith

pub starts_count : (at : ℕ) (bs : List ℕ) → length (starts_from at bs) ≤ length bs
starts_count at [] = omega arith
starts_count at (b ∷ bs) = count_if (b == 10) at (length bs) (starts_from (at + 1) bs) (starts_count (at + 1) bs)

-- a byte more
pub starts_more : (first at : ℕ) (bs : List ℕ) (d : ℕ) → at < length bs → starts_from (first + at) (drop at bs) ≡ (if get_or bs at d == 10 then (first + at + 1) ∷ starts_from (first + (at + 1)) (drop (at + 1) bs) else starts_from (first + (at + 1)) (drop (at + 1) bs))
starts_more first at bs d h =
    let e : first + at + 1 ≡ first + (at + 1) = omega arith in
    ap (starts_from (first + at)) (drop_more bs at d h)
    ∙ ap (λ n. if get_or bs at d == 10 then (first + at + 1) ∷ starts_from n (drop (at + 1) bs) else starts_from n (drop (at + 1) bs)) e
