-- Whole texts that are not read.
use Rattle.std.proofs.Common.{◌≡◌, refl, sym, ◌∙◌, ap, ap₂, subst, ℕ, suc, ◌+◌, ◌-◌, ◌<◌, ◌≤◌, List, [], ◌∷◌, ◌++◌, length, get_or, take, drop, append_assoc, length-append, length-drop, arith}
use Rattle.std.proofs.Math.Seq.{take-append_seam}
use Rattle.std.proofs.lemmas.List.{take-append-drop}
use Rattle.term_reader.specs.Bytes.{first}
use Rattle.term_reader.specs.Phases.{IsBad}
use Rattle.term_reader.specs.Texts.{with_end, Begins, IsBadText}
use Rattle.term_reader.proofs.Digits.{same_head}
use Rattle.term_reader.proofs.Fronts.{first_dropped}

end_first : (r : List ℕ) → (x : List ℕ) × (r ++ (256 ∷ []) ≡ first r ∷ x)
end_first [] = ([], refl)
end_first (c ∷ r) = (r ++ (256 ∷ []), refl)

take_next : (u : List ℕ) (c : ℕ) (x : List ℕ) → take (suc (length u)) (u ++ (c ∷ x)) ≡ u ++ (c ∷ [])
take_next [] c x = refl
take_next (d ∷ u) c x = ap (λ (t : List ℕ). d ∷ t) (take_next u c x)

front_length : (u bytes : List ℕ) (to : ℕ) → to ≤ length bytes → bytes ≡ u ++ drop to bytes → length u ≡ to
front_length u bytes to h e =
    let a : length bytes ≡ length u + length (drop to bytes) = ap length e ∙ length-append u (drop to bytes) in
    let b : length (drop to bytes) ≡ length bytes - to = length-drop to bytes in omega arith

-- the texts of values, with their ends, are those of a phase
pub record IsStart {A : Type 0} (P : A → Type 0) (text : A → List ℕ) (Start : List ℕ → Type 0) : Type 0 where
  pub value : (x : List ℕ) → Start x → (a : A) × P a × (with_end (text a) ≡ x)
  pub start : (a : A) → P a → Start (with_end (text a))

goes_on : {A : Type 0} (P : A → Type 0) (text : A → List ℕ) (Start : List ℕ → Type 0) → IsStart P text Start → (u : List ℕ) → ((rest : List ℕ) × Start (u ++ rest)) → Begins P text u
goes_on P text Start w u h = let g = w.value (u ++ h.0) h.1 in (g.0, h.0, g.1, g.2)

no_more : {A : Type 0} (P : A → Type 0) (text : A → List ℕ) (Start : List ℕ → Type 0) → IsStart P text Start → (u : List ℕ) (c : ℕ) → ((rest : List ℕ) → Start (u ++ (c ∷ rest)) → ⊥) → Begins P text (u ++ (c ∷ [])) → ⊥
no_more P text Start w u c n h = n h.1 (subst Start (h.3 ∙ append_assoc u (c ∷ []) h.1) (w.start h.0 h.2))

-- a fault of the phase is one of the texts
pub bad_text : {A : Type 0} (P : A → Type 0) (text : A → List ℕ) (Start : List ℕ → Type 0) → IsStart P text Start → (bytes : List ℕ) (to : ℕ) → to ≤ length bytes → IsBad Start (drop 0 bytes) (drop to bytes) → IsBadText P text bytes to
bad_text P text Start w bytes to h b =
    let u = b.front in
    let e : bytes ≡ u ++ drop to bytes = b.is_front in
    let n : length u ≡ to = front_length u bytes to h e in
    let x = end_first (drop to bytes) in
    let f : with_end bytes ≡ u ++ (first (drop to bytes) ∷ x.0) = ap with_end e ∙ append_assoc u (drop to bytes) (256 ∷ []) ∙ ap (λ (t : List ℕ). u ++ t) x.1 in
    let g : take to (with_end bytes) ≡ u = ap₂ (λ (i : ℕ) (t : List ℕ). take i t) (sym n) f ∙ take-append_seam u (first (drop to bytes) ∷ x.0) in
    let k : take (suc to) (with_end bytes) ≡ u ++ (first (drop to bytes) ∷ []) = ap₂ (λ (i : ℕ) (t : List ℕ). take (suc i) t) (sym n) f ∙ take_next u (first (drop to bytes)) x.0 in (
      h,
      subst (Begins P text) (sym g) (goes_on P text Start w u b.goes),
      λ q. no_more P text Start w u (first (drop to bytes)) b.stuck (subst (Begins P text) k q),
    )

-- the text of a value has no fault
pub good_text : {A : Type 0} (P : A → Type 0) (text : A → List ℕ) (a : A) (at : ℕ) → P a → IsBadText P text (text a) at → ⊥
good_text P text a at h b = b.2 (a, drop (suc at) (with_end (text a)), h, sym (take-append-drop (suc at) (with_end (text a))))

-- a byte is not the end
pub byte_before_end : (bytes : List ℕ) (to : ℕ) → to < length bytes → get_or bytes to 0 < 256 → first (drop to bytes) ≡ 256 → ⊥
byte_before_end bytes to l b e = let f : get_or bytes to 0 ≡ 256 = sym (first_dropped bytes to l) ∙ e in omega arith

pub not_end : (c : ℕ) (rest : List ℕ) → (c ≡ 256 → ⊥) → c ∷ rest ≡ 256 ∷ [] → ⊥
not_end c rest n e = n (same_head c 256 rest [] e)
