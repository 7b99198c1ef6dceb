-- Words of a table by their places.
use Rattle.std.proofs.Common.{◌≡◌, ℕ, zero, suc, ◌<◌, ◌≤◌, List, [], ◌∷◌, length, map, get_or, Some, None, refl, arith, Bor}
use Rattle.name_numbers.specs.declared.words.Word.{Word}
use Rattle.name_numbers.specs.Numbers.{word_at}

pub within : (table : List (Bor (List ℕ) × Word)) (at : ℕ) (d : Bor (List ℕ) × Word) → at < length table → Some (get_or table at d).1 ≡ word_at (map (λ w. (w.0.now, w.1)) table) at
within [] at d h = absurd (omega arith)
within (w ∷ table) zero d h = refl
within (w ∷ table) (suc at) d h = within table at d (omega arith)

pub past : (table : List (Bor (List ℕ) × Word)) (at : ℕ) → length table ≤ at → None ≡ word_at (map (λ w. (w.0.now, w.1)) table) at
past [] at h = refl
past (w ∷ table) zero h = absurd (omega arith)
past (w ∷ table) (suc at) h = past table at (omega arith)
