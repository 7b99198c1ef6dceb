-- The lines of a refutation: the steps that a form needs, in the order in which they were made, with new numbers.
use Rattle.std.specs.Prelude.{ℕ, suc, Bool, false, ◌||◌, ◌+◌, ◌==◌, List, [], ◌∷◌, ◌++◌, map, reverse, count_by, nat_lt, if◌then◌else◌}
use Rattle.cert_lines.specs.Line.{Step, sum_of, tighten}

-- a step with the number of the form that it made
pub record Numbered : Type 0 where
  pub number : ℕ
  pub step : Step

abbrev pub numbered : ℕ → Step → Numbered
numbered k s = record { number = k; step = s }

abbrev pub uses : ℕ → Step → Bool
uses k (sum_of i m j n) = (i == k) || (j == k)
uses k (tighten i) = i == k

abbrev pub is_used : ℕ → List Numbered → Bool
is_used k [] = false
is_used k (n ∷ ns) = uses k n.step || is_used k ns

abbrev pub with_needed : ℕ → ℕ → Step → List Numbered → List Numbered
with_needed last k s ns = if (k == last) || is_used k ns then ns ++ numbered k s ∷ [] else ns

-- the steps that the form `last` needs, the latest first, where the first of the steps made form k: its own, and each that a
-- needed one uses
abbrev pub needed : ℕ → ℕ → List Step → List Numbered
needed last k [] = []
needed last k (s ∷ ss) = with_needed last k s (needed last (suc k) ss)

-- the inputs keep their numbers; the forms of the steps ns follow
abbrev pub renumbered : ℕ → List Numbered → ℕ → ℕ
renumbered inputs ns k = if nat_lt k inputs then k else inputs + count_by (λ n. nat_lt n.number k) ns

abbrev pub line : ℕ → List Numbered → Step → Step
line inputs ns (sum_of i m j n) = sum_of (renumbered inputs ns i) m (renumbered inputs ns j) n
line inputs ns (tighten i) = tighten (renumbered inputs ns i)

abbrev pub lines_of : ℕ → List Numbered → List Step
lines_of inputs ns = map (λ n. line inputs ns n.step) ns

-- the lines for the form `last`
abbrev pub lines : ℕ → ℕ → List Step → List Step
lines inputs last steps = lines_of inputs (reverse (needed last inputs steps))
