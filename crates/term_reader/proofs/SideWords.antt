-- The words of a side.
use Rattle.std.proofs.Common.{◌≡◌, refl, sym, ◌∙◌, ap, subst, ℕ, zero, suc, ◌<◌, true, List, [], ◌∷◌, length, get_or, map, arith, lit<}
use Rattle.term_reader.specs.declared.part.Side.{Side}
use Rattle.term_reader.specs.declared.part.Side.TheVariants.{Term, Formula, Sort}
use Rattle.term_reader.specs.Trees.{Build, an_array, gives, fits}
use Rattle.term_reader.specs.Words.{builds, word, words, word_at}
use Rattle.term_reader.proofs.Choosing.{some_bytes, some_at}

pub words_there : (s : Side) → 0 < length (words s)
words_there Term = lit< tt
words_there Formula = lit< tt
words_there Sort = lit< tt

pub words_some : (s : Side) → some_bytes (words s) ≡ true
words_some Term = refl
words_some Formula = refl
words_some Sort = refl

mapped : (os : List Build) (i : ℕ) → i < length (map word os) → get_or (map word os) i [] ≡ word (get_or os i an_array)
mapped [] i h = absurd (omega arith)
mapped (o ∷ os) zero h = refl
mapped (o ∷ os) (suc i) h = mapped os i (omega arith)

-- what every build of a side is
abbrev AllOf : Side → List Build → Type 0
AllOf s [] = Unit {0}
AllOf s (o ∷ os) = ((gives o ≡ s) × (fits o ≡ true)) × AllOf s os

all_at : (s : Side) (os : List Build) (i : ℕ) → AllOf s os → i < length (map word os) → (gives (get_or os i an_array) ≡ s) × (fits (get_or os i an_array) ≡ true)
all_at s [] i a h = absurd (omega arith)
all_at s (o ∷ os) zero a h = a.0
all_at s (o ∷ os) (suc i) a h = all_at s os i a.1 (omega arith)

all_builds : (s : Side) → AllOf s (builds s 0)
all_builds Term = ((refl, refl), ((refl, refl), ((refl, refl), ((refl, refl), ((refl, refl), ((refl, refl), ((refl, refl), ((refl, refl), ((refl, refl), ((refl, refl), ((refl, refl), ((refl, refl), ((refl, refl), ((refl, refl), ((refl, refl), ((refl, refl), ((refl, refl), ((refl, refl), tt))))))))))))))))))
all_builds Formula = ((refl, refl), ((refl, refl), ((refl, refl), ((refl, refl), ((refl, refl), ((refl, refl), ((refl, refl), ((refl, refl), ((refl, refl), tt)))))))))
all_builds Sort = ((refl, refl), ((refl, refl), tt))

pub build_at : (s : Side) (i : ℕ) → i < length (words s) → (gives (get_or (builds s 0) i an_array) ≡ s) × (fits (get_or (builds s 0) i an_array) ≡ true)
build_at s i h = all_at s (builds s 0) i (all_builds s) h

pub word_is : (s : Side) (i : ℕ) → i < length (words s) → word_at (words s) i ≡ word (get_or (builds s 0) i an_array)
word_is s i h = mapped (builds s 0) i h

-- ---- a row of a table of them

pub row_some : (s : Side) (ws : List (List ℕ)) (i : ℕ) → ws ≡ words s → i < length ws → 0 < length (word_at ws i)
row_some s ws i e h =
    subst (λ (l : List (List ℕ)). 0 < length (word_at l i)) (sym e)
    (some_at (words s) i (words_some s) (subst (λ (l : List (List ℕ)). i < length l) e h))

pub row_word : (s : Side) (ws : List (List ℕ)) (os : List Build) (i : ℕ) (o : Build) → ws ≡ words s → os ≡ builds s 0 → i < length ws → o ≡ get_or os i an_array → word_at ws i ≡ word o
row_word s ws os i o e f h g =
    ap (λ (l : List (List ℕ)). word_at l i) e
    ∙ word_is s i (subst (λ (l : List (List ℕ)). i < length l) e h)
    ∙ ap word (sym (g ∙ ap (λ (l : List Build). get_or l i an_array) f))

pub row_gives : (s : Side) (ws : List (List ℕ)) (os : List Build) (i : ℕ) (o : Build) → ws ≡ words s → os ≡ builds s 0 → i < length ws → o ≡ get_or os i an_array → gives o ≡ s
row_gives s ws os i o e f h g =
    ap gives (g ∙ ap (λ (l : List Build). get_or l i an_array) f)
    ∙ (build_at s i (subst (λ (l : List (List ℕ)). i < length l) e h)).0
