-- The words after a bracket, and what each stands for.
use Rattle.std.specs.Prelude.{◌≡◌, ℕ, suc, ◌<◌, ◌==◌, max, true, if◌then◌else◌, List, [], ◌∷◌, ◌++◌, map, length, slice_index_or, codes}
use Rattle.logic_terms.specs.Node.{add, sub, mul, quo, rem, mod_by, pow, bit, tru, neg, fst, lst, fld, arith, le, eq, conj, disj, iff, sel, upd, ite, sto, fill, fields, call, all, any}
use Rattle.term_reader.specs.Bytes.{first}
use Rattle.term_reader.specs.Trees.{Build, one, two, three, many, over, an_array, a_record, build_text, gives, fits}
use Rattle.term_reader.specs.declared.part.Side.{Side}
use Rattle.term_reader.specs.declared.part.Side.TheVariants.{Term, Formula, Sort}

-- in the order of the words that the reader knows, with a number for those that have one
abbrev pub builds : Side → ℕ → List Build
builds Term k =
    two (arith add) ∷ two (arith sub) ∷ two (arith mul) ∷ two (arith quo) ∷ two (arith rem) ∷ two (arith mod_by) ∷ two (arith pow)
    ∷ one bit ∷ three ite ∷ two sel ∷ three sto ∷ one fst ∷ one lst ∷ three fill ∷ many fields
    ∷ one (fld k) ∷ two (upd k) ∷ many (call k) ∷ []
builds Formula k =
    one tru ∷ two le ∷ two eq ∷ one neg ∷ two conj ∷ two disj ∷ two iff ∷ over all ∷ over any ∷ []
builds Sort k = an_array ∷ a_record ∷ []

-- without its number
abbrev pub word : Build → List ℕ
word (one (fld k)) = codes "fld "
word (two (upd k)) = codes "upd "
word (many (call k)) = codes "call "
word o = build_text o

abbrev pub words : Side → List (List ℕ)
words s = map word (builds s 0)

-- how many bytes a word and a text have in common at their front
abbrev pub common_of : List ℕ → List ℕ → ℕ
common_of [] s = 0
common_of (x ∷ w) [] = 0
common_of (x ∷ w) (y ∷ s) = if y == x then suc (common_of w s) else 0

-- the most that one of the words has in common with a text
abbrev pub furthest_of : List (List ℕ) → List ℕ → ℕ
furthest_of [] s = 0
furthest_of (w ∷ ws) s = max (common_of w s) (furthest_of ws s)

abbrev pub word_at : List (List ℕ) → ℕ → List ℕ
word_at ws i = slice_index_or ws i []

-- the first byte of `r` is the first of `s` after which none of the words goes on so
pub record IsNoWord (ws : List (List ℕ)) (s r : List ℕ) : Type 0 where
  pub front : List ℕ
  pub is_front : s ≡ front ++ r
  pub goes : (i : ℕ) × (rest : List ℕ) × (i < length ws) × (word_at ws i ≡ front ++ rest)
  pub stuck : (i : ℕ) (k rest : List ℕ) → i < length ws → word_at ws i ++ k ≡ front ++ (first r ∷ rest) → ⊥

-- no text of the word goes on past the first byte of `r`
pub record IsWordFault (w s r : List ℕ) : Type 0 where
  pub front : List ℕ
  pub next : ℕ
  pub rest : List ℕ
  pub is_front : s ≡ front ++ r
  pub is_word : w ≡ front ++ (next ∷ rest)
  pub differs : first r ≡ next → ⊥

-- what stands after a bracket gives this side and has a number that fits
pub record IsBuild (s : Side) (o : Build) : Type 0 where
  pub given : gives o ≡ s
  pub fit : fits o ≡ true
