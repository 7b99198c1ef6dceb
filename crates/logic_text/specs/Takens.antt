-- The sorts in the brackets of a call.
use Rattle.std.specs.Prelude.{◌≡◌, ◌<◌, ◌≤◌, ℕ, List, ◌∷◌, ◌++◌, length, drop, map}
use Rattle.logic_terms.specs.Sorts.{sort, kinds_in}
use Rattle.logic_terms.specs.declared.sort.Sort.{Sort}
use Rattle.term_reader.specs.Sorts.{kind_text}
use Rattle.logic_text.specs.Goals.{taken_text}
use Rattle.term_reader.specs.Phases.{IsUpTo}
use Rattle.logic_text.specs.Phases.{InCall, InCalls}
use Rattle.logic_text.specs.declared.signature_reader.Taken.{Taken}
use Rattle.logic_text.specs.declared.signature_reader.Taken.TheVariants as taken

-- the sort of an argument stands at `at`, and a space before `to`
pub record IsArgument (old new : List Sort) (bytes : List ℕ) (at to : ℕ) : Type 0 where
  pub before : at < to
  pub inside : to ≤ length bytes
  pub text : (s : List ℕ) → s ≡ taken_text (kinds_in (map sort old)) ++ drop at bytes → s ≡ taken_text (kinds_in (map sort new)) ++ drop to bytes
  pub on : IsUpTo InCall (drop at bytes) InCall (drop to bytes)

-- the sort of the answer stands at `at`, and a bracket before `to`
pub record IsAnswer (old new : List Sort) (answer : Sort) (bytes : List ℕ) (at to : ℕ) : Type 0 where
  pub before : at < to
  pub inside : to ≤ length bytes
  pub same : new ≡ old
  pub text : drop at bytes ≡ kind_text (sort answer) ++ (41 ∷ drop to bytes)
  pub on : IsUpTo InCall (drop at bytes) InCalls (drop to bytes)

abbrev pub IsTaken : List Sort → List Sort → List ℕ → ℕ → Taken → Type 0
IsTaken old new bytes at (taken.Argument to) = IsArgument old new bytes at to
IsTaken old new bytes at (taken.Answer s to) = IsAnswer old new s bytes at to
