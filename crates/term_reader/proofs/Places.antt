-- Faults and steps at places of a text.
use Rattle.std.proofs.Common.{◌≡◌, ℕ, ◌≤◌, List, ◌++◌, length, drop}
use Rattle.term_reader.specs.Bytes.{Ends}
use Rattle.term_reader.specs.Words.{IsWordFault}
use Rattle.term_reader.specs.Reads.{IsRead, IsReadFault}
use Rattle.term_reader.specs.Trees.{Tree}
use Rattle.term_reader.specs.declared.fault.ReadFault.{ReadFault}
use Rattle.term_reader.specs.declared.fault.ReadFault.TheVariants as fault
use Rattle.term_reader.specs.declared.part.Side.{Side}
use Rattle.term_reader.specs.Phases.{After, OfPart, IsUpTo, IsBadAt}
use Rattle.term_reader.proofs.WordMarks.{word_bad}
use Rattle.term_reader.proofs.Reaching.{bad_whole, upto_whole, word_upto, part_upto, part_bad}

-- a fault after a step is one before it
pub bad_at : (P Q : List ℕ → Type 0) (bytes : List ℕ) (at to : ℕ) (f : ReadFault) → IsUpTo P (drop at bytes) Q (drop to bytes) → IsBadAt Q bytes to f → IsBadAt P bytes at f
bad_at P Q bytes at to (fault.BadText q) u b = (b.0, bad_whole P Q (drop at bytes) (drop to bytes) (drop q bytes) u b.1)
bad_at P Q bytes at to fault.Starved u b = tt

-- a part that is not read
pub part_bad_at : (side : Side) (Q : List ℕ → Type 0) (k bytes : List ℕ) (at : ℕ) (f : ReadFault) → ((y : List ℕ) → Q y → Ends y) → Q k → IsReadFault side bytes at f → IsBadAt (OfPart side Q) bytes at f
part_bad_at side Q k bytes at (fault.BadText q) n p u = (u.inside, part_bad side Q (drop at bytes) (drop q bytes) k n p u.fault)
part_bad_at side Q k bytes at fault.Starved n p u = tt

-- a part that is read
pub part_read_at : (side : Side) (t : Tree) (Q : List ℕ → Type 0) (bytes : List ℕ) (at to : ℕ) → ((y : List ℕ) → Q y → Ends y) → IsRead side t bytes at to → IsUpTo (OfPart side Q) (drop at bytes) Q (drop to bytes)
part_read_at side t Q bytes at to n r = part_upto side t Q (drop at bytes) (drop to bytes) n r.right r.whole r.text

-- a word that is not read
pub word_bad_at : (w : List ℕ) (Q : List ℕ → Type 0) (k bytes : List ℕ) (at to : ℕ) → Q k → to ≤ length bytes → IsWordFault w (drop at bytes) (drop to bytes) → IsBadAt (After w Q) bytes at (fault.BadText to)
word_bad_at w Q k bytes at to p h f = (h, word_bad w (drop at bytes) (drop to bytes) k Q p f)

-- two steps
pub steps_at : (P Q R : List ℕ → Type 0) (bytes : List ℕ) (a b c : ℕ) → IsUpTo P (drop a bytes) Q (drop b bytes) → IsUpTo Q (drop b bytes) R (drop c bytes) → IsUpTo P (drop a bytes) R (drop c bytes)
steps_at P Q R bytes a b c u v = upto_whole P Q R (drop a bytes) (drop b bytes) (drop c bytes) u v

pub word_at : (w : List ℕ) (Q : List ℕ → Type 0) (bytes : List ℕ) (at to : ℕ) → drop at bytes ≡ w ++ drop to bytes → IsUpTo (After w Q) (drop at bytes) Q (drop to bytes)
word_at w Q bytes at to e = word_upto w Q (drop at bytes) (drop to bytes) e
