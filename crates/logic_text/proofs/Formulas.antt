-- Lines of formulas that are read.
use Rattle.std.proofs.Common.{◌≡◌, refl, sym, ◌∙◌, ap, ℕ, ◌≤◌, true, List, [], ◌∷◌, ◌++◌, length, drop, map, codes}
use Rattle.std.proofs.Math.Seq.{drop-length}
use Rattle.std.proofs.lemmas.List.{append-nil}
use Rattle.logic_terms.specs.Node.{Node, flag}
use Rattle.logic_terms.specs.View.{formula}
use Rattle.logic_terms.specs.declared.syntax.Formula.{Formula}
use Rattle.logic_terms.specs.Text.{node_text}
use Rattle.term_reader.specs.Bytes.{first, is_digit, Ends}
use Rattle.term_reader.specs.Words.{IsWordFault}
use Rattle.term_reader.specs.Reads.{IsRead, IsReadFault}
use Rattle.term_reader.specs.Trees.{of_node}
use Rattle.term_reader.specs.declared.fault.ReadFault.{ReadFault}
use Rattle.term_reader.specs.declared.fault.ReadFault.TheVariants as fault
use Rattle.term_reader.specs.declared.part.Side.TheVariants as side
use Rattle.term_reader.proofs.Rows.{IsRow, one_more}
use Rattle.term_reader.proofs.WholeTexts.{not_end}
use Rattle.logic_text.specs.Goals.{hypotheses_text, conclusion_text}
use Rattle.term_reader.specs.Phases.{After, OfPart, IsUpTo, IsBadAt}
use Rattle.logic_text.specs.Phases.{AtEnd, InLines, Rest, more_lines, nothing, Has, Line}
use Rattle.logic_text.proofs.GoalTexts.{line_then}
use Rattle.term_reader.proofs.Places.{bad_at, part_bad_at, part_read_at, word_bad_at, steps_at, word_at}
use Rattle.term_reader.proofs.Reaching.{upto_same, nothing_bad}
use Rattle.logic_text.proofs.Turns.{some_has, lines_in, lines_out, last_in, last_out}

-- ---- one line

abbrev Ended : Rest → List ℕ → Type 0
Ended n = After (10 ∷ []) (Has n)

ended_ends : (n : Rest) (y : List ℕ) → Ended n y → Ends y
ended_ends n y h = ap (λ (x : List ℕ). is_digit (first x)) h.2

some_ended : (n : Rest) → Ended n (10 ∷ (some_has n).0)
some_ended n = ((some_has n).0, (some_has n).1, refl)

some_part : (n : Rest) → OfPart side.Formula (Ended n) (84 ∷ (10 ∷ (some_has n).0))
some_part n = (of_node (flag true), 10 ∷ (some_has n).0, refl, some_ended n, refl)

pub line_word_bad : (w bytes : List ℕ) (at to : ℕ) → to ≤ length bytes → IsWordFault w (drop at bytes) (drop to bytes) → (n : Rest) → IsBadAt (Line w n) bytes at (fault.BadText to)
line_word_bad w bytes at to h f n = word_bad_at w (OfPart side.Formula (Ended n)) _ bytes at to (some_part n) h f

pub line_part_bad : (w bytes : List ℕ) (at a : ℕ) (f : ReadFault) → drop at bytes ≡ w ++ drop a bytes → IsReadFault side.Formula bytes a f → (n : Rest) → IsBadAt (Line w n) bytes at f
line_part_bad w bytes at a f e r n =
    bad_at (Line w n) (OfPart side.Formula (Ended n)) bytes at a f (word_at w (OfPart side.Formula (Ended n)) bytes at a e)
    (part_bad_at side.Formula (Ended n) _ bytes a f (ended_ends n) (some_ended n) r)

line_read : (w : List ℕ) (p : Node) (bytes : List ℕ) (at a b : ℕ) → drop at bytes ≡ w ++ drop a bytes → IsRead side.Formula (of_node p) bytes a b → (n : Rest) → IsUpTo (Line w n) (drop at bytes) (Ended n) (drop b bytes)
line_read w p bytes at a b e r n =
    steps_at (Line w n) (OfPart side.Formula (Ended n)) (Ended n) bytes at a b (word_at w (OfPart side.Formula (Ended n)) bytes at a e)
    (part_read_at side.Formula (of_node p) (Ended n) bytes a b (ended_ends n) r)

pub line_end_bad : (w : List ℕ) (p : Node) (bytes : List ℕ) (at a b to : ℕ) → drop at bytes ≡ w ++ drop a bytes → IsRead side.Formula (of_node p) bytes a b → to ≤ length bytes → IsWordFault (10 ∷ []) (drop b bytes) (drop to bytes) → (n : Rest) → IsBadAt (Line w n) bytes at (fault.BadText to)
line_end_bad w p bytes at a b to e r h f n =
    bad_at (Line w n) (Ended n) bytes at b (fault.BadText to) (line_read w p bytes at a b e r n)
    (word_bad_at (10 ∷ []) (Has n) _ bytes b to (some_has n).1 h f)

pub line_on : (w : List ℕ) (p : Node) (bytes : List ℕ) (at a b c : ℕ) → drop at bytes ≡ w ++ drop a bytes → IsRead side.Formula (of_node p) bytes a b → drop b bytes ≡ (10 ∷ []) ++ drop c bytes → (n : Rest) → IsUpTo (Line w n) (drop at bytes) (Has n) (drop c bytes)
line_on w p bytes at a b c e r f n =
    steps_at (Line w n) (Ended n) (Has n) bytes at b c (line_read w p bytes at a b e r n) (word_at (10 ∷ []) (Has n) bytes b c f)

pub line_text : (w : List ℕ) (p : Node) (bytes : List ℕ) (at a b c : ℕ) → drop at bytes ≡ w ++ drop a bytes → IsRead side.Formula (of_node p) bytes a b → drop b bytes ≡ (10 ∷ []) ++ drop c bytes → drop at bytes ≡ ((w ++ node_text p) ++ (10 ∷ [])) ++ drop c bytes
line_text w p bytes at a b c e r f =
    e ∙ ap (λ (x : List ℕ). w ++ x) (r.text ∙ ap (λ (x : List ℕ). node_text p ++ x) f) ∙ sym (line_then w (node_text p) (drop c bytes))

-- ---- hypotheses

hypotheses_row : IsRow (λ (p : Node). (codes "hyp " ++ node_text p) ++ (10 ∷ [])) hypotheses_text
hypotheses_row = record { none = refl; next = λ p ps. refl }

pub hypothesis_text : (old new : List Formula) (p : Formula) (bytes : List ℕ) (at to : ℕ) → new ≡ old ++ p ∷ [] → drop at bytes ≡ ((codes "hyp " ++ node_text (formula p)) ++ (10 ∷ [])) ++ drop to bytes → (s : List ℕ) → s ≡ hypotheses_text (map formula old) ++ drop at bytes → s ≡ hypotheses_text (map formula new) ++ drop to bytes
hypothesis_text old new p bytes at to e f s h =
    one_more formula (λ (q : Node). (codes "hyp " ++ node_text q) ++ (10 ∷ [])) hypotheses_text hypotheses_row old new p s (drop at bytes) (drop to bytes) e f h

lines_front : (bytes : List ℕ) (at : ℕ) → first (drop at bytes) ≡ 104 → IsUpTo InLines (drop at bytes) (Line (codes "hyp ") more_lines) (drop at bytes)
lines_front bytes at e = upto_same InLines (Line (codes "hyp ") more_lines) (drop at bytes) lines_in (λ x f. lines_out x (f ∙ e))

pub hypothesis_on : (bytes : List ℕ) (at to : ℕ) → first (drop at bytes) ≡ 104 → ((n : Rest) → IsUpTo (Line (codes "hyp ") n) (drop at bytes) (Has n) (drop to bytes)) → IsUpTo InLines (drop at bytes) InLines (drop to bytes)
hypothesis_on bytes at to e u = steps_at InLines (Line (codes "hyp ") more_lines) InLines bytes at at to (lines_front bytes at e) (u more_lines)

pub hypothesis_bad : (bytes : List ℕ) (at : ℕ) (f : ReadFault) → first (drop at bytes) ≡ 104 → ((n : Rest) → IsBadAt (Line (codes "hyp ") n) bytes at f) → IsBadAt InLines bytes at f
hypothesis_bad bytes at f e b = bad_at InLines (Line (codes "hyp ") more_lines) bytes at at f (lines_front bytes at e) (b more_lines)

-- ---- the conclusion

last_front : (bytes : List ℕ) (at : ℕ) → (first (drop at bytes) ≡ 104 → ⊥) → IsUpTo InLines (drop at bytes) (Line (codes "goal ") nothing) (drop at bytes)
last_front bytes at n = upto_same InLines (Line (codes "goal ") nothing) (drop at bytes) last_in (λ x f h. last_out x (λ e. n (sym f ∙ e)) h)

pub conclusion_bad : (bytes : List ℕ) (at : ℕ) (f : ReadFault) → (first (drop at bytes) ≡ 104 → ⊥) → ((n : Rest) → IsBadAt (Line (codes "goal ") n) bytes at f) → IsBadAt InLines bytes at f
conclusion_bad bytes at f n b = bad_at InLines (Line (codes "goal ") nothing) bytes at at f (last_front bytes at n) (b nothing)

-- more after the last line
pub more_bad : (bytes : List ℕ) (at to : ℕ) → (first (drop at bytes) ≡ 104 → ⊥) → ((n : Rest) → IsUpTo (Line (codes "goal ") n) (drop at bytes) (Has n) (drop to bytes)) → to ≤ length bytes → (first (drop to bytes) ≡ 256 → ⊥) → IsBadAt InLines bytes at (fault.BadText to)
more_bad bytes at to n u h m =
    bad_at InLines (Line (codes "goal ") nothing) bytes at at (fault.BadText to) (last_front bytes at n)
    (bad_at (Line (codes "goal ") nothing) AtEnd bytes at to (fault.BadText to) (u nothing)
    (h, nothing_bad AtEnd (drop to bytes) (256 ∷ []) refl (λ rest e. not_end (first (drop to bytes)) rest m e)))

pub last_text : (p : Node) (bytes : List ℕ) (at to : ℕ) → drop at bytes ≡ ((codes "goal " ++ node_text p) ++ (10 ∷ [])) ++ drop to bytes → to ≡ length bytes → drop at bytes ≡ conclusion_text p
last_text p bytes at to e f =
    e ∙ ap (λ (x : List ℕ). ((codes "goal " ++ node_text p) ++ (10 ∷ [])) ++ x) (ap (λ (i : ℕ). drop i bytes) f ∙ drop-length bytes)
    ∙ append-nil ((codes "goal " ++ node_text p) ++ (10 ∷ []))
