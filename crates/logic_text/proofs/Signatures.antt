-- Sorts and calls that are read.
use Rattle.std.proofs.Common.{◌≡◌, refl, sym, ◌∙◌, ap, ℕ, ◌+◌, ◌≤◌, List, [], ◌∷◌, ◌++◌, length, drop, map, append_assoc, codes}
use Rattle.logic_terms.specs.Goal.{called_as}
use Rattle.logic_terms.specs.Sorts.{sort, kinds_in}
use Rattle.logic_terms.specs.Sorting.{Called}
use Rattle.logic_terms.specs.Value.{Kind}
use Rattle.logic_terms.specs.declared.goal.Call.{Call}
use Rattle.logic_terms.specs.declared.goal.Symbol.{Symbol}
use Rattle.logic_terms.specs.declared.sort.Sort.{Sort}
use Rattle.term_reader.specs.Bytes.{first}
use Rattle.term_reader.specs.Words.{IsWordFault}
use Rattle.term_reader.specs.Reads.{IsRead, IsReadFault}
use Rattle.term_reader.specs.Sorts.{kind_text}
use Rattle.term_reader.specs.Trees.{of_kind}
use Rattle.term_reader.specs.declared.fault.ReadFault.{ReadFault}
use Rattle.term_reader.specs.declared.fault.ReadFault.TheVariants as fault
use Rattle.term_reader.specs.declared.part.Side.TheVariants as side
use Rattle.logic_text.specs.Answers.{kinds_of}
use Rattle.logic_text.specs.Goals.{sorts_text, taken_text, call_text, calls_text}
use Rattle.term_reader.specs.Phases.{After, OfPart, IsUpTo, IsBadAt}
use Rattle.logic_text.specs.Phases.{AtStart, InSorts, InCalls, InCall, InLines}
use Rattle.logic_text.proofs.GoalTexts.{call_then}
use Rattle.term_reader.proofs.Rows.{IsRow, one_more}
use Rattle.term_reader.proofs.Places.{bad_at, part_bad_at, part_read_at, word_bad_at, steps_at, word_at}
use Rattle.term_reader.proofs.Reaching.{upto_same, nothing_bad}
use Rattle.logic_text.proofs.Turns.{some_lines, some_calls, some_call, some_calls_line, some_sorts, some_mark, sorts_ends, sorts_in, sorts_out, sorts_over_in, sorts_over_out, calls_in, calls_out, calls_over_in, calls_over_out, InMark, mark_ends, call_in, call_out, mark_space, mark_bracket, no_mark, space, bracket}

-- ---- sorts of symbols

sorts_row : IsRow (λ (k : Kind). 32 ∷ kind_text k) sorts_text
sorts_row = record { none = refl; next = λ k ks. refl }

pub symbol_text : (old new : List Symbol) (x : Symbol) (bytes : List ℕ) (at to : ℕ) → new ≡ old ++ x ∷ [] → drop at bytes ≡ 32 ∷ drop (at + 1) bytes → IsRead side.Sort (of_kind (sort x.sort)) bytes (at + 1) to → (s : List ℕ) → s ≡ sorts_text (kinds_of old) ++ drop at bytes → s ≡ sorts_text (kinds_of new) ++ drop to bytes
symbol_text old new x bytes at to e f r s h =
    one_more (λ (y : Symbol). sort y.sort) (λ (k : Kind). 32 ∷ kind_text k) sorts_text sorts_row old new x s (drop at bytes) (drop to bytes) e
    (f ∙ ap (λ (v : List ℕ). 32 ∷ v) r.text) h

symbol_front : (bytes : List ℕ) (at : ℕ) → drop at bytes ≡ 32 ∷ drop (at + 1) bytes → IsUpTo InSorts (drop at bytes) (OfPart side.Sort InSorts) (drop (at + 1) bytes)
symbol_front bytes at e =
    steps_at InSorts (After (32 ∷ []) (OfPart side.Sort InSorts)) (OfPart side.Sort InSorts) bytes at at (at + 1)
    (upto_same InSorts (After (32 ∷ []) (OfPart side.Sort InSorts)) (drop at bytes) sorts_in (λ x f. sorts_out x (f ∙ ap first e)))
    (word_at (32 ∷ []) (OfPart side.Sort InSorts) bytes at (at + 1) e)

pub symbol_on : (k : Kind) (bytes : List ℕ) (at to : ℕ) → drop at bytes ≡ 32 ∷ drop (at + 1) bytes → IsRead side.Sort (of_kind k) bytes (at + 1) to → IsUpTo InSorts (drop at bytes) InSorts (drop to bytes)
symbol_on k bytes at to e r =
    steps_at InSorts (OfPart side.Sort InSorts) InSorts bytes at (at + 1) to (symbol_front bytes at e)
    (part_read_at side.Sort (of_kind k) InSorts bytes (at + 1) to sorts_ends r)

pub symbol_bad : (bytes : List ℕ) (at : ℕ) (f : ReadFault) → drop at bytes ≡ 32 ∷ drop (at + 1) bytes → IsReadFault side.Sort bytes (at + 1) f → IsBadAt InSorts bytes at f
symbol_bad bytes at f e r =
    bad_at InSorts (OfPart side.Sort InSorts) bytes at (at + 1) f (symbol_front bytes at e)
    (part_bad_at side.Sort InSorts _ bytes (at + 1) f sorts_ends some_sorts r)

-- ---- the line of the sorts

sorts_over : (bytes : List ℕ) (at : ℕ) → (first (drop at bytes) ≡ 32 → ⊥) → IsUpTo InSorts (drop at bytes) (After (10 ∷ []) (After (codes "calls") InCalls)) (drop at bytes)
sorts_over bytes at n =
    upto_same InSorts (After (10 ∷ []) (After (codes "calls") InCalls)) (drop at bytes) sorts_over_in (λ x f h. sorts_over_out x (λ e. n (sym f ∙ e)) h)

pub start_bad : (bytes : List ℕ) (to : ℕ) → to ≤ length bytes → IsWordFault (codes "sorts") (drop 0 bytes) (drop to bytes) → IsBadAt AtStart bytes 0 (fault.BadText to)
start_bad bytes to h f = word_bad_at (codes "sorts") InSorts _ bytes 0 to some_sorts h f

pub sorts_bad : (bytes : List ℕ) (a : ℕ) (f : ReadFault) → drop 0 bytes ≡ codes "sorts" ++ drop a bytes → IsBadAt InSorts bytes a f → IsBadAt AtStart bytes 0 f
sorts_bad bytes a f e b = bad_at AtStart InSorts bytes 0 a f (word_at (codes "sorts") InSorts bytes 0 a e) b

pub sorts_end_on : (bytes : List ℕ) (a b c : ℕ) → drop 0 bytes ≡ codes "sorts" ++ drop a bytes → IsUpTo InSorts (drop a bytes) InSorts (drop b bytes) → (first (drop b bytes) ≡ 32 → ⊥) → drop b bytes ≡ (10 ∷ []) ++ drop c bytes → IsUpTo AtStart (drop 0 bytes) (After (codes "calls") InCalls) (drop c bytes)
sorts_end_on bytes a b c e u n f =
    steps_at AtStart InSorts (After (codes "calls") InCalls) bytes 0 a c (word_at (codes "sorts") InSorts bytes 0 a e)
    (steps_at InSorts InSorts (After (codes "calls") InCalls) bytes a b c u
    (steps_at InSorts (After (10 ∷ []) (After (codes "calls") InCalls)) (After (codes "calls") InCalls) bytes b b c (sorts_over bytes b n)
    (word_at (10 ∷ []) (After (codes "calls") InCalls) bytes b c f)))

pub sorts_end_bad : (bytes : List ℕ) (a b to : ℕ) → drop 0 bytes ≡ codes "sorts" ++ drop a bytes → IsUpTo InSorts (drop a bytes) InSorts (drop b bytes) → (first (drop b bytes) ≡ 32 → ⊥) → to ≤ length bytes → IsWordFault (10 ∷ []) (drop b bytes) (drop to bytes) → IsBadAt AtStart bytes 0 (fault.BadText to)
sorts_end_bad bytes a b to e u n h f =
    sorts_bad bytes a (fault.BadText to) e
    (bad_at InSorts InSorts bytes a b (fault.BadText to) u
    (bad_at InSorts (After (10 ∷ []) (After (codes "calls") InCalls)) bytes b b (fault.BadText to) (sorts_over bytes b n)
    (word_bad_at (10 ∷ []) (After (codes "calls") InCalls) _ bytes b to some_calls_line h f)))

pub ended_text : (w t bytes : List ℕ) (at a b c : ℕ) → drop at bytes ≡ w ++ drop a bytes → drop a bytes ≡ t ++ drop b bytes → drop b bytes ≡ (10 ∷ []) ++ drop c bytes → drop at bytes ≡ w ++ (t ++ (10 ∷ drop c bytes))
ended_text w t bytes at a b c e f g = e ∙ ap (λ (x : List ℕ). w ++ x) (f ∙ ap (λ (x : List ℕ). t ++ x) g)

-- ---- the sorts of a call

abbrev takens_text : List Kind → List ℕ
takens_text ks = taken_text (kinds_in ks)

takens_row : IsRow (λ (k : Kind). kind_text k ++ (32 ∷ [])) takens_text
takens_row = record { none = refl; next = λ k ks. refl }

pub argument_text : (old new : List Sort) (x : Sort) (bytes : List ℕ) (at to : ℕ) → new ≡ old ++ x ∷ [] → drop to bytes ≡ 32 ∷ drop (to + 1) bytes → IsRead side.Sort (of_kind (sort x)) bytes at to → (s : List ℕ) → s ≡ taken_text (kinds_in (map sort old)) ++ drop at bytes → s ≡ taken_text (kinds_in (map sort new)) ++ drop (to + 1) bytes
argument_text old new x bytes at to e f r s h =
    one_more sort (λ (k : Kind). kind_text k ++ (32 ∷ [])) takens_text takens_row old new x s (drop at bytes) (drop (to + 1) bytes) e
    (r.text ∙ ap (λ (v : List ℕ). kind_text (sort x) ++ v) f ∙ sym (append_assoc (kind_text (sort x)) (32 ∷ []) (drop (to + 1) bytes))) h

call_part : (bytes : List ℕ) (at : ℕ) → IsUpTo InCall (drop at bytes) (OfPart side.Sort InMark) (drop at bytes)
call_part bytes at = upto_same InCall (OfPart side.Sort InMark) (drop at bytes) call_in (λ x f h. call_out x h)

call_sort : (k : Kind) (bytes : List ℕ) (at to : ℕ) → IsRead side.Sort (of_kind k) bytes at to → IsUpTo InCall (drop at bytes) InMark (drop to bytes)
call_sort k bytes at to r =
    steps_at InCall (OfPart side.Sort InMark) InMark bytes at at to (call_part bytes at)
    (part_read_at side.Sort (of_kind k) InMark bytes at to mark_ends r)

space_in : (x : List ℕ) → After (32 ∷ []) InCall x → InMark x
space_in x h = space h.0 h.1 h.2

bracket_in : (x : List ℕ) → After (41 ∷ []) InCalls x → InMark x
bracket_in x h = bracket h.0 h.1 h.2

pub argument_on : (k : Kind) (bytes : List ℕ) (at to : ℕ) → IsRead side.Sort (of_kind k) bytes at to → drop to bytes ≡ 32 ∷ drop (to + 1) bytes → IsUpTo InCall (drop at bytes) InCall (drop (to + 1) bytes)
argument_on k bytes at to r e =
    steps_at InCall InMark InCall bytes at to (to + 1) (call_sort k bytes at to r)
    (steps_at InMark (After (32 ∷ []) InCall) InCall bytes to to (to + 1)
    (upto_same InMark (After (32 ∷ []) InCall) (drop to bytes) space_in (λ x f. mark_space x (f ∙ ap first e)))
    (word_at (32 ∷ []) InCall bytes to (to + 1) e))

pub answer_on : (k : Kind) (bytes : List ℕ) (at to : ℕ) → IsRead side.Sort (of_kind k) bytes at to → drop to bytes ≡ 41 ∷ drop (to + 1) bytes → IsUpTo InCall (drop at bytes) InCalls (drop (to + 1) bytes)
answer_on k bytes at to r e =
    steps_at InCall InMark InCalls bytes at to (to + 1) (call_sort k bytes at to r)
    (steps_at InMark (After (41 ∷ []) InCalls) InCalls bytes to to (to + 1)
    (upto_same InMark (After (41 ∷ []) InCalls) (drop to bytes) bracket_in (λ x f. mark_bracket x (f ∙ ap first e)))
    (word_at (41 ∷ []) InCalls bytes to (to + 1) e))

pub taken_bad : (bytes : List ℕ) (at : ℕ) (f : ReadFault) → IsReadFault side.Sort bytes at f → IsBadAt InCall bytes at f
taken_bad bytes at f r =
    bad_at InCall (OfPart side.Sort InMark) bytes at at f (call_part bytes at)
    (part_bad_at side.Sort InMark _ bytes at f mark_ends some_mark r)

pub mark_bad : (k : Kind) (bytes : List ℕ) (at to : ℕ) → IsRead side.Sort (of_kind k) bytes at to → (first (drop to bytes) ≡ 32 → ⊥) → (first (drop to bytes) ≡ 41 → ⊥) → IsBadAt InCall bytes at (fault.BadText to)
mark_bad k bytes at to r n m =
    bad_at InCall InMark bytes at to (fault.BadText to) (call_sort k bytes at to r)
    (r.inside, nothing_bad InMark (drop to bytes) _ some_mark (λ rest h. no_mark (first (drop to bytes)) rest n m h))

-- ---- calls

pub called_text : (c : Call) (bytes : List ℕ) (at a b : ℕ) → drop at bytes ≡ taken_text (kinds_in (map sort c.arguments)) ++ drop a bytes → drop a bytes ≡ kind_text (sort c.answer) ++ (41 ∷ drop b bytes) → 40 ∷ drop at bytes ≡ call_text (called_as c) ++ drop b bytes
called_text c bytes at a b e f =
    ap (λ (x : List ℕ). 40 ∷ x) (e ∙ ap (λ (x : List ℕ). taken_text (kinds_in (map sort c.arguments)) ++ x) f
    ∙ sym (append_assoc (taken_text (kinds_in (map sort c.arguments))) (kind_text (sort c.answer)) (41 ∷ drop b bytes)))
    ∙ sym (call_then (called_as c) (drop b bytes))

calls_row : IsRow (λ (c : Called). 32 ∷ call_text c) calls_text
calls_row = record { none = refl; next = λ c cs. refl }

pub next_call_text : (old new : List Call) (c : Call) (bytes : List ℕ) (at a to : ℕ) → new ≡ old ++ c ∷ [] → drop at bytes ≡ (32 ∷ (40 ∷ [])) ++ drop a bytes → 40 ∷ drop a bytes ≡ call_text (called_as c) ++ drop to bytes → (s : List ℕ) → s ≡ calls_text (map called_as old) ++ drop at bytes → s ≡ calls_text (map called_as new) ++ drop to bytes
next_call_text old new c bytes at a to e f g s h =
    one_more called_as (λ (d : Called). 32 ∷ call_text d) calls_text calls_row old new c s (drop at bytes) (drop to bytes) e
    (f ∙ ap (λ (v : List ℕ). 32 ∷ v) g) h

calls_front : (bytes : List ℕ) (at : ℕ) → first (drop at bytes) ≡ 32 → IsUpTo InCalls (drop at bytes) (After (32 ∷ (40 ∷ [])) InCall) (drop at bytes)
calls_front bytes at e = upto_same InCalls (After (32 ∷ (40 ∷ [])) InCall) (drop at bytes) calls_in (λ x f. calls_out x (f ∙ e))

pub next_call_on : (bytes : List ℕ) (at a to : ℕ) → first (drop at bytes) ≡ 32 → drop at bytes ≡ (32 ∷ (40 ∷ [])) ++ drop a bytes → IsUpTo InCall (drop a bytes) InCalls (drop to bytes) → IsUpTo InCalls (drop at bytes) InCalls (drop to bytes)
next_call_on bytes at a to e f u =
    steps_at InCalls InCall InCalls bytes at a to
    (steps_at InCalls (After (32 ∷ (40 ∷ [])) InCall) InCall bytes at at a (calls_front bytes at e) (word_at (32 ∷ (40 ∷ [])) InCall bytes at a f)) u

pub next_call_bad : (bytes : List ℕ) (at a : ℕ) (x : ReadFault) → first (drop at bytes) ≡ 32 → drop at bytes ≡ (32 ∷ (40 ∷ [])) ++ drop a bytes → IsBadAt InCall bytes a x → IsBadAt InCalls bytes at x
next_call_bad bytes at a x e f b =
    bad_at InCalls InCall bytes at a x
    (steps_at InCalls (After (32 ∷ (40 ∷ [])) InCall) InCall bytes at at a (calls_front bytes at e) (word_at (32 ∷ (40 ∷ [])) InCall bytes at a f)) b

pub bracket_bad : (bytes : List ℕ) (at to : ℕ) → first (drop at bytes) ≡ 32 → to ≤ length bytes → IsWordFault (32 ∷ (40 ∷ [])) (drop at bytes) (drop to bytes) → IsBadAt InCalls bytes at (fault.BadText to)
bracket_bad bytes at to e h f =
    bad_at InCalls (After (32 ∷ (40 ∷ [])) InCall) bytes at at (fault.BadText to) (calls_front bytes at e)
    (word_bad_at (32 ∷ (40 ∷ [])) InCall _ bytes at to some_call h f)

-- ---- the line of the calls

calls_over : (bytes : List ℕ) (at : ℕ) → (first (drop at bytes) ≡ 32 → ⊥) → IsUpTo InCalls (drop at bytes) (After (10 ∷ []) InLines) (drop at bytes)
calls_over bytes at n =
    upto_same InCalls (After (10 ∷ []) InLines) (drop at bytes) calls_over_in (λ x f h. calls_over_out x (λ e. n (sym f ∙ e)) h)

pub calls_word_bad : (bytes : List ℕ) (at to : ℕ) → to ≤ length bytes → IsWordFault (codes "calls") (drop at bytes) (drop to bytes) → IsBadAt (After (codes "calls") InCalls) bytes at (fault.BadText to)
calls_word_bad bytes at to h f = word_bad_at (codes "calls") InCalls _ bytes at to some_calls h f

pub calls_bad : (bytes : List ℕ) (at a : ℕ) (f : ReadFault) → drop at bytes ≡ codes "calls" ++ drop a bytes → IsBadAt InCalls bytes a f → IsBadAt (After (codes "calls") InCalls) bytes at f
calls_bad bytes at a f e b = bad_at (After (codes "calls") InCalls) InCalls bytes at a f (word_at (codes "calls") InCalls bytes at a e) b

pub calls_end_on : (bytes : List ℕ) (at a b c : ℕ) → drop at bytes ≡ codes "calls" ++ drop a bytes → IsUpTo InCalls (drop a bytes) InCalls (drop b bytes) → (first (drop b bytes) ≡ 32 → ⊥) → drop b bytes ≡ (10 ∷ []) ++ drop c bytes → IsUpTo (After (codes "calls") InCalls) (drop at bytes) InLines (drop c bytes)
calls_end_on bytes at a b c e u n f =
    steps_at (After (codes "calls") InCalls) InCalls InLines bytes at a c (word_at (codes "calls") InCalls bytes at a e)
    (steps_at InCalls InCalls InLines bytes a b c u
    (steps_at InCalls (After (10 ∷ []) InLines) InLines bytes b b c (calls_over bytes b n) (word_at (10 ∷ []) InLines bytes b c f)))

pub calls_end_bad : (bytes : List ℕ) (at a b to : ℕ) → drop at bytes ≡ codes "calls" ++ drop a bytes → IsUpTo InCalls (drop a bytes) InCalls (drop b bytes) → (first (drop b bytes) ≡ 32 → ⊥) → to ≤ length bytes → IsWordFault (10 ∷ []) (drop b bytes) (drop to bytes) → IsBadAt (After (codes "calls") InCalls) bytes at (fault.BadText to)
calls_end_bad bytes at a b to e u n h f =
    calls_bad bytes at a (fault.BadText to) e
    (bad_at InCalls InCalls bytes a b (fault.BadText to) u
    (bad_at InCalls (After (10 ∷ []) InLines) bytes b b (fault.BadText to) (calls_over bytes b n)
    (word_bad_at (10 ∷ []) InLines _ bytes b to some_lines h f)))
