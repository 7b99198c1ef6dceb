-- The steps that a form needs, as the code finds them, and their new numbers.
use Rattle.std.proofs.Common.{◌≡◌, refl, sym, ◌∙◌, ap, ℕ, ◌+◌, ◌<◌, ◌≤◌, Bool, true, false, List, [], ◌∷◌, ◌++◌, map, length, get_or, drop, take, reverse}
use Rattle.std.specs.Prelude.{if◌then◌else◌, Result, Ok, Err, IfOk}
use Rattle.std.proofs.lemmas.List.{map-append, reverse-append}
use Rattle.cert_lines.specs.Line.{Step}
use Rattle.cert_lines.specs.View.{step}
use Rattle.cert_lines.specs.declared.step.StepLine.{StepLine}
use Rattle.linear_prover.specs.Lines.{Numbered, uses, is_used, needed, line, lines_of, lines}
use Rattle.linear_prover.specs.LineView.{numbered_step}
use Rattle.linear_prover.specs.declared.lines.NumberedStep.{NumberedStep}
use Rattle.linear_prover.proofs.Steps.{at_next, at_end, if_true, mapped_next, mapped_end}
use Rattle.linear_prover.proofs.Reading.{or_false, or_true}

pub used_next : (k : ℕ) (xs : List NumberedStep) (i : ℕ) (x : NumberedStep) (w : Bool) → i < length xs → x ≡ get_or xs i x → uses k (step x.step) ≡ false → is_used k (map numbered_step (drop i xs)) ≡ w → is_used k (map numbered_step (drop (i + 1) xs)) ≡ w
used_next k xs i x w h e t g = sym (or_false _ _ t) ∙ at_next (λ (ys : List NumberedStep). is_used k (map numbered_step ys)) xs i x w h e g

pub used_here : (k : ℕ) (xs : List NumberedStep) (i : ℕ) (x : NumberedStep) (w : Bool) → i < length xs → x ≡ get_or xs i x → uses k (step x.step) ≡ true → is_used k (map numbered_step (drop i xs)) ≡ w → true ≡ w
used_here k xs i x w h e t g = sym (or_true _ _ t) ∙ at_next (λ (ys : List NumberedStep). is_used k (map numbered_step ys)) xs i x w h e g

pub used_none : (k : ℕ) (xs : List NumberedStep) (i : ℕ) (w : Bool) → length xs ≤ i → is_used k (map numbered_step (drop i xs)) ≡ w → false ≡ w
used_none k xs i w h g = at_end (λ (ys : List NumberedStep). is_used k (map numbered_step ys)) xs i w h g

pub kept : (b : Bool) (xs ys : List NumberedStep) (x : NumberedStep) → b ≡ true → ys ≡ xs ++ x ∷ [] → map numbered_step ys ≡ (if b then map numbered_step xs ++ numbered_step x ∷ [] else map numbered_step xs)
kept b xs ys x t e = ap (map numbered_step) e ∙ map-append numbered_step xs (x ∷ []) ∙ sym (if_true b _ _ t)

pub lines_next : (inputs : ℕ) (ns : List Numbered) (xs : List NumberedStep) (i : ℕ) (x : NumberedStep) (olds news : List StepLine) (l : StepLine) → i < length xs → x ≡ get_or xs i x → step l ≡ line inputs ns (step x.step) → news ≡ olds ++ l ∷ [] → map step olds ≡ map (λ y. line inputs ns (step y.step)) (take i xs) → map step news ≡ map (λ y. line inputs ns (step y.step)) (take (i + 1) xs)
lines_next inputs ns xs i x olds news l h e f g k =
    mapped_next (λ y. line inputs ns (step y.step)) xs i x (map step olds) (map step news) (step l) h e f (ap (map step) g ∙ map-append step olds (l ∷ [])) k

lines_mapped : (inputs : ℕ) (ns : List Numbered) (xs : List NumberedStep) → map (λ y. line inputs ns (step y.step)) xs ≡ map (λ n. line inputs ns n.step) (map numbered_step xs)
lines_mapped inputs ns [] = refl
lines_mapped inputs ns (x ∷ xs) = ap (λ (ls : List Step). line inputs ns (step x.step) ∷ ls) (lines_mapped inputs ns xs)

pub lines_end : (inputs : ℕ) (xs : List NumberedStep) (i : ℕ) (ls : List StepLine) → length xs ≤ i → map step ls ≡ map (λ y. line inputs (map numbered_step xs) (step y.step)) (take i xs) → map step ls ≡ lines_of inputs (map numbered_step xs)
lines_end inputs xs i ls h e =
    mapped_end (λ y. line inputs (map numbered_step xs) (step y.step)) xs i (map step ls) h e ∙ lines_mapped inputs (map numbered_step xs) xs

turned_over : {A B : Type 0} (f : A → B) (xs : List A) → map f (reverse xs) ≡ reverse (map f xs)
turned_over f [] = refl
turned_over f (x ∷ xs) =
    ap (map f) (reverse-append (x ∷ []) xs) ∙ map-append f (reverse xs) (x ∷ []) ∙ ap (λ ys. ys ++ f x ∷ []) (turned_over f xs)
    ∙ sym (reverse-append (f x ∷ []) (map f xs))

pub lines_found : (inputs last : ℕ) (xs : List StepLine) (found turned : List NumberedStep) (ls : List Step) → map numbered_step found ≡ needed last inputs (map step xs) → turned ≡ reverse found → ls ≡ lines_of inputs (map numbered_step turned) → ls ≡ lines inputs last (map step xs)
lines_found inputs last xs found turned ls e f g =
    g ∙ ap (lines_of inputs) (ap (map numbered_step) f ∙ turned_over numbered_step found ∙ ap reverse e)

pub lines_made : {E : Type 0} (inputs last : ℕ) (xs : List StepLine) (found turned slice : List NumberedStep) (r : Result (List StepLine) E) → map numbered_step found ≡ needed last inputs (map step xs) → turned ≡ reverse found → slice ≡ turned → IfOk r (λ ls. map step ls ≡ lines_of inputs (map numbered_step slice)) → IfOk r (λ ls. map step ls ≡ lines inputs last (map step xs))
lines_made inputs last xs found turned slice (Ok ls) e f s g = lines_found inputs last xs found slice (map step ls) e (s ∙ f) g
lines_made inputs last xs found turned slice (Err x) e f s g = tt
