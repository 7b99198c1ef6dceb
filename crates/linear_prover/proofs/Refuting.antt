-- The lines for a form that is a negative constant refute the inputs.
use Rattle.std.proofs.Common.{◌≡◌, refl, sym, ◌∙◌, ap, ℕ, zero, suc, ◌+◌, ◌<◌, ◌⊎◌, inl, inr, Bool, true, false, List, [], ◌∷◌, length, reverse, arith, eq-eqb}
use Rattle.std.specs.Prelude.{if◌then◌else◌, ◌||◌, ◌==◌, nat_lt, Some}
use Rattle.std.proofs.lemmas.List.{length-map}
use Rattle.std.proofs.lemmas.Bool.{eqb-true, false≢true}
use Rattle.logic_terms.specs.Sorting.{nth}
use Rattle.linear_forms.specs.Form.{Form}
use Rattle.cert_lines.specs.Line.{Step}
use Rattle.cert_rules.specs.Judged.{yields}
use Rattle.cert_rules.specs.Linear.{run_steps, is_negative_constant, some_is_negative, last_is_negative, refuted}
use Rattle.linear_prover.specs.Lines.{Numbered, numbered, with_needed, needed, renumbered, line, lines}
use Rattle.linear_prover.specs.Refuting.{Refutes}
use Rattle.linear_prover.proofs.Steps.{if_false}
use Rattle.linear_prover.proofs.Pruning.{wanted, kept, kept_is, before, not_below, is_below, or_first, or_second, none_counted, one_counted, Ready, renewed, pruned}

-- ---- the last of the lines

final_one : (b : Bool) (k last : ℕ) (s : Step) → b ≡ true → nat_lt k last ≡ false → suc (before last (if b then numbered k s ∷ [] else [])) ≡ length (if b then numbered k s ∷ [] else [])
final_one true k last s e h = ap suc (none_counted last (numbered k s) [] h)
final_one false k last s e h = absurd (false≢true e)

final_more : (b : Bool) (k last : ℕ) (s : Step) (ns : List Numbered) → nat_lt k last ≡ true → suc (before last ns) ≡ length ns → suc (before last (if b then numbered k s ∷ ns else ns)) ≡ length (if b then numbered k s ∷ ns else ns)
final_more true k last s ns e h = ap suc (one_counted last (numbered k s) ns e ∙ h)
final_more false k last s ns e h = h

-- the step that made the last form is the last that is needed
final : (last k : ℕ) (ss : List Step) → suc last ≡ k + length ss → 0 < length ss → suc (before last (kept last k ss)) ≡ length (kept last k ss)
final last k [] e h = absurd (omega arith)
final last k (s ∷ []) e h =
    let same : k ≡ last = omega arith in
    final_one (wanted last k (needed last (suc k) [])) k last s (ap (λ (b : Bool). b || false) (eq-eqb k last same)) (not_below k last (omega arith))
final last k (s ∷ t ∷ ss) e h =
    final_more (wanted last k (needed last (suc k) (t ∷ ss))) k last s (kept last (suc k) (t ∷ ss)) (is_below k last (omega arith)) (final last (suc k) (t ∷ ss) (omega arith) (omega arith))

-- ---- an input needs no steps

differ : (k last : ℕ) → last < k → (k == last) ≡ false
differ k last h = by (k == last) refl
  where
    by : (b : Bool) → (k == last) ≡ b → (k == last) ≡ false
    by true e = let z = eqb-true k last e in absurd (omega arith)
    by false e = e

none_by : (b : Bool) (x : Numbered) → b ≡ false → (if b || false then x ∷ [] else []) ≡ []
none_by true x e = absurd (false≢true (sym e))
none_by false x e = refl

none_needed : (last k : ℕ) (ss : List Step) → last < k → needed last k ss ≡ []
none_needed last k [] h = refl
none_needed last k (s ∷ ss) h = ap (with_needed last k s) (none_needed last (suc k) ss (omega arith)) ∙ none_by (k == last) (numbered k s) (differ k last h)

none_kept : (last k : ℕ) (ss : List Step) → last < k → kept last k ss ≡ []
none_kept last k ss h = sym (kept_is last k ss) ∙ ap reverse (none_needed last k ss h)

-- ---- a negative constant

some_form : (f g : Form) → Some f ≡ Some g → f ≡ g
some_form f g e = cc

some_at : (fs : List Form) (i : ℕ) (g : Form) → nth fs i ≡ Some g → is_negative_constant g ≡ true → some_is_negative fs ≡ true
some_at [] i g e h = cc
some_at (f ∷ fs) zero g e h = or_first (is_negative_constant f) (some_is_negative fs) (ap is_negative_constant (some_form f g e) ∙ h)
some_at (f ∷ fs) (suc i) g e h = or_second (is_negative_constant f) (some_is_negative fs) (some_at fs i g e h)

last_at : (fs : List Form) (i : ℕ) (g : Form) → nth fs i ≡ Some g → suc i ≡ length fs → is_negative_constant g ≡ true → last_is_negative fs ≡ true
last_at [] i g e l h = absurd (omega arith)
last_at (f ∷ []) zero g e l h = ap is_negative_constant (some_form f g e) ∙ h
last_at (f ∷ []) (suc i) g e l h = absurd (omega arith)
last_at (f ∷ x ∷ fs) zero g e l h = absurd (omega arith)
last_at (f ∷ x ∷ fs) (suc i) g e l h = last_at (x ∷ fs) i g e (omega arith) h

refuted_by : (ls : List Step) (fs : List Form) (i : ℕ) (g : Form) → nth fs i ≡ Some g → is_negative_constant g ≡ true → (0 < length ls → suc i ≡ length fs) → refuted ls fs ≡ true
refuted_by [] fs i g e h l = some_at fs i g e h
refuted_by (s ∷ ss) fs i g e h l = last_at fs i g e (l (omega arith)) h

-- ---- all together

-- the number of an input, or of the form that the last step made
abbrev pub Newest : ℕ → ℕ → ℕ → Type 0
Newest n steps k = (k < n) ⊎ (suc k ≡ n + steps)

ends_with : (n last : ℕ) (ss : List Step) (all : List Numbered) (count : ℕ) → all ≡ kept last n ss → Newest n (length ss) last → count ≡ n + length (kept last n ss) → 0 < length (kept last n ss) → suc (renumbered n all last) ≡ count
ends_with n last ss all count a (inl h) c l = let none = ap length (none_kept last n ss h) in absurd (omega arith)
ends_with n last [] all count a (inr h) c l = absurd (omega arith)
ends_with n last (s ∷ ss) all count a (inr h) c l =
    let place : renumbered n all last ≡ n + before last all = if_false (nat_lt last n) last (n + before last all) (not_below last n (omega arith)) in
    let same = ap (before last) a in
    let end = final last n (s ∷ ss) h (omega arith) in omega arith

some_kept : (n : ℕ) (all ms : List Numbered) (ls : List Step) → ls ≡ renewed n all ms → 0 < length ls → 0 < length ms
some_kept n all ms ls e l = let m = length-map ms (λ (x : Numbered). line n all x.step) in let c = ap length e in omega arith

below_by : (b : Bool) (i m : ℕ) → b ≡ true → (if b then i else m) ≡ i
below_by true i m e = refl
below_by false i m e = absurd (false≢true e)

in_front : (gs : List Form) (i : ℕ) (f : Form) → nth gs i ≡ Some f → i < length gs
in_front [] i f e = cc
in_front (x ∷ gs) zero f e = omega arith
in_front (x ∷ gs) (suc i) f e = let t = in_front gs i f e in omega arith

-- the inputs keep their numbers
inputs_ready : (last n : ℕ) (all : List Numbered) (ss : List Step) (fs : List Form) → n ≡ length fs → Ready n last all (needed last n ss) fs fs
inputs_ready last n all ss fs e i w f q =
    let b = in_front fs i f q in
    ap (nth fs) (below_by (nat_lt i n) i (n + before i all) (is_below i n (omega arith))) ∙ q

pub lines_refute : (fs : List Form) (n last : ℕ) (ss : List Step) (xs : List Form) (g : Form) → n ≡ length fs → run_steps fs ss ≡ yields xs → nth xs last ≡ Some g → Newest n (length ss) last → is_negative_constant g ≡ true → Refutes fs (lines n last ss)
lines_refute fs n last ss xs g e u q w h =
    let all = reverse (needed last n ss) in
    let p = pruned n last all ss n xs fs fs [] (sym e) (omega arith) (kept_is last n ss) (omega arith) (λ j le. refl) (inputs_ready last n all ss fs e) u in
    let same : lines n last ss ≡ renewed n all (kept last n ss) = ap (renewed n all) (kept_is last n ss) in
    record {
      forms = p.forms;
      run = ap (run_steps fs) same ∙ p.run;
      negative = refuted_by (lines n last ss) p.forms (renumbered n all last) g (p.made g q) h
          (λ l. ends_with n last ss all (length p.forms) (kept_is last n ss) w (p.count ∙ ap (λ (m : ℕ). m + length (kept last n ss)) (sym e)) (some_kept n all (kept last n ss) (lines n last ss) same l));
    }
