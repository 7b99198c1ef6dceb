-- The steps that a form needs, with their new numbers, make that form.
use Rattle.std.proofs.Common.{◌≡◌, refl, sym, ◌∙◌, ap, ap₂, ℕ, zero, suc, ◌+◌, ◌<◌, ◌≤◌, ◌⊎◌, inl, inr, Bool, true, false, List, [], ◌∷◌, ◌++◌, map, length, reverse, arith, cond, append_assoc, length-append, eq-eqb}
use Rattle.std.specs.Prelude.{if◌then◌else◌, ◌&&◌, ◌||◌, ◌==◌, ℤ, pos, int_le, nat_lt, count_by, Option, Some, None}
use Rattle.std.proofs.lemmas.List.{reverse-append}
use Rattle.std.proofs.lemmas.List.Sums.{sum_by-append}
use Rattle.std.proofs.lemmas.Bool.{false≢true}
use Rattle.std.proofs.lemmas.Bool.Decides.{nat_tests}
use Rattle.logic_terms.specs.Sorting.{nth}
use Rattle.linear_forms.specs.Form.{Form, combined, tightened}
use Rattle.linear_forms.specs.Fits.{combining_fits}
use Rattle.cert_lines.specs.Line.{Step, sum_of, tighten}
use Rattle.cert_rules.specs.Judged.{Judged, yields, refused, too_wide, and_then, when, fitting}
use Rattle.cert_rules.specs.Linear.{found_form, stepped, run_steps}
use Rattle.linear_prover.specs.Lines.{Numbered, numbered, uses, is_used, needed, renumbered, line}
use Rattle.linear_prover.proofs.Steps.{if_false}

-- ---- places

pub nth_front : {A : Type 0} (xs ys : List A) (i : ℕ) (a : A) → nth xs i ≡ Some a → nth (xs ++ ys) i ≡ Some a
nth_front [] ys i a e = cc
nth_front (x ∷ xs) ys zero a e = e
nth_front (x ∷ xs) ys (suc i) a e = nth_front xs ys i a e

nth_last : {A : Type 0} (xs : List A) (a : A) → nth (xs ++ a ∷ []) (length xs) ≡ Some a
nth_last [] a = refl
nth_last (x ∷ xs) a = nth_last xs a

pub nth_at : {A : Type 0} (xs : List A) (a : A) (k : ℕ) → k ≡ length xs → nth (xs ++ a ∷ []) k ≡ Some a
nth_at xs a k e = ap (nth (xs ++ a ∷ [])) e ∙ nth_last xs a

nth_split : (xs : List Form) (a : Form) (i : ℕ) (b : Form) → nth (xs ++ a ∷ []) i ≡ Some b → (nth xs i ≡ Some b) ⊎ ((i ≡ length xs) × (a ≡ b))
nth_split [] a zero b e = inr (refl, (cc))
nth_split [] a (suc i) b e = cc
nth_split (x ∷ xs) a zero b e = inl e
nth_split (x ∷ xs) a (suc i) b e = elim (nth_split xs a i b e) [ inl p ↦ inl p | inr p ↦ inr (ap suc p.0, p.1) ]

-- ---- a step with new numbers

-- the form i of gs stands in hs, under its new number
abbrev pub Follows : ℕ → List Numbered → List Form → List Form → ℕ → Type 0
Follows n all gs hs i = (g : Form) → nth gs i ≡ Some g → nth hs (renumbered n all i) ≡ Some g

pub not_refused : {A P : Type 0} (a : A) → refused ≡ yields a → P
not_refused a e = cc

pub not_wide : {A P : Type 0} (a : A) → too_wide ≡ yields a → P
not_wide a e = cc

sum_follows : (b : Bool) (p q r t : Option Form) (m k : ℤ) (f : Form) → ((g : Form) → p ≡ Some g → r ≡ Some g) → ((g : Form) → q ≡ Some g → t ≡ Some g) → when b (and_then (found_form p) (λ x. and_then (found_form q) (λ y. fitting (combining_fits m x k y) (combined m x k y)))) ≡ yields f → when b (and_then (found_form r) (λ x. and_then (found_form t) (λ y. fitting (combining_fits m x k y) (combined m x k y)))) ≡ yields f
sum_follows true (Some x) (Some y) r t m k f u w e =
    ap₂ (λ (o j : Option Form). and_then (found_form o) (λ a. and_then (found_form j) (λ c. fitting (combining_fits m a k c) (combined m a k c)))) (u x refl) (w y refl) ∙ e
sum_follows true (Some x) None r t m k f u w e = not_refused f e
sum_follows true None q r t m k f u w e = not_refused f e
sum_follows false p q r t m k f u w e = not_refused f e

tighten_follows : (p r : Option Form) (f : Form) → ((g : Form) → p ≡ Some g → r ≡ Some g) → and_then (found_form p) (λ x. yields (tightened x)) ≡ yields f → and_then (found_form r) (λ x. yields (tightened x)) ≡ yields f
tighten_follows (Some x) r f u e = ap (λ (o : Option Form). and_then (found_form o) (λ a. yields (tightened a))) (u x refl) ∙ e
tighten_follows None r f u e = not_refused f e

pub or_first : (b c : Bool) → b ≡ true → (b || c) ≡ true
or_first b c e = ap (λ (x : Bool). x || c) e

pub or_second : (b c : Bool) → c ≡ true → (b || c) ≡ true
or_second true c e = refl
or_second false c e = e

step_follows : (n : ℕ) (all : List Numbered) (gs hs : List Form) (s : Step) (f : Form) → ((i : ℕ) → uses i s ≡ true → Follows n all gs hs i) → stepped gs s ≡ yields f → stepped hs (line n all s) ≡ yields f
step_follows n all gs hs (sum_of i m j k) f h e =
    sum_follows (int_le (pos 1) m && int_le (pos 1) k) (nth gs i) (nth gs j) (nth hs (renumbered n all i)) (nth hs (renumbered n all j)) m k f (h i (or_first (i == i) (j == i) (eq-eqb i i refl))) (h j (or_second (i == j) (j == j) (eq-eqb j j refl))) e
step_follows n all gs hs (tighten i) f h e = tighten_follows (nth gs i) (nth hs (renumbered n all i)) f (h i (eq-eqb i i refl)) e

-- ---- the needed steps, in the order in which they were made

abbrev pub wanted : ℕ → ℕ → List Numbered → Bool
wanted last k ns = (k == last) || is_used k ns

abbrev pub kept : ℕ → ℕ → List Step → List Numbered
kept last k [] = []
kept last k (s ∷ ss) = if wanted last k (needed last (suc k) ss) then numbered k s ∷ kept last (suc k) ss else kept last (suc k) ss

turned_by : (b : Bool) (x : Numbered) (ns ms : List Numbered) → reverse ns ≡ ms → reverse (if b then ns ++ x ∷ [] else ns) ≡ (if b then x ∷ ms else ms)
turned_by true x ns ms e = reverse-append ns (x ∷ []) ∙ ap (λ (ys : List Numbered). x ∷ ys) e
turned_by false x ns ms e = e

pub kept_is : (last k : ℕ) (ss : List Step) → reverse (needed last k ss) ≡ kept last k ss
kept_is last k [] = refl
kept_is last k (s ∷ ss) = turned_by (wanted last k (needed last (suc k) ss)) (numbered k s) (needed last (suc k) ss) (kept last (suc k) ss) (kept_is last (suc k) ss)

-- ---- how many stand before a number

abbrev pub before : ℕ → List Numbered → ℕ
before k ns = count_by (λ n. nat_lt n.number k) ns

pub not_below : (j k : ℕ) → k ≤ j → nat_lt j k ≡ false
not_below j k h = grind (arith, nat_tests)

pub is_below : (j k : ℕ) → j < k → nat_lt j k ≡ true
is_below j k h = grind (arith, nat_tests)

before_append : (k : ℕ) (ms ns : List Numbered) → before k (ms ++ ns) ≡ before k ms + before k ns
before_append k ms ns = sum_by-append (λ (n : Numbered). cond (nat_lt n.number k) 1 0) ms ns

none_more : (b : Bool) (n : ℕ) → b ≡ false → (0 + cond b 1 0) + n ≡ n
none_more true n e = absurd (false≢true (sym e))
none_more false n e = omega arith

one_more : (b : Bool) (n : ℕ) → b ≡ true → (0 + cond b 1 0) + n ≡ suc n
one_more true n e = omega arith
one_more false n e = absurd (false≢true e)

pub none_counted : (k : ℕ) (x : Numbered) (ns : List Numbered) → nat_lt x.number k ≡ false → before k (x ∷ ns) ≡ before k ns
none_counted k x ns e = before_append k (x ∷ []) ns ∙ none_more (nat_lt x.number k) (before k ns) e

pub one_counted : (k : ℕ) (x : Numbered) (ns : List Numbered) → nat_lt x.number k ≡ true → before k (x ∷ ns) ≡ suc (before k ns)
one_counted k x ns e = before_append k (x ∷ []) ns ∙ one_more (nat_lt x.number k) (before k ns) e

later_by : (b : Bool) (k j : ℕ) (s : Step) (ns : List Numbered) → nat_lt j k ≡ false → before k ns ≡ 0 → before k (if b then numbered j s ∷ ns else ns) ≡ 0
later_by true k j s ns e h = none_counted k (numbered j s) ns e ∙ h
later_by false k j s ns e h = h

none_before : (last k j : ℕ) (ss : List Step) → k ≤ j → before k (kept last j ss) ≡ 0
none_before last k j [] h = refl
none_before last k j (s ∷ ss) h = later_by (wanted last j (needed last (suc j) ss)) k j s (kept last (suc j) ss) (not_below j k h) (none_before last k (suc j) ss (omega arith))

-- all numbers in ps are below k
abbrev pub Earlier : ℕ → List Numbered → Type 0
Earlier k ps = (j : ℕ) → k ≤ j → before j ps ≡ length ps

earlier_more : (k : ℕ) (s : Step) (ps : List Numbered) → Earlier k ps → Earlier (suc k) (ps ++ numbered k s ∷ [])
earlier_more k s ps h j le =
    joined _ _ _ _ _ (before_append j ps (numbered k s ∷ [])) (one_counted j (numbered k s) [] (is_below k j (omega arith))) (h j (omega arith)) (length-append ps (numbered k s ∷ []))
  where
    joined : (x y z l m : ℕ) → x ≡ y + z → z ≡ 1 → y ≡ l → m ≡ l + 1 → x ≡ m
    joined x y z l m p q r t = omega arith

place_of : (n last k : ℕ) (all ps : List Numbered) (s : Step) (ss : List Step) → n ≤ k → all ≡ ps ++ numbered k s ∷ kept last (suc k) ss → Earlier k ps → renumbered n all k ≡ n + length ps
place_of n last k all ps s ss h a e =
    let none = later_by true k k s (kept last (suc k) ss) (not_below k k (omega arith)) (none_before last k (suc k) ss (omega arith)) in
    let rest = before_append k ps (numbered k s ∷ kept last (suc k) ss) in
    let here = e k (omega arith) in
    let count : before k (ps ++ numbered k s ∷ kept last (suc k) ss) ≡ length ps = rest ∙ joined _ _ _ here none in
    if_false (nat_lt k n) k (n + before k all) (not_below k n h) ∙ ap (λ (m : ℕ). n + m) (ap (before k) a ∙ count)
  where
    joined : (x y l : ℕ) → x ≡ l → y ≡ 0 → x + y ≡ l
    joined x y l p q = omega arith

-- ---- the run

or_three : (a b c : Bool) → (a || b) ≡ true → (a || (b || c)) ≡ true
or_three true b c e = refl
or_three false b c e = or_first b c e

or_none : (c : Bool) → c ≡ true → (c || false) ≡ true
or_none c e = ap (λ (x : Bool). x || false) e

used_append : (i : ℕ) (ns : List Numbered) (x : Numbered) → is_used i (ns ++ x ∷ []) ≡ (is_used i ns || (uses i x.step || false))
used_append i [] x = refl
used_append i (n ∷ ns) x = ap (λ (b : Bool). uses i n.step || b) (used_append i ns x) ∙ grouped (uses i n.step) (is_used i ns) (uses i x.step || false)
  where
    grouped : (a b c : Bool) → (a || (b || c)) ≡ ((a || b) || c)
    grouped true b c = refl
    grouped false b c = refl

wanted_more : (last i k : ℕ) (s : Step) (ns : List Numbered) → wanted last i ns ≡ true → wanted last i (ns ++ numbered k s ∷ []) ≡ true
wanted_more last i k s ns e =
    ap (λ (b : Bool). (i == last) || b) (used_append i ns (numbered k s)) ∙ or_three (i == last) (is_used i ns) (uses i s || false) e

wanted_use : (last i k : ℕ) (s : Step) (ns : List Numbered) → uses i s ≡ true → wanted last i (ns ++ numbered k s ∷ []) ≡ true
wanted_use last i k s ns e =
    or_second (i == last) (is_used i (ns ++ numbered k s ∷ [])) (used_append i ns (numbered k s) ∙ or_second (is_used i ns) (uses i s || false) (or_none (uses i s) e))

abbrev pub Ready : ℕ → ℕ → List Numbered → List Numbered → List Form → List Form → Type 0
Ready n last all ns gs hs = (i : ℕ) → wanted last i ns ≡ true → Follows n all gs hs i

abbrev pub renewed : ℕ → List Numbered → List Numbered → List Step
renewed n all ms = map (λ x. line n all x.step) ms

-- the steps ms, with new numbers, lead from hs to forms with the last one of xs
pub record Prunes (n last : ℕ) (all : List Numbered) (hs : List Form) (ms : List Numbered) (xs : List Form) : Type 0 where
  pub forms : List Form
  pub run : run_steps hs (renewed n all ms) ≡ yields forms
  pub made : Follows n all xs forms last
  pub count : length forms ≡ length hs + length ms

-- the run from form k on
abbrev Rest : ℕ → ℕ → List Numbered → List Step → ℕ → List Form → Type 0
Rest n last all ss k xs = (gs hs : List Form) (ps : List Numbered) → length gs ≡ k → n ≤ k → all ≡ ps ++ kept last k ss → length hs ≡ n + length ps → Earlier k ps → Ready n last all (needed last k ss) gs hs → run_steps gs ss ≡ yields xs → Prunes n last all hs (kept last k ss) xs

ready_kept : (n last k : ℕ) (all ps : List Numbered) (s : Step) (ss : List Step) (gs hs : List Form) (f : Form) → length gs ≡ k → n ≤ k → all ≡ ps ++ numbered k s ∷ kept last (suc k) ss → length hs ≡ n + length ps → Earlier k ps → Ready n last all (needed last (suc k) ss ++ numbered k s ∷ []) gs hs → Ready n last all (needed last (suc k) ss) (gs ++ f ∷ []) (hs ++ f ∷ [])
ready_kept n last k all ps s ss gs hs f l h a c e r i w g q = elim (nth_split gs f i g q) [
  | inl p ↦ nth_front hs (f ∷ []) (renumbered n all i) g (r i (wanted_more last i k s (needed last (suc k) ss) w) g p)
  | inr p ↦ nth_at hs f (renumbered n all i) (ap (renumbered n all) (p.0 ∙ l) ∙ place_of n last k all ps s ss h a e ∙ sym c) ∙ ap Some p.1
]

ready_dropped : (n last k : ℕ) (all ns : List Numbered) (gs hs : List Form) (f : Form) → length gs ≡ k → wanted last k ns ≡ false → Ready n last all ns gs hs → Ready n last all ns (gs ++ f ∷ []) hs
ready_dropped n last k all ns gs hs f l d r i w g q = elim (nth_split gs f i g q) [
  | inl p ↦ r i w g p
  | inr p ↦ absurd (false≢true (sym d ∙ ap (λ (j : ℕ). wanted last j ns) (sym (p.0 ∙ l)) ∙ w))
]

one_longer : (xs : List Form) (x : Form) (k : ℕ) → length xs ≡ k → length (xs ++ x ∷ []) ≡ suc k
one_longer xs x k e = let l = length-append xs (x ∷ []) in omega arith

step_by : (b : Bool) (n last k : ℕ) (all ps : List Numbered) (s : Step) (ss : List Step) (gs hs xs : List Form) (f : Form) → Rest n last all ss (suc k) xs → wanted last k (needed last (suc k) ss) ≡ b → length gs ≡ k → n ≤ k → all ≡ ps ++ (if b then numbered k s ∷ kept last (suc k) ss else kept last (suc k) ss) → length hs ≡ n + length ps → Earlier k ps → Ready n last all (if b then needed last (suc k) ss ++ numbered k s ∷ [] else needed last (suc k) ss) gs hs → stepped gs s ≡ yields f → run_steps (gs ++ f ∷ []) ss ≡ yields xs → Prunes n last all hs (if b then numbered k s ∷ kept last (suc k) ss else kept last (suc k) ss) xs
step_by true n last k all ps s ss gs hs xs f ih d l h a c e r t u =
    let here = step_follows n all gs hs s f (λ i q. r i (wanted_use last i k s (needed last (suc k) ss) q)) t in
    let longer = length-append ps (numbered k s ∷ []) in
    let grown = one_longer hs f (n + length ps) c in
    let more = ih (gs ++ f ∷ []) (hs ++ f ∷ []) (ps ++ numbered k s ∷ []) (one_longer gs f k l) (omega arith) (a ∙ sym (append_assoc ps (numbered k s ∷ []) (kept last (suc k) ss))) (omega arith) (earlier_more k s ps e) (ready_kept n last k all ps s ss gs hs f l h a c e r) u in
    record {
      forms = more.forms;
      run = ap (λ (j : Judged Form). and_then j (λ y. run_steps (hs ++ y ∷ []) (renewed n all (kept last (suc k) ss)))) here ∙ more.run;
      made = more.made;
      count = counted _ _ _ _ more.count grown c;
    }
  where
    counted : (x y z m : ℕ) → x ≡ y + z → y ≡ suc m → length hs ≡ m → x ≡ length hs + suc z
    counted x y z m p q w = omega arith
step_by false n last k all ps s ss gs hs xs f ih d l h a c e r t u =
    ih (gs ++ f ∷ []) hs ps (one_longer gs f k l) (omega arith) a c (λ j le. e j (omega arith)) (ready_dropped n last k all (needed last (suc k) ss) gs hs f l d r) u

judged_by : (j : Judged Form) (n last k : ℕ) (all ps : List Numbered) (s : Step) (ss : List Step) (gs hs xs : List Form) → Rest n last all ss (suc k) xs → length gs ≡ k → n ≤ k → all ≡ ps ++ kept last k (s ∷ ss) → length hs ≡ n + length ps → Earlier k ps → Ready n last all (needed last k (s ∷ ss)) gs hs → stepped gs s ≡ j → and_then j (λ f. run_steps (gs ++ f ∷ []) ss) ≡ yields xs → Prunes n last all hs (kept last k (s ∷ ss)) xs
judged_by (yields f) n last k all ps s ss gs hs xs ih l h a c e r t u =
    step_by (wanted last k (needed last (suc k) ss)) n last k all ps s ss gs hs xs f ih refl l h a c e r t u
judged_by refused n last k all ps s ss gs hs xs ih l h a c e r t u = not_refused xs u
judged_by too_wide n last k all ps s ss gs hs xs ih l h a c e r t u = not_wide xs u

yielded : (xs ys : List Form) → yields xs ≡ yields ys → xs ≡ ys
yielded xs ys e = cc

pub pruned : (n last : ℕ) (all : List Numbered) (ss : List Step) (k : ℕ) (xs : List Form) → Rest n last all ss k xs
pruned n last all [] k xs gs hs ps l h a c e r u = record {
  forms = hs;
  run = refl;
  made = λ g q. r last (or_first (last == last) false (eq-eqb last last refl)) g (ap (λ (ys : List Form). nth ys last) (yielded gs xs u) ∙ q);
  count = omega arith;
}
pruned n last all (s ∷ ss) k xs gs hs ps l h a c e r u =
    judged_by (stepped gs s) n last k all ps s ss gs hs xs (pruned n last all ss (suc k) xs) l h a c e r refl u
