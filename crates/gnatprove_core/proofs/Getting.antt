-- Files are got one by one.
use Rattle.std.proofs.Common.{◌≡◌, ◌⊎◌, ℕ, List, [], ◌∷◌, ◌++◌, inl, inr, Option, Some, None, Result, Ok, Err, length, ◌<◌, subst, arith, refl, sym, ap, ◌∙◌, ◌+◌, ◌-◌, ◌≤◌, suc, take}
use Rattle.std.specs.Prelude.{IfOk, drop, slice_index_or}
use Rattle.keeper_io.specs.Maps.{Map, Holds}
use Rattle.unit_front.specs.declared.files.NamedBytes.{NamedBytes}
use Rattle.gnatprove_core.specs.declared.answer.Answer.{Answer}
use Rattle.gnatprove_core.specs.declared.status.Status.{Status}
use Rattle.gnatprove_core.specs.Answers.{AnswersFault, AnswersFrom, AnswersGot, AnswersMissing, with_file}

-- what answers to the names that are left, after those files, answers to all names
unfoldable pub Still : Option Map → List (List ℕ) → List NamedBytes → List (List ℕ) → Type 0
Still told names got rest = (status : Status) (text : List ℕ) → AnswersFrom told got rest status text → AnswersFrom told [] names status text

pub at_first : (told : Option Map) (names : List (List ℕ)) → Still told names [] names
unfolding Still
at_first told names status text h = h

pub one_got : (told : Option Map) (names : List (List ℕ)) (got : List NamedBytes) (name : List ℕ) (rest : List (List ℕ)) (bytes : List ℕ)
    → Still told names got (name ∷ rest) → Holds told name (Some bytes) → Still told names (with_file got name bytes) rest
unfolding Still
one_got told names got name rest bytes h b status text a = h status text (inr (inr (bytes, b, a)))

pub one_missing : {E : Type 0} (told : Option Map) (names : List (List ℕ)) (got : List NamedBytes) (name : List ℕ) (rest : List (List ℕ)) (r : Result Answer E)
    → Still told names got (name ∷ rest) → Holds told name None → IfOk r (λ a. AnswersMissing name a.status a.text) → IfOk r (λ a. AnswersFrom told [] names a.status a.text)
unfolding Still
one_missing told names got name rest (Ok a) h b w = h a.status a.text (inr (inl (b, w)))
one_missing told names got name rest (Err e) h b w = tt

pub one_fault : {E : Type 0} (told : Option Map) (names : List (List ℕ)) (got : List NamedBytes) (name : List ℕ) (rest : List (List ℕ)) (r : Result Answer E)
    → Still told names got (name ∷ rest) → IfOk r (λ a. AnswersFault name a.status a.text) → IfOk r (λ a. AnswersFrom told [] names a.status a.text)
unfolding Still
one_fault told names got name rest (Ok a) h w = h a.status a.text (inl w)
one_fault told names got name rest (Err e) h w = tt

pub all_got : {E : Type 0} (told : Option Map) (names : List (List ℕ)) (got : List NamedBytes) (r : Result Answer E)
    → Still told names got [] → IfOk r (λ a. AnswersGot got a.status a.text) → IfOk r (λ a. AnswersFrom told [] names a.status a.text)
unfolding Still
all_got told names got (Ok a) h w = h a.status a.text w
all_got told names got (Err e) h w = tt

-- ---- in the words of the loop, where a list of names has a first one

take-all : (xs : List (List ℕ)) → take (length xs) xs ≡ xs
take-all [] = refl
take-all (x ∷ xs) = ap (λ (ys : List (List ℕ)). x ∷ ys) (take-all xs)

pub missing_here : {E : Type 0} (told now : Option Map) (names : List (List ℕ)) (got : List NamedBytes) (left : List (List ℕ)) (name : List ℕ) (found : Option (List ℕ)) (r : Result Answer E)
    → 1 ≤ length left → name ≡ slice_index_or left 0 name → now ≡ told → Still told names got left → Holds now name found → found ≡ None
    → IfOk r (λ a. AnswersMissing name a.status a.text) → IfOk r (λ a. AnswersFrom told [] names a.status a.text)
missing_here told now names got [] name found r some is same h b none w = absurd (omega arith)
missing_here told now names got (x ∷ xs) name found r some is same h b none w =
    one_missing told names got name xs r (subst (λ (y : List ℕ). Still told names got (y ∷ xs)) (sym is) h) (subst (λ (o : Option (List ℕ)). Holds told name o) none (subst (λ (m : Option Map). Holds m name found) same b)) w

pub fault_here : {E : Type 0} (told : Option Map) (names : List (List ℕ)) (got : List NamedBytes) (left : List (List ℕ)) (name : List ℕ) (r : Result Answer E)
    → 1 ≤ length left → name ≡ slice_index_or left 0 name → Still told names got left
    → IfOk r (λ a. AnswersFault name a.status a.text) → IfOk r (λ a. AnswersFrom told [] names a.status a.text)
fault_here told names got [] name r some is h w = absurd (omega arith)
fault_here told names got (x ∷ xs) name r some is h w = one_fault told names got name xs r (subst (λ (y : List ℕ). Still told names got (y ∷ xs)) (sym is) h) w

abbrev pub Kept : Option Map → List (List ℕ) → ℕ → List NamedBytes → List (List ℕ) → Type 0
Kept told names n got left = Still told names got left × (length got + length left ≡ n)

as_many : (got : List NamedBytes) (g : NamedBytes) → length (got ++ g ∷ []) ≡ length got + 1
as_many [] g = refl
as_many (f ∷ fs) g = let h = as_many fs g in omega (arith, h)

pub got_here : (told now : Option Map) (names : List (List ℕ)) (n : ℕ) (got new : List NamedBytes) (left : List (List ℕ)) (name copy bytes : List ℕ) (found : Option (List ℕ))
    → 1 ≤ length left → name ≡ slice_index_or left 0 name → copy ≡ name → now ≡ told → Holds now name found → found ≡ Some bytes → new ≡ with_file got copy bytes
    → Still told names got left → length got + length left ≡ n → Kept told names n new (take (length left - 1) (drop 1 left))
got_here told now names n got new [] name copy bytes found some is copied same b there added h count = absurd (omega arith)
got_here told now names n got new (x ∷ xs) name copy bytes found some is copied same b there added h count =
    let next : Still told names (with_file got name bytes) xs =
    one_got told names got name xs bytes (subst (λ (y : List ℕ). Still told names got (y ∷ xs)) (sym is) h) (subst (λ (o : Option (List ℕ)). Holds told name o) there (subst (λ (m : Option Map). Holds m name found) same b)) in
    let new_is : new ≡ with_file got name bytes = added ∙ ap (λ (y : List ℕ). with_file got y bytes) copied in
    let more : length new ≡ length got + 1 = ap (λ (gs : List NamedBytes). length gs) new_is ∙ as_many got (record { name = name; bytes = bytes }) in
    let left : length xs ≡ suc (length xs) - 1 = omega arith in
    let whole : xs ≡ take (suc (length xs) - 1) xs = subst (λ (m : ℕ). xs ≡ take m xs) left (sym (take-all xs)) in
    subst (λ (ys : List (List ℕ)). Kept told names n new ys) whole (subst (λ (gs : List NamedBytes). Still told names gs xs) (sym new_is) next, omega (arith, count, more))

none_left : (left : List (List ℕ)) → length left < 1 → left ≡ []
none_left [] h = refl
none_left (x ∷ xs) h = absurd (omega arith)

pub all_here : {E : Type 0} (told : Option Map) (names : List (List ℕ)) (got slice : List NamedBytes) (left : List (List ℕ)) (r : Result Answer E)
    → length left < 1 → slice ≡ got → Still told names got left → IfOk r (λ a. AnswersGot slice a.status a.text) → IfOk r (λ a. AnswersFrom told [] names a.status a.text)
all_here told names got slice left r none same h w =
    all_got told names got r (subst (λ (ys : List (List ℕ)). Still told names got ys) (none_left left none) h)
    (subst (λ (gs : List NamedBytes). IfOk r (λ a. AnswersGot gs a.status a.text)) same w)
