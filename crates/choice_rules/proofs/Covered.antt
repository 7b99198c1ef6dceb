-- What the walk over the values of choices in order says of them is what the rules say.
use Rattle.std.proofs.Common.{◌≡◌, arith, refl, ap, sym, ◌∙◌, subst, List, [], ◌∷◌, ◌++◌, length, append-nil, append_assoc, ℤ, ◌+ℤ◌, Bool, true, false}
use Rattle.std.specs.Prelude.{cond, not, ◌&&◌, ◌||◌, Some}
use Rattle.std.specs.Int.RustNames.{int_le}
use Rattle.std.specs.Ordering.{int_eq}
use Rattle.std.proofs.lemmas.Int.{ints}
use Rattle.ada_values.specs.declared.place.Place.{Place}
use Rattle.front_codes.specs.declared.codes.Code.TheVariants.{L21}
use Rattle.front_codes.specs.declared.codes.Refusal.{Refusal}
use Rattle.typed_units.specs.declared.operators.Bounds.{Bounds}
use Rattle.choice_cover.specs.declared.cover.Cover.{Cover}
use Rattle.choice_cover.specs.declared.cover.Cover.TheVariants as cover
use Rattle.choice_cover.specs.Cover.{AtMostOnce}
use Rattle.choice_cover.specs.Covering as walk
use Rattle.choice_cover.specs.Covering.{covering, covering_after, is_full, meets_any}
use Rattle.choice_cover.specs.Sizes as walked
use Rattle.choice_cover.specs.Sweeps.{fits_in, holds_any}
use Rattle.choice_cover.proofs.Function.{nothing_once, one_more}
use Rattle.choice_cover.proofs.Held.{by_cases}
use Rattle.choice_cover.proofs.Sized.{full_sized}
use Rattle.typing_rules.specs.declared.prefix.Found.{Found}
use Rattle.typing_rules.specs.declared.prefix.Found.TheVariants.{Refused, Unknown, Is}
use Rattle.typing_rules.specs.Fits.{found_then}
use Rattle.statement_typing.specs.declared.parts.Spread.{Spread}
use Rattle.statement_typing.specs.Checks.{added, all_of, all_onto, and_also, unless}
use Rattle.statement_typing.specs.Choices.{cover_by, covered, distinct, fresh, is_null, is_whole, meet, meets_one, new_values, size, sizes, values_after}
use Rattle.choice_rules.specs.Steps.{cover_read, covered_where, heard, heard_after, judged_after, known_after, with_values}
use Rattle.choice_rules.proofs.Totals.{all_kept, heard_added, if_heard, kept_onto, known_is, values_of}

-- ---- values before a choice, the newest first or last

or_swapped : (x y z : Bool) → x || (y || z) ≡ y || (x || z)
or_swapped true true z = refl
or_swapped true false z = refl
or_swapped false true z = refl
or_swapped false false z = refl

meets-more : (r : Bounds) (bs : List Bounds) (b : Bounds) → meets_one r (bs ++ b ∷ []) ≡ meet b r || meets_one r bs
meets-more r [] b = refl
meets-more r (c ∷ cs) b = ap (λ (x : Bool). meet c r || x) (meets-more r cs b) ∙ or_swapped (meet c r) (meet b r) (meets_one r cs)

-- the same values in another order, as far as the rules ask
abbrev IsSame : List Bounds → List Bounds → Type 0
IsSame bs before = (r : Bounds) → meets_one r bs ≡ meets_one r before

one_same : (bs before : List Bounds) (b : Bounds) → IsSame bs before → IsSame (b ∷ bs) (before ++ b ∷ [])
one_same bs before b s r = ap (λ (x : Bool). meet b r || x) (s r) ∙ sym (meets-more r before b)

new_same : (s b : Bounds) (bs before : List Bounds) → IsSame bs before → new_values s bs b ≡ new_values s before b
new_same s b bs before e = ap (λ (x : Bool). is_null b || (int_le s.first b.first && int_le b.last s.last && not x)) (e b)

fresh_same : (s : Bounds) (bs before : List Bounds) (x : Found Spread) → IsSame bs before → fresh s bs x ≡ fresh s before x
fresh_same s bs before (Is x) e = ap (λ (n : Bool). unless n L21 x.place x.values) (new_same s x.values bs before e)
fresh_same s bs before Unknown e = refl
fresh_same s bs before (Refused f) e = refl

next_same : (bs before : List Bounds) (x : Found Spread) → IsSame bs before → IsSame (values_after bs x) (with_values before x)
next_same bs before (Is x) e = one_same bs before x.values e
next_same bs before Unknown e = e
next_same bs before (Refused f) e = e

judged_is : (s : Bounds) (bs before : List Bounds) (done : Found (List Bounds)) (xs : List (Found Spread)) → IsSame bs before
    → heard (all_onto done (distinct s bs xs)) ≡ judged_after s before (heard done) xs
judged_is s bs before done [] e = refl
judged_is s bs before done (x ∷ xs) e =
    judged_is s (values_after bs x) (with_values before x) (added done (fresh s bs x)) xs (next_same bs before x e)
    ∙ ap (λ (t : Found (Unit {0})). judged_after s (with_values before x) t xs)
    (heard_added done (fresh s bs x) ∙ ap (λ (y : Found Bounds). and_also (heard done) (heard y)) (fresh_same s bs before x e))

-- ---- the rules' words and the walk's

meet_is : (a b : Bounds) → meet a b ≡ walk.meet b a
meet_is a b = grind (arith, ints)

meets_is : (r : Bounds) (bs : List Bounds) → meets_one r bs ≡ meets_any r bs
meets_is r [] = refl
meets_is r (b ∷ bs) = ap (λ (x : Bool). x || meets_one r bs) (meet_is b r) ∙ ap (λ (x : Bool). walk.meet r b || x) (meets_is r bs)

size_is : (b : Bounds) → size b ≡ walked.size b.first b.last
size_is b = grind (arith, ints)

sizes_is : (bs : List Bounds) → sizes bs ≡ walked.sizes bs
sizes_is [] = refl
sizes_is (b ∷ bs) = ap (λ (n : ℤ). n +ℤ sizes bs) (size_is b) ∙ ap (λ (n : ℤ). walked.size b.first b.last +ℤ n) (sizes_is bs)

null_alone : (b c : Bounds) → holds_any b ≡ false → walk.meet b c ≡ false
null_alone b c h = ap (λ (x : Bool). (x && holds_any c) && (int_le b.first c.last && int_le c.first b.last)) h

null_meets : (b : Bounds) (bs : List Bounds) → holds_any b ≡ false → meets_any b bs ≡ false
null_meets b [] h = refl
null_meets b (c ∷ cs) h = ap (λ (x : Bool). x || meets_any b cs) (null_alone b c h) ∙ null_meets b cs h

null_fits : (lo hi : ℤ) (b : Bounds) → holds_any b ≡ false → fits_in lo hi b ≡ true
null_fits lo hi b h = grind (arith, ints)

some_fits : (lo hi : ℤ) (b : Bounds) → holds_any b ≡ true → fits_in lo hi b ≡ int_le lo b.first && int_le b.last hi
some_fits lo hi b h = grind (arith, ints)

and_and : (x y z : Bool) → x && y && z ≡ (x && y) && z
and_and true y z = refl
and_and false y z = refl

new_is : (s : Bounds) (bs : List Bounds) (b : Bounds) → new_values s bs b ≡ fits_in s.first s.last b && not (meets_any b bs)
new_is s bs b =
    by_cases (holds_any b)
    (λ h.
    ap (λ (x : Bool). not x || (int_le s.first b.first && int_le b.last s.last && not (meets_one b bs))) h
    ∙ and_and (int_le s.first b.first) (int_le b.last s.last) (not (meets_one b bs))
    ∙ ap (λ (x : Bool). x && not (meets_one b bs)) (sym (some_fits s.first s.last b h))
    ∙ ap (λ (x : Bool). fits_in s.first s.last b && not x) (meets_is b bs))
    (λ h.
    ap (λ (x : Bool). not x || (int_le s.first b.first && int_le b.last s.last && not (meets_one b bs))) h
    ∙ sym (ap (λ (x : Bool). x && not (meets_any b bs)) (null_fits s.first s.last b h) ∙ ap not (null_meets b bs h)))

-- ---- what is refused stays refused

abbrev IsNot : Found (List Bounds) → Type 0
IsNot (Is bs) = ⊥
IsNot Unknown = Unit {0}
IsNot (Refused f) = Unit {0}

stays : (done : Found (List Bounds)) (x : Found Bounds) → IsNot done → IsNot (added done x)
stays (Is bs) x h = absurd h
stays Unknown (Is b) h = tt
stays Unknown Unknown h = tt
stays Unknown (Refused f) h = tt
stays (Refused g) (Is b) h = tt
stays (Refused g) Unknown h = tt
stays (Refused g) (Refused f) h = tt

all_stays : (done : Found (List Bounds)) (xs : List (Found Bounds)) → IsNot done → IsNot (all_onto done xs)
all_stays done [] h = h
all_stays done (x ∷ xs) h = all_stays (added done x) xs (stays done x h)

refused_is_not : (done : Found (List Bounds)) (f : Refusal) → IsNot (added done (Refused f))
refused_is_not (Is bs) f = tt
refused_is_not Unknown f = tt
refused_is_not (Refused g) f = tt

-- ---- the answers agree

abbrev Agree : Bounds → List Bounds → List Bounds → List (Found Spread) → Cover → Type 0
Agree s bs before xs cover.Whole = (distinct s bs xs ≡ all_kept xs) × (is_whole s (before ++ values_of xs) ≡ true)
Agree s bs before xs cover.Missing = (distinct s bs xs ≡ all_kept xs) × (is_whole s (before ++ values_of xs) ≡ false)
Agree s bs before xs (cover.Outside k) = (done : Found (List Bounds)) → IsNot (all_onto done (distinct s bs xs))
Agree s bs before xs (cover.Twice k) = (done : Found (List Bounds)) → IsNot (all_onto done (distinct s bs xs))

whole_sized : (s : Bounds) (before : List Bounds) → AtMostOnce s.first s.last before → is_whole s before ≡ is_full s.first s.last before
whole_sized s before a =
    ap (λ (n : ℤ). int_eq n (size s)) (sizes_is before)
    ∙ ap (λ (n : ℤ). int_eq (walked.sizes before) n) (size_is s)
    ∙ sym (full_sized s.first s.last before a)

at_end : (s : Bounds) (bs before : List Bounds) → AtMostOnce s.first s.last before → Agree s bs before [] (cond (is_full s.first s.last before) cover.Whole cover.Missing)
at_end s bs before a =
    let e : is_whole s (before ++ []) ≡ is_full s.first s.last before = ap (is_whole s) (append-nil before) ∙ whole_sized s before a in
    by_cases (is_full s.first s.last before)
    (λ f. subst (λ (x : Bool). Agree s bs before [] (cond x cover.Whole cover.Missing)) (sym f) (refl, e ∙ f))
    (λ f. subst (λ (x : Bool). Agree s bs before [] (cond x cover.Whole cover.Missing)) (sym f) (refl, e ∙ f))

past_unknown : (s : Bounds) (bs before : List Bounds) (xs : List (Found Spread)) (c : Cover) → Agree s bs before xs c → Agree s bs before (Unknown ∷ xs) c
past_unknown s bs before xs cover.Whole h = (ap (λ (ys : List (Found Bounds)). Unknown ∷ ys) h.0, h.1)
past_unknown s bs before xs cover.Missing h = (ap (λ (ys : List (Found Bounds)). Unknown ∷ ys) h.0, h.1)
past_unknown s bs before xs (cover.Outside k) h = λ done. h (added done Unknown)
past_unknown s bs before xs (cover.Twice k) h = λ done. h (added done Unknown)

past_refused : (s : Bounds) (bs before : List Bounds) (f : Refusal) (xs : List (Found Spread)) (c : Cover) → Agree s bs before xs c → Agree s bs before (Refused f ∷ xs) c
past_refused s bs before f xs cover.Whole h = (ap (λ (ys : List (Found Bounds)). Refused f ∷ ys) h.0, h.1)
past_refused s bs before f xs cover.Missing h = (ap (λ (ys : List (Found Bounds)). Refused f ∷ ys) h.0, h.1)
past_refused s bs before f xs (cover.Outside k) h = λ done. h (added done (Refused f))
past_refused s bs before f xs (cover.Twice k) h = λ done. h (added done (Refused f))

abbrev first_new : Bounds → List Bounds → Spread → List (Found Spread) → Bool → List (Found Bounds)
first_new s bs x xs n = unless n L21 x.place x.values ∷ distinct s (x.values ∷ bs) xs

past_new : (s : Bounds) (bs before : List Bounds) (x : Spread) (xs : List (Found Spread)) (c : Cover) → new_values s bs x.values ≡ true
    → Agree s (x.values ∷ bs) (before ++ x.values ∷ []) xs c → Agree s bs before (Is x ∷ xs) c
past_new s bs before x xs cover.Whole n h = (
  ap (first_new s bs x xs) n ∙ ap (λ (ys : List (Found Bounds)). Is x.values ∷ ys) h.0,
  ap (is_whole s) (sym (append_assoc before (x.values ∷ []) (values_of xs))) ∙ h.1,
)
past_new s bs before x xs cover.Missing n h = (
  ap (first_new s bs x xs) n ∙ ap (λ (ys : List (Found Bounds)). Is x.values ∷ ys) h.0,
  ap (is_whole s) (sym (append_assoc before (x.values ∷ []) (values_of xs))) ∙ h.1,
)
past_new s bs before x xs (cover.Outside k) n h = λ done.
    subst (λ (ys : List (Found Bounds)). IsNot (all_onto done ys)) (sym (ap (first_new s bs x xs) n)) (h (added done (Is x.values)))
past_new s bs before x xs (cover.Twice k) n h = λ done.
    subst (λ (ys : List (Found Bounds)). IsNot (all_onto done ys)) (sym (ap (first_new s bs x xs) n)) (h (added done (Is x.values)))

not_new : (s : Bounds) (bs : List Bounds) (x : Spread) (xs : List (Found Spread)) (done : Found (List Bounds)) → new_values s bs x.values ≡ false → IsNot (all_onto done (distinct s bs (Is x ∷ xs)))
not_new s bs x xs done n =
    subst (λ (ys : List (Found Bounds)). IsNot (all_onto done ys)) (sym (ap (first_new s bs x xs) n))
    (all_stays (added done (unless false L21 x.place x.values)) (distinct s (x.values ∷ bs) xs) (refused_is_not done (record { code = L21; place = x.place })))

not_true : (x : Bool) → not x ≡ false → x ≡ true
not_true true h = refl
not_true false h = absurd (cc)

not_false : (x : Bool) → not x ≡ true → x ≡ false
not_false true h = absurd (cc)
not_false false h = refl

agree : (s : Bounds) (bs before : List Bounds) (xs : List (Found Spread)) → IsSame bs before → AtMostOnce s.first s.last before
    → Agree s bs before xs (covering_after before s.first s.last (values_of xs))
agree s bs before [] e a = at_end s bs before a
agree s bs before (Unknown ∷ xs) e a = past_unknown s bs before xs (covering_after before s.first s.last (values_of xs)) (agree s bs before xs e a)
agree s bs before (Refused f ∷ xs) e a = past_refused s bs before f xs (covering_after before s.first s.last (values_of xs)) (agree s bs before xs e a)
agree s bs before (Is x ∷ xs) e a =
    let b : Bounds = x.values in
    let n : new_values s bs b ≡ (fits_in s.first s.last b && not (meets_any b before)) = new_same s b bs before e ∙ new_is s before b in
    let next : Cover = covering_after (before ++ b ∷ []) s.first s.last (values_of xs) in
    let inner : Bool → Cover = λ y. cond y (cover.Twice (length before)) next in
    let P : Cover → Type 0 = Agree s bs before (Is x ∷ xs) in
    by_cases (not (fits_in s.first s.last b))
    (λ f. subst (λ (y : Bool). P (cond y (cover.Outside (length before)) (inner (meets_any b before)))) (sym f)
    (λ done. not_new s bs x xs done (n ∙ ap (λ (y : Bool). y && not (meets_any b before)) (not_false (fits_in s.first s.last b) f))))
    (λ f. subst (λ (y : Bool). P (cond y (cover.Outside (length before)) (inner (meets_any b before)))) (sym f)
    (by_cases (meets_any b before)
    (λ m. subst (λ (y : Bool). P (inner y)) (sym m)
    (λ done. not_new s bs x xs done (n ∙ ap (λ (y : Bool). y && not (meets_any b before)) (not_true (fits_in s.first s.last b) f) ∙ ap not m)))
    (λ m. subst (λ (y : Bool). P (inner y)) (sym m)
    (past_new s bs before x xs next (n ∙ ap (λ (y : Bool). y && not (meets_any b before)) (not_true (fits_in s.first s.last b) f) ∙ ap not m)
    (agree s (b ∷ bs) (before ++ b ∷ []) xs (one_same bs before b e) (one_more s.first s.last before b a (not_true (fits_in s.first s.last b) f) m))))))

-- ---- the whole

or_true : (x : Bool) → x || true ≡ true
or_true true = refl
or_true false = refl

or_false : (x : Bool) → x || false ≡ x
or_false true = refl
or_false false = refl

then_whole : (p : Place) (s : Bounds) (others : Bool) (bs : List Bounds) (t : Found (Unit {0})) → found_then (if_heard t bs) (covered p s others) ≡ covered_where p (others || is_whole s bs) t
then_whole p s others bs (Refused f) = refl
then_whole p s others bs Unknown = refl
then_whole p s others bs (Is u) = refl

then_not : (p : Place) (s : Bounds) (others : Bool) (d : Found (List Bounds)) → IsNot d → found_then d (covered p s others) ≡ covered_where p true (heard d)
then_not p s others (Refused f) h = refl
then_not p s others Unknown h = refl
then_not p s others (Is bs) h = absurd h

kept_all : (xs : List (Found Spread)) → all_of (all_kept xs) ≡ if_heard (heard_after (Is tt) xs) (values_of xs)
kept_all xs = kept_onto (Is tt) [] xs ∙ ap (if_heard (heard_after (Is tt) xs)) (known_is [] xs)

none_same : IsSame [] []
none_same r = refl

told : (p : Place) (s : Bounds) (others : Bool) (xs : List (Found Spread)) (c : Cover) → Agree s [] [] xs c → cover_read p others s xs c ≡ cover_by p others (Some s) xs
told p s others xs cover.Whole h =
    sym (ap (λ (ys : List (Found Bounds)). found_then (all_of ys) (covered p s others)) h.0
    ∙ ap (λ (d : Found (List Bounds)). found_then d (covered p s others)) (kept_all xs)
    ∙ then_whole p s others (values_of xs) (heard_after (Is tt) xs)
    ∙ ap (λ (y : Bool). covered_where p (others || y) (heard_after (Is tt) xs)) h.1
    ∙ ap (λ (y : Bool). covered_where p y (heard_after (Is tt) xs)) (or_true others))
told p s others xs cover.Missing h =
    sym (ap (λ (ys : List (Found Bounds)). found_then (all_of ys) (covered p s others)) h.0
    ∙ ap (λ (d : Found (List Bounds)). found_then d (covered p s others)) (kept_all xs)
    ∙ then_whole p s others (values_of xs) (heard_after (Is tt) xs)
    ∙ ap (λ (y : Bool). covered_where p (others || y) (heard_after (Is tt) xs)) h.1
    ∙ ap (λ (y : Bool). covered_where p y (heard_after (Is tt) xs)) (or_false others))
told p s others xs (cover.Outside k) h =
    sym (then_not p s others (all_of (distinct s [] xs)) (h (Is [])) ∙ ap (covered_where p true) (judged_is s [] [] (Is []) xs none_same))
told p s others xs (cover.Twice k) h =
    sym (then_not p s others (all_of (distinct s [] xs)) (h (Is [])) ∙ ap (covered_where p true) (judged_is s [] [] (Is []) xs none_same))

pub cover_is : (p : Place) (s : Bounds) (others : Bool) (xs : List (Found Spread)) (c : Cover) → c ≡ covering (known_after [] xs) s.first s.last → cover_read p others s xs c ≡ cover_by p others (Some s) xs
cover_is p s others xs c e =
    told p s others xs c
    (subst (Agree s [] [] xs) (sym (e ∙ ap (λ (bs : List Bounds). covering bs s.first s.last) (known_is [] xs))) (agree s [] [] xs none_same (nothing_once s.first s.last)))
