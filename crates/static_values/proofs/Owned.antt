-- Which components a share is given.
use Rattle.std.proofs.Common.{◌≡◌, refl, drop, ap, ap₂, sym, ◌∙◌, ℕ, zero, suc, ◌+◌, ◌<◌, ◌≤◌, ◌≤ℤ◌, ◌<ℤ◌, ℤ, pos, negsuc, ◌+ℤ◌, ◌-ℤ◌, Bool, true, false, List, [], ◌∷◌, length, get_or, arith, Option, Some, None}
use Rattle.std.specs.Prelude.{if◌then◌else◌, ◌&&◌, ◌++◌, not, nat_lt, replicate, slice_get}
use Rattle.std.specs.Int.{int_max, int_min}
use Rattle.std.specs.Int.RustNames.{int_le}
use Rattle.std.proofs.lemmas.Int.{ints, clamps}
use Rattle.std.proofs.lemmas.List.{drop_more, ext_get_or}
use Rattle.ada_values.specs.Scalars.{within}
use Rattle.typed_units.specs.declared.operators.Bounds.{Bounds}
use Rattle.ada_values.specs.declared.values.Value.{Value}
use Rattle.statement_typing.specs.declared.parts.Share.{Share}
use Rattle.statement_typing.specs.Values.{count_of, in_ranges, share_at, shares_from}
use Rattle.static_values.specs.Owners.{count_in, gives, owned, owner_from, owners_from, value_by, value_in, values_by}

below_count : (z : ℤ) (i : ℕ) → i < count_of z → pos i <ℤ z
below_count (pos n) i h = omega (arith, ints)
below_count (negsuc n) i h = absurd (omega arith)

-- the number of a component
pub below_last : (b : Bounds) (i : ℕ) → i < count_in b → (b.first +ℤ pos i) ≤ℤ b.last
below_last b i h = let e = below_count ((b.last -ℤ b.first) +ℤ pos 1) i h in omega (arith, ints)

next : (n : ℤ) (i : ℕ) → (n +ℤ pos 1) +ℤ pos i ≡ n +ℤ pos (suc i)
next n i = omega (arith, ints)

first : (n : ℤ) → n +ℤ pos 0 ≡ n
first n = omega (arith, ints)

pub length-owned : (k : Option ℕ) (p : ℤ → Bool) (n : ℤ) (os : List (Option ℕ)) → length (owned k p n os) ≡ length os
length-owned k p n [] = refl
length-owned k p n (o ∷ os) = ap suc (length-owned k p (n +ℤ pos 1) os)

pub get_or-owned : (k : Option ℕ) (p : ℤ → Bool) (n : ℤ) (os : List (Option ℕ)) (i : ℕ) (d : Option ℕ) → i < length os → get_or (owned k p n os) i d ≡ (if p (n +ℤ pos i) then k else get_or os i d)
get_or-owned k p n [] i d h = absurd (omega arith)
get_or-owned k p n (o ∷ os) zero d h = ap (λ (m : ℤ). if p m then k else o) (sym (first n))
get_or-owned k p n (o ∷ os) (suc i) d h =
    get_or-owned k p (n +ℤ pos 1) os i d (omega arith) ∙ ap (λ (m : ℤ). if p m then k else get_or os i d) (next n i)

pub none_owned : (k : Option ℕ) (p : ℤ → Bool) (n : ℤ) (os : List (Option ℕ)) → ((i : ℕ) → i < length os → p (n +ℤ pos i) ≡ false) → owned k p n os ≡ os
none_owned k p n [] h = refl
none_owned k p n (o ∷ os) h =
    ap₂ (λ (x : Option ℕ) (xs : List (Option ℕ)). x ∷ xs)
    (ap (λ (m : ℤ). if p m then k else o) (sym (first n)) ∙ ap (λ (b : Bool). if b then k else o) (h 0 (omega arith)))
    (none_owned k p (n +ℤ pos 1) os (λ i l. ap p (next n i) ∙ h (suc i) (omega arith)))

low_in : (a r f : ℤ) (from k : ℕ) → f ≡ int_max r a → pos from ≡ f -ℤ a → int_le r (a +ℤ pos k) ≡ not (nat_lt k from)
low_in a r f from k e h = grind (arith, ints, clamps)

least_in : (x r z l : ℤ) → l ≡ int_min r z → x ≤ℤ z → int_le x r ≡ int_le x l
least_in x r z l e w = grind (arith, ints, clamps)

high_in : (a l : ℤ) (to k : ℕ) → pos to ≡ (l -ℤ a) +ℤ pos 1 → int_le (a +ℤ pos k) l ≡ nat_lt k to
high_in a l to k h = grind (arith, ints)

-- the components in a range, by their numbers from 0
pub places_in : (b r : Bounds) (f l : ℤ) (from to k : ℕ) → f ≡ int_max r.first b.first → l ≡ int_min r.last b.last → pos from ≡ f -ℤ b.first → pos to ≡ (l -ℤ b.first) +ℤ pos 1
    → k < count_in b → within r.first r.last (b.first +ℤ pos k) ≡ (not (nat_lt k from) && nat_lt k to)
places_in b r f l from to k e g h i w =
    ap₂ (λ (x y : Bool). x && y) (low_in b.first r.first f from k e h) (least_in (b.first +ℤ pos k) r.last b.last l g (below_last b k w) ∙ high_in b.first l to k i)

pub no_places : (b r : Bounds) (f l : ℤ) (k : ℕ) → f ≡ int_max r.first b.first → l ≡ int_min r.last b.last → l <ℤ f
    → k < count_in b → within r.first r.last (b.first +ℤ pos k) ≡ (not (nat_lt k 0) && nat_lt k 0)
no_places b r f l k e g h w = let m = below_last b k w in grind (arith, ints, clamps)

count_from : (z : ℤ) → pos 0 ≤ℤ z → pos (count_of z) ≡ z
count_from (pos n) h = refl
count_from (negsuc n) h = absurd (omega (arith, ints))

-- the last of them stands before the end
pub ends_within : (b r : Bounds) (f l : ℤ) (to : ℕ) → f ≡ int_max r.first b.first → l ≡ int_min r.last b.last → f ≤ℤ l → pos to ≡ l -ℤ b.first → to + 1 ≤ count_in b
ends_within b r f l to e g h i =
    let s : b.first ≤ℤ b.last = omega (arith, ints, clamps) in
    let n = count_from ((b.last -ℤ b.first) +ℤ pos 1) (omega (arith, ints)) in omega (arith, ints, clamps)

-- a list with the owner where it is asked for, and else as it was
pub same_owned : (b : Bounds) (k : Option ℕ) (p : ℤ → Bool) (os new : List (Option ℕ)) → length new ≡ length os → ((i : ℕ) → i < length os → get_or new i None ≡ (if p (b.first +ℤ pos i) then k else get_or os i None)) → new ≡ owned k p b.first os
same_owned b k p os new e h =
    ext_get_or None new (owned k p b.first os) (e ∙ sym (length-owned k p b.first os))
    (λ i l. h i (omega (arith, e)) ∙ sym (get_or-owned k p b.first os i None (omega (arith, e))))

-- ---- ranges, and shares

same_asked : (k : Option ℕ) (p q : ℤ → Bool) (n : ℤ) (os : List (Option ℕ)) → ((i : ℕ) → i < length os → p (n +ℤ pos i) ≡ q (n +ℤ pos i)) → owned k p n os ≡ owned k q n os
same_asked k p q n [] h = refl
same_asked k p q n (o ∷ os) h =
    ap₂ (λ (x : Option ℕ) (xs : List (Option ℕ)). x ∷ xs)
    (ap (λ (b : Bool). if b then k else o) (ap p (sym (first n)) ∙ h 0 (omega arith) ∙ ap q (first n)))
    (same_asked k p q (n +ℤ pos 1) os (λ i l. ap p (next n i) ∙ h (suc i) (omega arith) ∙ ap q (sym (next n i))))

twice_owned : (x y : Bool) (k o : Option ℕ) → (if y then k else if x then k else o) ≡ (if (if x then true else y) then k else o)
twice_owned true true k o = refl
twice_owned true false k o = refl
twice_owned false y k o = refl

-- the components in a range, and then those in the others
pub one_range : (k : Option ℕ) (b : Bounds) (bs : List Bounds) (n : ℤ) (os : List (Option ℕ)) → owned k (λ m. in_ranges m bs) n (owned k (within b.first b.last) n os) ≡ owned k (λ m. in_ranges m (b ∷ bs)) n os
one_range k b bs n [] = refl
one_range k b bs n (o ∷ os) =
    ap₂ (λ (x : Option ℕ) (xs : List (Option ℕ)). x ∷ xs) (twice_owned (within b.first b.last n) (in_ranges n bs) k o) (one_range k b bs (n +ℤ pos 1) os)

pub no_range : (k : Option ℕ) (n : ℤ) (os : List (Option ℕ)) → owned k (λ m. in_ranges m []) n os ≡ os
no_range k n [] = refl
no_range k n (o ∷ os) = ap (λ (xs : List (Option ℕ)). o ∷ xs) (no_range k (n +ℤ pos 1) os)

either : (x y : Bool) → y ≡ false → x ≡ (if x then true else y)
either true y e = refl
either false y e = sym e

always : (x y : Bool) → y ≡ true → true ≡ (if x then true else y)
always true y e = refl
always false y e = sym e

in_all : (b : Bounds) (i : ℕ) → i < count_in b → within b.first b.last (b.first +ℤ pos i) ≡ true
in_all b i h = let m = below_last b i h in grind (arith, ints)

-- a share without `others` gives what is in its ranges
pub by_ranges : (k : Option ℕ) (s : Share) (n : ℤ) (os : List (Option ℕ)) → s.others ≡ false → owned k (λ m. in_ranges m s.ranges) n os ≡ owned k (gives s) n os
by_ranges k s n os e = same_asked k (λ m. in_ranges m s.ranges) (gives s) n os (λ i l. either (in_ranges (n +ℤ pos i) s.ranges) s.others e)

-- one with `others` gives all
pub by_others : (k : Option ℕ) (s : Share) (b : Bounds) (os : List (Option ℕ)) → length os ≡ count_in b → s.others ≡ true → owned k (within b.first b.last) b.first os ≡ owned k (gives s) b.first os
by_others k s b os h e =
    same_asked k (within b.first b.last) (gives s) b.first os (λ i l. in_all b i (omega (arith, h)) ∙ always (in_ranges (b.first +ℤ pos i) s.ranges) s.others e)

pub length-owners_from : (k : ℕ) (ss : List Share) (c : ℕ) (n : ℤ) → length (owners_from k ss c n) ≡ c
length-owners_from k ss zero n = refl
length-owners_from k ss (suc c) n = ap suc (length-owners_from k ss c (n +ℤ pos 1))

pub no_share : (k c : ℕ) (n : ℤ) → replicate c None ≡ owners_from k [] c n
no_share k zero n = refl
no_share k (suc c) n = ap (λ (os : List (Option ℕ)). None ∷ os) (no_share k c (n +ℤ pos 1))

-- the shares after one, and then that one
pub one_share : (k : ℕ) (s : Share) (ss : List Share) (c : ℕ) (n : ℤ) → owned (Some k) (gives s) n (owners_from (suc k) ss c n) ≡ owners_from k (s ∷ ss) c n
one_share k s ss zero n = refl
one_share k s ss (suc c) n = ap (λ (os : List (Option ℕ)). (if gives s n then Some k else owner_from (suc k) ss n) ∷ os) (one_share k s ss c (n +ℤ pos 1))

-- ---- the values

chosen : (x y : Bool) (f : Option ℕ → List Value) (k r : Option ℕ) (v t : List Value) → f k ≡ v → f r ≡ t → f (if (if x then true else y) then k else r) ≡ (if x then v else if y then v else t)
chosen true y f k r v t a b = a
chosen false true f k r v t a b = a
chosen false false f k r v t a b = b

value_is : (w : List Share) (k : ℕ) (ss : List Share) (n : ℤ) → ((i : ℕ) → slice_get w (k + i) ≡ slice_get ss i) → value_by w (owner_from k ss n) ≡ share_at n ss
value_is w k [] n h = refl
value_is w k (s ∷ ss) n h =
    chosen (in_ranges n s.ranges) s.others (value_by w) (Some k) (owner_from (suc k) ss n) (s.value ∷ []) (share_at n ss)
    (ap (λ (j : ℕ). value_in (slice_get w j)) (omega arith) ∙ ap value_in (h 0))
    (value_is w (suc k) ss n (λ i. ap (slice_get w) (omega arith) ∙ h (suc i)))

pub values_are : (ss : List Share) (c : ℕ) (n : ℤ) → values_by ss (owners_from 0 ss c n) ≡ shares_from c n ss
values_are ss zero n = refl
values_are ss (suc c) n =
    ap₂ (λ (x y : List Value). x ++ y) (value_is ss 0 ss n (λ i. ap (slice_get ss) (omega arith))) (values_are ss c (n +ℤ pos 1))

-- the owners by the shares from one on
pub before_share : (m left : ℕ) (s : Share) (ss : List Share) (c : ℕ) (n : ℤ) (os new : List (Option ℕ)) → left ≡ m + 1 → m < length ss → s ≡ get_or ss m s → os ≡ owners_from left (drop left ss) c n
    → new ≡ owned (Some m) (gives s) n os → new ≡ owners_from m (drop m ss) c n
before_share m left s ss c n os new e h g i w =
    let t : left ≡ suc m = omega (arith, e) in
    w
    ∙ ap (owned (Some m) (gives s) n) (i ∙ ap₂ (λ (k j : ℕ). owners_from k (drop j ss) c n) t e)
    ∙ one_share m s (drop (m + 1) ss) c n
    ∙ ap (λ (rest : List Share). owners_from m rest c n) (ap (λ (r : Share). r ∷ drop (m + 1) ss) g ∙ sym (drop_more ss m s h))
