-- Parts whose refusal is the first of their broken rules, and what is found of them.
use Rattle.std.proofs.Common.{◌≡◌, refl, sym, ◌∙◌, ap, List, [], ◌∷◌, ◌++◌, Option, Some, None}
use Rattle.std.specs.Prelude.{ℕ}
use Rattle.ada_values.specs.declared.place.Place.{Place}
use Rattle.front_codes.specs.Codes.{first_of_two}
use Rattle.front_codes.specs.declared.codes.Code.TheVariants as code
use Rattle.front_codes.specs.declared.codes.Refusal.{Refusal}
use Rattle.typed_units.specs.declared.expressions.Expr.{Expr}
use Rattle.typed_units.specs.declared.expressions.ExprNode.{ExprNode}
use Rattle.type_base.specs.Scope.{Scope}
use Rattle.type_base.specs.declared.seen.Seen.{Seen}
use Rattle.type_base.specs.declared.seen.Seen.TheVariants as seen
use Rattle.type_base.specs.declared.seen.Want.{Want}
use Rattle.type_base.specs.Demands.{broken}
use Rattle.type_base.specs.Faults.{First, fault_of, listed}
use Rattle.type_base.specs.Lookups.{type_at}
use Rattle.type_base.proofs.Firsts.{first_listed, merge, step}
use Rattle.typing_rules.specs.declared.prefix.Found.{Found}
use Rattle.typing_rules.specs.declared.prefix.Found.TheVariants as found
use Rattle.typing_rules.specs.declared.prefix.Prefix.{Prefix}
use Rattle.typing_rules.specs.declared.prefix.Prefix.TheVariants as prefix
use Rattle.typing_rules.specs.Faults.{faults_of, own_fault, value_fault, waiting}
use Rattle.typing_rules.specs.Fits.{both, found_fault, refused_beside, seen_then, spoiled, with_found}
use Rattle.typing_rules.specs.Lookups.{seen_as, seen_by}
use Rattle.typing_rules.specs.Parts.{Arg, Arm, Choice, Form, Operand, Range, Suffix, applied, attribute, between, binary, choose, group, member, name, null, number, others, qualified, quantified, range_attribute, selected, single, unary}
use Rattle.typing_rules.specs.Ranges.{found_expr}
use Rattle.typing_rules.specs.Values.{place_of, prefix_fault, seen_of, value_of}
use Rattle.typing_laws.proofs.Merging.{first_after, first_alone, first_as, first_within, merge_itself, merge_later, merge_swapped}

-- ---- parts

-- in each context what is refused of an operand is the first of its broken rules
abbrev pub IsFirst : Operand → Type 0
IsFirst o = (w : Want) → First (prefix_fault (o.prefix w)) (o.faults w)

abbrev pub MaybeFirst : Option Operand → Type 0
MaybeFirst None = Unit {0}
MaybeFirst (Some o) = IsFirst o

abbrev pub ChoiceFirst : Choice → Type 0
ChoiceFirst others = Unit {0}
ChoiceFirst (single o) = IsFirst o
ChoiceFirst (between l h) = IsFirst l × IsFirst h

abbrev pub ArgsFirst : List Arg → Type 0
ArgsFirst [] = Unit {0}
ArgsFirst (a ∷ as') = (ChoiceFirst a.choice × MaybeFirst a.value) × ArgsFirst as'

abbrev pub RangeFirst : Range → Type 0
RangeFirst g = IsFirst g.low × MaybeFirst g.high

abbrev pub SuffixFirst : Suffix → Type 0
SuffixFirst (selected at) = Unit {0}
SuffixFirst (attribute t at) = Unit {0}
SuffixFirst (range_attribute t) = Unit {0}
SuffixFirst (qualified t as') = ArgsFirst as'
SuffixFirst (applied as') = ArgsFirst as'

abbrev pub SuffixesFirst : List Suffix → Type 0
SuffixesFirst [] = Unit {0}
SuffixesFirst (s ∷ ss) = SuffixFirst s × SuffixesFirst ss

abbrev pub ArmsFirst : List Arm → Type 0
ArmsFirst [] = Unit {0}
ArmsFirst (a ∷ as') = (IsFirst a.condition × IsFirst a.gives) × ArmsFirst as'

abbrev pub FormFirst : Form → Type 0
FormFirst (number n) = Unit {0}
FormFirst null = Unit {0}
FormFirst (name i ss) = SuffixesFirst ss
FormFirst (group as') = ArgsFirst as'
FormFirst (unary o a) = IsFirst a
FormFirst (binary t o a b) = IsFirst a × IsFirst b
FormFirst (member b a g) = IsFirst a × RangeFirst g
FormFirst (choose as' e) = ArmsFirst as' × MaybeFirst e
FormFirst (quantified q at g f) = RangeFirst g × ((k : ℕ) → IsFirst (f k))

-- ---- values

seen_is : (c : Scope) (p : Place) (f : Prefix) → fault_of (value_of c p f) ≡ merge (prefix_fault f) (value_fault c p f)
seen_is c p prefix.Package = refl
seen_is c p (prefix.Subtype k) = refl
seen_is c p (prefix.Routine q) = refl
seen_is c p (prefix.Called q (found.Refused g)) = merge_swapped (Some (broken code.L12 p)) (Some g)
seen_is c p (prefix.Called q found.Unknown) = refl
seen_is c p (prefix.Called q (found.Is as')) = refl
seen_is c p (prefix.Mapping m t k) = refl
seen_is c p (prefix.Range b) = refl
seen_is c p (prefix.Constant t x) = refl
seen_is c p (prefix.Part g) = refl
seen_is c p (prefix.Value (seen.Refused f)) = refl
seen_is c p (prefix.Value seen.Unknown) = refl
seen_is c p (prefix.Value (seen.Number n)) = refl
seen_is c p (prefix.Value (seen.Typed t x)) = refl

pub operand_first : (c : Scope) (o : Operand) (w : Want) → IsFirst o → First (fault_of (seen_of c o w)) (faults_of c o w)
operand_first c o w h =
    step (prefix_fault (o.prefix w)) (value_fault c (place_of c o) (o.prefix w)) (fault_of (seen_of c o w)) (o.faults w) (seen_is c (place_of c o) (o.prefix w)) (h w)

seen_by_is : (p : Place) (k : ℕ) (n : ExprNode Expr) (m : Option ℕ) → fault_of (seen_by p k n m) ≡ None
seen_by_is p k n (Some t) = refl
seen_by_is p k n None = refl

pub seen_as_is : (c : Scope) (p : Place) (k : ℕ) (n : ExprNode Expr) → fault_of (seen_as c p k n) ≡ None
seen_as_is c p k n = seen_by_is p k n (type_at c.world k)

-- ---- what is found

pub both_is : {A : Type 0} → {B : Type 0} → {C : Type 0} → (f : A → B → C) (a : Found A) (b : Found B) → found_fault (both f a b) ≡ merge (found_fault a) (found_fault b)
both_is f (found.Refused g) (found.Refused h) = refl
both_is f (found.Refused g) found.Unknown = refl
both_is f (found.Refused g) (found.Is b) = refl
both_is f found.Unknown (found.Refused h) = refl
both_is f found.Unknown found.Unknown = refl
both_is f found.Unknown (found.Is b) = refl
both_is f (found.Is a) (found.Refused h) = refl
both_is f (found.Is a) found.Unknown = refl
both_is f (found.Is a) (found.Is b) = refl

pub with_found_is : {A : Type 0} → {B : Type 0} → (f : A → B) (a : Found A) → found_fault (with_found f a) ≡ found_fault a
with_found_is f (found.Refused g) = refl
with_found_is f found.Unknown = refl
with_found_is f (found.Is a) = refl

pub spoiled_is : {A : Type 0} → (a : Found A) (f : Refusal) → found_fault (spoiled a f) ≡ merge (found_fault a) (Some f)
spoiled_is (found.Refused g) f = merge_swapped (Some f) (Some g)
spoiled_is found.Unknown f = refl
spoiled_is (found.Is a) f = refl

pub seen_then_is : {A : Type 0} → (x : Found A) (f : A → Seen) → ((a : A) → fault_of (f a) ≡ None) → fault_of (seen_then x f) ≡ found_fault x
seen_then_is (found.Refused g) f h = refl
seen_then_is found.Unknown f h = refl
seen_then_is (found.Is a) f h = h a

pub found_expr_is : (s : Seen) → found_fault (found_expr s) ≡ fault_of s
found_expr_is (seen.Refused f) = refl
found_expr_is seen.Unknown = refl
found_expr_is (seen.Number n) = refl
found_expr_is (seen.Typed t x) = refl

pub beside_is : (f : Refusal) (s : Seen) → fault_of (refused_beside f s) ≡ merge (Some f) (fault_of s)
beside_is f (seen.Refused g) = refl
beside_is f seen.Unknown = refl
beside_is f (seen.Number n) = refl
beside_is f (seen.Typed t x) = refl

-- ---- demands that wait

-- what is refused of a part is what is refused of the whole
abbrev pub Waits : Seen → Option Refusal → Type 0
Waits (seen.Refused f) u = u ≡ Some f
Waits seen.Unknown u = Unit {0}
Waits (seen.Number n) u = Unit {0}
Waits (seen.Typed t x) u = Unit {0}

pub waiting_first : (s : Seen) (u : Option Refusal) (fs : List Refusal) → Waits s u → First (fault_of s) fs → First u (fs ++ waiting s u)
waiting_first (seen.Refused f) u fs e h = first_as u (Some f) (fs ++ []) e (first_alone (Some f) fs h)
waiting_first seen.Unknown u fs e h = first_after u fs (listed u) h (first_listed u)
waiting_first (seen.Number n) u fs e h = first_after u fs (listed u) h (first_listed u)
waiting_first (seen.Typed t x) u fs e h = first_after u fs (listed u) h (first_listed u)

pub waits_as : (s : Seen) (u v : Option Refusal) → u ≡ v → Waits s v → Waits s u
waits_as (seen.Refused f) u v e h = e ∙ h
waits_as seen.Unknown u v e h = tt
waits_as (seen.Number n) u v e h = tt
waits_as (seen.Typed t x) u v e h = tt

pub waits_merged : (s : Seen) (u : Option Refusal) → Waits s u → merge (fault_of s) u ≡ u
waits_merged (seen.Refused f) u e = ap (merge (Some f)) e ∙ merge_itself (Some f) ∙ sym e
waits_merged seen.Unknown u e = refl
waits_merged (seen.Number n) u e = refl
waits_merged (seen.Typed t x) u e = refl

-- what is refused of a name so far is refused of what is made of it, or is told besides
abbrev pub Keeps : Prefix → Option Refusal → Type 0
Keeps (prefix.Value s) u = Waits s u
Keeps (prefix.Called q as') u = merge (found_fault as') u ≡ u
Keeps f u = Unit {0}

pub keeps_merged : (f : Prefix) (u : Option Refusal) → Keeps f u → merge (prefix_fault f) u ≡ u
keeps_merged prefix.Package u h = refl
keeps_merged (prefix.Subtype k) u h = refl
keeps_merged (prefix.Routine q) u h = refl
keeps_merged (prefix.Called q as') u h = h
keeps_merged (prefix.Mapping m t k) u h = refl
keeps_merged (prefix.Range b) u h = refl
keeps_merged (prefix.Constant t x) u h = refl
keeps_merged (prefix.Part g) u h = refl
keeps_merged (prefix.Value s) u h = waits_merged s u h

pub own_first : (f : Prefix) (u : Option Refusal) (fs : List Refusal) → Keeps f u → First (prefix_fault f) fs → First u (fs ++ own_fault f u)
own_first prefix.Package u fs h i = first_within None u fs i refl
own_first (prefix.Subtype k) u fs h i = first_within None u fs i refl
own_first (prefix.Routine q) u fs h i = first_within None u fs i refl
own_first (prefix.Called q as') u fs h i = first_within (found_fault as') u fs i h
own_first (prefix.Mapping m t k) u fs h i = first_within None u fs i refl
own_first (prefix.Range b) u fs h i = first_within None u fs i refl
own_first (prefix.Constant t x) u fs h i = first_within None u fs i refl
own_first (prefix.Part g) u fs h i = first_within None u fs i refl
own_first (prefix.Value s) u fs h i = waiting_first s u fs h i

-- what is made of a name keeps what is refused in it, where that is so of a value, and of a procedure's call where its value is told
pub keeps_by : (p : Place) (u : Prefix → Option Refusal) → ((g : Refusal) → u (prefix.Value (seen.Refused g)) ≡ Some g) → ((q : ℕ) (g : Refusal) → u (prefix.Called q (found.Refused g)) ≡ Some (first_of_two (broken code.L12 p) g))
    → (f : Prefix) → Keeps f (u f)
keeps_by p u h i prefix.Package = tt
keeps_by p u h i (prefix.Subtype k) = tt
keeps_by p u h i (prefix.Routine q) = tt
keeps_by p u h i (prefix.Called q (found.Refused g)) = ap (merge (Some g)) (i q g) ∙ merge_later (Some g) (Some (broken code.L12 p)) ∙ sym (i q g)
keeps_by p u h i (prefix.Called q found.Unknown) = refl
keeps_by p u h i (prefix.Called q (found.Is as')) = refl
keeps_by p u h i (prefix.Mapping m t k) = tt
keeps_by p u h i (prefix.Range b) = tt
keeps_by p u h i (prefix.Constant t x) = tt
keeps_by p u h i (prefix.Part g) = tt
keeps_by p u h i (prefix.Value (seen.Refused g)) = h g
keeps_by p u h i (prefix.Value seen.Unknown) = tt
keeps_by p u h i (prefix.Value (seen.Number n)) = tt
keeps_by p u h i (prefix.Value (seen.Typed t x)) = tt
