-- What stands in parentheses after a name: conversions, calls, indexes and arguments of attributes.
use Rattle.std.proofs.Common.{◌≡◌, refl, sym, ◌∙◌, ap, subst, Bool, true, false, List, [], ◌∷◌, ◌++◌, Option, Some, None}
use Rattle.std.specs.Prelude.{ℕ}
use Rattle.ada_values.specs.declared.place.Place.{Place}
use Rattle.front_codes.specs.declared.codes.Code.{Code}
use Rattle.front_codes.specs.declared.codes.Code.TheVariants as code
use Rattle.front_codes.specs.declared.codes.Refusal.{Refusal}
use Rattle.typed_units.specs.declared.expressions.Argument.{Argument}
use Rattle.typed_units.specs.declared.expressions.Expr.{Expr}
use Rattle.typed_units.specs.declared.expressions.ExprNode.TheVariants as node
use Rattle.typed_units.specs.declared.expressions.Indexed.{Indexed}
use Rattle.type_base.specs.Scope.{Scope}
use Rattle.type_base.specs.declared.seen.Seen.{Seen}
use Rattle.type_base.specs.declared.seen.Seen.TheVariants as seen
use Rattle.type_base.specs.declared.seen.Want.{Want}
use Rattle.type_base.specs.declared.seen.Want.TheVariants as want
use Rattle.type_base.specs.declared.world.Formal.{Formal}
use Rattle.type_base.specs.declared.world.Routine.{Routine}
use Rattle.type_base.specs.declared.world.Subtype.{Subtype}
use Rattle.type_base.specs.Demands.{broken, made, subtype_of}
use Rattle.type_base.specs.Faults.{First, fault, fault_of, listed}
use Rattle.type_base.specs.Lookups.{form_in, routine_at, subtype_at, type_at, type_in}
use Rattle.type_base.proofs.Firsts.{first_listed, merge}
use Rattle.typing_rules.specs.declared.prefix.Found.{Found}
use Rattle.typing_rules.specs.declared.prefix.Found.TheVariants as found
use Rattle.typing_rules.specs.declared.prefix.Mapping.{Mapping}
use Rattle.typing_rules.specs.declared.prefix.Mapping.TheVariants as mapping
use Rattle.typing_rules.specs.declared.prefix.Part.{Part}
use Rattle.typing_rules.specs.declared.prefix.Prefix.{Prefix}
use Rattle.typing_rules.specs.declared.prefix.Prefix.TheVariants as prefix
use Rattle.typing_rules.specs.Attributes.{literal, mapped, mapped_by, next_value, position}
use Rattle.typing_rules.specs.Calls.{arguments}
use Rattle.typing_rules.specs.Faults.{all_unknown, application_inside, arguments_faults, call_inside, faults_of, function_inside, index_faults, indexes_faults, item_inside, mapped_want, maybe_faults, routine_inside}
use Rattle.typing_rules.specs.Fits.{found_fault, spoiled}
use Rattle.typing_rules.specs.Forms.{application}
use Rattle.typing_rules.specs.Lookups.{Array, array_at, array_in, seen_as, seen_by, type_of}
use Rattle.typing_rules.specs.Names.{after_unknown, alone_by, array_item, call_by, conversion, conversion_of, function_call, index_by, index_of, index_placed, indexed_call, item_of, of_type, of_type_by, only_operand, part_item, routine_call, value_item}
use Rattle.typing_rules.specs.Parts.{Arg, Choice, Operand, between, others, single}
use Rattle.typing_rules.specs.Values.{call_value, formals_of, place_of, prefix_fault, seen_of, value_of}
use Rattle.typing_rules.proofs.Opened.{subtype_made}
use Rattle.typing_laws.proofs.Merging.{first_within, merge_again, merge_itself}
use Rattle.typing_laws.proofs.Operands.{ArgsFirst, ChoiceFirst, IsFirst, MaybeFirst, Waits, operand_first, seen_as_is, seen_then_is, spoiled_is, waits_merged}
use Rattle.typing_laws.proofs.Arguments.{arguments_first}
use Rattle.typing_laws.proofs.Aggregated.{unknown_first}

-- ---- what is told besides what is refused inside

pub inside_as : (u v : Option Refusal) (xs : List Refusal) → u ≡ v → First v (xs ++ listed v) → First u (xs ++ listed u)
inside_as u v xs e h = subst (λ (z : Option Refusal). First z (xs ++ listed z)) (sym e) h

pub inside_waits : (c : Scope) (o : Operand) (w : Want) (u : Option Refusal) → IsFirst o → Waits (seen_of c o w) u → First u (faults_of c o w ++ listed u)
inside_waits c o w u h i = first_within (fault_of (seen_of c o w)) u (faults_of c o w) (operand_first c o w h) (waits_merged (seen_of c o w) u i)

pub inside_same : (u : Option Refusal) (xs : List Refusal) → First u xs → First u (xs ++ listed u)
inside_same u xs h = first_within u u xs h (merge_itself u)

-- ---- the only argument

alone_first : (h : Choice) (v : Option Operand) (as' : List Arg) → ChoiceFirst h → MaybeFirst (alone_by h v as')
alone_first (single o) None [] i = i
alone_first (single o) None (a ∷ as') i = tt
alone_first (single o) (Some v) as' i = tt
alone_first others v as' i = tt
alone_first (between l h) v as' i = tt

pub only_first : (as' : List Arg) → ArgsFirst as' → MaybeFirst (only_operand as')
only_first [] h = tt
only_first (a ∷ as') h = alone_first a.choice a.value as' h.0.0

-- ---- conversions

conversion_waits : (c : Scope) (p : Place) (k : ℕ) (q : Place) (s : Seen) → Waits s (fault_of (conversion c p k q s))
conversion_waits c p k q (seen.Refused f) = refl
conversion_waits c p k q seen.Unknown = tt
conversion_waits c p k q (seen.Number n) = tt
conversion_waits c p k q (seen.Typed t x) = tt

conversion_first : (c : Scope) (p : Place) (k : ℕ) (o : Option Operand) → MaybeFirst o → First (fault_of (conversion_of c p k o)) (maybe_faults c o want.Free ++ listed (fault_of (conversion_of c p k o)))
conversion_first c p k (Some o) h = inside_waits c o want.Free (fault_of (conversion_of c p k (Some o))) h (conversion_waits c p k (place_of c o) (seen_of c o want.Free))
conversion_first c p k None h = first_listed (fault code.L18 p)

-- ---- arguments of attributes

of_type_kept : (c : Scope) (r : Code) (m : Option ℕ) (q : Place) (f : Refusal) → of_type_by c r m q (seen.Refused f) ≡ seen.Refused f
of_type_kept c r None q f = refl
of_type_kept c r (Some t) q f = refl

next_waits : (c : Scope) (p : Place) (up : Bool) (t : Place) (k : ℕ) (q : Place) (s : Seen) → Waits s (fault_of (next_value c p up t k (of_type c code.L11 k q s)))
next_waits c p up t k q (seen.Refused f) = ap (λ (z : Seen). fault_of (next_value c p up t k z)) (of_type_kept c code.L11 (type_at c.world k) q f)
next_waits c p up t k q seen.Unknown = tt
next_waits c p up t k q (seen.Number n) = tt
next_waits c p up t k q (seen.Typed u x) = tt

position_waits : (c : Scope) (p : Place) (k : ℕ) (q : Place) (s : Seen) → Waits s (fault_of (position c p (of_type c code.L11 k q s)))
position_waits c p k q (seen.Refused f) = ap (λ (z : Seen). fault_of (position c p z)) (of_type_kept c code.L11 (type_at c.world k) q f)
position_waits c p k q seen.Unknown = tt
position_waits c p k q (seen.Number n) = tt
position_waits c p k q (seen.Typed u x) = tt

literal_waits : (c : Scope) (p : Place) (k : ℕ) (q : Place) (s : Seen) → Waits s (fault_of (literal c p k q s))
literal_waits c p k q (seen.Refused f) = refl
literal_waits c p k q seen.Unknown = tt
literal_waits c p k q (seen.Number n) = tt
literal_waits c p k q (seen.Typed u x) = tt

mapped_by_first : (c : Scope) (p : Place) (m : Mapping) (t : Place) (k : ℕ) (o : Operand) → IsFirst o → First (fault_of (mapped_by c p m t k o)) (faults_of c o (mapped_want c m k) ++ listed (fault_of (mapped_by c p m t k o)))
mapped_by_first c p mapping.Succ t k o h =
    let w = want.Subtype (type_of c.world k) in inside_waits c o w (fault_of (mapped_by c p mapping.Succ t k o)) h (next_waits c p true t k (place_of c o) (seen_of c o w))
mapped_by_first c p mapping.Pred t k o h =
    let w = want.Subtype (type_of c.world k) in inside_waits c o w (fault_of (mapped_by c p mapping.Pred t k o)) h (next_waits c p false t k (place_of c o) (seen_of c o w))
mapped_by_first c p mapping.Pos t k o h =
    let w = want.Subtype (type_of c.world k) in inside_waits c o w (fault_of (mapped_by c p mapping.Pos t k o)) h (position_waits c p k (place_of c o) (seen_of c o w))
mapped_by_first c p mapping.Val t k o h =
    inside_waits c o want.Free (fault_of (mapped_by c p mapping.Val t k o)) h (literal_waits c p (type_of c.world k) (place_of c o) (seen_of c o want.Free))

mapped_first : (c : Scope) (p : Place) (m : Mapping) (t : Place) (k : ℕ) (o : Option Operand) → MaybeFirst o → First (fault_of (mapped c p m t k o)) (maybe_faults c o (mapped_want c m k) ++ listed (fault_of (mapped c p m t k o)))
mapped_first c p m t k (Some o) h = mapped_by_first c p m t k o h
mapped_first c p m t k None h = first_listed (fault code.L10 p)

-- ---- indexes

index_waits : (c : Scope) (a : Array) (q : Place) (s : Seen) → Waits s (found_fault (index_placed c a.bounds (of_type c code.L14 a.index q s)))
index_waits c a q (seen.Refused f) = ap (λ (z : Seen). found_fault (index_placed c a.bounds z)) (of_type_kept c code.L14 (type_at c.world a.index) q f)
index_waits c a q seen.Unknown = tt
index_waits c a q (seen.Number n) = tt
index_waits c a q (seen.Typed t x) = tt

index_first : (c : Scope) (a : Array) (q : Place) (o : Option Operand) → MaybeFirst o → First (found_fault (index_by c a q o)) (index_faults c (Some a) o ++ listed (found_fault (index_by c a q o)))
index_first c a q (Some o) h =
    let w = want.Subtype a.index in inside_waits c o w (found_fault (index_by c a q (Some o))) h (index_waits c a (place_of c o) (seen_of c o w))
index_first c a q None h = first_listed (fault code.L14 q)

spoiled_merged : {A : Type 0} → (s : Seen) (x : Found A) (r : Refusal) → Waits s (found_fault x) → merge (fault_of s) (found_fault (spoiled x r)) ≡ found_fault (spoiled x r)
spoiled_merged (seen.Refused f) x r h =
    let e = spoiled_is x r ∙ ap (λ (z : Option Refusal). merge z (Some r)) h in ap (merge (Some f)) e ∙ merge_again (Some f) (Some r) ∙ sym e
spoiled_merged seen.Unknown x r h = refl
spoiled_merged (seen.Number n) x r h = refl
spoiled_merged (seen.Typed t y) x r h = refl

two_indexes_first : (c : Scope) (a : Array) (q : Place) (r : Refusal) (o : Option Operand) → MaybeFirst o
    → First (found_fault (spoiled (index_by c a q o) r)) (index_faults c (Some a) o ++ listed (found_fault (spoiled (index_by c a q o) r)))
two_indexes_first c a q r (Some o) h =
    let w = want.Subtype a.index in
    let s = seen_of c o w in
    let x = index_by c a q (Some o) in
    first_within (fault_of s) (found_fault (spoiled x r)) (faults_of c o w) (operand_first c o w h) (spoiled_merged s x r (index_waits c a (place_of c o) s))
two_indexes_first c a q r None h = first_listed (found_fault (spoiled (index_by c a q None) r))

index_of_first : (c : Scope) (p : Place) (a : Array) (as' : List Arg) → ArgsFirst as' → First (found_fault (index_of c p a as')) (indexes_faults c (Some a) as' ++ listed (found_fault (index_of c p a as')))
index_of_first c p a [] h = first_listed (fault code.L14 p)
index_of_first c p a (i ∷ []) h = index_first c a (c.place i.from) (only_operand (i ∷ [])) (only_first (i ∷ []) (h.0, tt))
index_of_first c p a (i ∷ j ∷ js) h = two_indexes_first c a (c.place i.from) (broken code.L14 (c.place j.from)) (only_operand (i ∷ [])) (only_first (i ∷ []) (h.0, tt))

-- where there is no array, nothing is looked at
no_array_first : (c : Scope) (u : Option Refusal) (as' : List Arg) → First u (indexes_faults c None as' ++ listed u)
no_array_first c u [] = first_listed u
no_array_first c u (i ∷ is) = first_listed u

item_of_is : (g : Part) (a : Array) (x : Found (Indexed Expr)) → prefix_fault (item_of g a x) ≡ found_fault x
item_of_is g a (found.Refused f) = refl
item_of_is g a found.Unknown = refl
item_of_is g a (found.Is i) = refl

part_item_first : (c : Scope) (p : Place) (g : Part) (as' : List Arg) (m : Option Array) → ArgsFirst as' → First (prefix_fault (part_item c p g as' m)) (indexes_faults c m as' ++ listed (prefix_fault (part_item c p g as' m)))
part_item_first c p g as' (Some a) h =
    inside_as (prefix_fault (part_item c p g as' (Some a))) (found_fault (index_of c p a as')) (indexes_faults c (Some a) as') (item_of_is g a (index_of c p a as')) (index_of_first c p a as' h)
part_item_first c p g as' None h = no_array_first c (fault code.L14 p) as'

array_item_first : (c : Scope) (p : Place) (x : Expr) (as' : List Arg) (m : Option Array) → ArgsFirst as' → First (fault_of (array_item c p x as' m)) (indexes_faults c m as' ++ listed (fault_of (array_item c p x as' m)))
array_item_first c p x as' (Some a) h =
    inside_as (fault_of (array_item c p x as' (Some a))) (found_fault (index_of c p a as')) (indexes_faults c (Some a) as')
    (seen_then_is (index_of c p a as') (λ i. seen_as c p a.item (node.Item x i)) (λ i. seen_as_is c p a.item (node.Item x i))) (index_of_first c p a as' h)
array_item_first c p x as' None h = no_array_first c (fault code.L14 p) as'

value_item_first : (c : Scope) (p : Place) (as' : List Arg) (s : Seen) → ArgsFirst as' → First (fault_of (value_item c p as' s)) (item_inside c as' s ++ listed (fault_of (value_item c p as' s)))
value_item_first c p as' (seen.Refused f) h = first_listed (Some f)
value_item_first c p as' seen.Unknown h = inside_same (fault_of (after_unknown c as')) (all_unknown c as') (unknown_first c as' h)
value_item_first c p as' (seen.Number n) h = first_listed (fault code.L14 p)
value_item_first c p as' (seen.Typed t x) h = array_item_first c p x as' (array_at c.world (subtype_of x)) h

-- ---- calls

call_value_is : (c : Scope) (p : Place) (q k : ℕ) (x : Found (List (Argument Expr))) → fault_of (call_value c p q (Some k) x) ≡ found_fault x
call_value_is c p q k x = seen_then_is x (λ as'. seen_as c p k (node.Call p q as')) (λ as'. seen_as_is c p k (node.Call p q as'))

-- the value of a function without formals, which is an array
array_call_first : (c : Scope) (p : Place) (q k t : ℕ) (as' : List Arg) (a : Array) → ArgsFirst as' → type_at c.world k ≡ Some t → array_at c.world k ≡ Some a
    → First (fault_of (indexed_call c p q (Some k) as')) (indexes_faults c (Some a) as' ++ listed (fault_of (indexed_call c p q (Some k) as')))
array_call_first c p q k t as' a h e d =
    let n = node.Call p q [] in
    let x = made p k n in
    inside_as (fault_of (indexed_call c p q (Some k) as')) (fault_of (array_item c p x as' (Some a))) (indexes_faults c (Some a) as')
    (ap (λ (m : Option ℕ). fault_of (value_item c p as' (seen_by p k n m))) e
    ∙ ap (λ (j : ℕ). fault_of (array_item c p x as' (array_at c.world j))) (subtype_made (record { place = p; subtype = k; node = n }))
    ∙ ap (λ (m : Option Array). fault_of (array_item c p x as' m)) d)
    (array_item_first c p x as' (Some a) h)

abbrev Missing : Option Array → Type 0
Missing None = Unit {0}
Missing (Some a) = ⊥

lone_first : (c : Scope) (p : Place) (q k : ℕ) (as' : List Arg) (m : Option Subtype) (z : Option Array) → ArgsFirst as' → subtype_at c.world k ≡ m → array_in (form_in m) ≡ z
    → First (prefix_fault (function_call c p q k as' [] z)) (indexes_faults c z as' ++ listed (prefix_fault (function_call c p q k as' [] z)))
lone_first c p q k as' m None h e d = no_array_first c (prefix_fault (function_call c p q k as' [] None)) as'
lone_first c p q k as' None (Some a) h e d = absurd (subst Missing d tt)
lone_first c p q k as' (Some s) (Some a) h e d = array_call_first c p q k s.of as' a h (ap type_in e) (ap (λ (z : Option Subtype). array_in (form_in z)) e ∙ d)

function_first : (c : Scope) (p : Place) (q k : ℕ) (as' : List Arg) (fs : List Formal) → ArgsFirst as'
    → First (prefix_fault (function_call c p q k as' fs (array_at c.world k))) (function_inside c p k as' fs ++ listed (prefix_fault (function_call c p q k as' fs (array_at c.world k))))
function_first c p q k as' [] h = lone_first c p q k as' (subtype_at c.world k) (array_at c.world k) h refl refl
function_first c p q k as' (f ∷ fs) h =
    let x = arguments c p (f ∷ fs) [] false (found.Is []) as' in
    let xs = arguments_faults c p (f ∷ fs) [] false as' in
    inside_as (fault_of (call_value c p q (Some k) x)) (found_fault x) xs (call_value_is c p q k x)
    (inside_same (found_fault x) xs (arguments_first c p (f ∷ fs) [] false (found.Is []) as' [] h refl))

call_first : (c : Scope) (p : Place) (q : ℕ) (as' : List Arg) (k : Option ℕ) (fs : List Formal) → ArgsFirst as' → First (prefix_fault (call_by c p q as' k fs)) (call_inside c p as' k fs ++ listed (prefix_fault (call_by c p q as' k fs)))
call_first c p q as' (Some k) fs h = function_first c p q k as' fs h
call_first c p q as' None fs h =
    inside_same (found_fault (arguments c p fs [] false (found.Is []) as')) (arguments_faults c p fs [] false as') (arguments_first c p fs [] false (found.Is []) as' [] h refl)

routine_first : (c : Scope) (p : Place) (q : ℕ) (as' : List Arg) (m : Option Routine) → ArgsFirst as' → First (prefix_fault (routine_call c p q as' m)) (routine_inside c p as' m ++ listed (prefix_fault (routine_call c p q as' m)))
routine_first c p q as' (Some r) h = call_first c p q as' r.result (formals_of c.world r) h
routine_first c p q as' None h = inside_same (fault_of (after_unknown c as')) (all_unknown c as') (unknown_first c as' h)

-- ---- all of them

pub application_first : (c : Scope) (p : Place) (f : Prefix) (as' : List Arg) → ArgsFirst as' → First (prefix_fault (application c p f as')) (application_inside c p f as' ++ listed (prefix_fault (application c p f as')))
application_first c p prefix.Package as' h = value_item_first c p as' (value_of c p prefix.Package) h
application_first c p (prefix.Subtype k) as' h = conversion_first c p k (only_operand as') (only_first as' h)
application_first c p (prefix.Routine q) as' h = routine_first c p q as' (routine_at c.world q) h
application_first c p (prefix.Called q xs) as' h = value_item_first c p as' (value_of c p (prefix.Called q xs)) h
application_first c p (prefix.Mapping m t k) as' h = mapped_first c p m t k (only_operand as') (only_first as' h)
application_first c p (prefix.Range b) as' h = value_item_first c p as' (value_of c p (prefix.Range b)) h
application_first c p (prefix.Constant t x) as' h = value_item_first c p as' (value_of c p (prefix.Constant t x)) h
application_first c p (prefix.Part g) as' h = part_item_first c p g as' (array_at c.world g.subtype) h
application_first c p (prefix.Value s) as' h = value_item_first c p as' s h
