-- What is told of parts, as the first of their broken rules, where they are put together.
use Rattle.std.proofs.Common.{◌≡◌, refl, ◌∙◌, List, [], ◌++◌, Some, None}
use Rattle.front_codes.specs.declared.codes.Code.{Code}
use Rattle.front_codes.specs.declared.codes.Refusal.{Refusal}
use Rattle.ada_values.specs.declared.place.Place.{Place}
use Rattle.type_base.specs.Demands as demands
use Rattle.type_base.specs.Faults.{First, fault_of}
use Rattle.type_base.specs.Scope.{Scope}
use Rattle.type_base.specs.declared.seen.Seen.{Seen}
use Rattle.type_base.specs.declared.seen.Seen.TheVariants as seen'
use Rattle.type_base.specs.declared.seen.Want.{Want}
use Rattle.type_base.proofs.Firsts.{first_both, first_listed, merge}
use Rattle.syntax_view.specs.Trees as tree
use Rattle.typing_rules.specs.declared.prefix.Found.{Found}
use Rattle.typing_rules.specs.declared.prefix.Found.TheVariants as found
use Rattle.typing_rules.specs.Fits.{both, found_fault, found_then, with_found}
use Rattle.typing_rules.specs.Reading.{faults, seen}
use Rattle.statement_typing.specs.Asked.{of_wanted, number_type, range_between, range_faults, range_seen}
use Rattle.statement_typing.specs.Checks.{broken, fault_after, fault_beyond, fault_in}
use Rattle.statement_typing.specs.Subtypes.{heard, part, part_faults}
use Rattle.typing_laws.specs.Broken as laws
use Rattle.typing_laws.proofs.Merging.{first_after, first_alone, first_as, merge_swapped}
use Rattle.typing_laws.proofs.Operands.{both_is, with_found_is}
use Rattle.typing_laws.proofs.Trees.{expression_first, range_seen_first}

-- what is refused of a part is the first of these broken rules
abbrev pub Told : {A : Type 0} → Found A → List Refusal → Type 0
Told a fs = First (found_fault a) fs

pub told_both : {A : Type 0} → {B : Type 0} → {C : Type 0} → (f : A → B → C) (a : Found A) (b : Found B) (fs gs : List Refusal) → Told a fs → Told b gs → Told (both f a b) (fs ++ gs)
told_both f a b fs gs h i =
    first_as (found_fault (both f a b)) (merge (found_fault a) (found_fault b)) (fs ++ gs) (both_is f a b) (first_both (found_fault a) (found_fault b) fs gs h i)

-- the same where the latter's broken rules are listed first
pub told_swapped : {A : Type 0} → {B : Type 0} → {C : Type 0} → (f : A → B → C) (a : Found A) (b : Found B) (fs gs : List Refusal) → Told a fs → Told b gs → Told (both f a b) (gs ++ fs)
told_swapped f a b fs gs h i =
    first_as (found_fault (both f a b)) (merge (found_fault b) (found_fault a)) (gs ++ fs)
    (both_is f a b ∙ merge_swapped (found_fault a) (found_fault b)) (first_both (found_fault b) (found_fault a) gs fs i h)

pub told_with : {A : Type 0} → {B : Type 0} → (f : A → B) (a : Found A) (fs : List Refusal) → Told a fs → Told (with_found f a) fs
told_with f a fs h = first_as (found_fault (with_found f a)) (found_fault a) fs (with_found_is f a) h

pub told_in : {A : Type 0} → (a : Found A) → Told a (fault_in a)
told_in (found.Refused f) = first_listed (Some f)
told_in found.Unknown = refl
told_in (found.Is a) = refl

pub told_broken : (r : Code) (p : Place) → First (Some (demands.broken r p)) (broken r p)
told_broken r p = first_listed (Some (demands.broken r p))

-- a demand on a part, which waits for what is broken in it
pub told_then : {A : Type 0} → {B : Type 0} → (a : Found A) (f : A → Found B) (fs : List Refusal) → Told a fs → Told (found_then a f) (fs ++ fault_after a (found_then a f))
told_then (found.Refused g) f fs h = first_alone (Some g) fs h
told_then found.Unknown f fs h = first_alone None fs h
told_then (found.Is a) f fs h = first_after (found_fault (f a)) fs (fault_in (f a)) h (told_in (f a))

-- ---- expressions

-- a demand keeps what is refused, and refuses nothing where nothing is known
pub record Hears {A : Type 0} (d : Seen → Found A) : Type 0 where
  pub refused : (f : Refusal) → found_fault (d (seen'.Refused f)) ≡ Some f
  pub unknown : found_fault (d seen'.Unknown) ≡ None

pub told_seen : {A : Type 0} → (d : Seen → Found A) (s : Seen) (fs : List Refusal) → Hears d → First (fault_of s) fs → Told (d s) (fs ++ fault_beyond s (d s))
told_seen d (seen'.Refused f) fs i h = first_as (found_fault (d (seen'.Refused f))) (Some f) (fs ++ []) (i.refused f) (first_alone (Some f) fs h)
told_seen d seen'.Unknown fs i h = first_as (found_fault (d seen'.Unknown)) None (fs ++ []) i.unknown (first_alone None fs h)
told_seen d (seen'.Number n) fs i h = first_after (found_fault (d (seen'.Number n))) fs (fault_in (d (seen'.Number n))) h (told_in (d (seen'.Number n)))
told_seen d (seen'.Typed t x) fs i h = first_after (found_fault (d (seen'.Typed t x))) fs (fault_in (d (seen'.Typed t x))) h (told_in (d (seen'.Typed t x)))

pub told_part : {A : Type 0} → (c : Scope) (w : Want) (e : tree.Expr) (d : Seen → Found A) → Hears d → Told (part c w e d) (part_faults c w e d)
told_part c w e d i = told_seen d (seen c w e) (faults c w e) i (expression_first c w e)

heard_is : (s : Seen) → found_fault (heard s) ≡ fault_of s
heard_is (seen'.Refused f) = refl
heard_is seen'.Unknown = refl
heard_is (seen'.Number n) = refl
heard_is (seen'.Typed t x) = refl

pub told_heard : (c : Scope) (w : Want) (e : tree.Expr) → Told (heard (seen c w e)) (faults c w e)
told_heard c w e = first_as (found_fault (heard (seen c w e))) (fault_of (seen c w e)) (faults c w e) (heard_is (seen c w e)) (expression_first c w e)

-- ---- ranges

pub told_range : (c : Scope) (r : Code) (w : Want) (g : tree.Range) → Told (range_seen c r w g) (range_faults c r w g)
told_range c r w g =
    let u = number_type w in
    told_then (range_between c r w g) (of_wanted c r w g) (laws.range_faults c r w u g) (range_seen_first c r w u g)
