-- The operators, with their checks.
use Rattle.std.specs.Prelude.{ℕ, zero, suc, Bool, true, false, not, ◌&&◌, ◌||◌, Some, None, Result, Ok, Err, List, [], ◌∷◌, ℤ, pos, negsuc, ◌+ℤ◌, ◌-ℤ◌}
use Rattle.std.specs.Ordering.{int_eq}
use Rattle.std.specs.Int.RustNames.{int_lt, int_le}
use Rattle.ada_values.specs.Value.{Val, number, truth, array, record_of, Vals, val_at, same_val}
use Rattle.ada_values.specs.Combine.{combined}
use Rattle.ada_values.specs.Scalars.{within}
use Rattle.ada_values.specs.Shapes.{range_length}
use Rattle.ada_values.specs.declared.place.Place.{Place}
use Rattle.ada_values.specs.declared.scalars.OpFault.{OpFault}
use Rattle.ada_values.specs.declared.scalars.OpFault.TheVariants as fault
use Rattle.ada_values.specs.declared.scalars.Scalar.{Scalar}
use Rattle.typed_units.specs.declared.operators.Bounds.{Bounds}
use Rattle.typed_units.specs.declared.operators.Composite.{Composite}
use Rattle.typed_units.specs.declared.operators.Composite.TheVariants as composite
use Rattle.typed_units.specs.declared.operators.Connective.{Connective}
use Rattle.typed_units.specs.declared.operators.Connective.TheVariants as connective
use Rattle.typed_units.specs.declared.operators.Quantifier.{Quantifier}
use Rattle.typed_units.specs.declared.operators.Quantifier.TheVariants as quantifier
use Rattle.typed_units.specs.declared.operators.Relation.{Relation}
use Rattle.typed_units.specs.declared.operators.Relation.TheVariants as relation
use Rattle.typed_units.specs.declared.statements.Choice.{Choice}
use Rattle.typed_units.specs.declared.statements.Choice.TheVariants as choice
use Rattle.typed_units.specs.declared.checks.CheckKind.TheVariants as kind
use Rattle.typed_units.specs.declared.checks.SiteKey.{SiteKey}
use Rattle.typed_units.specs.Syntax.{Fit, Op1, first, last, length_at, succ_at, pred_at, same, negation, unary, convert, Op2, binary, compare, item}
use Rattle.ada_semantics.specs.Outcome.{Res, gives, fails, unset, bind, spend, pick, wanted, site, check}
use Rattle.ada_semantics.specs.Store.{Slot, empty, full, Slots, no_slots, slot}

abbrev pub natural_of : ℤ → ℕ
natural_of (pos n) = n
natural_of (negsuc n) = zero

-- how many whole numbers lie from lo to hi (Ada RM 3.6.2)
abbrev pub span : ℤ → ℤ → ℕ
span = range_length

-- the position, from 0, of an index in an array that begins at lo
abbrev pub position : ℤ → ℤ → ℕ
position lo x = natural_of (x -ℤ lo)

-- ---- range checks

abbrev pub keeps : Fit → Val → Bool
keeps None v = true
keeps (Some b) (number x) = within b.first b.last x
keeps (Some b) _ = true

-- a value that is assigned, passed, returned or converted (Ada RM 3.5, 4.6, 5.2)
abbrev pub checked : Fit → Place → Val → ℕ → Res Val
checked fit p v n = check (keeps fit v) p kind.Range (gives v n)

-- a value of several components, each with its own check, all of which stand there
abbrev pub keeps_each : List Bounds → Val → Bool
keeps_each [] v = true
keeps_each (b ∷ bs) v = keeps (Some b) v && keeps_each bs v

abbrev pub checked_each : List Bounds → Place → Val → ℕ → Res Val
checked_each bs p v n = check (keeps_each bs v) p kind.Range (gives v n)

abbrev pub ranged : Place → Scalar → ℤ → ℕ → Res Val
ranged p s x n = check (within s.base_lo s.base_hi x) p kind.Range (gives (number x) n)

-- ---- arithmetic (Ada RM 4.5.3 to 4.5.6)

-- the check that fails, at the operator or at the exponent
abbrev pub fault_site : OpFault → Place → Place → SiteKey
fault_site fault.Overflow p q = site p kind.Overflow
fault_site fault.ZeroDivisor p q = site p kind.Division
fault_site fault.NegativeExponent p q = site q kind.Range

abbrev pub computed : Result ℤ OpFault → Place → Place → ℕ → Res Val
computed (Ok x) p q n = gives (number x) n
computed (Err e) p q n = fails (fault_site e p q)

-- ---- one operand, whose first token stands at q

abbrev pub apply1 : Op1 → Place → Val → ℕ → Res Val
apply1 first q (array f l vs) n = gives (number f) n
apply1 last q (array f l vs) n = gives (number l) n
apply1 (length_at p s) q (array f l vs) n = ranged p s (pos (span f l)) n
apply1 (succ_at p s) q (number x) n = ranged p s (x +ℤ pos 1) n
apply1 (pred_at p s) q (number x) n = ranged p s (x -ℤ pos 1) n
apply1 same q (number x) n = gives (number x) n
apply1 negation q (truth b) n = gives (truth (not b)) n
apply1 (unary o s p) q (number x) n = computed (combined o s x (pos 0)) p q n
apply1 (convert fit) q v n = checked fit q v n
apply1 _ q v n = unset

-- ---- two operands, of which the second's first token stands at q

abbrev pub ordered : Relation → ℤ → ℤ → Bool
ordered relation.Equal x y = int_eq x y
ordered relation.Differs x y = not (int_eq x y)
ordered relation.Less x y = int_lt x y
ordered relation.AtMost x y = int_le x y
ordered relation.Greater x y = int_lt y x
ordered relation.AtLeast x y = int_le y x

-- predefined equality of any values, and the order of numbers and positions (Ada RM 4.5.2)
abbrev pub related : Relation → Val → Val → ℕ → Res Val
related relation.Equal u v n = gives (truth (same_val u v)) n
related relation.Differs u v n = gives (truth (not (same_val u v))) n
related r (number x) (number y) n = gives (truth (ordered r x y)) n
related r _ _ n = unset

-- an item of an array (Ada RM 4.1.1); without an index check the index lies within the bounds
abbrev pub item_of : Bool → Place → Val → Val → ℕ → Res Val
item_of is_checked q (array f l vs) (number x) n =
    pick (within f l x) (wanted (val_at vs (position f x)) n) (pick is_checked (fails (site q kind.Index)) unset)
item_of is_checked q _ _ n = unset

abbrev pub apply2 : Op2 → Place → Val → Val → ℕ → Res Val
apply2 (binary o s p) q (number x) (number y) n = computed (combined o s x y) p q n
apply2 (binary o s p) q _ _ n = unset
apply2 (compare r) q u v n = related r u v n
apply2 (item c) q u v n = item_of c q u v n

-- whether a number lies within two bounds, or doesn't (Ada RM 4.5.2)
abbrev pub member_of : Bool → Val → Val → Val → ℕ → Res Val
member_of true (number x) (number l) (number h) n = gives (truth (within l h x)) n
member_of false (number x) (number l) (number h) n = gives (truth (not (within l h x))) n
member_of is _ _ _ n = unset

-- ---- truth values (Ada RM 4.5.1)

abbrev pub xor : Bool → Bool → Bool
xor true b = not b
xor false b = b

-- whether a short-circuit form stops at its left operand
abbrev pub stops_at : Connective → Bool → Bool
stops_at connective.AndThen b = not b
stops_at connective.OrElse b = b
stops_at _ b = false

abbrev pub joined : Connective → Bool → Bool → Bool
joined connective.And a b = a && b
joined connective.AndThen a b = a && b
joined connective.Or a b = a || b
joined connective.OrElse a b = a || b
joined connective.Xor a b = xor a b

abbrev pub truth_of : {A : Type 0} → Val → (Bool → Res A) → Res A
truth_of (truth b) go = go b
truth_of _ go = unset

abbrev pub number_of : {A : Type 0} → Val → (ℤ → Res A) → Res A
number_of (number x) go = go x
number_of _ go = unset

-- count indexes upwards from i, to the first that decides; each takes a unit (Ada RM 4.5.8)
abbrev pub decides : Quantifier → Bool → Bool
decides quantifier.All b = not b
decides quantifier.Some b = b

abbrev pub undecided : Quantifier → Bool
undecided quantifier.All = true
undecided quantifier.Some = false

abbrev pub quantify : ℕ → Quantifier → ℤ → (ℤ → ℕ → Res Val) → ℕ → Res Val
quantify zero q i body n = gives (truth (undecided q)) n
quantify (suc count) q i body n =
    spend n (λ m. bind (body i m) (λ v j. truth_of v (λ b.
    pick (decides q b) (gives (truth b) j) (quantify count q (i +ℤ pos 1) body j))))

-- ---- aggregates (Ada RM 4.3)

abbrev pub lies_in : List Bounds → ℤ → Bool
lies_in [] x = false
lies_in (b ∷ rest) x = within b.first b.last x || lies_in rest x

abbrev pub is_chosen : Choice → ℤ → Bool
is_chosen (choice.Value y) x = int_eq x y
is_chosen (choice.Range b) x = within b.first b.last x

-- whether one of the choices of an alternative covers a value (Ada RM 5.4)
abbrev pub chosen_in : List Choice → ℤ → Bool
chosen_in [] x = false
chosen_in (c ∷ rest) x = is_chosen c x || chosen_in rest x

abbrev pub is_empty : Slot → Bool
is_empty empty = true
is_empty _ = false

-- whether an association gives the component x, which holds so far what the slot says: `others` gives what no
-- association before gave
abbrev pub claims : List Bounds → Bool → ℤ → Slot → Bool
claims ranges others x s = pick others (is_empty s) (lies_in ranges x)

-- whether it gives any of the components from x on
abbrev pub claims_any : List Bounds → Bool → ℤ → Slots → Bool
claims_any ranges others x no_slots = false
claims_any ranges others x (slot s ss) = claims ranges others x s || claims_any ranges others (x +ℤ pos 1) ss

abbrev pub fill : List Bounds → Bool → ℤ → Val → Slots → Slots
fill ranges others x v no_slots = no_slots
fill ranges others x v (slot s ss) = slot (pick (claims ranges others x s) (full v) s) (fill ranges others (x +ℤ pos 1) v ss)

abbrev pub built : Composite → Bounds → Vals → Val
built composite.Array b vs = array b.first b.last vs
built composite.Record b vs = record_of vs
