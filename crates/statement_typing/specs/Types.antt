-- The definitions of types. -- Ada RM 3.4, 3.5.1, 3.5.4, 3.6, 3.8
use Rattle.std.specs.Prelude.{ℕ, suc, ◌-◌, ℤ, pos, negsuc, Bool, Option, Some, None, List, [], ◌∷◌, ◌++◌, map, length, ◌&&◌, if◌then◌else◌}
use Rattle.ada_values.specs.Scalars.{within}
use Rattle.ada_values.specs.declared.place.Place.{Place}
use Rattle.ada_values.specs.declared.scalars.Scalar.{Scalar}
use Rattle.ada_text.specs.declared.token.Span.{Span}
use Rattle.front_codes.specs.declared.codes.Code.TheVariants.{L20}
use Rattle.front_codes.specs.declared.codes.Refusal.{Refusal}
use Rattle.typed_units.specs.declared.operators.Bounds.{Bounds}
use Rattle.type_base.specs.declared.entities.Entity.TheVariants as entity
use Rattle.type_base.specs.declared.seen.Seen.{Seen}
use Rattle.type_base.specs.declared.seen.Want.TheVariants as want
use Rattle.type_base.specs.declared.world.Discrete.{Discrete}
use Rattle.type_base.specs.declared.world.Discrete.TheVariants as discrete
use Rattle.type_base.specs.declared.world.Form.{Form}
use Rattle.type_base.specs.declared.world.Form.TheVariants as form
use Rattle.type_base.specs.declared.world.Subtype.{Subtype}
use Rattle.type_base.specs.declared.world.World.{World}
use Rattle.type_base.specs.Demands.{is_ordered}
use Rattle.type_base.specs.Lookups.{form_at}
use Rattle.type_base.specs.Scope.{Scope}
use Rattle.syntax_view.specs.Trees as tree
use Rattle.typing_rules.specs.Reading.{faults, seen}
use Rattle.statement_typing.specs.declared.parts.Definition.{Definition}
use Rattle.statement_typing.specs.declared.parts.Definition.TheVariants.{ArrayOf, Integer, RecordOf, Single}
use Rattle.statement_typing.specs.declared.parts.Group.{Group}
use Rattle.statement_typing.specs.declared.parts.Indexes.{Indexes}
use Rattle.statement_typing.specs.declared.parts.Noted.{Noted}
use Rattle.statement_typing.specs.declared.parts.StaticRange.{StaticRange}
use Rattle.statement_typing.specs.Asked.{place_of}
use Rattle.typing_rules.specs.declared.prefix.Found.{Found}
use Rattle.typing_rules.specs.declared.prefix.Found.TheVariants.{Refused, Unknown, Is}
use Rattle.typing_rules.specs.Fits.{both, found_then, with_found}
use Rattle.statement_typing.specs.Checks.{all_of, and_also, broken, fault_after, refuse, unless}
use Rattle.statement_typing.specs.Subtypes.{Mark, mark, bounds, heard, in_order, index_range, index_range_faults, indicated, indicated_faults, integer_number, mark_of, name_place, noted_subtype, part, part_faults, part_subtype, part_subtype_faults, static_range, static_range_faults}

-- ---- integer types -- L20

-- a bound of a signed type, which 64 bits are to hold
abbrev pub signed_bound : World → Place → Seen → Found ℤ
signed_bound w p s = found_then (integer_number w p s) (λ n. unless (within (negsuc 9223372036854775807) (pos 9223372036854775807) n) L20 p n)

-- the last value of the smallest base range of 8, 16, 32 or 64 bits that has these bounds
abbrev pub base_has : ℕ → Bounds → Bool
base_has m b = within (negsuc m) (pos m) b.first && within (negsuc m) (pos m) b.last

abbrev pub base_last : Bounds → ℕ
base_last b =
    if base_has 127 b then 127 else if base_has 32767 b then 32767 else if base_has 2147483647 b then 2147483647 else 9223372036854775807

abbrev pub signed_scalar : Bounds → Scalar
signed_scalar b = record { lo = b.first; hi = b.last; base_lo = negsuc (base_last b); base_hi = pos (base_last b); modulus = None }

abbrev pub signed_bounds : Scope → tree.Bounds → Found Bounds
signed_bounds c b = both bounds (part c want.Free b.low (signed_bound c.world (place_of c b.low))) (part c want.Free b.high (signed_bound c.world (place_of c b.high)))

abbrev pub signed : Scope → tree.Bounds → Found Bounds
signed c b = found_then (signed_bounds c b) (in_order (place_of c b.high))

abbrev pub signed_faults : Scope → tree.Bounds → List Refusal
signed_faults c b =
    part_faults c want.Free b.low (signed_bound c.world (place_of c b.low))
    ++ part_faults c want.Free b.high (signed_bound c.world (place_of c b.high))
    ++ fault_after (signed_bounds c b) (signed c b)

-- a modulus, from 2 to 2 ** 32
abbrev pub modulus : World → Place → Seen → Found ℤ
modulus w p s = found_then (integer_number w p s) (λ n. unless (within (pos 2) (pos 4294967296) n) L20 p n)

abbrev pub less_one : ℤ → ℤ
less_one (pos n) = pos (n - 1)
less_one (negsuc n) = negsuc (suc n)

abbrev pub whole_scalar : ℤ → ℤ → Option ℤ → Scalar
whole_scalar l h m = record { lo = l; hi = h; base_lo = l; base_hi = h; modulus = m }

abbrev pub modular_scalar : ℤ → Scalar
modular_scalar n = whole_scalar (pos 0) (less_one n) (Some n)

abbrev pub positions : ℕ → Form
positions n = form.Number discrete.Enumeration (whole_scalar (pos 0) (pos (n - 1)) None)

-- ---- the index of an array -- L20, Ada RM 3.6(5)

-- a discrete subtype by its name alone
abbrev pub discrete_form : Place → ℕ → Option Form → Found ℕ
discrete_form p k None = Unknown
discrete_form p k (Some f) = unless (is_ordered f) L20 p k

abbrev pub discrete_mark : Scope → Place → Mark → Found ℕ
discrete_mark c p (mark (entity.Subtype k) tree.no_suffixes) = discrete_form p k (form_at c.world k)
discrete_mark c p (mark entity.Unknown tree.no_suffixes) = Unknown
discrete_mark c p (mark _ _) = refuse L20 p

abbrev pub discrete_subtype : Scope → tree.Expr → Found ℕ
discrete_subtype c (tree.at s (tree.name n)) = discrete_mark c (c.place s.from) (mark_of c n)
discrete_subtype c (tree.at s n) = and_also (refuse L20 (c.place s.from)) (heard (seen c want.Free (tree.at s n)))

abbrev pub discrete_subtype_faults : Scope → tree.Expr → List Refusal
discrete_subtype_faults c (tree.at s (tree.name n)) = fault_after (Is s) (discrete_mark c (c.place s.from) (mark_of c n))
discrete_subtype_faults c (tree.at s n) = faults c want.Free (tree.at s n) ++ broken L20 (c.place s.from)

abbrev pub of_range : Found StaticRange → Found Indexes
of_range r = with_found (λ s. record { subtype = s.subtype; bounds = Some s.bounds }) r

abbrev pub within_mark : Scope → Found ℕ → tree.Bounds → Found Indexes
within_mark c (Is k) b = with_found (λ v. record { subtype = k; bounds = Some v }) (index_range c k (tree.range b.low (tree.an_expr b.high)))
within_mark c Unknown b = and_also Unknown (both (λ l h. l) (heard (seen c want.Free b.low)) (heard (seen c want.Free b.high)))
within_mark c (Refused f) b = and_also (Refused f) (both (λ l h. l) (heard (seen c want.Free b.low)) (heard (seen c want.Free b.high)))

abbrev pub within_mark_faults : Scope → Found ℕ → tree.Bounds → List Refusal
within_mark_faults c (Is k) b = index_range_faults c k (tree.range b.low (tree.an_expr b.high))
within_mark_faults c Unknown b = faults c want.Free b.low ++ faults c want.Free b.high
within_mark_faults c (Refused f) b = faults c want.Free b.low ++ faults c want.Free b.high

abbrev pub indexes_by : Scope → tree.Expr → tree.IndexForm → Found Indexes
indexes_by c e tree.alone = of_range (static_range c want.Free (tree.range e tree.no_expr))
indexes_by c e (tree.up_to h) = of_range (static_range c want.Free (tree.range e (tree.an_expr h)))
indexes_by c e tree.unconstrained = with_found (λ k. record { subtype = k; bounds = None }) (discrete_subtype c e)
indexes_by c e (tree.constrained b) = within_mark c (discrete_subtype c e) b

abbrev pub indexes : Scope → tree.Index → Found Indexes
indexes c i = indexes_by c i.first i.form

abbrev pub indexes_by_faults : Scope → tree.Expr → tree.IndexForm → List Refusal
indexes_by_faults c e tree.alone = static_range_faults c want.Free (tree.range e tree.no_expr)
indexes_by_faults c e (tree.up_to h) = static_range_faults c want.Free (tree.range e (tree.an_expr h))
indexes_by_faults c e tree.unconstrained = discrete_subtype_faults c e
indexes_by_faults c e (tree.constrained b) = discrete_subtype_faults c e ++ within_mark_faults c (discrete_subtype c e) b

abbrev pub indexes_faults : Scope → tree.Index → List Refusal
indexes_faults c i = indexes_by_faults c i.first i.form

-- ---- definitions

abbrev pub group : Scope → tree.Component → Found Group
group c g = with_found (λ n. record { names = g.names; subtype = n }) (part_subtype c g.subtype)

abbrev pub groups_faults : Scope → List tree.Component → List Refusal
groups_faults c [] = []
groups_faults c (g ∷ gs) = part_subtype_faults c g.subtype ++ groups_faults c gs

-- a derived type has its parent's base range; nothing is derived from Boolean -- L20, Ada RM 3.4
abbrev pub derived_form : Place → Form → Found Definition
derived_form p (form.Number k x) = Is (Integer k x)
derived_form p form.Truth = refuse L20 p
derived_form p (form.Array i b t) = Is (Single (form.Array i b t))
derived_form p (form.Record m n) = Is (Single (form.Record m n))

abbrev pub derived_of : Place → Option Subtype → Found Definition
derived_of p None = Unknown
derived_of p (Some s) = derived_form p s.form

abbrev pub derived : Scope → tree.SubInd → Found Definition
derived c s = found_then (indicated c L20 s) (λ n. derived_of (name_place c s.name) (noted_subtype c.world n))

abbrev pub definition : Scope → tree.TypeForm → Found Definition
definition c (tree.signed b) = with_found (λ r. Integer discrete.Signed (signed_scalar r)) (signed c b)
definition c (tree.modular e) = with_found (λ n. Integer discrete.Modular (modular_scalar n)) (part c want.Free e (modulus c.world (place_of c e)))
definition c (tree.enumeration ns) = Is (Single (positions (length ns)))
definition c (tree.array_of i s) = both ArrayOf (indexes c i) (part_subtype c s)
definition c (tree.record_of gs) = with_found RecordOf (all_of (map (group c) gs))
definition c (tree.derived s) = derived c s

abbrev pub definition_faults : Scope → tree.TypeForm → List Refusal
definition_faults c (tree.signed b) = signed_faults c b
definition_faults c (tree.modular e) = part_faults c want.Free e (modulus c.world (place_of c e))
definition_faults c (tree.enumeration ns) = []
definition_faults c (tree.array_of i s) = indexes_faults c i ++ part_subtype_faults c s
definition_faults c (tree.record_of gs) = groups_faults c gs
definition_faults c (tree.derived s) = indicated_faults c L20 s ++ fault_after (indicated c L20 s) (derived c s)
