-- Definitions of types that are accepted obey their rules.
use Rattle.std.proofs.Common.{◌≡◌, refl, sym, subst, inl, inr, ℕ, ℤ, pos, negsuc, true, Option, Some, None, List, [], ◌∷◌, map}
use Rattle.std.specs.Int.RustNames.{int_le}
use Rattle.ada_values.specs.Scalars.{within}
use Rattle.ada_text.specs.declared.token.Span.{Span}
use Rattle.front_codes.specs.declared.codes.Code.TheVariants as code
use Rattle.syntax_view.specs.Trees as tree
use Rattle.typed_units.specs.declared.operators.Bounds.{Bounds}
use Rattle.type_base.specs.Scope.{Scope}
use Rattle.type_base.specs.declared.entities.Entity.{Entity}
use Rattle.type_base.specs.declared.entities.Entity.TheVariants as entity
use Rattle.type_base.specs.declared.seen.Want.TheVariants as want
use Rattle.type_base.specs.declared.world.Discrete.TheVariants as discrete
use Rattle.type_base.specs.declared.world.Form.{Form}
use Rattle.type_base.specs.declared.world.Form.TheVariants as form
use Rattle.type_base.specs.Lookups.{form_at}
use Rattle.type_base.specs.declared.world.Subtype.{Subtype}
use Rattle.typing_rules.specs.declared.prefix.Found.{Found}
use Rattle.typing_rules.specs.declared.prefix.Found.TheVariants as found
use Rattle.typing_rules.specs.Fits.{both}
use Rattle.typing_rules.specs.Reading.{seen}
use Rattle.statement_typing.specs.declared.parts.Definition.TheVariants.{ArrayOf, Integer, RecordOf}
use Rattle.statement_typing.specs.declared.parts.Group.{Group}
use Rattle.statement_typing.specs.declared.parts.StaticRange.{StaticRange}
use Rattle.statement_typing.specs.Asked.{place_of}
use Rattle.statement_typing.specs.Checks.{all_of, refuse, unless}
use Rattle.statement_typing.specs.Subtypes.{Mark, bounds, heard, in_order, index_range, indicated, integer_number, mark, mark_of, name_place, noted_subtype, part, part_subtype, static_range}
use Rattle.statement_typing.specs.Types.{definition, derived_form, derived_of, discrete_form, discrete_mark, discrete_subtype, group, indexes, indexes_by, modular_scalar, modulus, of_range, signed, signed_bound, signed_bounds, signed_scalar, within_mark}
use Rattle.ada_values.specs.declared.place.Place.{Place}
use Rattle.statement_typing.specs.declared.parts.Noted.{Noted}
use Rattle.typing_relations.proofs.Accepting.{Finds, both_finds, finds_map, found_as, then_finds, with_finds}
use Rattle.statement_relations.proofs.Parted.{and_also_left}
use Rattle.declaration_relations.specs.Defines as rule
use Rattle.declaration_relations.specs.Defines.{Defines, HasComponents, Indexed, NamesDiscrete}
use Rattle.declaration_relations.specs.Indicates.{GivesBounds, HasStaticRange, Indicates, IsInteger, IsWhole, NameMeans}
use Rattle.declaration_relations.proofs.Indicating.{Marks, indicates_finds, name_marks, whole_finds}
use Rattle.declaration_relations.proofs.Keeping.{all_are, first_and, none_and, unless_keeps}
use Rattle.declaration_relations.proofs.Ranging.{index_range_finds, integer_finds, static_range_finds}

-- ---- integer types

abbrev Fits64 : Scope → tree.Expr → ℤ → Type 0
Fits64 c e n = IsInteger c e n × (within (negsuc 9223372036854775807) (pos 9223372036854775807) n ≡ true)

signed_bound_finds : (c : Scope) (e : tree.Expr) → Finds (part c want.Free e (signed_bound c.world (place_of c e))) (Fits64 c e)
signed_bound_finds c e =
    let p = place_of c e in
    then_finds (IsInteger c e) (Fits64 c e) (integer_number c.world p (seen c want.Free e)) (λ n. unless (within (negsuc 9223372036854775807) (pos 9223372036854775807) n) code.L20 p n) (integer_finds c p e)
    (λ n h. unless_keeps (Fits64 c e) (within (negsuc 9223372036854775807) (pos 9223372036854775807) n) code.L20 p n (λ i. (h, i)))

signed_finds : (c : Scope) (b : tree.Bounds) → Finds (definition c (tree.signed b)) (Defines c (tree.signed b))
signed_finds c b =
    let low = part c want.Free b.low (signed_bound c.world (place_of c b.low)) in
    let high = part c want.Free b.high (signed_bound c.world (place_of c b.high)) in
    let Both : Bounds → Type 0 = λ r. Fits64 c b.low r.first × Fits64 c b.high r.last in
    let Ordered : Bounds → Type 0 = λ r. Both r × (int_le r.first r.last ≡ true) in
    with_finds Ordered (Defines c (tree.signed b)) (λ r. Integer discrete.Signed (signed_scalar r)) (signed c b)
    (then_finds Both Ordered (signed_bounds c b) (in_order (place_of c b.high))
    (both_finds (Fits64 c b.low) (Fits64 c b.high) Both bounds low high (signed_bound_finds c b.low) (signed_bound_finds c b.high) (λ m n i j. (i, j)))
    (λ r h. unless_keeps Ordered (int_le r.first r.last) code.L20 (place_of c b.high) r (λ i. (h, i))))
    (λ r h. rule.signed b r.first r.last h.0.0.0 h.0.1.0 h.0.0.1 h.0.1.1 h.1)

modular_finds : (c : Scope) (e : tree.Expr) → Finds (definition c (tree.modular e)) (Defines c (tree.modular e))
modular_finds c e =
    let p = place_of c e in
    let Small : ℤ → Type 0 = λ n. IsInteger c e n × (within (pos 2) (pos 4294967296) n ≡ true) in
    with_finds Small (Defines c (tree.modular e)) (λ n. Integer discrete.Modular (modular_scalar n)) (part c want.Free e (modulus c.world p))
    (then_finds (IsInteger c e) Small (integer_number c.world p (seen c want.Free e)) (λ n. unless (within (pos 2) (pos 4294967296) n) code.L20 p n) (integer_finds c p e)
    (λ n h. unless_keeps Small (within (pos 2) (pos 4294967296) n) code.L20 p n (λ i. (h, i))))
    (λ n h. rule.modular e n h.0 h.1)

-- ---- indexes

discrete_at : (c : Scope) (s : Span) (n : tree.Name) (k : ℕ) → NameMeans c n (entity.Subtype k) tree.no_suffixes → (f : Option Form) → form_at c.world k ≡ f
    → Finds (discrete_form (c.place s.from) k f) (NamesDiscrete c (tree.at s (tree.name n)))
discrete_at c s n k h None e = tt
discrete_at c s n k h (Some (form.Number d x)) e = rule.names_discrete s n k d x h e
discrete_at c s n k h (Some form.Truth) e = tt
discrete_at c s n k h (Some (form.Array i b t)) e = tt
discrete_at c s n k h (Some (form.Record m j)) e = tt

discrete_by : (c : Scope) (s : Span) (n : tree.Name) (e : Entity) (ss : tree.Suffixes) → NameMeans c n e ss → Finds (discrete_mark c (c.place s.from) (mark e ss)) (NamesDiscrete c (tree.at s (tree.name n)))
discrete_by c s n (entity.Subtype k) tree.no_suffixes h = discrete_at c s n k h (form_at c.world k) refl
discrete_by c s n entity.Unknown tree.no_suffixes h = tt
discrete_by c s n (entity.Subtype k) (tree.suffixes t rest) h = tt
discrete_by c s n entity.Unknown (tree.suffixes t rest) h = tt
discrete_by c s n e ss h = tt

discrete_marked : (c : Scope) (s : Span) (n : tree.Name) (m : Mark) → Marks (NameMeans c n) m → Finds (discrete_mark c (c.place s.from) m) (NamesDiscrete c (tree.at s (tree.name n)))
discrete_marked c s n (mark e ss) h = elim h [
  | inl i ↦ subst (λ (f : Entity). Finds (discrete_mark c (c.place s.from) (mark f ss)) (NamesDiscrete c (tree.at s (tree.name n)))) (sym i) tt
  | inr j ↦ discrete_by c s n e ss j
]

discrete_finds : (c : Scope) (e : tree.Expr) → Finds (discrete_subtype c e) (NamesDiscrete c e)
discrete_finds c (tree.at s (tree.name n)) = discrete_marked c s n (mark_of c n) (name_marks c n)
discrete_finds c (tree.at s m) = and_also_left (NamesDiscrete c (tree.at s m)) (refuse code.L20 (c.place s.from)) (heard (seen c want.Free (tree.at s m))) tt

of_range_finds : (c : Scope) (e : tree.Expr) (f : tree.IndexForm) (g : tree.Range) → ((r : StaticRange) → HasStaticRange c want.Free g r → Indexed c e f (record { subtype = r.subtype; bounds = Some r.bounds }))
    → Finds (of_range (static_range c want.Free g)) (Indexed c e f)
of_range_finds c e f g h =
    with_finds (HasStaticRange c want.Free g) (Indexed c e f) (λ r. record { subtype = r.subtype; bounds = Some r.bounds }) (static_range c want.Free g) (static_range_finds c want.Free g) h

within_finds : (c : Scope) (e : tree.Expr) (b : tree.Bounds) (k : Found ℕ) → Finds k (NamesDiscrete c e) → Finds (within_mark c k b) (Indexed c e (tree.constrained b))
within_finds c e b (found.Is k) h =
    let g = tree.range b.low (tree.an_expr b.high) in
    with_finds (GivesBounds c k g) (Indexed c e (tree.constrained b)) (λ v. record { subtype = k; bounds = Some v }) (index_range c k g) (index_range_finds c k g)
    (λ v i. rule.within_subtype b k v h i)
within_finds c e b found.Unknown h =
    and_also_left (Indexed c e (tree.constrained b)) found.Unknown (both (λ l u. l) (heard (seen c want.Free b.low)) (heard (seen c want.Free b.high))) tt
within_finds c e b (found.Refused f) h =
    and_also_left (Indexed c e (tree.constrained b)) (found.Refused f) (both (λ l u. l) (heard (seen c want.Free b.low)) (heard (seen c want.Free b.high))) tt

indexed_finds : (c : Scope) (e : tree.Expr) (f : tree.IndexForm) → Finds (indexes_by c e f) (Indexed c e f)
indexed_finds c e tree.alone = of_range_finds c e tree.alone (tree.range e tree.no_expr) (λ r h. rule.by_one r h)
indexed_finds c e (tree.up_to h) = of_range_finds c e (tree.up_to h) (tree.range e (tree.an_expr h)) (λ r i. rule.by_bounds h r i)
indexed_finds c e tree.unconstrained =
    with_finds (NamesDiscrete c e) (Indexed c e tree.unconstrained) (λ k. record { subtype = k; bounds = None }) (discrete_subtype c e) (discrete_finds c e) (λ k h. rule.without_bounds k h)
indexed_finds c e (tree.constrained b) = within_finds c e b (discrete_subtype c e) (discrete_finds c e)

-- ---- components

abbrev Begins : Scope → tree.Component → Group → Type 0
Begins c g x = (gs : List tree.Component) (xs : List Group) → HasComponents c gs xs → HasComponents c (g ∷ gs) (x ∷ xs)

group_finds : (c : Scope) (g : tree.Component) → Finds (group c g) (Begins c g)
group_finds c g =
    with_finds (IsWhole c g.subtype) (Begins c g) (λ n. record { names = g.names; subtype = n }) (part_subtype c g.subtype) (whole_finds c code.L26 (name_place c g.subtype.name) g.subtype)
    (λ n h gs xs i. rule.one_more g gs n xs h i)

components_are : (c : Scope) (gs : List tree.Component) (xs : List Group) → map (group c) gs ≡ map found.Is xs → HasComponents c gs xs
components_are c [] xs e = subst (HasComponents c []) (sym (none_and xs e)) rule.no_more
components_are c (g ∷ gs) xs e =
    let f = first_and (group c g) (map (group c) gs) xs e in
    subst (HasComponents c (g ∷ gs)) (sym f.together) (found_as (Begins c g) (group c g) f.first f.is_first (group_finds c g) gs f.others (components_are c gs f.others f.are_others))

-- ---- derived types

derives_finds : (p : Place) (f : Form) → Finds (derived_form p f) (rule.Derives f)
derives_finds p (form.Number k x) = rule.from_numbers k x
derives_finds p form.Truth = tt
derives_finds p (form.Array i b t) = rule.from_array i b t
derives_finds p (form.Record m n) = rule.from_record m n

derived_finds : (c : Scope) (s : tree.SubInd) (n : Noted) → Indicates c s n → (o : Option Subtype) → noted_subtype c.world n ≡ o
    → Finds (derived_of (name_place c s.name) o) (Defines c (tree.derived s))
derived_finds c s n h None e = tt
derived_finds c s n h (Some x) e =
    finds_map (rule.Derives x.form) (Defines c (tree.derived s)) (λ d i. rule.derived s n x d h e i) (derived_form (name_place c s.name) x.form) (derives_finds (name_place c s.name) x.form)

-- ---- definitions

pub defines_finds : (c : Scope) (t : tree.TypeForm) → Finds (definition c t) (Defines c t)
defines_finds c (tree.signed b) = signed_finds c b
defines_finds c (tree.modular e) = modular_finds c e
defines_finds c (tree.enumeration ns) = rule.enumeration ns
defines_finds c (tree.array_of i s) =
    both_finds (Indexed c i.first i.form) (IsWhole c s) (Defines c (tree.array_of i s)) ArrayOf (indexes c i) (part_subtype c s) (indexed_finds c i.first i.form)
    (whole_finds c code.L26 (name_place c s.name) s) (λ x n h j. rule.array_of i s x n h j)
defines_finds c (tree.record_of gs) =
    with_finds (λ xs. map (group c) gs ≡ map found.Is xs) (Defines c (tree.record_of gs)) RecordOf (all_of (map (group c) gs)) (all_are (map (group c) gs))
    (λ xs h. rule.record_of gs xs (components_are c gs xs h))
defines_finds c (tree.derived s) =
    then_finds (Indicates c s) (Defines c (tree.derived s)) (indicated c code.L20 s) (λ n. derived_of (name_place c s.name) (noted_subtype c.world n)) (indicates_finds c code.L20 s)
    (λ n h. derived_finds c s n h (noted_subtype c.world n) refl)
