-- Names of subtypes and subtype indications that are accepted obey their rules.
use Rattle.std.proofs.Common.{◌≡◌, refl, sym, subst, inl, inr, ℕ, Bool, true, false, Option, Some, None}
use Rattle.std.specs.Prelude.{◌⊎◌}
use Rattle.ada_values.specs.declared.place.Place.{Place}
use Rattle.ada_text.specs.declared.token.Span.{Span}
use Rattle.front_codes.specs.declared.codes.Code.{Code}
use Rattle.front_codes.specs.declared.codes.Code.TheVariants as code
use Rattle.name_library.specs.declared.links.Link.{Link}
use Rattle.syntax_view.specs.Trees as tree
use Rattle.type_base.specs.Scope.{Scope}
use Rattle.type_base.specs.declared.entities.Entity.{Entity}
use Rattle.type_base.specs.declared.entities.Entity.TheVariants as entity
use Rattle.type_base.specs.declared.seen.Want.TheVariants as want
use Rattle.type_base.specs.declared.world.Form.{Form}
use Rattle.type_base.specs.declared.world.Form.TheVariants as form
use Rattle.type_base.specs.declared.world.Subtype.{Subtype}
use Rattle.type_base.specs.Demands.{is_comparable}
use Rattle.type_base.specs.Lookups.{form_in, subtype_at}
use Rattle.typing_rules.specs.declared.prefix.Found.TheVariants as found
use Rattle.typing_rules.specs.Fits.{found_then}
use Rattle.statement_typing.specs.declared.parts.Noted.{Noted}
use Rattle.statement_typing.specs.declared.parts.Noted.TheVariants.{New}
use Rattle.statement_typing.specs.Asked.{place_of, range_seen}
use Rattle.statement_typing.specs.Checks.{refuse}
use Rattle.statement_typing.specs.Subtypes.{Mark, constrained, constraint_of, index_of, index_range, indicated, indication, is_constrained, loose, mark, mark_from, mark_of, marked, name_place, noted_form, noted_subtype, range_in, unsupported, whole_of, with_index, with_range}
use Rattle.typing_relations.proofs.Accepting.{Finds, finds_map, then_finds, with_finds}
use Rattle.statement_relations.proofs.Parted.{and_also_left}
use Rattle.declaration_relations.specs.Indicates as rule
use Rattle.declaration_relations.specs.Indicates.{GivesBounds, Indicates, IsDefinite, IsIndex, IsWhole, Means, NameMeans, Names, Narrows}
use Rattle.declaration_relations.proofs.Keeping.{unless_keeps}
use Rattle.declaration_relations.proofs.Ranging.{index_range_finds, narrows_finds}

-- ---- names

-- a name is of a component that no declaration has, or this is so of it
abbrev pub Marks : (Entity → tree.Suffixes → Type 0) → Mark → Type 0
Marks P (mark e rest) = (e ≡ entity.Package) ⊎ P e rest

marks_map : (P Q : Entity → tree.Suffixes → Type 0) → ((e : Entity) (rest : tree.Suffixes) → P e rest → Q e rest) → (m : Mark) → Marks P m → Marks Q m
marks_map P Q f (mark e rest) h = elim h [ inl i ↦ inl i | inr j ↦ inr (f e rest j) ]

selected_from : (c : Scope) (at : ℕ) (s : Span) (rest : tree.Suffixes) → Marks (Means c s.from rest) (mark_from c s.from rest) → (l : Option Link) → c.link s.from ≡ l
    → Marks (Means c at (tree.suffixes (tree.selected s) rest)) (elim l as (λ l. Mark) [ None ↦ mark entity.Package rest | Some k ↦ mark_from c s.from rest ])
selected_from c at s rest h None e = inl refl
selected_from c at s rest h (Some l) e =
    marks_map (Means c s.from rest) (Means c at (tree.suffixes (tree.selected s) rest)) (λ f after i. rule.expanded at s l rest after f e i) (mark_from c s.from rest) h

marked_from : (c : Scope) (at : ℕ) (ss : tree.Suffixes) → Marks (Means c at ss) (mark_from c at ss)
marked_from c at tree.no_suffixes = inr (rule.alone at)
marked_from c at (tree.suffixes (tree.selected s) rest) = selected_from c at s rest (marked_from c s.from rest) (c.link s.from) refl
marked_from c at (tree.suffixes (tree.ticked s a) rest) = inr (rule.before_tick at s a rest)
marked_from c at (tree.suffixes (tree.applied as') rest) = inr (rule.before_parentheses at as' rest)

pub name_marks : (c : Scope) (n : tree.Name) → Marks (NameMeans c n) (mark_of c n)
name_marks c (tree.named s i ss) =
    marks_map (Means c i.from ss) (NameMeans c (tree.named s i ss)) (λ e rest h. rule.name_means s i ss rest e h) (mark_from c i.from ss) (marked_from c i.from ss)

-- ---- constraints

-- it indicates this, which the world has or gets
pub record Indicated (c : Scope) (s : tree.SubInd) (n : Noted) : Type 0 where
  pub indicates : Indicates c s n
  pub subtype : Subtype
  pub is : noted_subtype c.world n ≡ Some subtype

ranged : (c : Scope) (s : tree.SubInd) (k o : ℕ) (f : Form) (b : tree.Bounds) → Names c s.name tree.no_suffixes k (record { of = o; form = f }) → s.bounds ≡ Some b
    → Finds (with_range c (record { of = o; form = f }) b) (Indicated c s)
ranged c s k o (form.Number d v) b n e =
    with_finds (Narrows c o v b) (Indicated c s) (λ r. New (record { of = o; form = form.Number d (record v { lo = r.first; hi = r.last }) })) (range_in c o v b) (narrows_finds c o v b)
    (λ r h. record {
      indicates = rule.with_range k (record { of = o; form = form.Number d v }) b d v r n e refl h;
      subtype = record { of = o; form = form.Number d (record v { lo = r.first; hi = r.last }) };
      is = refl;
    })
ranged c s k o form.Truth b n e = and_also_left (Indicated c s) (refuse code.L20 (place_of c b.low)) (loose c (Some b)) tt
ranged c s k o (form.Array i a t) b n e = and_also_left (Indicated c s) (refuse code.L20 (place_of c b.low)) (loose c (Some b)) tt
ranged c s k o (form.Record m j) b n e = and_also_left (Indicated c s) (refuse code.L20 (place_of c b.low)) (loose c (Some b)) tt

indexed : (c : Scope) (s : tree.SubInd) (k o : ℕ) (f : Form) (a : Span) (g : tree.Range) (ss : tree.Suffixes) → Names c s.name ss k (record { of = o; form = f }) → s.bounds ≡ None → IsIndex ss g
    → Finds (with_index c (record { of = o; form = f }) a g) (Indicated c s)
indexed c s k o (form.Array i None t) a g ss n e j =
    with_finds (GivesBounds c i g) (Indicated c s) (λ v. New (record { of = o; form = form.Array i (Some v) t })) (index_range c i g) (index_range_finds c i g)
    (λ v h. record {
      indicates = rule.with_index k (record { of = o; form = form.Array i None t }) ss g i t v n e j refl h;
      subtype = record { of = o; form = form.Array i (Some v) t };
      is = refl;
    })
indexed c s k o (form.Array i (Some b) t) a g ss n e j = and_also_left (Indicated c s) (refuse code.L20 (c.place a.from)) (range_seen c code.L20 want.Free g) tt
indexed c s k o (form.Number d v) a g ss n e j = and_also_left (Indicated c s) (refuse code.L20 (c.place a.from)) (range_seen c code.L20 want.Free g) tt
indexed c s k o form.Truth a g ss n e j = and_also_left (Indicated c s) (refuse code.L20 (c.place a.from)) (range_seen c code.L20 want.Free g) tt
indexed c s k o (form.Record m u) a g ss n e j = and_also_left (Indicated c s) (refuse code.L20 (c.place a.from)) (range_seen c code.L20 want.Free g) tt

applied : (c : Scope) (r : Code) (s : tree.SubInd) (k : ℕ) (x : Subtype) (xs : tree.Args) → Names c s.name (tree.suffixes (tree.applied xs) tree.no_suffixes) k x → (b : Option tree.Bounds) → s.bounds ≡ b
    → Finds (constrained c r (name_place c s.name) k (Some x) (index_of xs b)) (Indicated c s)
applied c r s k x (tree.args (tree.arg a (tree.parts l h) tree.no_value) tree.no_args) n None e =
    indexed c s k x.of x.form a (tree.range l (tree.an_expr h)) (tree.suffixes (tree.applied (tree.args (tree.arg a (tree.parts l h) tree.no_value) tree.no_args)) tree.no_suffixes) n e (rule.two_bounds a l h)
applied c r s k x (tree.args (tree.arg a (tree.part (tree.item i (tree.plain h))) tree.no_value) tree.no_args) n None e =
    indexed c s k x.of x.form a (tree.range h tree.no_expr) (tree.suffixes (tree.applied (tree.args (tree.arg a (tree.part (tree.item i (tree.plain h))) tree.no_value) tree.no_args)) tree.no_suffixes) n e (rule.named_range a i h)
applied c r s k x xs n b e = tt

constrained_by : (c : Scope) (r : Code) (s : tree.SubInd) (k : ℕ) (x : Subtype) (ss : tree.Suffixes) → Names c s.name ss k x → (b : Option tree.Bounds) → s.bounds ≡ b
    → Finds (constrained c r (name_place c s.name) k (Some x) (constraint_of ss b)) (Indicated c s)
constrained_by c r s k x tree.no_suffixes n None e = record { indicates = rule.by_name k x n e; subtype = x; is = n.is }
constrained_by c r s k x tree.no_suffixes n (Some b) e = ranged c s k x.of x.form b n e
constrained_by c r s k x (tree.suffixes (tree.applied xs) tree.no_suffixes) n b e = applied c r s k x xs n b e
constrained_by c r s k x (tree.suffixes t rest) n b e = tt

of_subtype : (c : Scope) (r : Code) (s : tree.SubInd) (k : ℕ) (ss : tree.Suffixes) → NameMeans c s.name (entity.Subtype k) ss → (x : Option Subtype) → subtype_at c.world k ≡ x
    → Finds (constrained c r (name_place c s.name) k x (constraint_of ss s.bounds)) (Indicated c s)
of_subtype c r s k ss h None e = tt
of_subtype c r s k ss h (Some x) e = constrained_by c r s k x ss (record { means = h; is = e }) s.bounds refl

-- ---- subtype indications

indicated_by : (c : Scope) (r : Code) (s : tree.SubInd) (e : Entity) (ss : tree.Suffixes) → NameMeans c s.name e ss → Finds (indication c r (name_place c s.name) e (constraint_of ss s.bounds)) (Indicated c s)
indicated_by c r s (entity.Subtype k) ss h = of_subtype c r s k ss h (subtype_at c.world k) refl
indicated_by c r s entity.Unknown ss h = and_also_left (Indicated c s) found.Unknown (unsupported c (constraint_of ss s.bounds)) tt
indicated_by c r s e ss h = and_also_left (Indicated c s) (refuse r (name_place c s.name)) (unsupported c (constraint_of ss s.bounds)) tt

marked_by : (c : Scope) (r : Code) (s : tree.SubInd) (m : Mark) → Marks (NameMeans c s.name) m → Finds (marked c r s m) (Indicated c s)
marked_by c r s (mark e ss) h = elim h [
  | inl i ↦ subst (λ (f : Entity). Finds (indication c r (name_place c s.name) f (constraint_of ss s.bounds)) (Indicated c s)) (sym i)
      (and_also_left (Indicated c s) (refuse r (name_place c s.name)) (unsupported c (constraint_of ss s.bounds)) tt)
  | inr j ↦ indicated_by c r s e ss j
]

pub indicated_finds : (c : Scope) (r : Code) (s : tree.SubInd) → Finds (indicated c r s) (Indicated c s)
indicated_finds c r s = marked_by c r s (mark_of c s.name) (name_marks c s.name)

pub indicates_finds : (c : Scope) (r : Code) (s : tree.SubInd) → Finds (indicated c r s) (Indicates c s)
indicates_finds c r s = finds_map (Indicated c s) (Indicates c s) (λ n h. h.indicates) (indicated c r s) (indicated_finds c r s)

-- ---- subtypes of objects and of parts

abbrev IsFalse : Bool → Type 0
IsFalse false = Unit {0}
IsFalse true = ⊥

definite : (f : Form) → is_comparable f ≡ true → IsDefinite f
definite (form.Number d x) e = tt
definite form.Truth e = tt
definite (form.Array i None t) e = absurd (subst IsFalse e tt)
definite (form.Array i (Some b) t) e = tt
definite (form.Record m n) e = tt

pub definite_at : (o : Option Subtype) (x : Subtype) → o ≡ Some x → is_constrained (form_in o) ≡ true → IsDefinite x.form
definite_at o x e h = definite x.form (subst (λ (y : Option Subtype). is_constrained (form_in y) ≡ true) e h)

whole_by : (c : Scope) (r : Code) (p : Place) (s : tree.SubInd) (n : Noted) → Indicated c s n → Finds (whole_of c.world r p n) (IsWhole c s)
whole_by c r p s n h =
    unless_keeps (IsWhole c s) (is_constrained (noted_form c.world n)) r p n
    (λ e. record { indicates = h.indicates; definite = record { subtype = h.subtype; is = h.is; definite = definite_at (noted_subtype c.world n) h.subtype h.is e } })

-- by any rule, at any place
pub whole_finds : (c : Scope) (r : Code) (p : Place) (s : tree.SubInd) → Finds (found_then (indicated c r s) (whole_of c.world r p)) (IsWhole c s)
whole_finds c r p s = then_finds (Indicated c s) (IsWhole c s) (indicated c r s) (whole_of c.world r p) (indicated_finds c r s) (λ n h. whole_by c r p s n h)
