-- Which type the definition of a type is, a constructor a form. -- Ada RM 3.4, 3.5.1, 3.5.4, 3.6, 3.8
use Rattle.std.specs.Prelude.{◌≡◌, ℕ, ℤ, pos, negsuc, true, Option, Some, None, List, [], ◌∷◌, length}
use Rattle.std.specs.Int.RustNames.{int_le}
use Rattle.ada_values.specs.Scalars.{within}
use Rattle.ada_values.specs.declared.scalars.Scalar.{Scalar}
use Rattle.ada_text.specs.declared.token.Span.{Span}
use Rattle.syntax_view.specs.Trees as tree
use Rattle.typed_units.specs.declared.operators.Bounds.{Bounds}
use Rattle.type_base.specs.Scope.{Scope}
use Rattle.type_base.specs.declared.entities.Entity.TheVariants as entity
use Rattle.type_base.specs.declared.seen.Want.TheVariants as want
use Rattle.type_base.specs.declared.world.Discrete.{Discrete}
use Rattle.type_base.specs.declared.world.Discrete.TheVariants as discrete
use Rattle.type_base.specs.declared.world.Form.{Form}
use Rattle.type_base.specs.declared.world.Form.TheVariants as form
use Rattle.type_base.specs.declared.world.Subtype.{Subtype}
use Rattle.type_base.specs.Lookups.{form_at}
use Rattle.statement_typing.specs.declared.parts.Definition.{Definition}
use Rattle.statement_typing.specs.declared.parts.Definition.TheVariants.{ArrayOf, Integer, RecordOf, Single}
use Rattle.statement_typing.specs.declared.parts.Group.{Group}
use Rattle.statement_typing.specs.declared.parts.Indexes.{Indexes}
use Rattle.statement_typing.specs.declared.parts.Noted.{Noted}
use Rattle.statement_typing.specs.declared.parts.StaticRange.{StaticRange}
use Rattle.statement_typing.specs.Subtypes.{bounds, noted_subtype}
use Rattle.statement_typing.specs.Types.{modular_scalar, positions, signed_scalar}
use Rattle.declaration_relations.specs.Indicates.{GivesBounds, HasStaticRange, Indicates, IsInteger, IsWhole, NameMeans}

-- ---- the index of an array -- L20, Ada RM 3.6(5), 3.6(6)

-- a name of subtype k, which is of an integer or enumeration type
pub data NamesDiscrete (c : Scope) : tree.Expr → ℕ → Type 0 where
  names_discrete : (s : Span) (n : tree.Name) (k : ℕ) (d : Discrete) (x : Scalar) → NameMeans c n (entity.Subtype k) tree.no_suffixes → form_at c.world k ≡ Some (form.Number d x)
      → NamesDiscrete c (tree.at s (tree.name n)) k

pub data Indexed (c : Scope) (e : tree.Expr) : tree.IndexForm → Indexes → Type 0 where
  -- a subtype, or `'Range`
  by_one : (r : StaticRange) → HasStaticRange c want.Free (tree.range e tree.no_expr) r → Indexed c e tree.alone (record { subtype = r.subtype; bounds = Some r.bounds })
  by_bounds : (h : tree.Expr) (r : StaticRange) → HasStaticRange c want.Free (tree.range e (tree.an_expr h)) r → Indexed c e (tree.up_to h) (record { subtype = r.subtype; bounds = Some r.bounds })
  -- `range <>`
  without_bounds : (k : ℕ) → NamesDiscrete c e k → Indexed c e tree.unconstrained (record { subtype = k; bounds = None })
  -- a subtype with bounds
  within_subtype : (b : tree.Bounds) (k : ℕ) (v : Bounds) → NamesDiscrete c e k → GivesBounds c k (tree.range b.low (tree.an_expr b.high)) v
      → Indexed c e (tree.constrained b) (record { subtype = k; bounds = Some v })

-- ---- the components of a record -- Ada RM 3.8

pub data HasComponents (c : Scope) : List tree.Component → List Group → Type 0 where
  no_more : HasComponents c [] []
  one_more : (g : tree.Component) (gs : List tree.Component) (n : Noted) (xs : List Group) → IsWhole c g.subtype n → HasComponents c gs xs
      → HasComponents c (g ∷ gs) (record { names = g.names; subtype = n } ∷ xs)

-- ---- derived types: the parent's values and, of numbers and positions, its base range; none of Boolean -- L20, Ada RM 3.4

pub data Derives : Form → Definition → Type 0 where
  from_numbers : (k : Discrete) (x : Scalar) → Derives (form.Number k x) (Integer k x)
  from_array : (i : ℕ) (b : Option Bounds) (t : ℕ) → Derives (form.Array i b t) (Single (form.Array i b t))
  from_record : (m n : ℕ) → Derives (form.Record m n) (Single (form.Record m n))

-- ---- definitions

pub data Defines (c : Scope) : tree.TypeForm → Definition → Type 0 where
  -- bounds in order that 64 bits hold -- L20, Ada RM 3.5.4(6), 3.5.4(9)
  signed : (b : tree.Bounds) (l h : ℤ) → IsInteger c b.low l → IsInteger c b.high h → within (negsuc 9223372036854775807) (pos 9223372036854775807) l ≡ true
      → within (negsuc 9223372036854775807) (pos 9223372036854775807) h ≡ true → int_le l h ≡ true → Defines c (tree.signed b) (Integer discrete.Signed (signed_scalar (bounds l h)))
  -- a modulus from 2 to 2 ** 32 -- L20, Ada RM 3.5.4(7), 3.5.4(10)
  modular : (e : tree.Expr) (n : ℤ) → IsInteger c e n → within (pos 2) (pos 4294967296) n ≡ true → Defines c (tree.modular e) (Integer discrete.Modular (modular_scalar n))
  -- a position for each literal -- Ada RM 3.5.1(7)
  enumeration : (ns : List Span) → Defines c (tree.enumeration ns) (Single (positions (length ns)))
  -- Ada RM 3.6
  array_of : (i : tree.Index) (s : tree.SubInd) (x : Indexes) (n : Noted) → Indexed c i.first i.form x → IsWhole c s n → Defines c (tree.array_of i s) (ArrayOf x n)
  -- Ada RM 3.8
  record_of : (gs : List tree.Component) (xs : List Group) → HasComponents c gs xs → Defines c (tree.record_of gs) (RecordOf xs)
  -- Ada RM 3.4
  derived : (s : tree.SubInd) (n : Noted) (x : Subtype) (d : Definition) → Indicates c s n → noted_subtype c.world n ≡ Some x → Derives x.form d → Defines c (tree.derived s) d
