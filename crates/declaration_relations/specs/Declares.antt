-- What each declaration enters into a program that is being typed, a constructor a form. -- Ada RM 3.1, 3.11, 6.1, 6.3, 8.4
use Rattle.std.specs.Prelude.{◌≡◌, ℕ, ℤ, true, false, Option, Some, None, List, [], ◌∷◌, ◌++◌, length, slice_get}
use Rattle.ada_values.specs.declared.values.Value.{Value}
use Rattle.ada_text.specs.declared.token.Span.{Span}
use Rattle.name_library.specs.declared.links.Link.{Link}
use Rattle.syntax_view.specs.Trees as tree
use Rattle.typed_units.specs.declared.expressions.Expr.{Expr}
use Rattle.typed_units.specs.declared.expressions.Fitted.{Fitted}
use Rattle.typed_units.specs.declared.statements.Stmt.{Stmt}
use Rattle.type_base.specs.Scope.{Scope}
use Rattle.type_base.specs.declared.entities.Entity.TheVariants as entity
use Rattle.type_base.specs.declared.world.Subtype.{Subtype}
use Rattle.typing_rules.specs.declared.prefix.Found.{Found}
use Rattle.typing_rules.specs.declared.prefix.Found.TheVariants.{Is}
use Rattle.statement_typing.specs.declared.draft.Draft.{Draft}
use Rattle.statement_typing.specs.declared.parts.Definition.{Definition}
use Rattle.statement_typing.specs.declared.parts.Noted.{Noted}
use Rattle.statement_typing.specs.declared.parts.Noted.TheVariants.{Known}
use Rattle.statement_typing.specs.declared.parts.Profile.{Profile}
use Rattle.statement_typing.specs.declared.parts.Stated.{Stated}
use Rattle.statement_typing.specs.Aspects.{with_stated}
use Rattle.statement_typing.specs.Drafts.{declare_all, entered, with_type}
use Rattle.statement_typing.specs.Files.{Home, place_at}
use Rattle.statement_typing.specs.Objects.{changed_at, of_package, present, with_locals}
use Rattle.statement_typing.specs.Routines.{result_mark, with_formals, with_routine}
use Rattle.statement_typing.specs.Statements.{Returns, a_value, ends, nothing}
use Rattle.statement_typing.specs.Subtypes.{noted_subtype}
use Rattle.statement_typing.specs.Units.{around, body_home, contract_home, contract_indexes, filled, indexes_so_far, literals_of, number_of, opened, with_named, with_subtype_of}
use Rattle.statement_relations.specs.Does.{AllDo, Does}
use Rattle.declaration_relations.specs.Defines.{Defines}
use Rattle.declaration_relations.specs.Indicates.{Indicates, IsInteger, IsWhole}
use Rattle.declaration_relations.specs.Profiles.{HasProfile}
use Rattle.declaration_relations.specs.States.{AllState}
use Rattle.declaration_relations.specs.Values.{Settles, Starts}

-- ---- objects and named numbers -- Ada RM 3.3.1, 3.3.2

pub data DeclaresObjects (h : Home) (ns : List Span) (o : tree.Object) (d : Draft) : Draft → Type 0 where
  named_numbers : (e : tree.Expr) (n : ℤ) → o.subtype ≡ None → o.value ≡ Some e → IsInteger (present h d) e n
      → DeclaresObjects h ns o d (declare_all h.file.number ns (entity.Number n) d)
  -- in a subprogram's body a value is an assignment at the object's name
  in_body : (q : ℕ) (i : tree.SubInd) (n : Noted) (f : Option (Fitted Expr)) → h.own ≡ Some q → o.subtype ≡ Some i → IsWhole (present h d) i n
      → Starts (present h (entered n d).draft) o.constant (entered n d).number o.value f
      → DeclaresObjects h ns o d (with_locals h o.constant (entered n d).number f ns (entered n d).draft)
  -- L27: in a package the value is known
  in_package : (i : tree.SubInd) (n : Noted) (f : Option (Fitted Expr)) (v : Option Value) → h.own ≡ None → o.subtype ≡ Some i → IsWhole (present h d) i n
      → Starts (present h (entered n d).draft) o.constant (entered n d).number o.value f → Settles f v
      → DeclaresObjects h ns o d (of_package h o.constant ns (entered n d).number v (entered n d).draft)

-- ---- subprograms

-- a subprogram with what its aspects state
abbrev pub with_all_stated : ℕ → List Stated → Draft → Draft
with_all_stated q [] d = d
with_all_stated q (x ∷ xs) d = with_all_stated q xs (with_stated q x d)

-- the profile, and after it the contract, which may name the formals -- Ada RM 6.1, 6.1.1
pub data DeclaresFirst (h : Home) (q : ℕ) (s : tree.Heading) (d : Draft) : Draft → Type 0 where
  declares_first : (p : Profile) (e : Draft) (xs : List Stated) → HasProfile (present (contract_home h q s) d) s p
      → e ≡ with_routine h q s.name (length d.world.formals) p.result (with_formals h q p.formals 0 d) → AllState (contract_home h q s) e.world true [] s.aspects xs
      → DeclaresFirst h q s d (record e { subs = changed_at q (contract_indexes h s) (with_all_stated q xs e).subs })

-- what a body returns: nothing, or values of the subtype that its result names, where it names one
pub data Returning (c : Scope) : Option tree.Name → Returns → Type 0 where
  procedure : Returning c None nothing
  function : (n : tree.Name) (r : Found ℕ) → ((k : ℕ) → r ≡ Is k → Indicates c (result_mark c n) (Known k)) → Returning c (Some n) (a_value r)

-- no function ends without a return -- L13, Ada RM 6.5(5)
abbrev pub EndsBy : Returns → tree.Stmts → Type 0
EndsBy nothing ss = Unit {0}
EndsBy (a_value r) ss = ends ss ≡ true

-- ---- declarations

mutual
  -- a declaration turns a draft into another
  pub data Declares : Home → tree.Decl → Draft → Draft → Type 0 where
    -- Ada RM 3.2.1
    a_type : (h : Home) (s n : Span) (t : tree.TypeDef) (d : Draft) (x : Definition) → Defines (present h d) t.form x
        → Declares h (tree.declaration s (tree.type_decl n t)) d (with_named h n (literals_of t.form) (with_type h.file.name (h.file.spelled n.from) x d))
    -- Ada RM 3.2.2
    a_subtype : (h : Home) (s n : Span) (i : tree.SubInd) (d : Draft) (m : Noted) (x : Subtype) → Indicates (present h d) i m → noted_subtype d.world m ≡ Some x
        → Declares h (tree.declaration s (tree.subtype_decl n i)) d (with_subtype_of h n (Some x) d)
    objects : (h : Home) (s : Span) (ns : List Span) (o : tree.Object) (d e : Draft) → DeclaresObjects h ns o d e → Declares h (tree.declaration s (tree.object_decl ns o)) d e
    a_subprogram : (h : Home) (s : Span) (x : tree.Sub) (d e : Draft) → DeclaresSub h x d e → Declares h (tree.declaration s (tree.sub_decl x)) d e
    -- a pragma in a subprogram's body is a statement before the others; one in a package has no meaning for types -- Ada RM 2.8
    pragma_in_body : (h : Home) (q : ℕ) (s : Span) (p : tree.Pragma) (d : Draft) (x : Stmt) → h.own ≡ Some q → Does (around h nothing d.world) (tree.statement s (tree.pragma_stmt p)) x
        → Declares h (tree.declaration s (tree.pragma_decl p)) d (record d { opening = d.opening ++ (x ∷ []) })
    pragma_in_package : (h : Home) (s : Span) (p : tree.Pragma) (d : Draft) → h.own ≡ None → Declares h (tree.declaration s (tree.pragma_decl p)) d d
    -- names see to it -- Ada RM 8.4
    a_use : (h : Home) (s : Span) (ns : List Span) (d : Draft) → Declares h (tree.declaration s (tree.use_decl ns)) d d

  pub data DeclaresSub : Home → tree.Sub → Draft → Draft → Type 0 where
    first : (h : Home) (s : tree.Heading) (b : tree.Body) (d e f : Draft) → h.file.link s.name.from ≡ None → DeclaresFirst h (number_of h s) s d e → HasBody h (number_of h s) s b e f
        → DeclaresSub h (tree.sub s b) d f
    -- another spelling of a profile adds nothing, and has no contract -- Ada RM 6.3, 6.3.1
    again : (h : Home) (s : tree.Heading) (b : tree.Body) (d f : Draft) (l : Link) (xs : List Stated) → h.file.link s.name.from ≡ Some l → AllState (contract_home h (number_of h s) s) d.world false [] s.aspects xs
        → HasBody h (number_of h s) s b d f → DeclaresSub h (tree.sub s b) d f

  pub data HasBody : Home → ℕ → tree.Heading → tree.Body → Draft → Draft → Type 0 where
    without : (h : Home) (q : ℕ) (s : tree.Heading) (d : Draft) → HasBody h q s tree.no_body d d
    -- its declarations, and then its statements, by which it is filled -- Ada RM 6.3
    with_body : (h c : Home) (q : ℕ) (s : tree.Heading) (ds : tree.Decls) (ss : tree.Stmts) (o : Option Span) (d e : Draft) (r : Returns) (xs : List Stmt) → c ≡ body_home h q (indexes_so_far (slice_get d.subs q)) ds ss
        → DeclareAll c ds (opened d) e → Returning (present c e) s.result r → AllDo (around c r e.world) [] ss xs → EndsBy r ss
        → HasBody h q s (tree.body ds ss o) d (opened (record e { subs = changed_at q (filled e (place_at h s.name) ds ss xs) e.subs }))

  -- declarations one after another -- Ada RM 3.11
  pub data DeclareAll : Home → tree.Decls → Draft → Draft → Type 0 where
    no_more : (h : Home) (d : Draft) → DeclareAll h tree.no_decls d d
    one_more : (h : Home) (x : tree.Decl) (xs : tree.Decls) (d e f : Draft) → Declares h x d e → DeclareAll h xs e f → DeclareAll h (tree.decls x xs) d f
