-- Declarations, units and programs whose names are all declared.
use Rattle.std.specs.Prelude.{ℕ, Bool, true, false, Option, Some, None, List, [], ◌∷◌, slice_get}
use Rattle.ada_values.specs.declared.place.Place.{Place}
use Rattle.syntax_view.specs.Trees as tree
use Rattle.type_base.specs.Scope.{Scope}
use Rattle.typing_laws.specs.Declared.{IsDeclared}
use Rattle.statement_typing.specs.declared.draft.Draft.{Draft}
use Rattle.statement_typing.specs.Files.{File, Home, place_at}
use Rattle.statement_typing.specs.Objects.{entered_by, object_subtype, present}
use Rattle.statement_typing.specs.Routines.{profile, with_profile}
use Rattle.statement_typing.specs.Statements.{nothing}
use Rattle.statement_typing.specs.Units.{all_declared, around, body_home, contract_home, declared, file_declared, home_of, indexes_so_far, is_first, number_of, opened, package_named, returns_of, start, with_heading}
use Rattle.known_statements.specs.Declared.{PragmaDeclared, ReturnsKnown, StmtsDeclared}
use Rattle.known_declarations.specs.Declared.{AspectsDeclared, DefinitionDeclared, IndicationDeclared, ProfileDeclared, ValueDeclared}

-- ---- objects and named numbers

-- no declaration leaves the value of a named number out
abbrev pub NumberDeclared : Scope → Option tree.Expr → Type 0
NumberDeclared c None = ⊥
NumberDeclared c (Some e) = IsDeclared c e

-- the names of a value are declared in the draft that has the object's subtype
abbrev pub ObjectDeclared : Home → Place → Option tree.SubInd → Option tree.Expr → Draft → Type 0
ObjectDeclared h p None v d = NumberDeclared (present h d) v
ObjectDeclared h p (Some s) v d =
    IndicationDeclared (present h d) s × ValueDeclared (present h (entered_by (object_subtype (present h d) p s) d).draft) v

-- ---- pragmas and subprograms

-- a pragma of a package gives nothing
abbrev pub PragmaOf : Option ℕ → Home → tree.Pragma → Draft → Type 0
PragmaOf None h q d = Unit {0}
PragmaOf (Some n) h q d = PragmaDeclared (around h nothing d.world) (h.file.word q.name.from) q.args

-- the names of a contract are declared in the draft that has the profile
abbrev pub HeadingDeclared : Home → ℕ → tree.Heading → Draft → Type 0
HeadingDeclared h q s d =
    ProfileDeclared (present (contract_home h q s) d) s
    × AspectsDeclared (contract_home h q s) (with_profile h q s.name (profile (present (contract_home h q s) d) s) d).world s.aspects

-- another spelling of a profile gives nothing
abbrev pub FirstDeclared : Bool → Home → ℕ → tree.Heading → Draft → Type 0
FirstDeclared true h q s d = HeadingDeclared h q s d
FirstDeclared false h q s d = Unit {0}

-- the statements of a body; the result of a function isn't refused, else nothing could be said of what it returns
abbrev pub StatementsDeclared : Home → tree.Heading → tree.Stmts → Draft → Type 0
StatementsDeclared h s ss d = ReturnsKnown d.world (returns_of (present h d) s.result) × StmtsDeclared (around h (returns_of (present h d) s.result) d.world) ss

-- ---- declarations, each in the draft that has those before it

abbrev mutual
  pub DeclDeclared : Home → tree.Decl → Draft → Type 0
  DeclDeclared h (tree.declaration s f) d = FormDeclared h (place_at h s) f d

  -- p is the place of the declaration
  pub FormDeclared : Home → Place → tree.DeclForm → Draft → Type 0
  FormDeclared h p (tree.type_decl n t) d = DefinitionDeclared (present h d) t.form
  FormDeclared h p (tree.subtype_decl n s) d = IndicationDeclared (present h d) s
  FormDeclared h p (tree.object_decl ns o) d = ObjectDeclared h p o.subtype o.value d
  FormDeclared h p (tree.sub_decl s) d = SubDeclared h s d
  FormDeclared h p (tree.pragma_decl q) d = PragmaOf h.own h q d
  FormDeclared h p (tree.use_decl ns) d = Unit {0}

  pub SubDeclared : Home → tree.Sub → Draft → Type 0
  SubDeclared h (tree.sub s b) d =
      FirstDeclared (is_first h.file s.name) h (number_of h s) s d × BodyDeclared h (number_of h s) s b (with_heading (is_first h.file s.name) h (number_of h s) s d)

  pub BodyDeclared : Home → ℕ → tree.Heading → tree.Body → Draft → Type 0
  BodyDeclared h q s tree.no_body d = Unit {0}
  BodyDeclared h q s (tree.body ds ss e) d =
      DeclsDeclared (body_home h q (indexes_so_far (slice_get d.subs q)) ds ss) ds (opened d)
      × StatementsDeclared (body_home h q (indexes_so_far (slice_get d.subs q)) ds ss) s ss (all_declared (body_home h q (indexes_so_far (slice_get d.subs q)) ds ss) ds (opened d))

  pub DeclsDeclared : Home → tree.Decls → Draft → Type 0
  DeclsDeclared h tree.no_decls d = Unit {0}
  DeclsDeclared h (tree.decls x xs) d = DeclDeclared h x d × DeclsDeclared h xs (declared h x d)

-- ---- units, files and programs

abbrev pub HiddenDeclared : Home → Option tree.Decls → Draft → Type 0
HiddenDeclared h None d = Unit {0}
HiddenDeclared h (Some ds) d = DeclsDeclared h ds d

abbrev pub UnitDeclared : Home → tree.UnitForm → Draft → Type 0
UnitDeclared h (tree.package_unit p) d =
    DeclsDeclared h p.declarations (package_named h p d) × HiddenDeclared h p.hidden (all_declared h p.declarations (package_named h p d))
UnitDeclared h (tree.package_body_unit b) d = DeclsDeclared h b.declarations d
UnitDeclared h (tree.sub_unit s) d = SubDeclared h s d

-- an order has the numbers of files alone
abbrev pub FileDeclared : List File → Option File → Draft → Type 0
FileDeclared fs None d = ⊥
FileDeclared fs (Some f) d = UnitDeclared (home_of fs f) f.unit.unit.form d

abbrev pub FilesDeclared : List File → List ℕ → Draft → Type 0
FilesDeclared fs [] d = Unit {0}
FilesDeclared fs (n ∷ ns) d = FileDeclared fs (slice_get fs n) d × FilesDeclared fs ns (file_declared fs (slice_get fs n) d)

-- all names of a program are declared; the order has the numbers of the files
abbrev pub ProgramDeclared : List File → List ℕ → Type 0
ProgramDeclared fs order = FilesDeclared fs order (start fs)
