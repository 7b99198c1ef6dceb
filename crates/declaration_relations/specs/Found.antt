-- Declarations of whose parts all is known: of every name in them that rules of types ask for, what it stands for.
use Rattle.std.specs.Prelude.{ℕ, Bool, true, false, Option, Some, None, List, [], ◌∷◌, slice_get}
use Rattle.ada_values.specs.declared.place.Place.{Place}
use Rattle.front_codes.specs.declared.codes.Code.TheVariants.{L20}
use Rattle.syntax_view.specs.Trees as tree
use Rattle.type_base.specs.declared.seen.Want.TheVariants as want
use Rattle.typing_rules.specs.declared.prefix.Found.{Found}
use Rattle.known_statements.specs.Declared.{IsFound}
use Rattle.typing_rules.specs.Fits.{found_then}
use Rattle.statement_typing.specs.declared.draft.Draft.{Draft}
use Rattle.statement_typing.specs.declared.parts.Noted.{Noted}
use Rattle.statement_typing.specs.Asked.{place_of}
use Rattle.statement_typing.specs.Aspects.{aspects_found}
use Rattle.statement_typing.specs.Drafts.{Entered}
use Rattle.statement_typing.specs.Files.{File, Home, place_at}
use Rattle.statement_typing.specs.Objects.{entered_by, named_number, object_subtype, object_value, present, settled_value}
use Rattle.statement_typing.specs.Routines.{profile, with_profile}
use Rattle.statement_typing.specs.Statements.{nothing, pragma_by, stmts}
use Rattle.statement_typing.specs.Subtypes.{indicated, part}
use Rattle.statement_typing.specs.Types.{definition}
use Rattle.statement_typing.specs.Units.{all_declared, around, body_home, contract_home, declared, file_declared, home_of, indexes_so_far, is_first, number_of, opened, package_named, returns_of, start, with_heading}

abbrev pub AllFound : {A : Type 0} → List (Found A) → Type 0
AllFound [] = Unit {0}
AllFound (x ∷ xs) = IsFound x × AllFound xs

-- ---- objects and named numbers

-- no declaration leaves the value of a named number out
abbrev pub NumberFound : Home → Option tree.Expr → Draft → Type 0
NumberFound h None d = ⊥
NumberFound h (Some e) d = IsFound (part (present h d) want.Free e (named_number d.world (place_of (present h d) e)))

-- a value, and at package level what it is: of subtype n, which the draft has as e
abbrev pub ValueFound : Option ℕ → Home → Place → Bool → Option tree.Expr → Found Noted → Entered → Type 0
ValueFound (Some q) h p b v n e = IsFound (object_value h p b v n e)
ValueFound None h p b v n e = IsFound (found_then (object_value h p b v n e) (settled_value (present h e.draft) v))

abbrev pub ObjectFound : Home → Place → Bool → Option tree.SubInd → Option tree.Expr → Draft → Type 0
ObjectFound h p b None v d = NumberFound h v d
ObjectFound h p b (Some s) v d = ValueFound h.own h p b v (object_subtype (present h d) p s) (entered_by (object_subtype (present h d) p s) d)

-- ---- pragmas and subprograms

-- a pragma of a package gives nothing
abbrev pub PragmaFound : Option ℕ → Home → Place → tree.Pragma → Draft → Type 0
PragmaFound None h p q d = Unit {0}
PragmaFound (Some n) h p q d = IsFound (pragma_by (around h nothing d.world) p (h.file.word q.name.from) q.args)

-- its profile, and its contract
abbrev pub HeadingFound : Home → ℕ → tree.Heading → Draft → Type 0
HeadingFound h q s d =
    IsFound (profile (present (contract_home h q s) d) s)
    × AllFound (aspects_found (contract_home h q s) (with_profile h q s.name (profile (present (contract_home h q s) d) s) d).world true [] s.aspects)

-- another spelling of a profile gives nothing
abbrev pub FirstFound : Bool → Home → ℕ → tree.Heading → Draft → Type 0
FirstFound true h q s d = HeadingFound h q s d
FirstFound false h q s d = Unit {0}

abbrev pub StatementsFound : Home → tree.Heading → tree.Stmts → Draft → Type 0
StatementsFound h s ss d = IsFound (stmts (around h (returns_of (present h d) s.result) d.world) ss)

-- ---- declarations, each in the draft that has those before it

abbrev mutual
  pub DeclFound : Home → tree.Decl → Draft → Type 0
  DeclFound h (tree.declaration s f) d = FormFound h (place_at h s) f d

  -- p is the place of the declaration
  pub FormFound : Home → Place → tree.DeclForm → Draft → Type 0
  FormFound h p (tree.type_decl n t) d = IsFound (definition (present h d) t.form)
  FormFound h p (tree.subtype_decl n s) d = IsFound (indicated (present h d) L20 s)
  FormFound h p (tree.object_decl ns o) d = ObjectFound h p o.constant o.subtype o.value d
  FormFound h p (tree.sub_decl s) d = SubFound h s d
  FormFound h p (tree.pragma_decl q) d = PragmaFound h.own h p q d
  FormFound h p (tree.use_decl ns) d = Unit {0}

  pub SubFound : Home → tree.Sub → Draft → Type 0
  SubFound h (tree.sub s b) d =
      FirstFound (is_first h.file s.name) h (number_of h s) s d × BodyFound h (number_of h s) s b (with_heading (is_first h.file s.name) h (number_of h s) s d)

  pub BodyFound : Home → ℕ → tree.Heading → tree.Body → Draft → Type 0
  BodyFound h q s tree.no_body d = Unit {0}
  BodyFound h q s (tree.body ds ss e) d =
      DeclsFound (body_home h q (indexes_so_far (slice_get d.subs q)) ds ss) ds (opened d)
      × StatementsFound (body_home h q (indexes_so_far (slice_get d.subs q)) ds ss) s ss (all_declared (body_home h q (indexes_so_far (slice_get d.subs q)) ds ss) ds (opened d))

  pub DeclsFound : Home → tree.Decls → Draft → Type 0
  DeclsFound h tree.no_decls d = Unit {0}
  DeclsFound h (tree.decls x xs) d = DeclFound h x d × DeclsFound h xs (declared h x d)

-- ---- units, files and programs

abbrev pub HiddenFound : Home → Option tree.Decls → Draft → Type 0
HiddenFound h None d = Unit {0}
HiddenFound h (Some ds) d = DeclsFound h ds d

abbrev pub UnitFound : Home → tree.UnitForm → Draft → Type 0
UnitFound h (tree.package_unit p) d = DeclsFound h p.declarations (package_named h p d) × HiddenFound h p.hidden (all_declared h p.declarations (package_named h p d))
UnitFound h (tree.package_body_unit b) d = DeclsFound h b.declarations d
UnitFound h (tree.sub_unit s) d = SubFound h s d

-- a number that no file has finds none
abbrev pub FileFound : List File → Option File → Draft → Type 0
FileFound fs None d = ⊥
FileFound fs (Some f) d = UnitFound (home_of fs f) f.unit.unit.form d

abbrev pub FilesFound : List File → List ℕ → Draft → Type 0
FilesFound fs [] d = Unit {0}
FilesFound fs (n ∷ ns) d = FileFound fs (slice_get fs n) d × FilesFound fs ns (file_declared fs (slice_get fs n) d)

-- all that is found in a program; the order has the numbers of the files
abbrev pub ProgramFound : List File → List ℕ → Type 0
ProgramFound fs order = FilesFound fs order (start fs)
