-- Which typed program the files of a program are, a constructor a form of unit. -- Ada RM 7, 10.1
use Rattle.std.specs.Prelude.{◌≡◌, ℕ, false, Option, Some, None, List, [], ◌∷◌, slice_get}
use Rattle.syntax_view.specs.Trees as tree
use Rattle.typed_units.specs.declared.programs.Program.{Program}
use Rattle.statement_typing.specs.declared.draft.Draft.{Draft}
use Rattle.statement_typing.specs.declared.parts.Stated.{Stated}
use Rattle.statement_typing.specs.Files.{File, Home}
use Rattle.statement_typing.specs.Units.{home_of, package_named, program_of, start}
use Rattle.declaration_relations.specs.Declares.{DeclareAll, DeclaresSub}
use Rattle.declaration_relations.specs.States.{AllState}

-- the declarations after `private`, where there are any -- Ada RM 7.1
pub data DeclareHidden (h : Home) : Option tree.Decls → Draft → Draft → Type 0 where
  without : (d : Draft) → DeclareHidden h None d d
  hidden : (ds : tree.Decls) (d e : Draft) → DeclareAll h ds d e → DeclareHidden h (Some ds) d e

-- a unit turns a draft into another; a package has no contract
pub data DeclaresUnit (h : Home) : tree.UnitForm → Draft → Draft → Type 0 where
  -- Ada RM 7.1
  a_package : (p : tree.Package) (d e f : Draft) (xs : List Stated) → AllState h d.world false [] p.aspects xs → DeclareAll h p.declarations (package_named h p d) e → DeclareHidden h p.hidden e f
      → DeclaresUnit h (tree.package_unit p) d f
  -- Ada RM 7.2
  a_package_body : (b : tree.PackageBody) (d e : Draft) (xs : List Stated) → AllState h d.world false [] b.aspects xs → DeclareAll h b.declarations d e
      → DeclaresUnit h (tree.package_body_unit b) d e
  a_subprogram : (s : tree.Sub) (d e : Draft) → DeclaresSub h s d e → DeclaresUnit h (tree.sub_unit s) d e

-- the units of these files, by their numbers, one after another -- Ada RM 10.1
pub data DeclareFiles (fs : List File) : List ℕ → Draft → Draft → Type 0 where
  no_more : (d : Draft) → DeclareFiles fs [] d d
  one_more : (n : ℕ) (ns : List ℕ) (f : File) (d e g : Draft) → slice_get fs n ≡ Some f → DeclaresUnit (home_of fs f) f.unit.unit.form d e → DeclareFiles fs ns e g
      → DeclareFiles fs (n ∷ ns) d g

-- the typed program that files are, in an order
pub record IsProgram (fs : List File) (order : List ℕ) (p : Program) : Type 0 where
  pub draft : Draft
  pub declares : DeclareFiles fs order (start fs) draft
  pub is : p ≡ program_of draft
