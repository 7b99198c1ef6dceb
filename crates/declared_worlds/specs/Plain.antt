-- Programs none of whose bodies declares a subprogram, as the rules of names demand.
use Rattle.std.specs.Prelude.{List, [], ◌∷◌, Option, Some, None}
use Rattle.syntax_view.specs.Trees as tree
use Rattle.statement_typing.specs.Files.{File}

abbrev pub NoSub : tree.DeclForm → Type 0
NoSub (tree.sub_decl s) = ⊥
NoSub _ = Unit {0}

abbrev pub NoSubs : tree.Decls → Type 0
NoSubs tree.no_decls = Unit {0}
NoSubs (tree.decls (tree.declaration s f) ds) = NoSub f × NoSubs ds

abbrev pub PlainBody : tree.Body → Type 0
PlainBody tree.no_body = Unit {0}
PlainBody (tree.body ds ss e) = NoSubs ds

abbrev pub PlainSub : tree.Sub → Type 0
PlainSub (tree.sub s b) = PlainBody b

abbrev pub PlainForm : tree.DeclForm → Type 0
PlainForm (tree.sub_decl s) = PlainSub s
PlainForm _ = Unit {0}

abbrev pub PlainDecls : tree.Decls → Type 0
PlainDecls tree.no_decls = Unit {0}
PlainDecls (tree.decls (tree.declaration s f) ds) = PlainForm f × PlainDecls ds

abbrev pub PlainHidden : Option tree.Decls → Type 0
PlainHidden None = Unit {0}
PlainHidden (Some ds) = PlainDecls ds

abbrev pub PlainUnit : tree.UnitForm → Type 0
PlainUnit (tree.package_unit p) = PlainDecls p.declarations × PlainHidden p.hidden
PlainUnit (tree.package_body_unit b) = PlainDecls b.declarations
PlainUnit (tree.sub_unit s) = PlainSub s

abbrev pub PlainFiles : List File → Type 0
PlainFiles [] = Unit {0}
PlainFiles (f ∷ fs) = PlainUnit f.unit.unit.form × PlainFiles fs
