-- Units, files and programs that are accepted obey their rules.
use Rattle.std.proofs.Common.{◌≡◌, refl, ℕ, false, Option, Some, None, List, [], ◌∷◌, ◌++◌}
use Rattle.std.specs.Prelude.{slice_get}
use Rattle.front_codes.specs.declared.codes.Refusal.{Refusal}
use Rattle.syntax_view.specs.Trees as tree
use Rattle.typed_units.specs.declared.programs.Program.{Program}
use Rattle.statement_typing.specs.declared.draft.Draft.{Draft}
use Rattle.statement_typing.specs.declared.parts.Answer.TheVariants as answers
use Rattle.statement_typing.specs.Aspects.{aspects_faults}
use Rattle.statement_typing.specs.Files.{File, Home}
use Rattle.statement_typing.specs.Units.{all_declared, answer, answer_by, decls_faults, file_declared, file_faults, files_declared, files_faults, first_from, home_of, package_named, private_declared, private_faults, program_faults, program_of, start, unit_declared, unit_faults}
use Rattle.declaration_relations.specs.Found.{FileFound, FilesFound, HiddenFound, ProgramFound, UnitFound}
use Rattle.declaration_relations.specs.Programs as rule
use Rattle.declaration_relations.specs.Programs.{DeclareFiles, DeclareHidden, DeclaresUnit, IsProgram}
use Rattle.declaration_relations.proofs.Declaring.{declare_each, sub_declares}
use Rattle.declaration_relations.proofs.Entering.{again_found, aspects_accepted}
use Rattle.declaration_relations.proofs.Keeping.{left_empty, right_empty}

hidden_declares : (h : Home) (ds : Option tree.Decls) (d : Draft) → private_faults h ds d ≡ [] → HiddenFound h ds d → DeclareHidden h ds d (private_declared h ds d)
hidden_declares h None d z i = rule.without d
hidden_declares h (Some ds) d z i = rule.hidden ds d (all_declared h ds d) (declare_each h ds d z i)

pub unit_declares : (h : Home) (u : tree.UnitForm) (d : Draft) → unit_faults h u d ≡ [] → UnitFound h u d → DeclaresUnit h u d (unit_declared h u d)
unit_declares h (tree.package_unit p) d z i =
    let as' = aspects_faults h d.world false [] p.aspects in
    let named = package_named h p d in
    let ds = decls_faults h p.declarations named in
    let e = all_declared h p.declarations named in
    let hs = private_faults h p.hidden e in
    let before : as' ++ ds ≡ [] = left_empty (as' ++ ds) hs z in
    let states = aspects_accepted h d.world false p.aspects (left_empty as' ds before) (again_found h d.world [] p.aspects) in
    rule.a_package p d e (private_declared h p.hidden e) states.stated states.state (declare_each h p.declarations named (right_empty as' ds before) i.0) (hidden_declares h p.hidden e (right_empty (as' ++ ds) hs z) i.1)
unit_declares h (tree.package_body_unit b) d z i =
    let as' = aspects_faults h d.world false [] b.aspects in
    let ds = decls_faults h b.declarations d in
    let states = aspects_accepted h d.world false b.aspects (left_empty as' ds z) (again_found h d.world [] b.aspects) in
    rule.a_package_body b d (all_declared h b.declarations d) states.stated states.state (declare_each h b.declarations d (right_empty as' ds z) i)
unit_declares h (tree.sub_unit s) d z i = rule.a_subprogram s d _ (sub_declares h s d z i)

files_by : (fs : List File) (n : ℕ) (ns : List ℕ) (d : Draft) (f : Option File) → slice_get fs n ≡ f → file_faults fs f d ≡ [] → FileFound fs f d → (g : Draft) → DeclareFiles fs ns (file_declared fs f d) g
    → DeclareFiles fs (n ∷ ns) d g
files_by fs n ns d None e z i g rest = absurd i
files_by fs n ns d (Some f) e z i g rest = rule.one_more n ns f d (file_declared fs (Some f) d) g e (unit_declares (home_of fs f) f.unit.unit.form d z i) rest

pub files_declare : (fs : List File) (ns : List ℕ) (d : Draft) → files_faults fs ns d ≡ [] → FilesFound fs ns d → DeclareFiles fs ns d (files_declared fs ns d)
files_declare fs [] d z i = rule.no_more d
files_declare fs (n ∷ ns) d z i =
    let f = slice_get fs n in
    let e = file_declared fs f d in
    files_by fs n ns d f refl (left_empty (file_faults fs f d) (files_faults fs ns e) z) i.0 (files_declared fs ns e) (files_declare fs ns e (right_empty (file_faults fs f d) (files_faults fs ns e) z) i.1)

-- no rule is broken in a program that is typed
record IsTyped (faults : List Refusal) (d : Draft) (p : Program) : Type 0 where
  pub none : faults ≡ []
  pub is : p ≡ program_of d

is_typed : (fs : List Refusal) (d : Draft) (p : Program) → answer_by fs d ≡ answers.Typed p → IsTyped fs d p
is_typed [] d p e = record { none = refl; is = cc }
is_typed (f ∷ fs) d p e = refused (first_from f fs) e
  where
    refused : {A : Type 0} → (g : Refusal) → answers.Refused g ≡ answers.Typed p → A
    refused g i = cc

pub program_obeys : (fs : List File) (order : List ℕ) (p : Program) → ProgramFound fs order → answer fs order ≡ answers.Typed p → IsProgram fs order p
program_obeys fs order p i e =
    let d = files_declared fs order (start fs) in
    let t = is_typed (program_faults fs order) d p e in
    record { draft = d; declares = files_declare fs order (start fs) t.none i; is = t.is }
