-- What is found of declarations, units and programs whose names are declared.
use Rattle.std.proofs.Common.{◌≡◌, refl, ℕ, Bool, true, false, Option, Some, None, List, [], ◌∷◌}
use Rattle.std.specs.Prelude.{slice_get}
use Rattle.ada_values.specs.declared.place.Place.{Place}
use Rattle.front_codes.specs.declared.codes.Code.TheVariants.{L20}
use Rattle.syntax_view.specs.Trees as tree
use Rattle.typed_units.specs.declared.expressions.Expr.{Expr}
use Rattle.typed_units.specs.declared.expressions.Fitted.{Fitted}
use Rattle.type_base.specs.declared.seen.Want.TheVariants as want
use Rattle.typing_rules.specs.Fits.{found_then}
use Rattle.typing_rules.specs.declared.prefix.Found.{Found}
use Rattle.typing_rules.specs.declared.prefix.Found.TheVariants.{Refused, Unknown, Is}
use Rattle.typing_laws.specs.Declared.{IsSound, IsThere}
use Rattle.typing_laws.proofs.Standing.{IsFound, both_found, then_found}
use Rattle.statement_typing.specs.Aspects.{aspects_found}
use Rattle.statement_typing.specs.Asked.{place_of}
use Rattle.statement_typing.specs.Drafts.{entered}
use Rattle.statement_typing.specs.Files.{File, Home, place_at}
use Rattle.statement_typing.specs.Objects.{entered_by, initial, named_number, object_subtype, object_value, present, settled_value}
use Rattle.statement_typing.specs.Routines.{profile, with_profile}
use Rattle.statement_typing.specs.Statements.{nothing, pragma_by, stmts}
use Rattle.statement_typing.specs.Units.{all_declared, answer, around, body_declared, body_home, contract_home, declared, declared_by, file_declared, home_of, indexes_so_far, is_first, literals_of, number_of, opened, package_named, private_declared, returns_of, start, sub_declared, unit_declared, with_heading}
use Rattle.statement_typing.specs.Subtypes.{indicated, part}
use Rattle.statement_typing.specs.Types.{definition}
use Rattle.statement_typing.specs.declared.draft.Draft.{Draft}
use Rattle.statement_typing.specs.declared.parts.Noted.{Noted}
use Rattle.statement_typing.specs.declared.parts.Noted.TheVariants.{Known, New}
use Rattle.known_statements.specs.Declared as known
use Rattle.known_statements.proofs.Acted.{pragma_found, statements_known}
use Rattle.known_statements.proofs.Asked as asked
use Rattle.known_statements.proofs.Asked.{refused_found}
use Rattle.known_declarations.specs.Declared.{HasIndexes, IsReady, ValueDeclared}
use Rattle.known_declarations.proofs.Aspected.{aspects_all_found}
use Rattle.known_declarations.proofs.Indicated.{NotedFound, NotedThere}
use Rattle.known_declarations.proofs.Parts.{definition_known, indication_known, initial_found, number_known, object_subtype_there, profile_known, settled_value_found}
use Rattle.declared_worlds.proofs.Declaring.{declared_sound, decls_sound, heading_sound, package_sound, start_sound, unit_sound, value_sound, with_heading_sound}
use Rattle.declared_worlds.proofs.Growing.{one_there}
use Rattle.known_programs.proofs.Indexing.{definition_entered, definition_indexed, indicated_noted, indication_entered, no_arrays, object_indexed, pragma_indexed, same_indexed, statements_indexed, with_heading_indexed}
use Rattle.known_programs.specs.Declared.{BodyDeclared, DeclDeclared, DeclsDeclared, FileDeclared, FilesDeclared, FirstDeclared, FormDeclared, HeadingDeclared, HiddenDeclared, NumberDeclared, ObjectDeclared, PragmaOf, ProgramDeclared, StatementsDeclared, SubDeclared, UnitDeclared}
use Rattle.declaration_relations.proofs.Building.{program_obeys}
use Rattle.declaration_relations.specs.Programs.{IsProgram}
use Rattle.typed_units.specs.declared.programs.Program.{Program}
use Rattle.statement_typing.specs.declared.parts.Answer.TheVariants as answers
use Rattle.declaration_relations.specs.Found.{AllFound, BodyFound, DeclFound, DeclsFound, FileFound, FilesFound, FirstFound, FormFound, HeadingFound, HiddenFound, NumberFound, ObjectFound, PragmaFound, ProgramFound, StatementsFound, SubFound, UnitFound, ValueFound}

told : {A : Type 0} → (x : Found A) → IsFound x → known.IsFound x
told (Refused f) h = tt
told Unknown h = absurd h
told (Is a) h = tt

again : {A : Type 0} → (x : Found A) → known.IsFound x → known.IsFound x
again (Refused f) h = tt
again Unknown h = absurd h
again (Is a) h = tt

all_told : {A : Type 0} → (xs : List (Found A)) → asked.AllFound xs → AllFound xs
all_told [] h = tt
all_told (x ∷ xs) h = (told x h.0, all_told xs h.1)

-- ---- the index of each array stays one of numbers

mutual
  decl_indexed : (h : Home) (x : tree.Decl) (d : Draft) → IsReady d.world → DeclDeclared h x d → HasIndexes (declared h x d).world
  decl_indexed h (tree.declaration s f) d ready i = form_indexed h (place_at h s) f d ready i

  form_indexed : (h : Home) (p : Place) (f : tree.DeclForm) (d : Draft) → IsReady d.world → FormDeclared h p f d → HasIndexes (declared_by h p f d).world
  form_indexed h p (tree.type_decl n t) d ready i =
      let c = present h d in definition_entered h n (literals_of t.form) (definition c t.form) d ready.indexes (definition_indexed c t.form ready i)
  form_indexed h p (tree.subtype_decl n s) d ready i = let c = present h d in indication_entered h n (indicated c L20 s) d ready.indexes (indicated_noted c L20 s ready.indexes)
  form_indexed h p (tree.object_decl ns o) d ready i = object_indexed h p ns o.constant o.subtype o.value d ready.indexes
  form_indexed h p (tree.sub_decl s) d ready i = sub_indexed h s d ready i
  form_indexed h p (tree.pragma_decl q) d ready i = pragma_indexed h h.own p q d ready.indexes
  form_indexed h p (tree.use_decl ns) d ready i = ready.indexes

  sub_indexed : (h : Home) (s : tree.Sub) (d : Draft) → IsReady d.world → SubDeclared h s d → HasIndexes (sub_declared h s d).world
  sub_indexed h (tree.sub s b) d ready i =
      let q = number_of h s in
      let first = is_first h.file s.name in
      body_indexed h q s b (with_heading first h q s d)
      (record { sound = with_heading_sound first h q s d ready.sound; indexes = with_heading_indexed first h q s d ready.indexes }) i.1

  body_indexed : (h : Home) (q : ℕ) (s : tree.Heading) (b : tree.Body) (d : Draft) → IsReady d.world → BodyDeclared h q s b d → HasIndexes (body_declared h q s b d).world
  body_indexed h q s tree.no_body d ready i = ready.indexes
  body_indexed h q s (tree.body ds ss e) d ready i =
      let inner = body_home h q (indexes_so_far (slice_get d.subs q)) ds ss in
      statements_indexed inner q s ds ss (all_declared inner ds (opened d)) (decls_indexed inner ds (opened d) (record { sound = ready.sound; indexes = ready.indexes }) i.0)

  decls_indexed : (h : Home) (ds : tree.Decls) (d : Draft) → IsReady d.world → DeclsDeclared h ds d → HasIndexes (all_declared h ds d).world
  decls_indexed h tree.no_decls d ready i = ready.indexes
  decls_indexed h (tree.decls x xs) d ready i =
      decls_indexed h xs (declared h x d) (record { sound = declared_sound h x d ready.sound; indexes = decl_indexed h x d ready i.0 }) i.1

pub decl_ready : (h : Home) (x : tree.Decl) (d : Draft) → IsReady d.world → DeclDeclared h x d → IsReady (declared h x d).world
decl_ready h x d ready i = record { sound = declared_sound h x d ready.sound; indexes = decl_indexed h x d ready i }

decls_ready : (h : Home) (ds : tree.Decls) (d : Draft) → IsReady d.world → DeclsDeclared h ds d → IsReady (all_declared h ds d).world
decls_ready h ds d ready i = record { sound = decls_sound h ds d ready.sound; indexes = decls_indexed h ds d ready i }

heading_ready : (b : Bool) (h : Home) (q : ℕ) (s : tree.Heading) (d : Draft) → IsReady d.world → IsReady (with_heading b h q s d).world
heading_ready b h q s d ready = record { sound = with_heading_sound b h q s d ready.sound; indexes = with_heading_indexed b h q s d ready.indexes }

package_ready : (h : Home) (p : tree.Package) (d : Draft) → IsReady d.world → IsReady (package_named h p d).world
package_ready h p d ready = record { sound = package_sound h p d ready.sound; indexes = same_indexed d.world (package_named h p d).world refl ready.indexes }

-- ---- objects and named numbers

number_found : (h : Home) (v : Option tree.Expr) (d : Draft) → IsReady d.world → NumberDeclared (present h d) v → NumberFound h v d
number_found h None d ready i = i
number_found h (Some e) d ready i = again (part (present h d) want.Free e (named_number d.world (place_of (present h d) e))) (number_known (present h d) e ready.sound i)

entered_there : (d : Draft) (n : Noted) → NotedThere d.world n → IsThere (entered n d).draft.world (entered n d).number
entered_there d (Known k) h = h
entered_there d (New s) h = one_there d.world s

value_found : (h : Home) (p : Place) (b : Bool) (v : Option tree.Expr) (n : Found Noted) (d : Draft) → NotedFound d.world n → IsSound (entered_by n d).draft.world → ValueDeclared (present h (entered_by n d).draft) v
    → IsFound (object_value h p b v n (entered_by n d))
value_found h p b v (Refused f) d i sound j =
    let e = entered_by (Refused f) d in refused_found (λ (m : Noted) (x : Option (Fitted Expr)). x) f (initial (present h e.draft) p b want.Unknown e.number v)
value_found h p b v Unknown d i sound j = absurd i
value_found h p b v (Is m) d i sound j =
    let e = entered m d in
    both_found (λ (m : Noted) (x : Option (Fitted Expr)). x) (Is m) (initial (present h e.draft) p b (want.Subtype e.number) e.number v) tt
    (initial_found (present h e.draft) p b e.number v sound (entered_there d m i) j)

owned_found : (own : Option ℕ) (h : Home) (p : Place) (b : Bool) (v : Option tree.Expr) (n : Found Noted) (d : Draft) → IsFound (object_value h p b v n (entered_by n d)) → ValueFound own h p b v n (entered_by n d)
owned_found (Some q) h p b v n d i = told (object_value h p b v n (entered_by n d)) i
owned_found None h p b v n d i =
    let e = entered_by n d in
    let x = object_value h p b v n e in
    told (found_then x (settled_value (present h e.draft) v)) (then_found x (settled_value (present h e.draft) v) i (settled_value_found (present h e.draft) v))

object_found : (h : Home) (p : Place) (b : Bool) (s : Option tree.SubInd) (v : Option tree.Expr) (d : Draft) → IsReady d.world → ObjectDeclared h p s v d → ObjectFound h p b s v d
object_found h p b None v d ready i = number_found h v d ready i
object_found h p b (Some s) v d ready i =
    let n = object_subtype (present h d) p s in
    owned_found h.own h p b v n d
    (value_found h p b v n d (object_subtype_there (present h d) p s ready i.0) (value_sound h p s d ready.sound) i.1)

-- ---- pragmas and subprograms

pragma_of_found : (own : Option ℕ) (h : Home) (p : Place) (q : tree.Pragma) (d : Draft) → IsReady d.world → PragmaOf own h q d → PragmaFound own h p q d
pragma_of_found None h p q d ready i = tt
pragma_of_found (Some n) h p q d ready i =
    let a = around h nothing d.world in
    told (pragma_by a p (h.file.word q.name.from) q.args) (pragma_found a p (h.file.word q.name.from) q.args ready.sound i)

heading_found : (h : Home) (q : ℕ) (s : tree.Heading) (d : Draft) → IsReady d.world → HeadingDeclared h q s d → HeadingFound h q s d
heading_found h q s d ready i =
    let g = contract_home h q s in
    let c = present g d in
    let later = with_profile h q s.name (profile c s) d in (
      again (profile c s) (profile_known c s ready i.0),
      all_told (aspects_found g later.world true [] s.aspects)
          (aspects_all_found g later.world true [] s.aspects (heading_sound h q s d ready.sound) i.1),
    )

first_found : (b : Bool) (h : Home) (q : ℕ) (s : tree.Heading) (d : Draft) → IsReady d.world → FirstDeclared b h q s d → FirstFound b h q s d
first_found true h q s d ready i = heading_found h q s d ready i
first_found false h q s d ready i = tt

statements_found : (h : Home) (s : tree.Heading) (ss : tree.Stmts) (d : Draft) → IsReady d.world → StatementsDeclared h s ss d → StatementsFound h s ss d
statements_found h s ss d ready i = let a = around h (returns_of (present h d) s.result) d.world in again (stmts a ss) (statements_known a ready.sound i.0 ss i.1)

-- ---- declarations

mutual
  pub decl_found : (h : Home) (x : tree.Decl) (d : Draft) → IsReady d.world → DeclDeclared h x d → DeclFound h x d
  decl_found h (tree.declaration s f) d ready i = form_found h (place_at h s) f d ready i

  form_found : (h : Home) (p : Place) (f : tree.DeclForm) (d : Draft) → IsReady d.world → FormDeclared h p f d → FormFound h p f d
  form_found h p (tree.type_decl n t) d ready i = again (definition (present h d) t.form) (definition_known (present h d) t.form ready i)
  form_found h p (tree.subtype_decl n s) d ready i = again (indicated (present h d) L20 s) (indication_known (present h d) L20 s ready i)
  form_found h p (tree.object_decl ns o) d ready i = object_found h p o.constant o.subtype o.value d ready i
  form_found h p (tree.sub_decl s) d ready i = sub_found h s d ready i
  form_found h p (tree.pragma_decl q) d ready i = pragma_of_found h.own h p q d ready i
  form_found h p (tree.use_decl ns) d ready i = tt

  pub sub_found : (h : Home) (s : tree.Sub) (d : Draft) → IsReady d.world → SubDeclared h s d → SubFound h s d
  sub_found h (tree.sub s b) d ready i =
      let q = number_of h s in
      let first = is_first h.file s.name in
      (first_found first h q s d ready i.0, body_found h q s b (with_heading first h q s d) (heading_ready first h q s d ready) i.1)

  body_found : (h : Home) (q : ℕ) (s : tree.Heading) (b : tree.Body) (d : Draft) → IsReady d.world → BodyDeclared h q s b d → BodyFound h q s b d
  body_found h q s tree.no_body d ready i = tt
  body_found h q s (tree.body ds ss e) d ready i =
      let inner = body_home h q (indexes_so_far (slice_get d.subs q)) ds ss in
      (decls_found inner ds (opened d) (record { sound = ready.sound; indexes = ready.indexes }) i.0, statements_found inner s ss (all_declared inner ds (opened d)) (decls_ready inner ds (opened d) (record { sound = ready.sound; indexes = ready.indexes }) i.0) i.1)

  decls_found : (h : Home) (ds : tree.Decls) (d : Draft) → IsReady d.world → DeclsDeclared h ds d → DeclsFound h ds d
  decls_found h tree.no_decls d ready i = tt
  decls_found h (tree.decls x xs) d ready i = (decl_found h x d ready i.0, decls_found h xs (declared h x d) (decl_ready h x d ready i.0) i.1)

-- ---- units, files and programs

hidden_found : (h : Home) (ds : Option tree.Decls) (d : Draft) → IsReady d.world → HiddenDeclared h ds d → HiddenFound h ds d
hidden_found h None d ready i = tt
hidden_found h (Some ds) d ready i = decls_found h ds d ready i

pub unit_found : (h : Home) (u : tree.UnitForm) (d : Draft) → IsReady d.world → UnitDeclared h u d → UnitFound h u d
unit_found h (tree.package_unit p) d ready i =
    let named = package_named h p d in
    let s = package_ready h p d ready in
    (decls_found h p.declarations named s i.0, hidden_found h p.hidden (all_declared h p.declarations named) (decls_ready h p.declarations named s i.0) i.1)
unit_found h (tree.package_body_unit b) d ready i = decls_found h b.declarations d ready i
unit_found h (tree.sub_unit s) d ready i = sub_found h s d ready i

file_found : (fs : List File) (f : Option File) (d : Draft) → IsReady d.world → FileDeclared fs f d → FileFound fs f d
file_found fs None d ready i = i
file_found fs (Some f) d ready i = unit_found (home_of fs f) f.unit.unit.form d ready i

hidden_indexed : (h : Home) (ds : Option tree.Decls) (d : Draft) → IsReady d.world → HiddenDeclared h ds d → HasIndexes (private_declared h ds d).world
hidden_indexed h None d ready i = ready.indexes
hidden_indexed h (Some ds) d ready i = decls_indexed h ds d ready i

unit_indexed : (h : Home) (u : tree.UnitForm) (d : Draft) → IsReady d.world → UnitDeclared h u d → HasIndexes (unit_declared h u d).world
unit_indexed h (tree.package_unit p) d ready i =
    let named = package_named h p d in
    hidden_indexed h p.hidden (all_declared h p.declarations named) (decls_ready h p.declarations named (package_ready h p d ready) i.0) i.1
unit_indexed h (tree.package_body_unit b) d ready i = decls_indexed h b.declarations d ready i
unit_indexed h (tree.sub_unit s) d ready i = sub_indexed h s d ready i

file_ready : (fs : List File) (f : Option File) (d : Draft) → IsReady d.world → FileDeclared fs f d → IsReady (file_declared fs f d).world
file_ready fs None d ready i = ready
file_ready fs (Some f) d ready i =
    let h = home_of fs f in
    let u = f.unit.unit.form in record { sound = unit_sound h u d ready.sound; indexes = unit_indexed h u d ready i }

files_found : (fs : List File) (ns : List ℕ) (d : Draft) → IsReady d.world → FilesDeclared fs ns d → FilesFound fs ns d
files_found fs [] d ready i = tt
files_found fs (n ∷ ns) d ready i =
    let f = slice_get fs n in (file_found fs f d ready i.0, files_found fs ns (file_declared fs f d) (file_ready fs f d ready i.0) i.1)

pub program_found : (fs : List File) (order : List ℕ) → ProgramDeclared fs order → ProgramFound fs order
program_found fs order i = files_found fs order (start fs) (record { sound = start_sound fs; indexes = no_arrays (start fs).world refl }) i

-- ---- accepted programs

-- what is accepted of a program whose names are declared is by the rules of the language
pub program_built : (fs : List File) (order : List ℕ) (p : Program) → ProgramDeclared fs order → answer fs order ≡ answers.Typed p → IsProgram fs order p
program_built fs order p i e = program_obeys fs order p (program_found fs order i) e
