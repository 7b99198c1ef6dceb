-- Declarations, units and files keep what lasts of a draft's world: that it is sound, and that what identifiers stand for is there.
use Rattle.std.proofs.Common.{refl, ◌≡◌, subst, ℕ, zero, suc, Bool, true, false, Option, Some, None, List, [], ◌∷◌, map, length, ◌<◌}
use Rattle.std.specs.Prelude.{slice_get}
use Rattle.std.proofs.lemmas.List.{length-map}
use Rattle.ada_values.specs.declared.place.Place.{Place}
use Rattle.front_codes.specs.declared.codes.Code.TheVariants.{L20}
use Rattle.name_library.specs.declared.links.Link.{Link}
use Rattle.name_library.specs.declared.links.Link.TheVariants as link
use Rattle.name_library.specs.declared.links.Spot.{Spot}
use Rattle.syntax_view.specs.Trees as tree
use Rattle.typed_units.specs.declared.statements.Stmt.{Stmt}
use Rattle.type_base.specs.declared.entities.Entity.TheVariants as entity
use Rattle.type_base.specs.declared.world.Routine.{Routine}
use Rattle.type_base.specs.declared.world.World.{World}
use Rattle.type_base.specs.Standard.{linked, predefined, standard}
use Rattle.typing_rules.specs.declared.prefix.Found.{Found}
use Rattle.typing_rules.specs.declared.prefix.Found.TheVariants.{Refused, Unknown, Is}
use Rattle.statement_typing.specs.declared.draft.Draft.{Draft}
use Rattle.statement_typing.specs.Files.{File, Home, place_at}
use Rattle.statement_typing.specs.Objects.{entered_by, object_subtype, present}
use Rattle.statement_typing.specs.Routines.{profile}
use Rattle.statement_typing.specs.Statements.{nothing, pragma_by, stmt_at, stmts}
use Rattle.statement_typing.specs.Subtypes.{indicated}
use Rattle.statement_typing.specs.Types.{definition}
use Rattle.statement_typing.specs.Units.{all_declared, around, body_declared, body_home, contract_home, declared, declared_by, file_declared, files_declared, heading_declared, home_of, indexes_so_far, is_first, literals_of, no_routine, number_of, opened, package_named, pragma_declared, private_declared, returns_of, routines, start, sub_declared, unit_declared, with_body, with_heading, with_statements}
use Rattle.typing_laws.specs.Declared.{IsSound, RoutineThere, ResultThere}
use Rattle.typing_laws.proofs.Predefined.{standard_sound}
use Rattle.typing_laws.proofs.Standing.{no_some}
use Rattle.declared_worlds.specs.Plain.{PlainFiles}
use Rattle.declared_worlds.specs.Stated.{AllStated, StatedOrUnknown}
use Rattle.declared_worlds.proofs.Growing.{resumed, same_some, stays}
use Rattle.declared_worlds.proofs.Indicating.{definition_there, indicated_noted, profile_there}
use Rattle.declared_worlds.proofs.Numbering.{AllNumbered, AnyNumber, BodyNumbered, DeclNumbered, FileNumbered, FormNumbered, HiddenNumbered, SubNumbered, UnitNumbered, any_decl, any_decls, any_file, any_sub, any_unit, each_ranked, file_numbered}
use Rattle.declared_worlds.proofs.Lasting.{AllBelow, IsBelow, IsCounted, IsSettled, Lasting, counted_lasts, counted_there, settled_lasts, sound_lasts}
use Rattle.declared_worlds.proofs.Entering.{definition_lasts, indication_lasts, object_lasts, opening_lasts, package_lasts, value_lasts, with_profile_lasts}

-- ---- subprograms

pub heading_lasts : (N : ℕ → Type 0) (P : World → Type 0) (l : Lasting N P) (h : Home) (q : ℕ) (s : tree.Heading) (d : Draft) → N q → P d.world → P (heading_declared h q s d).world
heading_lasts N P l h q s d i a =
    let c = present (contract_home h q s) d in
    with_profile_lasts N P l h q s.name (profile c s) d i a (profile_there c s (l.sound d.world a))

pub with_heading_lasts : (N : ℕ → Type 0) (P : World → Type 0) (l : Lasting N P) (b : Bool) (h : Home) (q : ℕ) (s : tree.Heading) (d : Draft) → (b ≡ true → N q) → P d.world → P (with_heading b h q s d).world
with_heading_lasts N P l true h q s d i a = heading_lasts N P l h q s d (i refl) a
with_heading_lasts N P l false h q s d i a = a

with_body_lasts : (P : World → Type 0) (p : Place) (q : ℕ) (ds : tree.Decls) (ss : tree.Stmts) (x : Found (List Stmt)) (d : Draft) → P d.world → P (with_body p q ds ss x d).world
with_body_lasts P p q ds ss (Is xs) d a = a
with_body_lasts P p q ds ss Unknown d a = a
with_body_lasts P p q ds ss (Refused f) d a = a

statements_last : (P : World → Type 0) (h : Home) (q : ℕ) (s : tree.Heading) (ds : tree.Decls) (ss : tree.Stmts) (d : Draft) → P d.world → P (with_statements h q s ds ss d).world
statements_last P h q s ds ss d a = with_body_lasts P (place_at h s.name) q ds ss (stmts (around h (returns_of (present h d) s.result) d.world) ss) d a

pragma_lasts : (P : World → Type 0) (h : Home) (own : Option ℕ) (p : Place) (q : tree.Pragma) (d : Draft) → P d.world → P (pragma_declared h own p q d).world
pragma_lasts P h None p q d a = a
pragma_lasts P h (Some n) p q d a = opening_lasts P (stmt_at p (pragma_by (around h nothing d.world) p (h.file.word q.name.from) q.args)) d a

-- ---- declarations

mutual
  pub declared_lasts : (N : ℕ → Type 0) (P : World → Type 0) (l : Lasting N P) (h : Home) (x : tree.Decl) (d : Draft) → DeclNumbered N h.file h.routines x → P d.world → P (declared h x d).world
  declared_lasts N P l h (tree.declaration s f) d i a = form_lasts N P l h (place_at h s) f d i a

  form_lasts : (N : ℕ → Type 0) (P : World → Type 0) (l : Lasting N P) (h : Home) (p : Place) (f : tree.DeclForm) (d : Draft) → FormNumbered N h.file h.routines f → P d.world → P (declared_by h p f d).world
  form_lasts N P l h p (tree.type_decl n t) d i a =
      let c = present h d in definition_lasts N P l h n (literals_of t.form) (definition c t.form) d a (definition_there c t.form (l.sound d.world a))
  form_lasts N P l h p (tree.subtype_decl n s) d i a = let c = present h d in indication_lasts N P l h n (indicated c L20 s) d a (indicated_noted c L20 s (l.sound d.world a))
  form_lasts N P l h p (tree.object_decl ns o) d i a = object_lasts N P l h p ns o d a
  form_lasts N P l h p (tree.sub_decl s) d i a = sub_lasts N P l h s d i a
  form_lasts N P l h p (tree.pragma_decl q) d i a = pragma_lasts P h h.own p q d a
  form_lasts N P l h p (tree.use_decl ns) d i a = a

  pub sub_lasts : (N : ℕ → Type 0) (P : World → Type 0) (l : Lasting N P) (h : Home) (s : tree.Sub) (d : Draft) → SubNumbered N h.file h.routines s → P d.world → P (sub_declared h s d).world
  sub_lasts N P l h (tree.sub s b) d i a =
      let q = number_of h s in
      let first = is_first h.file s.name in
      body_lasts N P l h q s b (with_heading first h q s d) i.1 (with_heading_lasts N P l first h q s d i.0 a)

  body_lasts : (N : ℕ → Type 0) (P : World → Type 0) (l : Lasting N P) (h : Home) (q : ℕ) (s : tree.Heading) (b : tree.Body) (d : Draft) → BodyNumbered N h.file h.routines b → P d.world → P (body_declared h q s b d).world
  body_lasts N P l h q s tree.no_body d i a = a
  body_lasts N P l h q s (tree.body ds ss e) d i a =
      let inner = body_home h q (indexes_so_far (slice_get d.subs q)) ds ss in
      statements_last P inner q s ds ss (all_declared inner ds (opened d)) (decls_last N P l inner ds (opened d) i a)

  pub decls_last : (N : ℕ → Type 0) (P : World → Type 0) (l : Lasting N P) (h : Home) (ds : tree.Decls) (d : Draft) → AllNumbered N h.file h.routines ds → P d.world → P (all_declared h ds d).world
  decls_last N P l h tree.no_decls d i a = a
  decls_last N P l h (tree.decls x xs) d i a = decls_last N P l h xs (declared h x d) i.1 (declared_lasts N P l h x d i.0 a)

-- ---- units and files

private_lasts : (N : ℕ → Type 0) (P : World → Type 0) (l : Lasting N P) (h : Home) (ds : Option tree.Decls) (d : Draft) → HiddenNumbered N h.file h.routines ds → P d.world → P (private_declared h ds d).world
private_lasts N P l h None d i a = a
private_lasts N P l h (Some ds) d i a = decls_last N P l h ds d i a

pub name_lasts : (N : ℕ → Type 0) (P : World → Type 0) (l : Lasting N P) (h : Home) (p : tree.Package) (d : Draft) → P d.world → P (package_named h p d).world
name_lasts N P l h p d a = package_lasts N P l h.file.number p.name d a

pub unit_lasts : (N : ℕ → Type 0) (P : World → Type 0) (l : Lasting N P) (h : Home) (u : tree.UnitForm) (d : Draft) → UnitNumbered N h.file h.routines u → P d.world → P (unit_declared h u d).world
unit_lasts N P l h (tree.package_unit p) d i a =
    private_lasts N P l h p.hidden (all_declared h p.declarations (package_named h p d)) i.1 (decls_last N P l h p.declarations (package_named h p d) i.0 (name_lasts N P l h p d a))
unit_lasts N P l h (tree.package_body_unit b) d i a = decls_last N P l h b.declarations d i a
unit_lasts N P l h (tree.sub_unit s) d i a = sub_lasts N P l h s d i a

file_lasts : (N : ℕ → Type 0) (P : World → Type 0) (l : Lasting N P) (fs : List File) (f : Option File) (d : Draft) → FileNumbered N (routines fs) f → P d.world → P (file_declared fs f d).world
file_lasts N P l fs None d i a = a
file_lasts N P l fs (Some f) d i a = unit_lasts N P l (home_of fs f) f.unit.unit.form d i a

pub files_last : (N : ℕ → Type 0) (P : World → Type 0) (l : Lasting N P) (fs : List File) (ns : List ℕ) (d : Draft) → ((n : ℕ) → FileNumbered N (routines fs) (slice_get fs n)) → P d.world → P (files_declared fs ns d).world
files_last N P l fs [] d i a = a
files_last N P l fs (n ∷ ns) d i a = let f = slice_get fs n in files_last N P l fs ns (file_declared fs f d) i (file_lasts N P l fs f d (i n) a)

-- ---- the beginning

blank_results : (ss : List Spot) (q : ℕ) (r : Routine) → slice_get (map no_routine ss) q ≡ Some r → ResultThere standard r.result
blank_results [] q r e = no_some r e
blank_results (s ∷ ss) zero r e = subst (λ (x : Routine). ResultThere standard x.result) (same_some (no_routine s) r e) tt
blank_results (s ∷ ss) (suc q) r e = blank_results ss q r e

pub start_sound : (fs : List File) → IsSound (start fs).world
start_sound fs = resumed standard (start fs).world standard_sound (stays standard) (stays standard) tt tt (blank_results (routines fs))

predefined_stated : (fs : List File) (n : ℕ) → StatedOrUnknown (start fs).world (predefined n)
predefined_stated fs zero = record { subtype = _; is = refl }
predefined_stated fs (suc zero) = record { subtype = _; is = refl }
predefined_stated fs (suc (suc zero)) = record { subtype = _; is = refl }
predefined_stated fs (suc (suc (suc zero))) = record { subtype = _; is = refl }
predefined_stated fs (suc (suc (suc (suc zero)))) = record { subtype = _; is = refl }
predefined_stated fs (suc (suc (suc (suc (suc zero))))) = record { subtype = _; is = refl }
predefined_stated fs (suc (suc (suc (suc (suc (suc zero)))))) = record { subtype = _; is = refl }
predefined_stated fs (suc (suc (suc (suc (suc (suc (suc n))))))) = tt

start_stated : (fs : List File) → AllStated (start fs).world
start_stated fs (link.Declared s) = tt
start_stated fs (link.Predefined n) = predefined_stated fs n

pub start_settled : (fs : List File) → IsSettled (start fs).world
start_settled fs = (start_sound fs, start_stated fs)

no_routines : (fs : List File) → length (map no_routine (routines fs)) ≡ length (routines fs)
no_routines fs = length-map (routines fs) no_routine

predefined_below : (m n : ℕ) → IsBelow m (predefined n)
predefined_below m zero = tt
predefined_below m (suc zero) = tt
predefined_below m (suc (suc zero)) = tt
predefined_below m (suc (suc (suc zero))) = tt
predefined_below m (suc (suc (suc (suc zero)))) = tt
predefined_below m (suc (suc (suc (suc (suc zero))))) = tt
predefined_below m (suc (suc (suc (suc (suc (suc zero)))))) = tt
predefined_below m (suc (suc (suc (suc (suc (suc (suc n))))))) = tt

start_below : (fs : List File) → AllBelow (length (routines fs)) (start fs).world
start_below fs (link.Declared s) = tt
start_below fs (link.Predefined n) = predefined_below (length (routines fs)) n

start_counted : (fs : List File) → IsCounted (length (routines fs)) (start fs).world
start_counted fs = record { sound = start_sound fs; count = no_routines fs; below = start_below fs }

-- where no body declares a subprogram
pub subprogram_there : (fs : List File) (order : List ℕ) → PlainFiles fs → (l : Link) (q : ℕ) → linked (files_declared fs order (start fs)).world l ≡ entity.Routine q → RoutineThere (files_declared fs order (start fs)).world q
subprogram_there fs order plain l q h =
    let rs = routines fs in
    let m = length rs in
    let numbered = file_numbered (λ n. n < m) rs fs plain (each_ranked rs) in
    counted_there m (files_declared fs order (start fs)).world (files_last (λ n. n < m) (IsCounted m) (counted_lasts m) fs order (start fs) numbered (start_counted fs)) l q h

pub any_files : (fs : List File) (n : ℕ) → FileNumbered AnyNumber (routines fs) (slice_get fs n)
any_files fs n = any_file (routines fs) (slice_get fs n)

-- ---- what lasts with any number

pub programs_settled : (fs : List File) (order : List ℕ) → IsSettled (files_declared fs order (start fs)).world
programs_settled fs order = files_last AnyNumber IsSettled settled_lasts fs order (start fs) (any_files fs) (start_settled fs)

-- ---- soundness alone

pub declared_sound : (h : Home) (x : tree.Decl) (d : Draft) → IsSound d.world → IsSound (declared h x d).world
declared_sound h x d a = declared_lasts AnyNumber IsSound sound_lasts h x d (any_decl h.file h.routines x) a

pub value_sound : (h : Home) (p : Place) (s : tree.SubInd) (d : Draft) → IsSound d.world → IsSound (entered_by (object_subtype (present h d) p s) d).draft.world
value_sound = value_lasts AnyNumber IsSound sound_lasts

pub decls_sound : (h : Home) (ds : tree.Decls) (d : Draft) → IsSound d.world → IsSound (all_declared h ds d).world
decls_sound h ds d a = decls_last AnyNumber IsSound sound_lasts h ds d (any_decls h.file h.routines ds) a

pub heading_sound : (h : Home) (q : ℕ) (s : tree.Heading) (d : Draft) → IsSound d.world → IsSound (heading_declared h q s d).world
heading_sound h q s d a = heading_lasts AnyNumber IsSound sound_lasts h q s d tt a

pub with_heading_sound : (b : Bool) (h : Home) (q : ℕ) (s : tree.Heading) (d : Draft) → IsSound d.world → IsSound (with_heading b h q s d).world
with_heading_sound b h q s d a = with_heading_lasts AnyNumber IsSound sound_lasts b h q s d (λ e. tt) a

pub sub_sound : (h : Home) (s : tree.Sub) (d : Draft) → IsSound d.world → IsSound (sub_declared h s d).world
sub_sound h s d a = sub_lasts AnyNumber IsSound sound_lasts h s d (any_sub h.file h.routines s) a

pub package_sound : (h : Home) (p : tree.Package) (d : Draft) → IsSound d.world → IsSound (package_named h p d).world
package_sound = name_lasts AnyNumber IsSound sound_lasts

pub unit_sound : (h : Home) (u : tree.UnitForm) (d : Draft) → IsSound d.world → IsSound (unit_declared h u d).world
unit_sound h u d a = unit_lasts AnyNumber IsSound sound_lasts h u d (any_unit h.file h.routines u) a

pub files_sound : (fs : List File) (ns : List ℕ) (d : Draft) → IsSound d.world → IsSound (files_declared fs ns d).world
files_sound fs ns d a = files_last AnyNumber IsSound sound_lasts fs ns d (any_files fs) a

pub programs_sound : (fs : List File) (order : List ℕ) → IsSound (files_declared fs order (start fs)).world
programs_sound fs order = files_sound fs order (start fs) (start_sound fs)
