-- What is told after declarations, units and files.
use Rattle.std.proofs.Common.{◌≡◌, refl, List, [], ◌∷◌, ◌++◌, Option, Some, None, Bool, true, false}
use Rattle.std.specs.Prelude.{ℕ, slice_get}
use Rattle.ada_values.specs.declared.place.Place.{Place}
use Rattle.front_codes.specs.declared.codes.Code.TheVariants.{L20}
use Rattle.front_codes.specs.declared.codes.Refusal.{Refusal}
use Rattle.type_base.specs.Faults.{First}
use Rattle.type_base.specs.declared.seen.Want.TheVariants as want
use Rattle.syntax_view.specs.Trees as tree
use Rattle.typing_rules.specs.Fits.{found_then}
use Rattle.statement_typing.specs.declared.draft.Draft.{Draft}
use Rattle.statement_typing.specs.Asked.{place_of}
use Rattle.statement_typing.specs.Aspects.{aspects_faults, aspects_found}
use Rattle.statement_typing.specs.Checks.{fault_in}
use Rattle.statement_typing.specs.Files.{File, Home, place_at}
use Rattle.statement_typing.specs.Objects.{entered_by, named_number, number_faults, object_faults_as, object_subtype, object_value, present, settled_value}
use Rattle.statement_typing.specs.Routines.{profile, profile_faults, with_profile}
use Rattle.statement_typing.specs.Statements.{ended, nothing, pragma_by, pragma_faults, stmts, stmts_faults}
use Rattle.statement_typing.specs.Subtypes.{indicated, indicated_faults, part, part_faults}
use Rattle.statement_typing.specs.Types.{definition, definition_faults}
use Rattle.statement_typing.specs.Tellings.{body_told, decl_told, decls_told, each_told, file_told, files_told, heading_told, number_told, object_told_as, pragma_told, private_told, statements_told, sub_told, told, told_by, unit_told, value_told, with_heading_told}
use Rattle.statement_typing.specs.Units.{all_declared, around, body_faults, body_home, contract_home, decl_faults, declared, decls_faults, faults_by, file_declared, file_faults, files_faults, heading_faults, home_of, indexes_so_far, is_first, number_of, opened, package_named, pragma_declared_faults, private_faults, returns_of, statements_faults, sub_faults, unit_faults, with_heading, with_heading_faults}
use Rattle.typing_laws.proofs.Merging.{first_alone, first_joined}
use Rattle.statement_laws.proofs.Telling.{told_in}
use Rattle.statement_laws.proofs.Indications.{indicated_told}
use Rattle.statement_laws.proofs.Definitions.{definition_told, named_told, profile_told}
use Rattle.statement_laws.proofs.Objects.{local_told, package_told}
use Rattle.statement_laws.proofs.Acting.{all_statements, pragma_told as one_pragma}
use Rattle.declaration_laws.proofs.Added.{aspects_more, told_more}

-- ---- objects

number_more : (h : Home) (v : Option tree.Expr) (d : Draft) (t : Option Refusal) (fs : List Refusal) → First t fs → First (number_told h v d t) (fs ++ number_faults h v d)
number_more h None d t fs i = first_alone t fs i
number_more h (Some e) d t fs i =
    let x = named_number d.world (place_of (present h d) e) in
    told_more t (part (present h d) want.Free e x) fs (part_faults (present h d) want.Free e x) i (named_told (present h d) e)

value_more : (h : Home) (own : Option ℕ) → h.own ≡ own → (p : Place) (b : Bool) (s : tree.SubInd) (v : Option tree.Expr) (d : Draft) (t : Option Refusal) (fs : List Refusal)
    → First t fs
    → First (value_told own (present h (entered_by (object_subtype (present h d) p s) d).draft) v (object_value h p b v (object_subtype (present h d) p s) (entered_by (object_subtype (present h d) p s) d)) t) (fs ++ object_faults_as h p b (Some s) v d)
value_more h (Some q) e p b s v d t fs i =
    let n = object_subtype (present h d) p s in
    told_more t (object_value h p b v n (entered_by n d)) fs (object_faults_as h p b (Some s) v d) i (local_told h q e p b s v d)
value_more h None e p b s v d t fs i =
    let n = object_subtype (present h d) p s in
    told_more t (found_then (object_value h p b v n (entered_by n d)) (settled_value (present h (entered_by n d).draft) v)) fs (object_faults_as h p b (Some s) v d) i
    (package_told h e p b s v d)

object_more : (h : Home) (p : Place) (b : Bool) (s : Option tree.SubInd) (v : Option tree.Expr) (d : Draft) (t : Option Refusal) (fs : List Refusal)
    → First t fs → First (object_told_as h p b s v d t) (fs ++ object_faults_as h p b s v d)
object_more h p b None v d t fs i = number_more h v d t fs i
object_more h p b (Some s) v d t fs i = value_more h h.own refl p b s v d t fs i

-- ---- pragmas and subprograms

pragma_more : (h : Home) (own : Option ℕ) (p : Place) (q : tree.Pragma) (d : Draft) (t : Option Refusal) (fs : List Refusal)
    → First t fs → First (pragma_told h own p q d t) (fs ++ pragma_declared_faults h own p q d)
pragma_more h None p q d t fs i = first_alone t fs i
pragma_more h (Some n) p q d t fs i =
    let a = around h nothing d.world in
    let w = h.file.word q.name.from in
    told_more t (pragma_by a p w q.args) fs (pragma_faults a p w q.args) i (one_pragma a p w q.args)

heading_more : (h : Home) (q : ℕ) (s : tree.Heading) (d : Draft) (t : Option Refusal) (fs : List Refusal) → First t fs → First (heading_told h q s d t) (fs ++ heading_faults h q s d)
heading_more h q s d t fs i =
    let c = contract_home h q s in
    let x = profile (present c d) s in
    let w = (with_profile h q s.name x d).world in
    first_joined (heading_told h q s d t) fs (profile_faults (present c d) s) (aspects_faults c w true [] s.aspects)
    (aspects_more c w true [] s.aspects (told t x) (fs ++ profile_faults (present c d) s) (told_more t x fs (profile_faults (present c d) s) i (profile_told (present c d) s)))

with_heading_more : (b : Bool) (h : Home) (q : ℕ) (s : tree.Heading) (d : Draft) (t : Option Refusal) (fs : List Refusal)
    → First t fs → First (with_heading_told b h q s d t) (fs ++ with_heading_faults b h q s d)
with_heading_more true h q s d t fs i = heading_more h q s d t fs i
with_heading_more false h q s d t fs i = aspects_more (contract_home h q s) d.world false [] s.aspects t fs i

statements_more : (h : Home) (s : tree.Heading) (ss : tree.Stmts) (d : Draft) (t : Option Refusal) (fs : List Refusal) → First t fs → First (statements_told h s ss d t) (fs ++ statements_faults h s ss d)
statements_more h s ss d t fs i =
    let r = returns_of (present h d) s.result in
    let a = around h r d.world in
    let x = ended (present h d) (place_at h s.name) r ss in
    first_joined (statements_told h s ss d t) fs (stmts_faults a ss) (fault_in x)
    (told_more (told t (stmts a ss)) x (fs ++ stmts_faults a ss) (fault_in x) (told_more t (stmts a ss) fs (stmts_faults a ss) i (all_statements a ss)) (told_in x))

-- ---- declarations

mutual
  pub decl_more : (h : Home) (x : tree.Decl) (d : Draft) (t : Option Refusal) (fs : List Refusal) → First t fs → First (decl_told h x d t) (fs ++ decl_faults h x d)
  decl_more h (tree.declaration s f) d t fs i = more_by h (place_at h s) f d t fs i

  more_by : (h : Home) (p : Place) (f : tree.DeclForm) (d : Draft) (t : Option Refusal) (fs : List Refusal) → First t fs → First (told_by h p f d t) (fs ++ faults_by h p f d)
  more_by h p (tree.type_decl n x) d t fs i = told_more t (definition (present h d) x.form) fs (definition_faults (present h d) x.form) i (definition_told (present h d) x.form)
  more_by h p (tree.subtype_decl n s) d t fs i = told_more t (indicated (present h d) L20 s) fs (indicated_faults (present h d) L20 s) i (indicated_told (present h d) L20 s)
  more_by h p (tree.object_decl ns o) d t fs i = object_more h p o.constant o.subtype o.value d t fs i
  more_by h p (tree.sub_decl s) d t fs i = sub_more h s d t fs i
  more_by h p (tree.pragma_decl q) d t fs i = pragma_more h h.own p q d t fs i
  more_by h p (tree.use_decl ns) d t fs i = first_alone t fs i

  pub sub_more : (h : Home) (s : tree.Sub) (d : Draft) (t : Option Refusal) (fs : List Refusal) → First t fs → First (sub_told h s d t) (fs ++ sub_faults h s d)
  sub_more h (tree.sub s b) d t fs i =
      let q = number_of h s in
      let first = is_first h.file s.name in
      let e = with_heading first h q s d in
      let u = with_heading_told first h q s d t in
      let gs = with_heading_faults first h q s d in
      first_joined (body_told h q s b e u) fs gs (body_faults h q s b e) (body_more h q s b e u (fs ++ gs) (with_heading_more first h q s d t fs i))

  body_more : (h : Home) (q : ℕ) (s : tree.Heading) (b : tree.Body) (d : Draft) (t : Option Refusal) (fs : List Refusal)
      → First t fs → First (body_told h q s b d t) (fs ++ body_faults h q s b d)
  body_more h q s tree.no_body d t fs i = first_alone t fs i
  body_more h q s (tree.body ds ss e) d t fs i =
      let c = body_home h q (indexes_so_far (slice_get d.subs q)) ds ss in
      let u = decls_told c ds (opened d) t in
      let gs = decls_faults c ds (opened d) in
      let later = all_declared c ds (opened d) in
      first_joined (statements_told c s ss later u) fs gs (statements_faults c s ss later)
      (statements_more c s ss later u (fs ++ gs) (decls_more c ds (opened d) t fs i))

  pub decls_more : (h : Home) (ds : tree.Decls) (d : Draft) (t : Option Refusal) (fs : List Refusal) → First t fs → First (decls_told h ds d t) (fs ++ decls_faults h ds d)
  decls_more h tree.no_decls d t fs i = first_alone t fs i
  decls_more h (tree.decls x xs) d t fs i =
      let u = decl_told h x d t in
      let gs = decl_faults h x d in
      first_joined (decls_told h xs (declared h x d) u) fs gs (decls_faults h xs (declared h x d)) (decls_more h xs (declared h x d) u (fs ++ gs) (decl_more h x d t fs i))

-- ---- units and files

private_more : (h : Home) (ds : Option tree.Decls) (d : Draft) (t : Option Refusal) (fs : List Refusal) → First t fs → First (private_told h ds d t) (fs ++ private_faults h ds d)
private_more h None d t fs i = first_alone t fs i
private_more h (Some ds) d t fs i = decls_more h ds d t fs i

pub unit_more : (h : Home) (u : tree.UnitForm) (d : Draft) (t : Option Refusal) (fs : List Refusal) → First t fs → First (unit_told h u d t) (fs ++ unit_faults h u d)
unit_more h (tree.package_unit p) d t fs i =
    let as' = aspects_faults h d.world false [] p.aspects in
    let ds = decls_faults h p.declarations (package_named h p d) in
    let later = all_declared h p.declarations (package_named h p d) in
    let t' = each_told t (aspects_found h d.world false [] p.aspects) in
    let u = decls_told h p.declarations (package_named h p d) t' in
    first_joined (private_told h p.hidden later u) fs (as' ++ ds) (private_faults h p.hidden later)
    (private_more h p.hidden later u (fs ++ (as' ++ ds))
    (first_joined u fs as' ds (decls_more h p.declarations (package_named h p d) t' (fs ++ as') (aspects_more h d.world false [] p.aspects t fs i))))
unit_more h (tree.package_body_unit b) d t fs i =
    let as' = aspects_faults h d.world false [] b.aspects in
    let t' = each_told t (aspects_found h d.world false [] b.aspects) in
    first_joined (decls_told h b.declarations d t') fs as' (decls_faults h b.declarations d)
    (decls_more h b.declarations d t' (fs ++ as') (aspects_more h d.world false [] b.aspects t fs i))
unit_more h (tree.sub_unit s) d t fs i = sub_more h s d t fs i

pub file_more : (fs : List File) (f : Option File) (d : Draft) (t : Option Refusal) (gs : List Refusal) → First t gs → First (file_told fs f d t) (gs ++ file_faults fs f d)
file_more fs None d t gs i = first_alone t gs i
file_more fs (Some f) d t gs i = unit_more (home_of fs f) f.unit.unit.form d t gs i

pub files_more : (fs : List File) (ns : List ℕ) (d : Draft) (t : Option Refusal) (gs : List Refusal) → First t gs → First (files_told fs ns d t) (gs ++ files_faults fs ns d)
files_more fs [] d t gs i = first_alone t gs i
files_more fs (n ∷ ns) d t gs i =
    let f = slice_get fs n in
    let u = file_told fs f d t in
    let hs = file_faults fs f d in
    first_joined (files_told fs ns (file_declared fs f d) u) gs hs (files_faults fs ns (file_declared fs f d)) (files_more fs ns (file_declared fs f d) u (gs ++ hs) (file_more fs f d t gs i))
