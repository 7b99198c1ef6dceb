-- Declarations that are accepted obey their rules.
use Rattle.std.proofs.Common.{◌≡◌, refl, sym, subst, ℕ, Bool, true, false, Option, Some, None, [], ◌++◌}
use Rattle.std.specs.Prelude.{slice_get}
use Rattle.ada_values.specs.declared.place.Place.{Place}
use Rattle.ada_text.specs.declared.token.Span.{Span}
use Rattle.front_codes.specs.declared.codes.Code.{Code}
use Rattle.front_codes.specs.declared.codes.Code.TheVariants as code
use Rattle.name_library.specs.declared.links.Link.{Link}
use Rattle.syntax_view.specs.Trees as tree
use Rattle.type_base.specs.Scope.{Scope}
use Rattle.type_base.specs.declared.world.Subtype.{Subtype}
use Rattle.statement_typing.specs.declared.draft.Draft.{Draft}
use Rattle.statement_typing.specs.Checks.{fault_in, unless}
use Rattle.statement_typing.specs.Files.{Home, place_at}
use Rattle.statement_typing.specs.Objects.{present}
use Rattle.statement_typing.specs.Routines.{marked_subtype, result_mark}
use Rattle.statement_typing.specs.Statements.{Returns, a_value, ended, ends, last_place, nothing, stmts, stmts_faults}
use Rattle.statement_typing.specs.Subtypes.{indicated, indicated_faults}
use Rattle.statement_typing.specs.Types.{definition, definition_faults}
use Rattle.statement_typing.specs.Units.{all_declared, around, body_declared, body_faults, body_home, contract_home, decl_faults, declared, declared_by, decls_faults, faults_by, indexes_so_far, literals_of, number_of, opened, returns_of, statements_faults, sub_declared, sub_faults, with_body, with_definition, with_heading, with_heading_faults, with_indication, with_subtype_of}
use Rattle.statement_laws.proofs.Acting.{all_statements}
use Rattle.statement_laws.proofs.Definitions.{definition_told}
use Rattle.statement_laws.proofs.Indications.{indicated_told}
use Rattle.typing_relations.proofs.Accepting.{found_as}
use Rattle.statement_relations.proofs.Doing.{statements_obey}
use Rattle.declaration_relations.specs.Declares as rule
use Rattle.declaration_relations.specs.Declares.{DeclareAll, Declares, DeclaresSub, EndsBy, HasBody, Returning}
use Rattle.declaration_relations.specs.Defines.{Defines}
use Rattle.declaration_relations.specs.Found.{BodyFound, DeclFound, DeclsFound, FirstFound, FormFound, SubFound}
use Rattle.known_statements.specs.Declared.{IsFound}
use Rattle.declaration_relations.proofs.Defining.{defines_finds}
use Rattle.declaration_relations.proofs.Entering.{again_found, aspects_accepted, heading_declares, objects_declare, pragma_declares}
use Rattle.declaration_relations.proofs.Indicating.{Indicated, indicated_finds}
use Rattle.declaration_relations.proofs.Keeping.{found_is, left_empty, right_empty}
use Rattle.declaration_relations.proofs.Profiling.{Marked, marked_finds}

-- ---- types and subtypes

type_declares : (h : Home) (s n : Span) (t : tree.TypeDef) (d : Draft) → definition_faults (present h d) t.form ≡ [] → IsFound (definition (present h d) t.form)
    → Declares h (tree.declaration s (tree.type_decl n t)) d (with_definition h n (literals_of t.form) (definition (present h d) t.form) d)
type_declares h s n t d z i =
    let c = present h d in
    let x = definition c t.form in
    let f = found_is x (definition_faults c t.form) (definition_told c t.form) z i in
    subst (λ y. Declares h (tree.declaration s (tree.type_decl n t)) d (with_definition h n (literals_of t.form) y d)) (sym f.is)
    (rule.a_type h s n t d f.this (found_as (Defines c t.form) x f.this f.is (defines_finds c t.form)))

subtype_declares : (h : Home) (s n : Span) (i : tree.SubInd) (d : Draft) → indicated_faults (present h d) code.L20 i ≡ [] → IsFound (indicated (present h d) code.L20 i)
    → Declares h (tree.declaration s (tree.subtype_decl n i)) d (with_indication h n (indicated (present h d) code.L20 i) d)
subtype_declares h s n i d z j =
    let c = present h d in
    let x = indicated c code.L20 i in
    let f = found_is x (indicated_faults c code.L20 i) (indicated_told c code.L20 i) z j in
    let m = found_as (Indicated c i) x f.this f.is (indicated_finds c code.L20 i) in
    subst (λ y. Declares h (tree.declaration s (tree.subtype_decl n i)) d (with_indication h n y d)) (sym f.is)
    (subst (λ (y : Option Subtype). Declares h (tree.declaration s (tree.subtype_decl n i)) d (with_subtype_of h n y d)) (sym m.is) (rule.a_subtype h s n i d f.this m.subtype m.indicates m.is))

-- ---- bodies

returning : (c : Scope) (n : Option tree.Name) → Returning c n (returns_of c n)
returning c None = rule.procedure
returning c (Some n) =
    rule.function n (marked_subtype c (result_mark c n)) (λ k e. (found_as (Marked c (result_mark c n)) (marked_subtype c (result_mark c n)) k e (marked_finds c (result_mark c n))).indicates)

no_fault : (b : Bool) (r : Code) (p : Place) → fault_in (unless b r p true) ≡ [] → b ≡ true
no_fault true r p e = refl
no_fault false r p e = cc

ends_by : (c : Scope) (p : Place) (r : Returns) (ss : tree.Stmts) → fault_in (ended c p r ss) ≡ [] → EndsBy r ss
ends_by c p nothing ss e = tt
ends_by c p (a_value k) ss e = no_fault (ends ss) code.L13 (last_place c p ss) e

-- of a body, its declarations being so
body_by : (h : Home) (q : ℕ) (s : tree.Heading) (ds : tree.Decls) (ss : tree.Stmts) (o : Option Span) (d : Draft) → body_faults h q s (tree.body ds ss o) d ≡ [] → BodyFound h q s (tree.body ds ss o) d
    → DeclareAll (body_home h q (indexes_so_far (slice_get d.subs q)) ds ss) ds (opened d) (all_declared (body_home h q (indexes_so_far (slice_get d.subs q)) ds ss) ds (opened d))
    → HasBody h q s (tree.body ds ss o) d (body_declared h q s (tree.body ds ss o) d)
body_by h q s ds ss o d z i a =
    let c = body_home h q (indexes_so_far (slice_get d.subs q)) ds ss in
    let e = all_declared c ds (opened d) in
    let p = place_at h s.name in
    let r = returns_of (present c e) s.result in
    let u = around c r e.world in
    let later : statements_faults c s ss e ≡ [] = right_empty (decls_faults c ds (opened d)) (statements_faults c s ss e) z in
    let t = found_is (stmts u ss) (stmts_faults u ss) (all_statements u ss) (left_empty (stmts_faults u ss) (fault_in (ended (present c e) p r ss)) later) i.1 in
    subst (λ y. HasBody h q s (tree.body ds ss o) d (with_body p q ds ss y e)) (sym t.is)
    (rule.with_body h c q s ds ss o d e r t.this refl a (returning (present c e) s.result) (statements_obey u ss t.this t.is)
    (ends_by (present c e) p r ss (right_empty (stmts_faults u ss) (fault_in (ended (present c e) p r ss)) later)))

-- of a subprogram, its body being so
sub_by : (h : Home) (s : tree.Heading) (b : tree.Body) (d : Draft) → ((e : Draft) → body_faults h (number_of h s) s b e ≡ [] → BodyFound h (number_of h s) s b e → HasBody h (number_of h s) s b e (body_declared h (number_of h s) s b e))
    → (l : Option Link) → h.file.link s.name.from ≡ l
    → (first : Bool) → first ≡ elim l as (λ l. Bool) [ None ↦ true | Some k ↦ false ]
    → with_heading_faults first h (number_of h s) s d ++ body_faults h (number_of h s) s b (with_heading first h (number_of h s) s d) ≡ []
    → FirstFound first h (number_of h s) s d × BodyFound h (number_of h s) s b (with_heading first h (number_of h s) s d)
    → DeclaresSub h (tree.sub s b) d (body_declared h (number_of h s) s b (with_heading first h (number_of h s) s d))
sub_by h s b d body None l true same z i =
    let q = number_of h s in
    let e = with_heading true h q s d in
    let fs = with_heading_faults true h q s d in
    rule.first h s b d e (body_declared h q s b e) l (heading_declares h q s d (left_empty fs (body_faults h q s b e) z) i.0) (body e (right_empty fs (body_faults h q s b e) z) i.1)
sub_by h s b d body (Some k) l false same z i =
    let q = number_of h s in
    let c = contract_home h q s in
    let fs = with_heading_faults false h q s d in
    let as' = aspects_accepted c d.world false s.aspects (left_empty fs (body_faults h q s b d) z) (again_found c d.world [] s.aspects) in
    rule.again h s b d (body_declared h q s b d) k as'.stated l as'.state (body d (right_empty fs (body_faults h q s b d) z) i.1)
sub_by h s b d body None l false same z i = cc
sub_by h s b d body (Some k) l true same z i = cc

-- ---- declarations

mutual
  pub declares : (h : Home) (x : tree.Decl) (d : Draft) → decl_faults h x d ≡ [] → DeclFound h x d → Declares h x d (declared h x d)
  declares h (tree.declaration s f) d z i = declares_by h s f d z i

  declares_by : (h : Home) (s : Span) (f : tree.DeclForm) (d : Draft) → faults_by h (place_at h s) f d ≡ [] → FormFound h (place_at h s) f d → Declares h (tree.declaration s f) d (declared_by h (place_at h s) f d)
  declares_by h s (tree.type_decl n t) d z i = type_declares h s n t d z i
  declares_by h s (tree.subtype_decl n x) d z i = subtype_declares h s n x d z i
  declares_by h s (tree.object_decl ns o) d z i = rule.objects h s ns o d _ (objects_declare h ns o d (place_at h s) z i)
  declares_by h s (tree.sub_decl x) d z i = rule.a_subprogram h s x d (sub_declared h x d) (sub_declares h x d z i)
  declares_by h s (tree.pragma_decl q) d z i = pragma_declares h s q d h.own refl z i
  declares_by h s (tree.use_decl ns) d z i = rule.a_use h s ns d

  pub sub_declares : (h : Home) (x : tree.Sub) (d : Draft) → sub_faults h x d ≡ [] → SubFound h x d → DeclaresSub h x d (sub_declared h x d)
  sub_declares h (tree.sub s b) d z i = sub_by h s b d (λ e y j. has_body h (number_of h s) s b e y j) (h.file.link s.name.from) refl _ refl z i

  has_body : (h : Home) (q : ℕ) (s : tree.Heading) (b : tree.Body) (d : Draft) → body_faults h q s b d ≡ [] → BodyFound h q s b d → HasBody h q s b d (body_declared h q s b d)
  has_body h q s tree.no_body d z i = rule.without h q s d
  has_body h q s (tree.body ds ss o) d z i =
      let c = body_home h q (indexes_so_far (slice_get d.subs q)) ds ss in
      let e = all_declared c ds (opened d) in
      body_by h q s ds ss o d z i (declare_each c ds (opened d) (left_empty (decls_faults c ds (opened d)) (statements_faults c s ss e) z) i.0)

  pub declare_each : (h : Home) (xs : tree.Decls) (d : Draft) → decls_faults h xs d ≡ [] → DeclsFound h xs d → DeclareAll h xs d (all_declared h xs d)
  declare_each h tree.no_decls d z i = rule.no_more h d
  declare_each h (tree.decls x xs) d z i =
      let e = declared h x d in
      rule.one_more h x xs d e (all_declared h xs e) (declares h x d (left_empty (decl_faults h x d) (decls_faults h xs e) z) i.0) (declare_each h xs e (right_empty (decl_faults h x d) (decls_faults h xs e) z) i.1)
