-- The refusal that is told while declarations are read one after another: the first of those that came.
use Rattle.std.specs.Prelude.{ℕ, Bool, true, false, Option, Some, None, List, [], ◌∷◌, slice_get}
use Rattle.ada_values.specs.declared.place.Place.{Place}
use Rattle.ada_text.specs.declared.token.Span.{Span}
use Rattle.front_codes.specs.Codes.{first_of_two}
use Rattle.front_codes.specs.declared.codes.Code.TheVariants.{L20}
use Rattle.front_codes.specs.declared.codes.Refusal.{Refusal}
use Rattle.typed_units.specs.declared.expressions.Expr.{Expr}
use Rattle.typed_units.specs.declared.expressions.Fitted.{Fitted}
use Rattle.type_base.specs.declared.seen.Want.TheVariants as want
use Rattle.type_base.specs.Scope.{Scope}
use Rattle.syntax_view.specs.Trees as tree
use Rattle.typing_rules.specs.declared.prefix.Found.{Found}
use Rattle.typing_rules.specs.Fits.{found_fault, found_then}
use Rattle.statement_typing.specs.declared.draft.Draft.{Draft}
use Rattle.statement_typing.specs.declared.parts.Answer.{Answer}
use Rattle.statement_typing.specs.declared.parts.Answer.TheVariants as answers
use Rattle.statement_typing.specs.Asked.{place_of}
use Rattle.statement_typing.specs.Aspects.{aspects_found}
use Rattle.statement_typing.specs.Files.{File, Home, place_at}
use Rattle.statement_typing.specs.Objects.{entered_by, named_number, object_subtype, object_value, present, settled_value}
use Rattle.statement_typing.specs.Routines.{profile, with_profile}
use Rattle.statement_typing.specs.Statements.{ended, nothing, pragma_by, stmts}
use Rattle.statement_typing.specs.Subtypes.{indicated, part}
use Rattle.statement_typing.specs.Types.{definition}
use Rattle.statement_typing.specs.Units.{all_declared, around, body_home, contract_home, declared, file_declared, files_declared, home_of, indexes_so_far, is_first, number_of, opened, package_named, program_of, returns_of, start, with_heading}

-- the first of two, where there are any
abbrev pub earlier : Option Refusal → Option Refusal → Option Refusal
earlier None g = g
earlier (Some f) None = Some f
earlier (Some f) (Some g) = Some (first_of_two f g)

-- what is told after something was found
abbrev pub told : {A : Type 0} → Option Refusal → Found A → Option Refusal
told t f = earlier t (found_fault f)

abbrev pub each_told : {A : Type 0} → Option Refusal → List (Found A) → Option Refusal
each_told t [] = t
each_told t (f ∷ fs) = each_told (told t f) fs

-- ---- declarations

abbrev pub number_told : Home → Option tree.Expr → Draft → Option Refusal → Option Refusal
number_told h None d t = t
number_told h (Some e) d t = told t (part (present h d) want.Free e (named_number d.world (place_of (present h d) e)))

-- at package level the value itself is asked for
abbrev pub value_told : Option ℕ → Scope → Option tree.Expr → Found (Option (Fitted Expr)) → Option Refusal → Option Refusal
value_told (Some q) c v f t = told t f
value_told None c v f t = told t (found_then f (settled_value c v))

abbrev pub object_told_as : Home → Place → Bool → Option tree.SubInd → Option tree.Expr → Draft → Option Refusal → Option Refusal
object_told_as h p b None v d t = number_told h v d t
object_told_as h p b (Some s) v d t =
    value_told h.own (present h (entered_by (object_subtype (present h d) p s) d).draft) v
    (object_value h p b v (object_subtype (present h d) p s) (entered_by (object_subtype (present h d) p s) d)) t

abbrev pub object_told : Home → Place → tree.Object → Draft → Option Refusal → Option Refusal
object_told h p o d t = object_told_as h p o.constant o.subtype o.value d t

abbrev pub pragma_told : Home → Option ℕ → Place → tree.Pragma → Draft → Option Refusal → Option Refusal
pragma_told h None p q d t = t
pragma_told h (Some n) p q d t = told t (pragma_by (around h nothing d.world) p (h.file.word q.name.from) q.args)

abbrev pub heading_told : Home → ℕ → tree.Heading → Draft → Option Refusal → Option Refusal
heading_told h q s d t =
    each_told (told t (profile (present (contract_home h q s) d) s))
    (aspects_found (contract_home h q s) (with_profile h q s.name (profile (present (contract_home h q s) d) s) d).world true [] s.aspects)

abbrev pub with_heading_told : Bool → Home → ℕ → tree.Heading → Draft → Option Refusal → Option Refusal
with_heading_told true h q s d t = heading_told h q s d t
with_heading_told false h q s d t = each_told t (aspects_found (contract_home h q s) d.world false [] s.aspects)

abbrev pub statements_told : Home → tree.Heading → tree.Stmts → Draft → Option Refusal → Option Refusal
statements_told h s ss d t =
    told (told t (stmts (around h (returns_of (present h d) s.result) d.world) ss))
    (ended (present h d) (place_at h s.name) (returns_of (present h d) s.result) ss)

abbrev mutual
  pub decl_told : Home → tree.Decl → Draft → Option Refusal → Option Refusal
  decl_told h (tree.declaration s f) d t = told_by h (place_at h s) f d t

  pub told_by : Home → Place → tree.DeclForm → Draft → Option Refusal → Option Refusal
  told_by h p (tree.type_decl n x) d t = told t (definition (present h d) x.form)
  told_by h p (tree.subtype_decl n s) d t = told t (indicated (present h d) L20 s)
  told_by h p (tree.object_decl ns o) d t = object_told h p o d t
  told_by h p (tree.sub_decl s) d t = sub_told h s d t
  told_by h p (tree.pragma_decl q) d t = pragma_told h h.own p q d t
  told_by h p (tree.use_decl ns) d t = t

  pub sub_told : Home → tree.Sub → Draft → Option Refusal → Option Refusal
  sub_told h (tree.sub s b) d t =
      body_told h (number_of h s) s b (with_heading (is_first h.file s.name) h (number_of h s) s d)
      (with_heading_told (is_first h.file s.name) h (number_of h s) s d t)

  pub body_told : Home → ℕ → tree.Heading → tree.Body → Draft → Option Refusal → Option Refusal
  body_told h q s tree.no_body d t = t
  body_told h q s (tree.body ds ss e) d t =
      statements_told (body_home h q (indexes_so_far (slice_get d.subs q)) ds ss) s ss
      (all_declared (body_home h q (indexes_so_far (slice_get d.subs q)) ds ss) ds (opened d))
      (decls_told (body_home h q (indexes_so_far (slice_get d.subs q)) ds ss) ds (opened d) t)

  pub decls_told : Home → tree.Decls → Draft → Option Refusal → Option Refusal
  decls_told h tree.no_decls d t = t
  decls_told h (tree.decls x xs) d t = decls_told h xs (declared h x d) (decl_told h x d t)

-- ---- units and programs

abbrev pub private_told : Home → Option tree.Decls → Draft → Option Refusal → Option Refusal
private_told h None d t = t
private_told h (Some ds) d t = decls_told h ds d t

-- a package has no contract
abbrev pub unit_told : Home → tree.UnitForm → Draft → Option Refusal → Option Refusal
unit_told h (tree.package_unit p) d t =
    private_told h p.hidden (all_declared h p.declarations (package_named h p d))
    (decls_told h p.declarations (package_named h p d) (each_told t (aspects_found h d.world false [] p.aspects)))
unit_told h (tree.package_body_unit b) d t = decls_told h b.declarations d (each_told t (aspects_found h d.world false [] b.aspects))
unit_told h (tree.sub_unit s) d t = sub_told h s d t

abbrev pub file_told : List File → Option File → Draft → Option Refusal → Option Refusal
file_told fs None d t = t
file_told fs (Some f) d t = unit_told (home_of fs f) f.unit.unit.form d t

abbrev pub files_told : List File → List ℕ → Draft → Option Refusal → Option Refusal
files_told fs [] d t = t
files_told fs (n ∷ ns) d t = files_told fs ns (file_declared fs (slice_get fs n) d) (file_told fs (slice_get fs n) d t)

abbrev pub told_by_all : Option Refusal → Draft → Answer
told_by_all None d = answers.Typed (program_of d)
told_by_all (Some f) d = answers.Refused f

-- what is answered of the files of a program in their order
abbrev pub told_answer : List File → List ℕ → Answer
told_answer fs order = told_by_all (files_told fs order (start fs) None) (files_declared fs order (start fs))
