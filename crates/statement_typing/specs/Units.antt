-- Declarative parts, units and the whole program. -- Ada RM 3.11, 6.3, 7, 10.1
use Rattle.std.specs.Prelude.{ℕ, zero, suc, ◌+◌, ℤ, Bool, true, false, Option, Some, None, List, [], ◌∷◌, ◌++◌, map, length, slice_get, if◌then◌else◌}
use Rattle.ada_values.specs.declared.place.Place.{Place}
use Rattle.ada_values.specs.declared.scalars.Scalar.{Scalar}
use Rattle.ada_values.specs.declared.shapes.Shape.{Shape}
use Rattle.ada_values.specs.declared.shapes.Shape.TheVariants as shape
use Rattle.ada_values.specs.Scalars as scalars
use Rattle.ada_text.specs.declared.token.Span.{Span}
use Rattle.front_codes.specs.declared.codes.Code.TheVariants.{L20}
use Rattle.front_codes.specs.declared.codes.Refusal.{Refusal}
use Rattle.front_codes.specs.Codes.{first_of_two}
use Rattle.name_library.specs.declared.links.Spot.{Spot}
use Rattle.typed_units.specs.declared.operators.Bounds.{Bounds}
use Rattle.typed_units.specs.declared.programs.Class as programs
use Rattle.typed_units.specs.declared.programs.Class.TheVariants as class
use Rattle.typed_units.specs.declared.programs.Global.{Global}
use Rattle.typed_units.specs.declared.programs.Program.{Program}
use Rattle.typed_units.specs.declared.programs.Sub.{Sub}
use Rattle.typed_units.specs.declared.programs.Type as types
use Rattle.typed_units.specs.declared.statements.Stmt.{Stmt}
use Rattle.type_base.specs.declared.entities.Entity.TheVariants as entity
use Rattle.type_base.specs.declared.seen.Moment.TheVariants as moment
use Rattle.type_base.specs.declared.world.Component.{Component}
use Rattle.type_base.specs.declared.world.Discrete.{Discrete}
use Rattle.type_base.specs.declared.world.Discrete.TheVariants as discrete
use Rattle.type_base.specs.declared.world.Form.{Form}
use Rattle.type_base.specs.declared.world.Form.TheVariants as form
use Rattle.type_base.specs.declared.world.Routine.{Routine}
use Rattle.type_base.specs.declared.world.Subtype.{Subtype}
use Rattle.type_base.specs.declared.world.World.{World}
use Rattle.type_base.specs.Lookups.{component_at, form_at}
use Rattle.type_base.specs.Scope.{Scope}
use Rattle.type_base.specs.Standard.{standard}
use Rattle.syntax_view.specs.Trees as tree
use Rattle.typing_rules.specs.declared.prefix.Found.{Found}
use Rattle.typing_rules.specs.declared.prefix.Found.TheVariants.{Refused, Unknown, Is}
use Rattle.statement_typing.specs.declared.draft.Draft.{Draft}
use Rattle.statement_typing.specs.declared.parts.Answer.{Answer}
use Rattle.statement_typing.specs.declared.parts.Answer.TheVariants as answers
use Rattle.statement_typing.specs.declared.parts.Definition.{Definition}
use Rattle.statement_typing.specs.declared.parts.Noted.{Noted}
use Rattle.statement_typing.specs.declared.parts.Variable.{Variable}
use Rattle.statement_typing.specs.Checks.{fault_in}
use Rattle.statement_typing.specs.Subtypes.{indicated, indicated_faults, noted_subtype}
use Rattle.statement_typing.specs.Types.{definition, definition_faults}
use Rattle.statement_typing.specs.Files.{File, Home, place_at, rank, scope, spot_of}
use Rattle.statement_typing.specs.Drafts.{Entered, declare, declare_literals, next_subtype, with_subtype, with_type}
use Rattle.statement_typing.specs.Objects.{changed_at, object_declared, object_faults, present}
use Rattle.statement_typing.specs.Routines.{marked_subtype, profile, profile_faults, result_mark, with_profile}
use Rattle.statement_typing.specs.Aspects.{aspects_faults, aspects_found, with_aspects}
use Rattle.statement_typing.specs.Statements.{Around, Returns, nothing, a_value, ended, pragma_by, pragma_faults, stmt_at, stmts, stmts_faults}
use Rattle.statement_typing.specs.Numbers.{in_contract, in_decls, in_stmts, loops_in, numbered, turns_in}
use Rattle.reading_scope.specs.Numbers.{number_in}

-- ---- types and subtypes

abbrev pub literals_of : tree.TypeForm → List Span
literals_of (tree.enumeration ns) = ns
literals_of _ = []

abbrev pub with_named : Home → Span → List Span → Entered → Draft
with_named h n ls e = declare_literals h.file.number e.number 0 ls (declare h.file.number n (entity.Subtype e.number) e.draft)

abbrev pub with_definition : Home → Span → List Span → Found Definition → Draft → Draft
with_definition h n ls (Is t) d = with_named h n ls (with_type h.file.name (h.file.spelled n.from) t d)
with_definition h n ls Unknown d = d
with_definition h n ls (Refused f) d = d

abbrev pub with_subtype_of : Home → Span → Option Subtype → Draft → Draft
with_subtype_of h n None d = d
with_subtype_of h n (Some s) d = declare h.file.number n (entity.Subtype (next_subtype d)) (with_subtype (Some (h.file.spelled n.from)) s d)

abbrev pub with_indication : Home → Span → Found Noted → Draft → Draft
with_indication h n (Is s) d = with_subtype_of h n (noted_subtype d.world s) d
with_indication h n Unknown d = d
with_indication h n (Refused f) d = d

-- ---- pragmas of a declarative part

abbrev pub around : Home → Returns → World → Around
around h r w = record { scope = scope h moment.Elsewhere w; word = h.file.word; returns = r; loop = None }

abbrev pub with_opening : Found Stmt → Draft → Draft
with_opening (Is s) d = record d { opening = d.opening ++ s ∷ [] }
with_opening Unknown d = d
with_opening (Refused f) d = d

abbrev pub pragma_declared : Home → Option ℕ → Place → tree.Pragma → Draft → Draft
pragma_declared h None p q d = d
pragma_declared h (Some n) p q d = with_opening (stmt_at p (pragma_by (around h nothing d.world) p (h.file.word q.name.from) q.args)) d

abbrev pub pragma_declared_faults : Home → Option ℕ → Place → tree.Pragma → Draft → List Refusal
pragma_declared_faults h None p q d = []
pragma_declared_faults h (Some n) p q d = pragma_faults (around h nothing d.world) p (h.file.word q.name.from) q.args

-- ---- subprograms

-- whether an identifier declares: another spelling of what is declared has a link
abbrev pub is_first : File → Span → Bool
is_first f s = elim (f.link s.from) as (λ l. Bool) [ None ↦ true | Some l ↦ false ]

abbrev pub number_of : Home → tree.Heading → ℕ
number_of h s = rank h.routines (spot_of h.file s.name)

-- where the contract of subprogram q stands
abbrev pub contract_home : Home → ℕ → tree.Heading → Home
contract_home h q s = record h { own = Some q; number = number_in (numbered 0 (in_contract h.file.word s) [] []) }

-- how many indexes the contract has
abbrev pub contract_indexes : Home → tree.Heading → Sub → Sub
contract_indexes h s x = record x { indexes = length (in_contract h.file.word s) }

abbrev pub with_contract : Home → ℕ → tree.Heading → Draft → Draft
with_contract h q s d =
    record d { subs = changed_at q (contract_indexes h s) (with_aspects q (aspects_found (contract_home h q s) d.world true [] s.aspects) d).subs }

abbrev pub heading_declared : Home → ℕ → tree.Heading → Draft → Draft
heading_declared h q s d = with_contract h q s (with_profile h q s.name (profile (present (contract_home h q s) d) s) d)

abbrev pub heading_faults : Home → ℕ → tree.Heading → Draft → List Refusal
heading_faults h q s d =
    profile_faults (present (contract_home h q s) d) s
    ++ aspects_faults (contract_home h q s) (with_profile h q s.name (profile (present (contract_home h q s) d) s) d).world true [] s.aspects

-- another spelling of a profile adds nothing, and has no aspects
abbrev pub with_heading : Bool → Home → ℕ → tree.Heading → Draft → Draft
with_heading true h q s d = heading_declared h q s d
with_heading false h q s d = d

abbrev pub with_heading_faults : Bool → Home → ℕ → tree.Heading → Draft → List Refusal
with_heading_faults true h q s d = heading_faults h q s d
with_heading_faults false h q s d = aspects_faults (contract_home h q s) d.world false [] s.aspects

-- where the body of subprogram q stands, which has so many indexes in its contract
abbrev pub body_home : Home → ℕ → ℕ → tree.Decls → tree.Stmts → Home
body_home h q n ds ss = record h { own = Some q; number = number_in (numbered n (in_decls ds ++ in_stmts ss) (turns_in ss) (loops_in ss)) }

abbrev pub indexes_so_far : Option Sub → ℕ
indexes_so_far None = 0
indexes_so_far (Some x) = x.indexes

abbrev pub returns_of : Scope → Option tree.Name → Returns
returns_of c None = nothing
returns_of c (Some n) = a_value (marked_subtype c (result_mark c n))

-- a body without locals yet
abbrev pub opened : Draft → Draft
opened d = record d { locals = []; opening = [] }

-- its declarations, its statements and what they are typed to
abbrev pub filled : Draft → Place → tree.Decls → tree.Stmts → List Stmt → Sub → Sub
filled d p ds ts ss x = record x {
  place = p;
  locals = d.locals;
  turns = length (turns_in ts);
  indexes = x.indexes + length (in_decls ds ++ in_stmts ts);
  loops = length (loops_in ts);
  opening = d.opening;
  body = ss;
}

abbrev pub with_body : Place → ℕ → tree.Decls → tree.Stmts → Found (List Stmt) → Draft → Draft
with_body p q ds ts (Is xs) d = opened (record d { subs = changed_at q (filled d p ds ts xs) d.subs })
with_body p q ds ts Unknown d = opened d
with_body p q ds ts (Refused f) d = opened d

-- the statements of a body whose declarations are in the draft
abbrev pub with_statements : Home → ℕ → tree.Heading → tree.Decls → tree.Stmts → Draft → Draft
with_statements h q s ds ss d = with_body (place_at h s.name) q ds ss (stmts (around h (returns_of (present h d) s.result) d.world) ss) d

abbrev pub statements_faults : Home → tree.Heading → tree.Stmts → Draft → List Refusal
statements_faults h s ss d =
    stmts_faults (around h (returns_of (present h d) s.result) d.world) ss
    ++ fault_in (ended (present h d) (place_at h s.name) (returns_of (present h d) s.result) ss)

-- ---- declarations

abbrev mutual
  pub declared : Home → tree.Decl → Draft → Draft
  declared h (tree.declaration s f) d = declared_by h (place_at h s) f d

  -- p is the place of the declaration
  pub declared_by : Home → Place → tree.DeclForm → Draft → Draft
  declared_by h p (tree.type_decl n t) d = with_definition h n (literals_of t.form) (definition (present h d) t.form) d
  declared_by h p (tree.subtype_decl n s) d = with_indication h n (indicated (present h d) L20 s) d
  declared_by h p (tree.object_decl ns o) d = object_declared h p ns o d
  declared_by h p (tree.sub_decl s) d = sub_declared h s d
  declared_by h p (tree.pragma_decl q) d = pragma_declared h h.own p q d
  declared_by h p (tree.use_decl ns) d = d

  pub sub_declared : Home → tree.Sub → Draft → Draft
  sub_declared h (tree.sub s b) d = body_declared h (number_of h s) s b (with_heading (is_first h.file s.name) h (number_of h s) s d)

  pub body_declared : Home → ℕ → tree.Heading → tree.Body → Draft → Draft
  body_declared h q s tree.no_body d = d
  body_declared h q s (tree.body ds ss e) d =
      with_statements (body_home h q (indexes_so_far (slice_get d.subs q)) ds ss) q s ds ss
      (all_declared (body_home h q (indexes_so_far (slice_get d.subs q)) ds ss) ds (opened d))

  pub all_declared : Home → tree.Decls → Draft → Draft
  all_declared h tree.no_decls d = d
  all_declared h (tree.decls x xs) d = all_declared h xs (declared h x d)

abbrev mutual
  pub decl_faults : Home → tree.Decl → Draft → List Refusal
  decl_faults h (tree.declaration s f) d = faults_by h (place_at h s) f d

  pub faults_by : Home → Place → tree.DeclForm → Draft → List Refusal
  faults_by h p (tree.type_decl n t) d = definition_faults (present h d) t.form
  faults_by h p (tree.subtype_decl n s) d = indicated_faults (present h d) L20 s
  faults_by h p (tree.object_decl ns o) d = object_faults h p o d
  faults_by h p (tree.sub_decl s) d = sub_faults h s d
  faults_by h p (tree.pragma_decl q) d = pragma_declared_faults h h.own p q d
  faults_by h p (tree.use_decl ns) d = []

  pub sub_faults : Home → tree.Sub → Draft → List Refusal
  sub_faults h (tree.sub s b) d =
      with_heading_faults (is_first h.file s.name) h (number_of h s) s d
      ++ body_faults h (number_of h s) s b (with_heading (is_first h.file s.name) h (number_of h s) s d)

  pub body_faults : Home → ℕ → tree.Heading → tree.Body → Draft → List Refusal
  body_faults h q s tree.no_body d = []
  body_faults h q s (tree.body ds ss e) d =
      decls_faults (body_home h q (indexes_so_far (slice_get d.subs q)) ds ss) ds (opened d)
      ++ statements_faults (body_home h q (indexes_so_far (slice_get d.subs q)) ds ss) s ss
      (all_declared (body_home h q (indexes_so_far (slice_get d.subs q)) ds ss) ds (opened d))

  pub decls_faults : Home → tree.Decls → Draft → List Refusal
  decls_faults h tree.no_decls d = []
  decls_faults h (tree.decls x xs) d = decl_faults h x d ++ decls_faults h xs (declared h x d)

-- ---- units

abbrev pub private_declared : Home → Option tree.Decls → Draft → Draft
private_declared h None d = d
private_declared h (Some ds) d = all_declared h ds d

abbrev pub private_faults : Home → Option tree.Decls → Draft → List Refusal
private_faults h None d = []
private_faults h (Some ds) d = decls_faults h ds d

abbrev pub package_named : Home → tree.Package → Draft → Draft
package_named h p d = declare h.file.number p.name entity.Package d

abbrev pub unit_declared : Home → tree.UnitForm → Draft → Draft
unit_declared h (tree.package_unit p) d = private_declared h p.hidden (all_declared h p.declarations (package_named h p d))
unit_declared h (tree.package_body_unit b) d = all_declared h b.declarations d
unit_declared h (tree.sub_unit s) d = sub_declared h s d

-- a package has no contract
abbrev pub unit_faults : Home → tree.UnitForm → Draft → List Refusal
unit_faults h (tree.package_unit p) d =
    aspects_faults h d.world false [] p.aspects
    ++ decls_faults h p.declarations (package_named h p d)
    ++ private_faults h p.hidden (all_declared h p.declarations (package_named h p d))
unit_faults h (tree.package_body_unit b) d = aspects_faults h d.world false [] b.aspects ++ decls_faults h b.declarations d
unit_faults h (tree.sub_unit s) d = sub_faults h s d

-- ---- what the program declares: variables of packages, and subprograms, in the order of the files as they were named

abbrev pub file_spelled : Option File → ℕ → List ℕ
file_spelled None at = []
file_spelled (Some f) at = f.spelled at

-- the text of an identifier as it is declared
abbrev pub declared_text : List File → Spot → List ℕ
declared_text fs s = file_spelled (slice_get fs s.file) s.at

-- `Package.Name`; 46 is the point
abbrev pub full_name : List ℕ → List ℕ → List ℕ
full_name p n = p ++ 46 ∷ n

abbrev pub variables_named : File → List ℕ → List Span → List Variable
variables_named f p [] = []
variables_named f p (s ∷ ss) = record { spot = spot_of f s; name = full_name p (f.spelled s.from) } ∷ variables_named f p ss

abbrev pub variables_by : File → List ℕ → tree.DeclForm → List Variable
variables_by f p (tree.object_decl ns o) = if o.constant then [] else variables_named f p ns
variables_by f p _ = []

abbrev pub variables_of : File → List ℕ → tree.Decl → List Variable
variables_of f p (tree.declaration s x) = variables_by f p x

abbrev pub variables_in : File → List ℕ → tree.Decls → List Variable
variables_in f p tree.no_decls = []
variables_in f p (tree.decls d ds) = variables_of f p d ++ variables_in f p ds

abbrev pub hidden_variables : File → List ℕ → Option tree.Decls → List Variable
hidden_variables f p None = []
hidden_variables f p (Some ds) = variables_in f p ds

abbrev pub unit_variables : List File → File → tree.UnitForm → List Variable
unit_variables fs f (tree.package_unit p) =
    variables_in f (f.spelled p.name.from) p.declarations ++ hidden_variables f (f.spelled p.name.from) p.hidden
unit_variables fs f (tree.package_body_unit b) = variables_in f (declared_text fs (spot_of f b.name)) b.declarations
unit_variables fs f (tree.sub_unit s) = []

abbrev pub variables : List File → List File → List Variable
variables fs [] = []
variables fs (f ∷ rest) = unit_variables fs f f.unit.unit.form ++ variables fs rest

abbrev pub routine_of : File → tree.Sub → List Spot
routine_of f (tree.sub s b) = if is_first f s.name then spot_of f s.name ∷ [] else []

abbrev pub routines_by : File → tree.DeclForm → List Spot
routines_by f (tree.sub_decl s) = routine_of f s
routines_by f _ = []

abbrev pub routines_in_decl : File → tree.Decl → List Spot
routines_in_decl f (tree.declaration s x) = routines_by f x

abbrev pub routines_in : File → tree.Decls → List Spot
routines_in f tree.no_decls = []
routines_in f (tree.decls d ds) = routines_in_decl f d ++ routines_in f ds

abbrev pub hidden_routines : File → Option tree.Decls → List Spot
hidden_routines f None = []
hidden_routines f (Some ds) = routines_in f ds

abbrev pub unit_routines : File → tree.UnitForm → List Spot
unit_routines f (tree.package_unit p) = routines_in f p.declarations ++ hidden_routines f p.hidden
unit_routines f (tree.package_body_unit b) = routines_in f b.declarations
unit_routines f (tree.sub_unit s) = routine_of f s

abbrev pub routines : List File → List Spot
routines [] = []
routines (f ∷ fs) = unit_routines f f.unit.unit.form ++ routines fs

-- ---- the beginning

abbrev pub no_place : Place
no_place = record { file = 0; line = 0; column = 0 }

abbrev pub blank_sub : List ℕ → Sub
blank_sub n = record {
  name = n;
  place = no_place;
  params = [];
  result = None;
  pre = None;
  post = None;
  global = None;
  locals = [];
  turns = 0;
  indexes = 0;
  loops = 0;
  opening = [];
  body = [];
}

abbrev pub blank_global : Variable → Global
blank_global v = record { name = v.name; subtype = 0; initial = None }

-- the names of the subtypes of Standard
abbrev pub standard_names : List (Option (List ℕ))
standard_names =
    Some (66 ∷ 111 ∷ 111 ∷ 108 ∷ 101 ∷ 97 ∷ 110 ∷ [])
    ∷ None
    ∷ Some (73 ∷ 110 ∷ 116 ∷ 101 ∷ 103 ∷ 101 ∷ 114 ∷ [])
    ∷ Some (78 ∷ 97 ∷ 116 ∷ 117 ∷ 114 ∷ 97 ∷ 108 ∷ [])
    ∷ Some (80 ∷ 111 ∷ 115 ∷ 105 ∷ 116 ∷ 105 ∷ 118 ∷ 101 ∷ [])
    ∷ None
    ∷ Some (76 ∷ 111 ∷ 110 ∷ 103 ∷ 95 ∷ 76 ∷ 111 ∷ 110 ∷ 103 ∷ 95 ∷ 73 ∷ 110 ∷ 116 ∷ 101 ∷ 103 ∷ 101 ∷ 114 ∷ [])
    ∷ []

abbrev pub no_routine : Spot → Routine
no_routine s = record { first = 0; count = 0; result = None }

abbrev pub start : List File → Draft
start fs = record {
  world = record standard { routines = map no_routine (routines fs) };
  names = standard_names;
  globals = map blank_global (variables fs fs);
  subs = map (λ s. blank_sub (declared_text fs s)) (routines fs);
  locals = [];
  opening = [];
}

-- ---- units in an order in which each stands after the declarations that it withs, and a body after its declaration

abbrev pub home_of : List File → File → Home
home_of fs f = record { file = f; own = None; number = number_in []; globals = map (λ v. v.spot) (variables fs fs); routines = routines fs }

abbrev pub file_declared : List File → Option File → Draft → Draft
file_declared fs None d = d
file_declared fs (Some f) d = unit_declared (home_of fs f) f.unit.unit.form d

abbrev pub file_faults : List File → Option File → Draft → List Refusal
file_faults fs None d = []
file_faults fs (Some f) d = unit_faults (home_of fs f) f.unit.unit.form d

abbrev pub files_declared : List File → List ℕ → Draft → Draft
files_declared fs [] d = d
files_declared fs (n ∷ ns) d = files_declared fs ns (file_declared fs (slice_get fs n) d)

abbrev pub files_faults : List File → List ℕ → Draft → List Refusal
files_faults fs [] d = []
files_faults fs (n ∷ ns) d = file_faults fs (slice_get fs n) d ++ files_faults fs ns (file_declared fs (slice_get fs n) d)

-- all rules of types that a program breaks; the order has the numbers of the files
abbrev pub program_faults : List File → List ℕ → List Refusal
program_faults fs order = files_faults fs order (start fs)

-- ---- the typed program

abbrev pub standard_scalar : Scalar
standard_scalar = scalars.integer

abbrev pub scalar_in : Option Form → Scalar
scalar_in (Some (form.Number c x)) = x
scalar_in _ = standard_scalar

abbrev pub pair_of : Option Bounds → Option (ℤ × ℤ)
pair_of None = None
pair_of (Some b) = Some (b.first, b.last)

abbrev pub subtype_of_component : Option Component → ℕ
subtype_of_component None = 0
subtype_of_component (Some k) = k.subtype

abbrev pub components_from : World → ℕ → ℕ → List ℕ
components_from w n zero = []
components_from w n (suc m) = subtype_of_component (component_at w n) ∷ components_from w (suc n) m

abbrev pub shape_of : World → Form → Shape
shape_of w (form.Number c x) = shape.Number x
shape_of w form.Truth = shape.Truth
shape_of w (form.Array i b t) = shape.Array (record { index = scalar_in (form_at w i); bounds = pair_of b; item = t })
shape_of w (form.Record n m) = shape.Record (components_from w n m)

abbrev pub class_of_discrete : Discrete → programs.Class
class_of_discrete discrete.Signed = class.Signed
class_of_discrete discrete.Modular = class.Modular
class_of_discrete discrete.Enumeration = class.Enumeration

abbrev pub class_of : Form → programs.Class
class_of (form.Number c x) = class_of_discrete c
class_of form.Truth = class.Boolean
class_of (form.Array i b t) = class.Array i
class_of (form.Record n m) = class.Record

abbrev pub types_of : List (Option (List ℕ)) → List Subtype → List types.Type
types_of (n ∷ ns) (s ∷ ss) = record { name = n; of = s.of; class = class_of s.form } ∷ types_of ns ss
types_of _ _ = []

abbrev pub program_of : Draft → Program
program_of d = record {
  shapes = map (λ s. shape_of d.world s.form) d.world.subtypes;
  types = types_of d.names d.world.subtypes;
  globals = d.globals;
  subs = d.subs;
}

abbrev pub first_from : Refusal → List Refusal → Refusal
first_from f [] = f
first_from f (g ∷ gs) = first_from (first_of_two f g) gs

abbrev pub answer_by : List Refusal → Draft → Answer
answer_by [] d = answers.Typed (program_of d)
answer_by (f ∷ fs) d = answers.Refused (first_from f fs)

-- the typed program, or the first of the rules that are broken
abbrev pub answer : List File → List ℕ → Answer
answer fs order = answer_by (program_faults fs order) (files_declared fs order (start fs))
