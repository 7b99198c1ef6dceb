-- The events of declarations and subprograms (Ada RM 3, 6, 8.4, 13.1.1).
use Rattle.std.specs.Prelude.{ℕ, Bool, true, false, not, ◌&&◌, ◌||◌, List, [], ◌∷◌, Option, Some, None, if◌then◌else◌}
use Rattle.ada_syntax.specs.declared.declarations.Mode.{Mode}
use Rattle.ada_syntax.specs.declared.declarations.Mode.TheVariants as written
use Rattle.ada_text.specs.declared.token.Span.{Span}
use Rattle.name_library.specs.declared.events.Event.{Event}
use Rattle.name_library.specs.declared.events.Event.TheVariants as event
use Rattle.name_library.specs.declared.events.Kind.{Kind}
use Rattle.name_library.specs.declared.events.Kind.TheVariants as kind
use Rattle.name_library.specs.declared.events.Manner.TheVariants as manner
use Rattle.name_library.specs.declared.events.Mode as events
use Rattle.name_library.specs.declared.events.Mode.TheVariants as mode
use Rattle.name_library.specs.declared.events.Scope.TheVariants as scope
use Rattle.name_numbers.specs.declared.words.Word.{Word}
use Rattle.name_numbers.specs.declared.words.Word.TheVariants as word
use Rattle.name_numbers.specs.Numbers.{word_of}
use Rattle.name_events.specs.Asked.{are_selectors, given_args, given_value, is_heading, is_private, is_subprogram, pragma_kind, switches_on}
use Rattle.name_events.specs.Statements.{check_onto, some_onto, stmts_onto}
use Rattle.name_uses.specs.Told.{ident, told, left_out, listed_onto}
use Rattle.name_uses.specs.Uses.{item_onto, name_onto, onto}
use Rattle.name_uses.specs.declared.places.Listed.TheVariants as listed
use Rattle.name_events.specs.declared.words.PragmaKind.{PragmaKind}
use Rattle.name_events.specs.declared.words.Region.{Region}
use Rattle.name_events.specs.declared.words.Region.TheVariants as region
use Rattle.name_uses.specs.declared.places.Within.{Within}
use Rattle.name_uses.specs.declared.places.Within.TheVariants as within
use Rattle.syntax_view.specs.Trees.{Item, Name, named, Suffixes, no_suffixes, suffixes, selected, ticked, applied, Pragma, Bounds, SubInd, IndexForm, alone, up_to, unconstrained, constrained, Index, Component, TypeForm, signed, modular, enumeration, array_of, record_of, derived, Object, Param, Aspect, Heading, Decl, declaration, DeclForm, type_decl, subtype_decl, object_decl, sub_decl, pragma_decl, use_decl, Sub, sub, Body, no_body, body, Decls, no_decls, decls}

-- ---- subtypes and types (Ada RM 3.2 to 3.8)

abbrev pub bounds_onto : (ℕ → ℕ) → List Event → Bounds → List Event
bounds_onto n xs b = onto n within.Text (onto n within.Text xs b.low) b.high

abbrev pub some_bounds_onto : (ℕ → ℕ) → List Event → Option Bounds → List Event
some_bounds_onto n xs None = xs
some_bounds_onto n xs (Some b) = bounds_onto n xs b

abbrev pub sub_ind_onto : (ℕ → ℕ) → List Event → SubInd → List Event
sub_ind_onto n xs s = some_bounds_onto n (name_onto n within.Text true xs s.name) s.bounds

abbrev pub some_sub_ind_onto : (ℕ → ℕ) → List Event → Option SubInd → List Event
some_sub_ind_onto n xs None = xs
some_sub_ind_onto n xs (Some s) = sub_ind_onto n xs s

abbrev pub index_form_onto : (ℕ → ℕ) → List Event → IndexForm → List Event
index_form_onto n xs alone = xs
index_form_onto n xs (up_to h) = onto n within.Text xs h
index_form_onto n xs unconstrained = xs
index_form_onto n xs (constrained b) = bounds_onto n xs b

abbrev pub index_onto : (ℕ → ℕ) → List Event → Index → List Event
index_onto n xs i = index_form_onto n (onto n within.Text xs i.first) i.form

abbrev pub components_onto : (ℕ → ℕ) → List Event → List Component → List Event
components_onto n xs [] = xs
components_onto n xs (c ∷ cs) = components_onto n (sub_ind_onto n (listed_onto n (listed.Declared kind.Component) xs c.names) c.subtype) cs

abbrev pub type_form_onto : (ℕ → ℕ) → List Event → TypeForm → List Event
type_form_onto n xs (signed b) = bounds_onto n xs b
type_form_onto n xs (modular e) = onto n within.Text xs e
type_form_onto n xs (enumeration is) = listed_onto n (listed.Declared kind.Literal) xs is
type_form_onto n xs (array_of i s) = sub_ind_onto n (index_onto n xs i) s
type_form_onto n xs (record_of cs) = told (components_onto n (told xs (event.Opens scope.Record)) cs) event.Closes
type_form_onto n xs (derived s) = sub_ind_onto n xs s

-- a declaration that begins at a byte is left out, and its inside isn't looked at
abbrev pub hidden_onto : (ℕ → ℕ) → ℕ → List Event → Kind → Span → List Event
hidden_onto n a xs k i = told (told (told xs (event.LeftOut a)) (event.Declares k (ident n i))) event.DeclarationEnds

abbrev pub type_onto : (ℕ → ℕ) → Region → ℕ → List Event → Span → TypeForm → List Event
type_onto n r a xs i t =
    if is_private r then hidden_onto n a xs kind.Type i
    else told (type_form_onto n (told xs (event.Declares kind.Type (ident n i))) t) event.DeclarationEnds

abbrev pub subtype_onto : (ℕ → ℕ) → Region → ℕ → List Event → Span → SubInd → List Event
subtype_onto n r a xs i s =
    if is_private r then hidden_onto n a xs kind.Subtype i
    else told (sub_ind_onto n (told xs (event.Declares kind.Subtype (ident n i))) s) event.DeclarationEnds

-- a named number has no subtype (Ada RM 3.3)
abbrev pub object_kind : Option SubInd → Kind
object_kind None = kind.NamedNumber
object_kind (Some s) = kind.Object

abbrev pub object_onto : (ℕ → ℕ) → List Event → List Span → Object → List Event
object_onto n xs is o = told (some_onto n (some_sub_ind_onto n (listed_onto n (listed.Declared (object_kind o.subtype)) xs is) o.subtype) o.value) event.DeclarationEnds

-- ---- profiles (Ada RM 6.1)

abbrev pub selectors_onto : (ℕ → ℕ) → List Event → Suffixes → List Event
selectors_onto n xs no_suffixes = xs
selectors_onto n xs (suffixes (selected i) ss) = selectors_onto n (told xs (event.Selects (ident n i))) ss
selectors_onto n xs (suffixes (ticked p a) ss) = xs
selectors_onto n xs (suffixes (applied as') ss) = xs

-- a subtype's name; left out is what has a constraint, parentheses or a tick
abbrev pub mark_onto : (ℕ → ℕ) → Bool → List Event → Name → List Event
mark_onto n c xs (named s f ss) = selectors_onto n (told (left_out (c || not (are_selectors ss)) s.from xs) (event.Name (ident n f) manner.Plain)) ss

abbrev pub is_some_bounds : Option Bounds → Bool
is_some_bounds None = false
is_some_bounds (Some b) = true

abbrev pub mode_of : Mode → events.Mode
mode_of written.Unstated = mode.In
mode_of written.In = mode.In
mode_of written.Out = mode.Out
mode_of written.InOut = mode.InOut

abbrev pub param_onto : (ℕ → ℕ) → List Event → Param → List Event
param_onto n xs p = told (mark_onto n (is_some_bounds p.subtype.bounds) (listed_onto n (listed.Declared kind.Parameter) xs p.names) p.subtype.name) (event.ParametersEnd (mode_of p.mode))

abbrev pub params_onto : (ℕ → ℕ) → List Event → List Param → List Event
params_onto n xs [] = xs
params_onto n xs (p ∷ ps) = params_onto n (param_onto n xs p) ps

abbrev pub result_onto : (ℕ → ℕ) → List Event → Option Name → List Event
result_onto n xs None = xs
result_onto n xs (Some m) = told (mark_onto n false xs m) event.ResultEnds

-- ---- aspects (Ada RM 6.1.1, 13.1.1; SPARK RM 1.4, 6.1.4)

-- where the value of an aspect stands that has an expression or names
abbrev pub within_aspect : Option Word → Option Within
within_aspect (Some word.Pre) = Some within.Contract
within_aspect (Some word.Post) = Some within.Contract
within_aspect (Some word.Global) = Some within.Global
within_aspect _ = None

abbrev pub is_mode : Option Word → Bool
is_mode (Some word.SparkMode) = true
is_mode _ = false

abbrev pub some_item_onto : (ℕ → ℕ) → Within → List Event → Option Item → List Event
some_item_onto n w xs None = xs
some_item_onto n w xs (Some i) = item_onto n w xs i

abbrev pub aspect_within_onto : (ℕ → ℕ) → Option Word → Option Within → List Event → Aspect → List Event
aspect_within_onto n t (Some w) xs a = some_item_onto n w xs a.value
aspect_within_onto n t None xs a = left_out (not (is_mode t && switches_on n (given_value a.value))) a.span.from xs

abbrev pub aspect_as_onto : (ℕ → ℕ) → Option Word → List Event → Aspect → List Event
aspect_as_onto n t xs a = aspect_within_onto n t (within_aspect t) xs a

abbrev pub aspects_onto : (ℕ → ℕ) → List Event → List Aspect → List Event
aspects_onto n xs [] = xs
aspects_onto n xs (a ∷ as') = aspects_onto n (aspect_as_onto n (word_of (n a.name.from)) xs a) as'

abbrev pub end_name_onto : (ℕ → ℕ) → List Event → Option Span → List Event
end_name_onto n xs None = xs
end_name_onto n xs (Some s) = told xs (event.EndName (ident n s))

-- ---- declarations of a region; with true before its first declaration that is no pragma

-- where a pragma of this kind is taken: as a heading, or as a check, which belongs to a subprogram
abbrev pub pragma_as_onto : (ℕ → ℕ) → Region → Bool → PragmaKind → List Event → Pragma → List Event
pragma_as_onto n r b k xs p =
    if b && is_heading n r k (given_args p.args) then xs
    else (if is_subprogram r then check_onto n k xs p else told xs (event.LeftOut p.span.from))

abbrev pub pragma_in_onto : (ℕ → ℕ) → Region → Bool → List Event → Pragma → List Event
pragma_in_onto n r b xs p = pragma_as_onto n r b (pragma_kind (word_of (n p.name.from))) xs p

abbrev pub use_onto : (ℕ → ℕ) → Region → ℕ → List Event → List Span → List Event
use_onto n r a xs is = if is_private r then told xs (event.LeftOut a) else listed_onto n listed.Use xs is

-- any declaration but a subprogram's, which is left out
abbrev pub plain_form_onto : (ℕ → ℕ) → Region → Bool → List Event → Span → DeclForm → List Event
plain_form_onto n r b xs s (type_decl i t) = type_onto n r s.from xs i t.form
plain_form_onto n r b xs s (subtype_decl i t) = subtype_onto n r s.from xs i t
plain_form_onto n r b xs s (object_decl is o) = object_onto n xs is o
plain_form_onto n r b xs s (sub_decl q) = told xs (event.LeftOut s.from)
plain_form_onto n r b xs s (pragma_decl p) = pragma_in_onto n r b xs p
plain_form_onto n r b xs s (use_decl is) = use_onto n r s.from xs is

abbrev pub plain_decl_onto : (ℕ → ℕ) → Region → Bool → List Event → Decl → List Event
plain_decl_onto n r b xs (declaration s f) = plain_form_onto n r b xs s f

abbrev pub is_pragma_form : DeclForm → Bool
is_pragma_form (type_decl i t) = false
is_pragma_form (subtype_decl i t) = false
is_pragma_form (object_decl is o) = false
is_pragma_form (sub_decl q) = false
is_pragma_form (pragma_decl p) = true
is_pragma_form (use_decl is) = false

abbrev pub is_pragma : Decl → Bool
is_pragma (declaration s f) = is_pragma_form f

-- in a subprogram
abbrev pub plain_decls_onto : (ℕ → ℕ) → Bool → List Event → Decls → List Event
plain_decls_onto n b xs no_decls = xs
plain_decls_onto n b xs (decls d ds) = plain_decls_onto n (b && is_pragma d) (plain_decl_onto n region.Subprogram b xs d) ds

-- ---- subprograms (Ada RM 6.1, 6.3)

abbrev pub is_some_body : Body → Bool
is_some_body no_body = false
is_some_body (body ds ss e) = true

-- with true for a body
abbrev pub heading_onto : (ℕ → ℕ) → Bool → List Event → Heading → List Event
heading_onto n b xs h =
    aspects_onto n
    (told (result_onto n (params_onto n (told xs (event.Opens (scope.Subprogram (ident n h.name) b))) h.params) h.result) event.ProfileEnds)
    h.aspects

abbrev pub body_onto : (ℕ → ℕ) → List Event → Body → List Event
body_onto n xs no_body = xs
body_onto n xs (body ds ss e) = end_name_onto n (stmts_onto n (plain_decls_onto n true xs ds) ss) e

abbrev pub sub_onto : (ℕ → ℕ) → List Event → Sub → List Event
sub_onto n xs (sub h b) = told (body_onto n (heading_onto n (is_some_body b) xs h) b) event.Closes

-- a body in a package's declaration is left out, and the subprogram is declared
abbrev pub declared_sub_onto : (ℕ → ℕ) → ℕ → List Event → Sub → List Event
declared_sub_onto n a xs (sub h b) = told (heading_onto n false (left_out (is_some_body b) a xs) h) event.Closes

-- ---- declarations of a package

abbrev pub sub_in_onto : (ℕ → ℕ) → Region → ℕ → List Event → Sub → List Event
sub_in_onto n (region.Visible m) a xs q = declared_sub_onto n a xs q
sub_in_onto n region.Private a xs q = declared_sub_onto n a xs q
sub_in_onto n region.Body a xs q = sub_onto n xs q
sub_in_onto n region.Subprogram a xs q = told xs (event.LeftOut a)

abbrev pub form_in_onto : (ℕ → ℕ) → Region → Bool → List Event → Span → DeclForm → List Event
form_in_onto n r b xs s (type_decl i t) = plain_form_onto n r b xs s (type_decl i t)
form_in_onto n r b xs s (subtype_decl i t) = plain_form_onto n r b xs s (subtype_decl i t)
form_in_onto n r b xs s (object_decl is o) = plain_form_onto n r b xs s (object_decl is o)
form_in_onto n r b xs s (sub_decl q) = sub_in_onto n r s.from xs q
form_in_onto n r b xs s (pragma_decl p) = plain_form_onto n r b xs s (pragma_decl p)
form_in_onto n r b xs s (use_decl is) = plain_form_onto n r b xs s (use_decl is)

abbrev pub decl_onto : (ℕ → ℕ) → Region → Bool → List Event → Decl → List Event
decl_onto n r b xs (declaration s f) = form_in_onto n r b xs s f

abbrev pub decls_onto : (ℕ → ℕ) → Region → Bool → List Event → Decls → List Event
decls_onto n r b xs no_decls = xs
decls_onto n r b xs (decls d ds) = decls_onto n r (b && is_pragma d) (decl_onto n r b xs d) ds
