-- A walk adds to the events before, and a file's events open its unit.
use Rattle.std.proofs.Common.{if◌then◌else◌, ◌≡◌, refl, sym, ◌∙◌, ap, ℕ, Bool, true, false, not, ◌&&◌, ◌||◌, List, [], ◌∷◌, ◌++◌, append_assoc, append-nil, Option, Some, None}
use Rattle.std.specs.Prelude.{is_some}
use Rattle.ada_text.specs.declared.token.Span.{Span}
use Rattle.name_library.specs.declared.events.Event.{Event}
use Rattle.name_library.specs.declared.events.Event.TheVariants as event
use Rattle.name_library.specs.declared.events.Ident.{Ident}
use Rattle.name_library.specs.declared.events.Kind.{Kind}
use Rattle.name_library.specs.declared.events.Scope.{Scope}
use Rattle.name_library.specs.declared.events.Scope.TheVariants as scope
use Rattle.name_numbers.specs.declared.words.Word.{Word}
use Rattle.name_events.specs.Asked.{are_selectors, given_args, is_heading, is_subprogram, pragma_kind}
use Rattle.name_library.specs.declared.events.Kind.TheVariants as kind
use Rattle.name_library.specs.declared.events.Manner.TheVariants as manner
use Rattle.name_numbers.specs.Numbers.{word_of}
use Rattle.name_uses.specs.Asked.{before_arrow, is_selector}
use Rattle.name_events.specs.Declarations.{aspect_as_onto, object_kind, is_some_bounds, mode_of, within_aspect, is_pragma_form, aspect_within_onto, aspects_onto, body_onto, bounds_onto, components_onto, declared_sub_onto, decls_onto, end_name_onto, form_in_onto, heading_onto, hidden_onto, index_form_onto, is_some_body, mark_onto, object_onto, params_onto, plain_decls_onto, plain_form_onto, pragma_in_onto, result_onto, selectors_onto, some_bounds_onto, some_item_onto, some_sub_ind_onto, sub_in_onto, sub_ind_onto, sub_onto, subtype_onto, type_form_onto, type_onto, use_onto}
use Rattle.name_events.specs.Events.{is_pragma_item, context_item_onto, context_onto, events, private_onto, unit_onto}
use Rattle.name_events.specs.Statements.{action_onto, alternatives_onto, branches_onto, case_choices_onto, check_onto, some_onto, stmt_onto, stmts_onto}
use Rattle.name_uses.specs.Told.{ident, left_out, listed_onto, mention, told}
use Rattle.name_uses.specs.Uses.{arg_onto, args_onto, arms_onto, attribute_onto, choice_onto, form_onto, group_in, item_onto, maybe_onto, name_onto, node_onto, onto, range_onto, selector_onto, sole_else, sole_onto, suffix_onto, suffixes_onto, value_onto}
use Rattle.name_uses.specs.declared.places.Brackets.{Brackets}
use Rattle.name_uses.specs.declared.places.Brackets.TheVariants as brackets
use Rattle.name_uses.specs.declared.places.Listed.{Listed}
use Rattle.name_uses.specs.declared.places.Listed.TheVariants as listed
use Rattle.name_events.specs.declared.words.PragmaKind.{PragmaKind}
use Rattle.name_events.specs.declared.words.PragmaKind.TheVariants as pragma
use Rattle.name_events.specs.declared.words.Region.{Region}
use Rattle.name_events.specs.declared.words.Region.TheVariants as region
use Rattle.name_uses.specs.declared.places.Within.{Within}
use Rattle.name_uses.specs.declared.places.Within.TheVariants as within
use Rattle.syntax_view.specs.Trees as tree
use Rattle.name_library.specs.declared.library.LibraryUnit.{LibraryUnit}
use Rattle.name_library.specs.Library.{opened_ident, unit_after, unit_opened}

abbrev Names : Type 0
Names = ℕ → ℕ

abbrev Events : Type 0
Events = List Event

-- ---- lists that grow

pub record Grows (xs ys : Events) : Type 0 where
  pub added : Events
  pub is : ys ≡ xs ++ added

none : (xs : Events) → Grows xs xs
none xs = record { added = []; is = sym (append-nil xs) }

more : (xs : Events) (e : Event) → Grows xs (told xs e)
more xs e = record { added = e ∷ []; is = refl }

infixl 10 ◌∵◌
◌∵◌ : {xs ys zs : Events} → Grows ys zs → Grows xs ys → Grows xs zs
◌∵◌ {xs} g h = record { added = h.added ++ g.added; is = g.is ∙ ap (λ (l : Events). l ++ g.added) h.is ∙ append_assoc xs h.added g.added }

left_out_grows : (b : Bool) (at : ℕ) (xs : Events) → Grows xs (left_out b at xs)
left_out_grows true at xs = more xs (event.LeftOut at)
left_out_grows false at xs = none xs

listed_grows : (n : Names) (l : Listed) (xs : Events) (ss : List Span) → Grows xs (listed_onto n l xs ss)
listed_grows n l xs [] = none xs
listed_grows n l xs (s ∷ ss) = listed_grows n l (told xs (mention l (ident n s))) ss ∵ more xs (mention l (ident n s))

-- ---- expressions

sole_grows : (n : Names) (b : Brackets) (xs : Events) (f : Span) → Grows xs (sole_onto n b xs f)
sole_grows n brackets.Aggregate xs f = more xs _
sole_grows n brackets.AfterName xs f = none _

sole_else_grows : (n : Names) (b : Brackets) (xs : Events) (o : Option Span) (ys : Events) → Grows xs ys → Grows xs (sole_else n b xs o ys)
sole_else_grows n b xs None ys e = e
sole_else_grows n b xs (Some f) ys e = sole_grows n b xs f

selector_grows : (n : Names) (b : Bool) (xs : Events) (i : Span) → Grows xs (selector_onto n b xs i)
selector_grows n true xs i = more xs _
selector_grows n false xs i = none _

mutual
  pub onto_grows : (n : Names) (w : Within) (xs : Events) (e : tree.Expr) → Grows xs (onto n w xs e)
  onto_grows n w xs (tree.at s e) = node_grows n w xs s e

  node_grows : (n : Names) (w : Within) (xs : Events) (s : Span) (e : tree.Node) → Grows xs (node_onto n w xs s e)
  node_grows n w xs s (tree.number i) = none _
  node_grows n w xs s tree.null = left_out_grows _ s.from xs
  node_grows n w xs s (tree.name m) = name_grows n w false xs m
  node_grows n w xs s (tree.group as') = args_grows n w (group_in w) xs as'
  node_grows n w xs s (tree.unary p o a) = onto_grows n w xs a
  node_grows n w xs s (tree.binary p o a b) = onto_grows n w (onto n w xs a) b ∵ onto_grows n w xs a
  node_grows n w xs s (tree.member p b a r) = range_grows n w (onto n w xs a) r ∵ onto_grows n w xs a

  maybe_grows : (n : Names) (w : Within) (xs : Events) (e : tree.MaybeExpr) → Grows xs (maybe_onto n w xs e)
  maybe_grows n w xs tree.no_expr = none _
  maybe_grows n w xs (tree.an_expr e) = onto_grows n w xs e

  range_grows : (n : Names) (w : Within) (xs : Events) (r : tree.Range) → Grows xs (range_onto n w xs r)
  range_grows n w xs (tree.range l h) = maybe_grows n w (onto n w xs l) h ∵ onto_grows n w xs l

  name_grows : (n : Names) (w : Within) (d : Bool) (xs : Events) (m : tree.Name) → Grows xs (name_onto n w d xs m)
  name_grows n w d xs (tree.named s f ss) = suffixes_grows n w d s.from true _ ss ∵ more xs _

  suffixes_grows : (n : Names) (w : Within) (d : Bool) (a : ℕ) (b : Bool) (xs : Events) (ss : tree.Suffixes) → Grows xs (suffixes_onto n w d a b xs ss)
  suffixes_grows n w d a b xs tree.no_suffixes = none _
  suffixes_grows n w d a b xs (tree.suffixes s ss) = suffixes_grows n w d a (b && is_selector s) _ ss ∵ suffix_grows n w d a b xs s

  suffix_grows : (n : Names) (w : Within) (d : Bool) (a : ℕ) (b : Bool) (xs : Events) (s : tree.Suffix) → Grows xs (suffix_onto n w d a b xs s)
  suffix_grows n w d a b xs (tree.selected i) = selector_grows n b xs i
  suffix_grows n w d a b xs (tree.ticked p t) = attribute_grows n w a xs t
  suffix_grows n w d a b xs (tree.applied as') = args_grows n w brackets.AfterName _ as' ∵ left_out_grows _ a xs

  attribute_grows : (n : Names) (w : Within) (a : ℕ) (xs : Events) (t : tree.Attribute) → Grows xs (attribute_onto n w a xs t)
  attribute_grows n w a xs (tree.attribute i) = left_out_grows _ a xs
  attribute_grows n w a xs tree.range_attribute = none _
  attribute_grows n w a xs (tree.qualified as') = args_grows n w (group_in w) xs as'

  pub args_grows : (n : Names) (w : Within) (b : Brackets) (xs : Events) (as' : tree.Args) → Grows xs (args_onto n w b xs as')
  args_grows n w b xs tree.no_args = none _
  args_grows n w b xs (tree.args a as') = args_grows n w b _ as' ∵ arg_grows n w b xs a

  arg_grows : (n : Names) (w : Within) (b : Brackets) (xs : Events) (a : tree.Arg) → Grows xs (arg_onto n w b xs a)
  arg_grows n w b xs (tree.arg s c v) = value_grows n w _ v ∵ sole_else_grows n b xs (before_arrow c v) _ (choice_grows n w xs c)

  choice_grows : (n : Names) (w : Within) (xs : Events) (c : tree.ArgChoice) → Grows xs (choice_onto n w xs c)
  choice_grows n w xs tree.other_parts = none _
  choice_grows n w xs (tree.part i) = item_grows n w xs i
  choice_grows n w xs (tree.parts l h) = onto_grows n w (onto n w xs l) h ∵ onto_grows n w xs l

  value_grows : (n : Names) (w : Within) (xs : Events) (v : tree.Value) → Grows xs (value_onto n w xs v)
  value_grows n w xs tree.no_value = none _
  value_grows n w xs (tree.value i) = item_grows n w xs i

  item_grows : (n : Names) (w : Within) (xs : Events) (i : tree.Item) → Grows xs (item_onto n w xs i)
  item_grows n w xs (tree.item s f) = form_grows n w xs f

  form_grows : (n : Names) (w : Within) (xs : Events) (f : tree.Form) → Grows xs (form_onto n w xs f)
  form_grows n w xs (tree.plain e) = onto_grows n w xs e
  form_grows n w xs (tree.choose as' e) = maybe_grows n w _ e ∵ arms_grows n w xs as'
  form_grows n w xs (tree.quantified q i r p) =
      more _ event.Closes ∵ (onto_grows n w _ p ∵ more _ event.DeclarationEnds ∵ range_grows n w _ r ∵ more _ (event.Declares kind.Index (ident n i))) ∵ more xs (event.Opens scope.Quantified)

  arms_grows : (n : Names) (w : Within) (xs : Events) (as' : tree.Arms) → Grows xs (arms_onto n w xs as')
  arms_grows n w xs tree.no_arms = none _
  arms_grows n w xs (tree.arm c g as') = arms_grows n w _ as' ∵ onto_grows n w _ g ∵ onto_grows n w xs c

-- ---- pragmas and statements

check_grows : (n : Names) (k : PragmaKind) (xs : Events) (p : tree.Pragma) → Grows xs (check_onto n k xs p)
check_grows n pragma.Check xs p = args_grows n within.Text brackets.AfterName xs p.args
check_grows n pragma.Mode xs p = more xs _
check_grows n pragma.Category xs p = more xs _
check_grows n pragma.Other xs p = more xs _

some_grows : (n : Names) (xs : Events) (e : Option tree.Expr) → Grows xs (some_onto n xs e)
some_grows n xs None = none _
some_grows n xs (Some e) = onto_grows n within.Text xs e

case_choices_grows : (n : Names) (xs : Events) (cs : List tree.Choice) → Grows xs (case_choices_onto n xs cs)
case_choices_grows n xs [] = none _
case_choices_grows n xs (tree.other_values ∷ cs) = case_choices_grows n xs cs
case_choices_grows n xs (tree.values r ∷ cs) = case_choices_grows n (range_onto n within.Text xs r) cs ∵ range_grows n within.Text xs r

mutual
  stmt_grows : (n : Names) (xs : Events) (s : tree.Stmt) → Grows xs (stmt_onto n xs s)
  stmt_grows n xs (tree.statement s a) = action_grows n xs a

  action_grows : (n : Names) (xs : Events) (a : tree.Action) → Grows xs (action_onto n xs a)
  action_grows n xs tree.skip = none _
  action_grows n xs (tree.call m) = name_grows n within.Text false xs m
  action_grows n xs (tree.assign m e) = onto_grows n within.Text _ e ∵ name_grows n within.Text false xs m
  action_grows n xs (tree.branches bs ss) = stmts_grows n _ ss ∵ branches_grows n xs bs
  action_grows n xs (tree.case_of e as') = alternatives_grows n _ as' ∵ onto_grows n within.Text xs e
  action_grows n xs (tree.loop tree.forever ss) = stmts_grows n xs ss
  action_grows n xs (tree.loop (tree.while e) ss) = stmts_grows n _ ss ∵ onto_grows n within.Text xs e
  action_grows n xs (tree.loop (tree.for i b r) ss) =
      more _ event.Closes ∵ (stmts_grows n _ ss ∵ more _ event.DeclarationEnds ∵ range_grows n within.Text _ r ∵ more _ (event.Declares kind.LoopParameter (ident n i))) ∵ more xs (event.Opens scope.Loop)
  action_grows n xs (tree.exit e) = some_grows n xs e
  action_grows n xs (tree.return e) = some_grows n xs e
  action_grows n xs (tree.pragma_stmt p) = check_grows n _ xs p

  pub stmts_grows : (n : Names) (xs : Events) (ss : tree.Stmts) → Grows xs (stmts_onto n xs ss)
  stmts_grows n xs tree.no_stmts = none _
  stmts_grows n xs (tree.stmts s ss) = stmts_grows n _ ss ∵ stmt_grows n xs s

  branches_grows : (n : Names) (xs : Events) (bs : tree.Branches) → Grows xs (branches_onto n xs bs)
  branches_grows n xs tree.no_branches = none _
  branches_grows n xs (tree.branch c ss bs) = branches_grows n _ bs ∵ stmts_grows n _ ss ∵ onto_grows n within.Text xs c

  alternatives_grows : (n : Names) (xs : Events) (as' : tree.Alternatives) → Grows xs (alternatives_onto n xs as')
  alternatives_grows n xs tree.no_alternatives = none _
  alternatives_grows n xs (tree.alternative cs ss as') = alternatives_grows n _ as' ∵ stmts_grows n _ ss ∵ case_choices_grows n xs cs

-- ---- declarations

bounds_grows : (n : Names) (xs : Events) (b : tree.Bounds) → Grows xs (bounds_onto n xs b)
bounds_grows n xs b = onto_grows n within.Text _ b.high ∵ onto_grows n within.Text xs b.low

some_bounds_grows : (n : Names) (xs : Events) (b : Option tree.Bounds) → Grows xs (some_bounds_onto n xs b)
some_bounds_grows n xs None = none _
some_bounds_grows n xs (Some b) = bounds_grows n xs b

sub_ind_grows : (n : Names) (xs : Events) (s : tree.SubInd) → Grows xs (sub_ind_onto n xs s)
sub_ind_grows n xs s = some_bounds_grows n _ s.bounds ∵ name_grows n within.Text true xs s.name

some_sub_ind_grows : (n : Names) (xs : Events) (s : Option tree.SubInd) → Grows xs (some_sub_ind_onto n xs s)
some_sub_ind_grows n xs None = none _
some_sub_ind_grows n xs (Some s) = sub_ind_grows n xs s

index_form_grows : (n : Names) (xs : Events) (f : tree.IndexForm) → Grows xs (index_form_onto n xs f)
index_form_grows n xs tree.alone = none _
index_form_grows n xs (tree.up_to h) = onto_grows n within.Text xs h
index_form_grows n xs tree.unconstrained = none _
index_form_grows n xs (tree.constrained b) = bounds_grows n xs b

components_grows : (n : Names) (xs : Events) (cs : List tree.Component) → Grows xs (components_onto n xs cs)
components_grows n xs [] = none _
components_grows n xs (c ∷ cs) = components_grows n (sub_ind_onto n (listed_onto n (listed.Declared kind.Component) xs c.names) c.subtype) cs ∵ sub_ind_grows n _ c.subtype ∵ listed_grows n (listed.Declared kind.Component) xs c.names

type_form_grows : (n : Names) (xs : Events) (t : tree.TypeForm) → Grows xs (type_form_onto n xs t)
type_form_grows n xs (tree.signed b) = bounds_grows n xs b
type_form_grows n xs (tree.modular e) = onto_grows n within.Text xs e
type_form_grows n xs (tree.enumeration is) = listed_grows n (listed.Declared kind.Literal) xs is
type_form_grows n xs (tree.array_of i s) = sub_ind_grows n _ s ∵ index_form_grows n _ i.form ∵ onto_grows n within.Text xs i.first
type_form_grows n xs (tree.record_of cs) = more _ event.Closes ∵ (components_grows n _ cs) ∵ more xs (event.Opens scope.Record)
type_form_grows n xs (tree.derived s) = sub_ind_grows n xs s

hidden_grows : (n : Names) (a : ℕ) (xs : Events) (k : Kind) (i : Span) → Grows xs (hidden_onto n a xs k i)
hidden_grows n a xs k i = more _ event.DeclarationEnds ∵ more _ (event.Declares k (ident n i)) ∵ more xs (event.LeftOut a)

told_type_grows : (n : Names) (xs : Events) (k : Kind) (i : Span) (t : tree.TypeForm) → Grows xs (told (type_form_onto n (told xs (event.Declares k (ident n i))) t) event.DeclarationEnds)
told_type_grows n xs k i t = more _ event.DeclarationEnds ∵ type_form_grows n _ t ∵ more xs (event.Declares k (ident n i))

type_grows : (n : Names) (r : Region) (a : ℕ) (xs : Events) (i : Span) (t : tree.TypeForm) → Grows xs (type_onto n r a xs i t)
type_grows n (region.Visible m) a xs i t = told_type_grows n xs _ i t
type_grows n region.Private a xs i t = hidden_grows n a xs _ i
type_grows n region.Body a xs i t = told_type_grows n xs _ i t
type_grows n region.Subprogram a xs i t = told_type_grows n xs _ i t

told_subtype_grows : (n : Names) (xs : Events) (k : Kind) (i : Span) (s : tree.SubInd) → Grows xs (told (sub_ind_onto n (told xs (event.Declares k (ident n i))) s) event.DeclarationEnds)
told_subtype_grows n xs k i s = more _ event.DeclarationEnds ∵ sub_ind_grows n _ s ∵ more xs (event.Declares k (ident n i))

subtype_grows : (n : Names) (r : Region) (a : ℕ) (xs : Events) (i : Span) (s : tree.SubInd) → Grows xs (subtype_onto n r a xs i s)
subtype_grows n (region.Visible m) a xs i s = told_subtype_grows n xs _ i s
subtype_grows n region.Private a xs i s = hidden_grows n a xs _ i
subtype_grows n region.Body a xs i s = told_subtype_grows n xs _ i s
subtype_grows n region.Subprogram a xs i s = told_subtype_grows n xs _ i s

object_grows : (n : Names) (xs : Events) (is : List Span) (o : tree.Object) → Grows xs (object_onto n xs is o)
object_grows n xs is o = more _ event.DeclarationEnds ∵ some_grows n _ o.value ∵ some_sub_ind_grows n _ o.subtype ∵ listed_grows n (listed.Declared (object_kind o.subtype)) xs is

selectors_grows : (n : Names) (xs : Events) (ss : tree.Suffixes) → Grows xs (selectors_onto n xs ss)
selectors_grows n xs tree.no_suffixes = none _
selectors_grows n xs (tree.suffixes (tree.selected i) ss) = selectors_grows n _ ss ∵ more xs _
selectors_grows n xs (tree.suffixes (tree.ticked p a) ss) = none _
selectors_grows n xs (tree.suffixes (tree.applied as') ss) = none _

mark_grows : (n : Names) (c : Bool) (xs : Events) (m : tree.Name) → Grows xs (mark_onto n c xs m)
mark_grows n c xs (tree.named s f ss) = selectors_grows n _ ss ∵ more _ (event.Name (ident n f) manner.Plain) ∵ left_out_grows (c || not (are_selectors ss)) s.from xs

params_grows : (n : Names) (xs : Events) (ps : List tree.Param) → Grows xs (params_onto n xs ps)
params_grows n xs [] = none _
params_grows n xs (p ∷ ps) = params_grows n _ ps ∵ more _ (event.ParametersEnd (mode_of p.mode)) ∵ mark_grows n (is_some_bounds p.subtype.bounds) _ p.subtype.name ∵ listed_grows n (listed.Declared kind.Parameter) xs p.names

result_grows : (n : Names) (xs : Events) (m : Option tree.Name) → Grows xs (result_onto n xs m)
result_grows n xs None = none _
result_grows n xs (Some m) = more _ event.ResultEnds ∵ mark_grows n false xs m

some_item_grows : (n : Names) (w : Within) (xs : Events) (i : Option tree.Item) → Grows xs (some_item_onto n w xs i)
some_item_grows n w xs None = none _
some_item_grows n w xs (Some i) = item_grows n w xs i

aspect_grows : (n : Names) (t : Option Word) (w : Option Within) (xs : Events) (a : tree.Aspect) → Grows xs (aspect_within_onto n t w xs a)
aspect_grows n t None xs a = left_out_grows _ a.span.from xs
aspect_grows n t (Some w) xs a = some_item_grows n w xs a.value

aspects_grows : (n : Names) (xs : Events) (as' : List tree.Aspect) → Grows xs (aspects_onto n xs as')
aspects_grows n xs [] = none _
aspects_grows n xs (a ∷ as') = aspects_grows n (aspect_as_onto n (word_of (n a.name.from)) xs a) as' ∵ aspect_grows n (word_of (n a.name.from)) (within_aspect (word_of (n a.name.from))) xs a

end_name_grows : (n : Names) (xs : Events) (s : Option Span) → Grows xs (end_name_onto n xs s)
end_name_grows n xs None = none _
end_name_grows n xs (Some s) = more xs _

region_pragma_grows : (n : Names) (b : Bool) (k : PragmaKind) (xs : Events) (p : tree.Pragma) → Grows xs (if b then check_onto n k xs p else told xs (event.LeftOut p.span.from))
region_pragma_grows n true k xs p = check_grows n k xs p
region_pragma_grows n false k xs p = more xs _

pragma_same_by : (n : Names) (c b : Bool) (k : PragmaKind) (xs : Events) (p : tree.Pragma) → Grows xs (if c then xs else (if b then check_onto n k xs p else told xs (event.LeftOut p.span.from)))
pragma_same_by n true b k xs p = none _
pragma_same_by n false b k xs p = region_pragma_grows n b k xs p

pragma_grows : (n : Names) (r : Region) (b : Bool) (xs : Events) (p : tree.Pragma) → Grows xs (pragma_in_onto n r b xs p)
pragma_grows n r b xs p =
    let k = pragma_kind (word_of (n p.name.from)) in
    pragma_same_by n (b && is_heading n r k (given_args p.args)) (is_subprogram r) k xs p

use_grows : (n : Names) (r : Region) (a : ℕ) (xs : Events) (is : List Span) → Grows xs (use_onto n r a xs is)
use_grows n (region.Visible m) a xs is = listed_grows n listed.Use xs is
use_grows n region.Private a xs is = more xs _
use_grows n region.Body a xs is = listed_grows n listed.Use xs is
use_grows n region.Subprogram a xs is = listed_grows n listed.Use xs is

plain_form_grows : (n : Names) (r : Region) (b : Bool) (xs : Events) (s : Span) (f : tree.DeclForm) → Grows xs (plain_form_onto n r b xs s f)
plain_form_grows n r b xs s (tree.type_decl i t) = type_grows n r s.from xs i t.form
plain_form_grows n r b xs s (tree.subtype_decl i t) = subtype_grows n r s.from xs i t
plain_form_grows n r b xs s (tree.object_decl is o) = object_grows n xs is o
plain_form_grows n r b xs s (tree.sub_decl q) = more xs _
plain_form_grows n r b xs s (tree.pragma_decl p) = pragma_grows n r b xs p
plain_form_grows n r b xs s (tree.use_decl is) = use_grows n r s.from xs is

plain_decls_grows : (n : Names) (b : Bool) (xs : Events) (ds : tree.Decls) → Grows xs (plain_decls_onto n b xs ds)
plain_decls_grows n b xs tree.no_decls = none _
plain_decls_grows n b xs (tree.decls (tree.declaration s f) ds) = plain_decls_grows n (b && is_pragma_form f) _ ds ∵ plain_form_grows n region.Subprogram b xs s f

-- ---- subprograms and packages

heading_grows : (n : Names) (b : Bool) (xs : Events) (h : tree.Heading) → Grows (told xs (event.Opens (scope.Subprogram (ident n h.name) b))) (heading_onto n b xs h)
heading_grows n b xs h = aspects_grows n _ h.aspects ∵ more _ event.ProfileEnds ∵ result_grows n _ h.result ∵ params_grows n _ h.params

body_grows : (n : Names) (xs : Events) (b : tree.Body) → Grows xs (body_onto n xs b)
body_grows n xs tree.no_body = none _
body_grows n xs (tree.body ds ss e) = end_name_grows n _ e ∵ stmts_grows n _ ss ∵ plain_decls_grows n true xs ds

sub_grows : (n : Names) (xs : Events) (q : tree.Sub) → Grows xs (sub_onto n xs q)
sub_grows n xs (tree.sub h b) = more _ event.Closes ∵ (body_grows n _ b ∵ heading_grows n (is_some_body b) xs h) ∵ more xs (event.Opens (scope.Subprogram (ident n h.name) (is_some_body b)))

declared_sub_grows : (n : Names) (a : ℕ) (xs : Events) (q : tree.Sub) → Grows xs (declared_sub_onto n a xs q)
declared_sub_grows n a xs (tree.sub h b) = more _ event.Closes ∵ (heading_grows n false _ h) ∵ more (left_out (is_some_body b) a xs) (event.Opens (scope.Subprogram (ident n h.name) false)) ∵ left_out_grows (is_some_body b) a xs

sub_in_grows : (n : Names) (r : Region) (a : ℕ) (xs : Events) (q : tree.Sub) → Grows xs (sub_in_onto n r a xs q)
sub_in_grows n (region.Visible m) a xs q = declared_sub_grows n a xs q
sub_in_grows n region.Private a xs q = declared_sub_grows n a xs q
sub_in_grows n region.Body a xs q = sub_grows n xs q
sub_in_grows n region.Subprogram a xs q = more xs _

form_in_grows : (n : Names) (r : Region) (b : Bool) (xs : Events) (s : Span) (f : tree.DeclForm) → Grows xs (form_in_onto n r b xs s f)
form_in_grows n r b xs s (tree.type_decl i t) = plain_form_grows n r b xs s (tree.type_decl i t)
form_in_grows n r b xs s (tree.subtype_decl i t) = plain_form_grows n r b xs s (tree.subtype_decl i t)
form_in_grows n r b xs s (tree.object_decl is o) = plain_form_grows n r b xs s (tree.object_decl is o)
form_in_grows n r b xs s (tree.sub_decl q) = sub_in_grows n r s.from xs q
form_in_grows n r b xs s (tree.pragma_decl p) = plain_form_grows n r b xs s (tree.pragma_decl p)
form_in_grows n r b xs s (tree.use_decl is) = plain_form_grows n r b xs s (tree.use_decl is)

decls_grows : (n : Names) (r : Region) (b : Bool) (xs : Events) (ds : tree.Decls) → Grows xs (decls_onto n r b xs ds)
decls_grows n r b xs tree.no_decls = none _
decls_grows n r b xs (tree.decls (tree.declaration s f) ds) = decls_grows n r (b && is_pragma_form f) _ ds ∵ form_in_grows n r b xs s f

private_grows : (n : Names) (xs : Events) (ds : Option tree.Decls) → Grows xs (private_onto n xs ds)
private_grows n xs None = none _
private_grows n xs (Some ds) = more _ event.ListEnds ∵ decls_grows n region.Private true xs ds

-- ---- files

-- a walk over the heading of a unit goes on after them
abbrev Passes : Events → Type 0
Passes xs = (file : ℕ) (ws : List Ident) (rest : Events) → (found : List Ident) × (unit_after file ws (xs ++ rest) ≡ unit_after file found rest)

passes_none : Passes []
passes_none file ws rest = (ws, refl)

passes_more : (xs : Events) (e : Event) → Passes xs → ((file : ℕ) (ws : List Ident) (rest : Events) → (found : List Ident) × (unit_after file ws (e ∷ rest) ≡ unit_after file found rest)) → Passes (told xs e)
passes_more xs e h g file ws rest =
    let before = h file ws (e ∷ rest) in
    let after = g file before.0 rest in
    (after.0, ap (unit_after file ws) (append_assoc xs (e ∷ []) rest) ∙ before.1 ∙ after.1)

withs_pass : (n : Names) (xs : Events) (is : List Span) → Passes xs → Passes (listed_onto n listed.With xs is)
withs_pass n xs [] h = h
withs_pass n xs (i ∷ is) h = withs_pass n (told xs (event.With (ident n i))) is (passes_more xs (event.With (ident n i)) h (λ file ws rest. (ws ++ ident n i ∷ [], refl)))

uses_pass : (n : Names) (xs : Events) (is : List Span) → Passes xs → Passes (listed_onto n listed.ContextUse xs is)
uses_pass n xs [] h = h
uses_pass n xs (i ∷ is) h = uses_pass n (told xs (event.ContextUse (ident n i))) is (passes_more xs (event.ContextUse (ident n i)) h (λ file ws rest. (ws, refl)))

pragma_passes : (c : Bool) (at : ℕ) (xs : Events) → Passes xs → Passes (if c then xs else told xs (event.LeftOut at))
pragma_passes true at xs h = h
pragma_passes false at xs h = passes_more xs (event.LeftOut at) h (λ file ws rest. (ws, refl))

context_item_passes : (n : Names) (b : Bool) (xs : Events) (i : tree.ContextItem) → Passes xs → Passes (context_item_onto n b xs i)
context_item_passes n b xs (tree.pragma_item p) h = pragma_passes (b && is_heading n region.Body (pragma_kind (word_of (n p.name.from))) (given_args p.args)) p.span.from xs h
context_item_passes n b xs (tree.with_item is) h = withs_pass n xs is h
context_item_passes n b xs (tree.use_item is) h = uses_pass n xs is h

context_passes : (n : Names) (b : Bool) (xs : Events) (is : List tree.ContextItem) → Passes xs → Passes (context_onto n b xs is)
context_passes n b xs [] h = h
context_passes n b xs (i ∷ is) h = context_passes n (b && is_pragma_item i) (context_item_onto n b xs i) is (context_item_passes n b xs i h)

-- the events of a unit begin with its scope
unit_grows : (n : Names) (xs : Events) (u : tree.UnitForm) → (s : Scope) × ((i : Ident) × ((opened_ident s ≡ Some i) × Grows (told xs (event.Opens s)) (unit_onto n xs u)))
unit_grows n xs (tree.package_unit p) = (
  scope.Package (ident n p.name),
  (
    ident n p.name,
    (
      refl,
      end_name_grows n _ p.end_name ∵ private_grows n _ p.hidden ∵ more _ event.ListEnds ∵ decls_grows n (region.Visible (n p.name.from)) true _ p.declarations ∵ aspects_grows n _ p.aspects,
    ),
  ),
)
unit_grows n xs (tree.package_body_unit p) = (
  scope.PackageBody (ident n p.name),
  (
    ident n p.name,
    (
      refl,
      end_name_grows n _ p.end_name ∵ more _ event.ListEnds ∵ decls_grows n region.Body true _ p.declarations ∵ aspects_grows n _ p.aspects,
    ),
  ),
)
unit_grows n xs (tree.sub_unit (tree.sub h b)) = (
  scope.Subprogram (ident n h.name) (is_some_body b),
  (
    ident n h.name,
    (
      refl,
      more _ event.Closes ∵ body_grows n _ b ∵ heading_grows n (is_some_body b) xs h,
    ),
  ),
)

opened_some : (file : ℕ) (s : Scope) (ws : List Ident) (o : Option Ident) (i : Ident) (rest : Events) → o ≡ Some i → is_some (unit_opened file s ws o rest) ≡ true
opened_some file s ws (Some j) i rest h = refl
opened_some file s ws None i rest h = cc

unit_some : (n : Names) (xs : Events) (u : tree.UnitForm) (file : ℕ) → Passes xs → is_some (unit_after file [] (unit_onto n xs u)) ≡ true
unit_some n xs u file h =
    let g = unit_grows n xs u in
    let opens = event.Opens g.0 in
    let grown = g.1.1.1 in
    let passed = h file [] (opens ∷ grown.added) in
    ap (λ (l : Events). is_some (unit_after file [] l)) (grown.is ∙ append_assoc xs (opens ∷ []) grown.added)
    ∙ ap (λ (o : Option LibraryUnit). is_some o) passed.1
    ∙ opened_some file g.0 passed.0 (opened_ident g.0) g.1.0 grown.added g.1.1.0

pub has_unit : (n : Names) (u : tree.SourceUnit) (file : ℕ) → is_some (unit_after file [] (events n u)) ≡ true
has_unit n u file = unit_some n (context_onto n true [] u.context) u.unit.form file (context_passes n true [] u.context passes_none)
