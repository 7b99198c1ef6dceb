-- A walk closes each scope that it opens, but for a package's.
use Rattle.std.proofs.Common.{if◌then◌else◌, ◌≡◌, refl, ◌∙◌, ap, ℕ, zero, suc, Bool, true, false, not, ◌&&◌, ◌||◌, List, [], ◌∷◌, Option, Some, None}
use Rattle.std.proofs.lemmas.List.Sums.{fold_push}
use Rattle.ada_text.specs.declared.token.Span.{Span}
use Rattle.name_library.specs.declared.events.Event.{Event}
use Rattle.name_library.specs.declared.events.Event.TheVariants as event
use Rattle.name_library.specs.declared.events.Ident.{Ident}
use Rattle.name_library.specs.declared.events.Kind.{Kind}
use Rattle.name_library.specs.declared.events.Scope.{Scope}
use Rattle.name_library.specs.declared.events.Scope.TheVariants as scope
use Rattle.name_numbers.specs.declared.words.Word.{Word}
use Rattle.name_events.specs.Asked.{are_selectors, given_args, is_heading, is_subprogram, pragma_kind}
use Rattle.name_library.specs.declared.events.Kind.TheVariants as kind
use Rattle.name_library.specs.declared.events.Manner.TheVariants as manner
use Rattle.name_numbers.specs.Numbers.{word_of}
use Rattle.name_uses.specs.Asked.{before_arrow, is_selector}
use Rattle.name_events.specs.Declarations.{aspect_as_onto, object_kind, is_some_bounds, mode_of, within_aspect, is_pragma_form, aspect_within_onto, aspects_onto, body_onto, bounds_onto, components_onto, declared_sub_onto, decls_onto, end_name_onto, form_in_onto, heading_onto, hidden_onto, index_form_onto, is_some_body, mark_onto, object_onto, params_onto, plain_decls_onto, plain_form_onto, pragma_in_onto, result_onto, selectors_onto, some_bounds_onto, some_item_onto, some_sub_ind_onto, sub_in_onto, sub_ind_onto, sub_onto, subtype_onto, type_form_onto, type_onto, use_onto}
use Rattle.name_events.specs.Events.{is_pragma_item, context_item_onto, context_onto, events, private_onto, unit_onto}
use Rattle.name_events.specs.Nested.{depth, depth_after, depth_in, opened_in}
use Rattle.name_events.specs.Statements.{action_onto, alternatives_onto, branches_onto, case_choices_onto, check_onto, some_onto, stmt_onto, stmts_onto}
use Rattle.name_uses.specs.Told.{ident, left_out, listed_onto, mention, told}
use Rattle.name_uses.specs.Uses.{arg_onto, args_onto, arms_onto, attribute_onto, choice_onto, form_onto, group_in, item_onto, maybe_onto, name_onto, node_onto, onto, range_onto, selector_onto, sole_else, sole_onto, suffix_onto, suffixes_onto, value_onto}
use Rattle.name_uses.specs.declared.places.Brackets.{Brackets}
use Rattle.name_uses.specs.declared.places.Brackets.TheVariants as brackets
use Rattle.name_uses.specs.declared.places.Listed.{Listed}
use Rattle.name_uses.specs.declared.places.Listed.TheVariants as listed
use Rattle.name_events.specs.declared.words.PragmaKind.{PragmaKind}
use Rattle.name_events.specs.declared.words.PragmaKind.TheVariants as pragma
use Rattle.name_events.specs.declared.words.Region.{Region}
use Rattle.name_events.specs.declared.words.Region.TheVariants as region
use Rattle.name_uses.specs.declared.places.Within.{Within}
use Rattle.name_uses.specs.declared.places.Within.TheVariants as within
use Rattle.syntax_view.specs.Trees as tree

abbrev pub Names : Type 0
Names = ℕ → ℕ

abbrev pub Events : Type 0
Events = List Event

-- ---- events that open and close nothing

unmoved : (o : Option ℕ) (e : Event) → ((d : ℕ) → depth_in d e ≡ Some d) → depth_after o e ≡ o
unmoved None e h = refl
unmoved (Some d) e h = h d

depth_told : (xs : Events) (e : Event) → depth (told xs e) ≡ depth_after (depth xs) e
unfolding depth
depth_told xs e = fold_push depth_after (Some zero) xs e

quiet : (xs : Events) (e : Event) → ((d : ℕ) → depth_in d e ≡ Some d) → depth (told xs e) ≡ depth xs
quiet xs e h = depth_told xs e ∙ unmoved (depth xs) e h

left_out_same : (b : Bool) (at : ℕ) (xs : Events) → depth (left_out b at xs) ≡ depth xs
left_out_same true at xs = quiet xs (event.LeftOut at) (λ d. refl)
left_out_same false at xs = refl

mention_quiet : (l : Listed) (i : Ident) (d : ℕ) → depth_in d (mention l i) ≡ Some d
mention_quiet listed.With i d = refl
mention_quiet listed.ContextUse i d = refl
mention_quiet listed.Use i d = refl
mention_quiet (listed.Declared k) i d = refl

listed_same : (n : Names) (l : Listed) (xs : Events) (ss : List Span) → depth (listed_onto n l xs ss) ≡ depth xs
listed_same n l xs [] = refl
listed_same n l xs (s ∷ ss) = listed_same n l (told xs (mention l (ident n s))) ss ∙ quiet xs _ (mention_quiet l (ident n s))

-- ---- scopes

shut : (o : Option ℕ) (s : Scope) → ((d : ℕ) → opened_in d s ≡ Some (suc d)) → depth_after (depth_after o (event.Opens s)) event.Closes ≡ o
shut None s h = refl
shut (Some d) s h = ap (λ (o : Option ℕ). depth_after o event.Closes) (h d)

-- what is told between the two leaves the depth as it is
bracket : (xs ys : Events) (s : Scope) → ((d : ℕ) → opened_in d s ≡ Some (suc d)) → depth ys ≡ depth (told xs (event.Opens s)) → depth (told ys event.Closes) ≡ depth xs
bracket xs ys s h e =
    depth_told ys event.Closes
    ∙ ap (λ (o : Option ℕ). depth_after o event.Closes) (e ∙ depth_told xs (event.Opens s))
    ∙ shut (depth xs) s h

record_opens : (d : ℕ) → opened_in d scope.Record ≡ Some (suc d)
record_opens zero = refl
record_opens (suc d) = refl

loop_opens : (d : ℕ) → opened_in d scope.Loop ≡ Some (suc d)
loop_opens zero = refl
loop_opens (suc d) = refl

quantified_opens : (d : ℕ) → opened_in d scope.Quantified ≡ Some (suc d)
quantified_opens zero = refl
quantified_opens (suc d) = refl

subprogram_opens : (i : Ident) (b : Bool) (d : ℕ) → opened_in d (scope.Subprogram i b) ≡ Some (suc d)
subprogram_opens i b zero = refl
subprogram_opens i b (suc d) = refl

-- ---- expressions

sole_same : (n : Names) (b : Brackets) (xs : Events) (f : Span) → depth (sole_onto n b xs f) ≡ depth xs
sole_same n brackets.Aggregate xs f = quiet xs _ (λ d. refl)
sole_same n brackets.AfterName xs f = refl

sole_else_same : (n : Names) (b : Brackets) (xs : Events) (o : Option Span) (ys : Events) → depth ys ≡ depth xs → depth (sole_else n b xs o ys) ≡ depth xs
sole_else_same n b xs None ys e = e
sole_else_same n b xs (Some f) ys e = sole_same n b xs f

selector_same : (n : Names) (b : Bool) (xs : Events) (i : Span) → depth (selector_onto n b xs i) ≡ depth xs
selector_same n true xs i = quiet xs _ (λ d. refl)
selector_same n false xs i = refl

mutual
  pub onto_same : (n : Names) (w : Within) (xs : Events) (e : tree.Expr) → depth (onto n w xs e) ≡ depth xs
  onto_same n w xs (tree.at s e) = node_same n w xs s e

  node_same : (n : Names) (w : Within) (xs : Events) (s : Span) (e : tree.Node) → depth (node_onto n w xs s e) ≡ depth xs
  node_same n w xs s (tree.number i) = refl
  node_same n w xs s tree.null = left_out_same _ s.from xs
  node_same n w xs s (tree.name m) = name_same n w false xs m
  node_same n w xs s (tree.group as') = args_same n w (group_in w) xs as'
  node_same n w xs s (tree.unary p o a) = onto_same n w xs a
  node_same n w xs s (tree.binary p o a b) = onto_same n w (onto n w xs a) b ∙ onto_same n w xs a
  node_same n w xs s (tree.member p b a r) = range_same n w (onto n w xs a) r ∙ onto_same n w xs a

  maybe_same : (n : Names) (w : Within) (xs : Events) (e : tree.MaybeExpr) → depth (maybe_onto n w xs e) ≡ depth xs
  maybe_same n w xs tree.no_expr = refl
  maybe_same n w xs (tree.an_expr e) = onto_same n w xs e

  range_same : (n : Names) (w : Within) (xs : Events) (r : tree.Range) → depth (range_onto n w xs r) ≡ depth xs
  range_same n w xs (tree.range l h) = maybe_same n w (onto n w xs l) h ∙ onto_same n w xs l

  name_same : (n : Names) (w : Within) (d : Bool) (xs : Events) (m : tree.Name) → depth (name_onto n w d xs m) ≡ depth xs
  name_same n w d xs (tree.named s f ss) = suffixes_same n w d s.from true _ ss ∙ quiet xs _ (λ d. refl)

  suffixes_same : (n : Names) (w : Within) (d : Bool) (a : ℕ) (b : Bool) (xs : Events) (ss : tree.Suffixes) → depth (suffixes_onto n w d a b xs ss) ≡ depth xs
  suffixes_same n w d a b xs tree.no_suffixes = refl
  suffixes_same n w d a b xs (tree.suffixes s ss) = suffixes_same n w d a (b && is_selector s) _ ss ∙ suffix_same n w d a b xs s

  suffix_same : (n : Names) (w : Within) (d : Bool) (a : ℕ) (b : Bool) (xs : Events) (s : tree.Suffix) → depth (suffix_onto n w d a b xs s) ≡ depth xs
  suffix_same n w d a b xs (tree.selected i) = selector_same n b xs i
  suffix_same n w d a b xs (tree.ticked p t) = attribute_same n w a xs t
  suffix_same n w d a b xs (tree.applied as') = args_same n w brackets.AfterName _ as' ∙ left_out_same _ a xs

  attribute_same : (n : Names) (w : Within) (a : ℕ) (xs : Events) (t : tree.Attribute) → depth (attribute_onto n w a xs t) ≡ depth xs
  attribute_same n w a xs (tree.attribute i) = left_out_same _ a xs
  attribute_same n w a xs tree.range_attribute = refl
  attribute_same n w a xs (tree.qualified as') = args_same n w (group_in w) xs as'

  pub args_same : (n : Names) (w : Within) (b : Brackets) (xs : Events) (as' : tree.Args) → depth (args_onto n w b xs as') ≡ depth xs
  args_same n w b xs tree.no_args = refl
  args_same n w b xs (tree.args a as') = args_same n w b _ as' ∙ arg_same n w b xs a

  arg_same : (n : Names) (w : Within) (b : Brackets) (xs : Events) (a : tree.Arg) → depth (arg_onto n w b xs a) ≡ depth xs
  arg_same n w b xs (tree.arg s c v) = value_same n w _ v ∙ sole_else_same n b xs (before_arrow c v) _ (choice_same n w xs c)

  choice_same : (n : Names) (w : Within) (xs : Events) (c : tree.ArgChoice) → depth (choice_onto n w xs c) ≡ depth xs
  choice_same n w xs tree.other_parts = refl
  choice_same n w xs (tree.part i) = item_same n w xs i
  choice_same n w xs (tree.parts l h) = onto_same n w (onto n w xs l) h ∙ onto_same n w xs l

  value_same : (n : Names) (w : Within) (xs : Events) (v : tree.Value) → depth (value_onto n w xs v) ≡ depth xs
  value_same n w xs tree.no_value = refl
  value_same n w xs (tree.value i) = item_same n w xs i

  item_same : (n : Names) (w : Within) (xs : Events) (i : tree.Item) → depth (item_onto n w xs i) ≡ depth xs
  item_same n w xs (tree.item s f) = form_same n w xs f

  form_same : (n : Names) (w : Within) (xs : Events) (f : tree.Form) → depth (form_onto n w xs f) ≡ depth xs
  form_same n w xs (tree.plain e) = onto_same n w xs e
  form_same n w xs (tree.choose as' e) = maybe_same n w _ e ∙ arms_same n w xs as'
  form_same n w xs (tree.quantified q i r p) =
      bracket xs _ scope.Quantified quantified_opens
      (onto_same n w _ p ∙ quiet _ event.DeclarationEnds (λ d. refl) ∙ range_same n w _ r ∙ quiet _ (event.Declares kind.Index (ident n i)) (λ d. refl))

  arms_same : (n : Names) (w : Within) (xs : Events) (as' : tree.Arms) → depth (arms_onto n w xs as') ≡ depth xs
  arms_same n w xs tree.no_arms = refl
  arms_same n w xs (tree.arm c g as') = arms_same n w _ as' ∙ onto_same n w _ g ∙ onto_same n w xs c

-- ---- pragmas and statements

check_same : (n : Names) (k : PragmaKind) (xs : Events) (p : tree.Pragma) → depth (check_onto n k xs p) ≡ depth xs
check_same n pragma.Check xs p = args_same n within.Text brackets.AfterName xs p.args
check_same n pragma.Mode xs p = quiet xs _ (λ d. refl)
check_same n pragma.Category xs p = quiet xs _ (λ d. refl)
check_same n pragma.Other xs p = quiet xs _ (λ d. refl)

some_same : (n : Names) (xs : Events) (e : Option tree.Expr) → depth (some_onto n xs e) ≡ depth xs
some_same n xs None = refl
some_same n xs (Some e) = onto_same n within.Text xs e

case_choices_same : (n : Names) (xs : Events) (cs : List tree.Choice) → depth (case_choices_onto n xs cs) ≡ depth xs
case_choices_same n xs [] = refl
case_choices_same n xs (tree.other_values ∷ cs) = case_choices_same n xs cs
case_choices_same n xs (tree.values r ∷ cs) = case_choices_same n (range_onto n within.Text xs r) cs ∙ range_same n within.Text xs r

mutual
  stmt_same : (n : Names) (xs : Events) (s : tree.Stmt) → depth (stmt_onto n xs s) ≡ depth xs
  stmt_same n xs (tree.statement s a) = action_same n xs a

  action_same : (n : Names) (xs : Events) (a : tree.Action) → depth (action_onto n xs a) ≡ depth xs
  action_same n xs tree.skip = refl
  action_same n xs (tree.call m) = name_same n within.Text false xs m
  action_same n xs (tree.assign m e) = onto_same n within.Text _ e ∙ name_same n within.Text false xs m
  action_same n xs (tree.branches bs ss) = stmts_same n _ ss ∙ branches_same n xs bs
  action_same n xs (tree.case_of e as') = alternatives_same n _ as' ∙ onto_same n within.Text xs e
  action_same n xs (tree.loop tree.forever ss) = stmts_same n xs ss
  action_same n xs (tree.loop (tree.while e) ss) = stmts_same n _ ss ∙ onto_same n within.Text xs e
  action_same n xs (tree.loop (tree.for i b r) ss) =
      bracket xs _ scope.Loop loop_opens
      (stmts_same n _ ss ∙ quiet _ event.DeclarationEnds (λ d. refl) ∙ range_same n within.Text _ r ∙ quiet _ (event.Declares kind.LoopParameter (ident n i)) (λ d. refl))
  action_same n xs (tree.exit e) = some_same n xs e
  action_same n xs (tree.return e) = some_same n xs e
  action_same n xs (tree.pragma_stmt p) = check_same n _ xs p

  pub stmts_same : (n : Names) (xs : Events) (ss : tree.Stmts) → depth (stmts_onto n xs ss) ≡ depth xs
  stmts_same n xs tree.no_stmts = refl
  stmts_same n xs (tree.stmts s ss) = stmts_same n _ ss ∙ stmt_same n xs s

  branches_same : (n : Names) (xs : Events) (bs : tree.Branches) → depth (branches_onto n xs bs) ≡ depth xs
  branches_same n xs tree.no_branches = refl
  branches_same n xs (tree.branch c ss bs) = branches_same n _ bs ∙ stmts_same n _ ss ∙ onto_same n within.Text xs c

  alternatives_same : (n : Names) (xs : Events) (as' : tree.Alternatives) → depth (alternatives_onto n xs as') ≡ depth xs
  alternatives_same n xs tree.no_alternatives = refl
  alternatives_same n xs (tree.alternative cs ss as') = alternatives_same n _ as' ∙ stmts_same n _ ss ∙ case_choices_same n xs cs

-- ---- declarations

bounds_same : (n : Names) (xs : Events) (b : tree.Bounds) → depth (bounds_onto n xs b) ≡ depth xs
bounds_same n xs b = onto_same n within.Text _ b.high ∙ onto_same n within.Text xs b.low

some_bounds_same : (n : Names) (xs : Events) (b : Option tree.Bounds) → depth (some_bounds_onto n xs b) ≡ depth xs
some_bounds_same n xs None = refl
some_bounds_same n xs (Some b) = bounds_same n xs b

sub_ind_same : (n : Names) (xs : Events) (s : tree.SubInd) → depth (sub_ind_onto n xs s) ≡ depth xs
sub_ind_same n xs s = some_bounds_same n _ s.bounds ∙ name_same n within.Text true xs s.name

some_sub_ind_same : (n : Names) (xs : Events) (s : Option tree.SubInd) → depth (some_sub_ind_onto n xs s) ≡ depth xs
some_sub_ind_same n xs None = refl
some_sub_ind_same n xs (Some s) = sub_ind_same n xs s

index_form_same : (n : Names) (xs : Events) (f : tree.IndexForm) → depth (index_form_onto n xs f) ≡ depth xs
index_form_same n xs tree.alone = refl
index_form_same n xs (tree.up_to h) = onto_same n within.Text xs h
index_form_same n xs tree.unconstrained = refl
index_form_same n xs (tree.constrained b) = bounds_same n xs b

components_same : (n : Names) (xs : Events) (cs : List tree.Component) → depth (components_onto n xs cs) ≡ depth xs
components_same n xs [] = refl
components_same n xs (c ∷ cs) = components_same n (sub_ind_onto n (listed_onto n (listed.Declared kind.Component) xs c.names) c.subtype) cs ∙ sub_ind_same n _ c.subtype ∙ listed_same n (listed.Declared kind.Component) xs c.names

type_form_same : (n : Names) (xs : Events) (t : tree.TypeForm) → depth (type_form_onto n xs t) ≡ depth xs
type_form_same n xs (tree.signed b) = bounds_same n xs b
type_form_same n xs (tree.modular e) = onto_same n within.Text xs e
type_form_same n xs (tree.enumeration is) = listed_same n (listed.Declared kind.Literal) xs is
type_form_same n xs (tree.array_of i s) = sub_ind_same n _ s ∙ index_form_same n _ i.form ∙ onto_same n within.Text xs i.first
type_form_same n xs (tree.record_of cs) = bracket xs _ scope.Record record_opens (components_same n _ cs)
type_form_same n xs (tree.derived s) = sub_ind_same n xs s

hidden_same : (n : Names) (a : ℕ) (xs : Events) (k : Kind) (i : Span) → depth (hidden_onto n a xs k i) ≡ depth xs
hidden_same n a xs k i = quiet _ event.DeclarationEnds (λ d. refl) ∙ quiet _ (event.Declares k (ident n i)) (λ d. refl) ∙ quiet xs (event.LeftOut a) (λ d. refl)

told_type_same : (n : Names) (xs : Events) (k : Kind) (i : Span) (t : tree.TypeForm) → depth (told (type_form_onto n (told xs (event.Declares k (ident n i))) t) event.DeclarationEnds) ≡ depth xs
told_type_same n xs k i t = quiet _ event.DeclarationEnds (λ d. refl) ∙ type_form_same n _ t ∙ quiet xs (event.Declares k (ident n i)) (λ d. refl)

type_same : (n : Names) (r : Region) (a : ℕ) (xs : Events) (i : Span) (t : tree.TypeForm) → depth (type_onto n r a xs i t) ≡ depth xs
type_same n (region.Visible m) a xs i t = told_type_same n xs _ i t
type_same n region.Private a xs i t = hidden_same n a xs _ i
type_same n region.Body a xs i t = told_type_same n xs _ i t
type_same n region.Subprogram a xs i t = told_type_same n xs _ i t

told_subtype_same : (n : Names) (xs : Events) (k : Kind) (i : Span) (s : tree.SubInd) → depth (told (sub_ind_onto n (told xs (event.Declares k (ident n i))) s) event.DeclarationEnds) ≡ depth xs
told_subtype_same n xs k i s = quiet _ event.DeclarationEnds (λ d. refl) ∙ sub_ind_same n _ s ∙ quiet xs (event.Declares k (ident n i)) (λ d. refl)

subtype_same : (n : Names) (r : Region) (a : ℕ) (xs : Events) (i : Span) (s : tree.SubInd) → depth (subtype_onto n r a xs i s) ≡ depth xs
subtype_same n (region.Visible m) a xs i s = told_subtype_same n xs _ i s
subtype_same n region.Private a xs i s = hidden_same n a xs _ i
subtype_same n region.Body a xs i s = told_subtype_same n xs _ i s
subtype_same n region.Subprogram a xs i s = told_subtype_same n xs _ i s

object_same : (n : Names) (xs : Events) (is : List Span) (o : tree.Object) → depth (object_onto n xs is o) ≡ depth xs
object_same n xs is o = quiet _ event.DeclarationEnds (λ d. refl) ∙ some_same n _ o.value ∙ some_sub_ind_same n _ o.subtype ∙ listed_same n (listed.Declared (object_kind o.subtype)) xs is

selectors_same : (n : Names) (xs : Events) (ss : tree.Suffixes) → depth (selectors_onto n xs ss) ≡ depth xs
selectors_same n xs tree.no_suffixes = refl
selectors_same n xs (tree.suffixes (tree.selected i) ss) = selectors_same n _ ss ∙ quiet xs _ (λ d. refl)
selectors_same n xs (tree.suffixes (tree.ticked p a) ss) = refl
selectors_same n xs (tree.suffixes (tree.applied as') ss) = refl

mark_same : (n : Names) (c : Bool) (xs : Events) (m : tree.Name) → depth (mark_onto n c xs m) ≡ depth xs
mark_same n c xs (tree.named s f ss) = selectors_same n _ ss ∙ quiet _ (event.Name (ident n f) manner.Plain) (λ d. refl) ∙ left_out_same (c || not (are_selectors ss)) s.from xs

params_same : (n : Names) (xs : Events) (ps : List tree.Param) → depth (params_onto n xs ps) ≡ depth xs
params_same n xs [] = refl
params_same n xs (p ∷ ps) = params_same n _ ps ∙ quiet _ (event.ParametersEnd (mode_of p.mode)) (λ d. refl) ∙ mark_same n (is_some_bounds p.subtype.bounds) _ p.subtype.name ∙ listed_same n (listed.Declared kind.Parameter) xs p.names

result_same : (n : Names) (xs : Events) (m : Option tree.Name) → depth (result_onto n xs m) ≡ depth xs
result_same n xs None = refl
result_same n xs (Some m) = quiet _ event.ResultEnds (λ d. refl) ∙ mark_same n false xs m

some_item_same : (n : Names) (w : Within) (xs : Events) (i : Option tree.Item) → depth (some_item_onto n w xs i) ≡ depth xs
some_item_same n w xs None = refl
some_item_same n w xs (Some i) = item_same n w xs i

aspect_same : (n : Names) (t : Option Word) (w : Option Within) (xs : Events) (a : tree.Aspect) → depth (aspect_within_onto n t w xs a) ≡ depth xs
aspect_same n t None xs a = left_out_same _ a.span.from xs
aspect_same n t (Some w) xs a = some_item_same n w xs a.value

aspects_same : (n : Names) (xs : Events) (as' : List tree.Aspect) → depth (aspects_onto n xs as') ≡ depth xs
aspects_same n xs [] = refl
aspects_same n xs (a ∷ as') = aspects_same n (aspect_as_onto n (word_of (n a.name.from)) xs a) as' ∙ aspect_same n (word_of (n a.name.from)) (within_aspect (word_of (n a.name.from))) xs a

end_name_same : (n : Names) (xs : Events) (s : Option Span) → depth (end_name_onto n xs s) ≡ depth xs
end_name_same n xs None = refl
end_name_same n xs (Some s) = quiet xs _ (λ d. refl)

region_pragma_same : (n : Names) (b : Bool) (k : PragmaKind) (xs : Events) (p : tree.Pragma) → depth (if b then check_onto n k xs p else told xs (event.LeftOut p.span.from)) ≡ depth xs
region_pragma_same n true k xs p = check_same n k xs p
region_pragma_same n false k xs p = quiet xs _ (λ d. refl)

pragma_same_by : (n : Names) (c b : Bool) (k : PragmaKind) (xs : Events) (p : tree.Pragma) → depth (if c then xs else (if b then check_onto n k xs p else told xs (event.LeftOut p.span.from))) ≡ depth xs
pragma_same_by n true b k xs p = refl
pragma_same_by n false b k xs p = region_pragma_same n b k xs p

pragma_same : (n : Names) (r : Region) (b : Bool) (xs : Events) (p : tree.Pragma) → depth (pragma_in_onto n r b xs p) ≡ depth xs
pragma_same n r b xs p =
    let k = pragma_kind (word_of (n p.name.from)) in
    pragma_same_by n (b && is_heading n r k (given_args p.args)) (is_subprogram r) k xs p

use_same : (n : Names) (r : Region) (a : ℕ) (xs : Events) (is : List Span) → depth (use_onto n r a xs is) ≡ depth xs
use_same n (region.Visible m) a xs is = listed_same n listed.Use xs is
use_same n region.Private a xs is = quiet xs _ (λ d. refl)
use_same n region.Body a xs is = listed_same n listed.Use xs is
use_same n region.Subprogram a xs is = listed_same n listed.Use xs is

plain_form_same : (n : Names) (r : Region) (b : Bool) (xs : Events) (s : Span) (f : tree.DeclForm) → depth (plain_form_onto n r b xs s f) ≡ depth xs
plain_form_same n r b xs s (tree.type_decl i t) = type_same n r s.from xs i t.form
plain_form_same n r b xs s (tree.subtype_decl i t) = subtype_same n r s.from xs i t
plain_form_same n r b xs s (tree.object_decl is o) = object_same n xs is o
plain_form_same n r b xs s (tree.sub_decl q) = quiet xs _ (λ d. refl)
plain_form_same n r b xs s (tree.pragma_decl p) = pragma_same n r b xs p
plain_form_same n r b xs s (tree.use_decl is) = use_same n r s.from xs is

plain_decls_same : (n : Names) (b : Bool) (xs : Events) (ds : tree.Decls) → depth (plain_decls_onto n b xs ds) ≡ depth xs
plain_decls_same n b xs tree.no_decls = refl
plain_decls_same n b xs (tree.decls (tree.declaration s f) ds) = plain_decls_same n (b && is_pragma_form f) _ ds ∙ plain_form_same n region.Subprogram b xs s f

-- ---- subprograms and packages

heading_same : (n : Names) (b : Bool) (xs : Events) (h : tree.Heading) → depth (heading_onto n b xs h) ≡ depth (told xs (event.Opens (scope.Subprogram (ident n h.name) b)))
heading_same n b xs h = aspects_same n _ h.aspects ∙ quiet _ event.ProfileEnds (λ d. refl) ∙ result_same n _ h.result ∙ params_same n _ h.params

body_same : (n : Names) (xs : Events) (b : tree.Body) → depth (body_onto n xs b) ≡ depth xs
body_same n xs tree.no_body = refl
body_same n xs (tree.body ds ss e) = end_name_same n _ e ∙ stmts_same n _ ss ∙ plain_decls_same n true xs ds

sub_same : (n : Names) (xs : Events) (q : tree.Sub) → depth (sub_onto n xs q) ≡ depth xs
sub_same n xs (tree.sub h b) = bracket xs _ (scope.Subprogram (ident n h.name) (is_some_body b)) (subprogram_opens (ident n h.name) (is_some_body b)) (body_same n _ b ∙ heading_same n (is_some_body b) xs h)

declared_sub_same : (n : Names) (a : ℕ) (xs : Events) (q : tree.Sub) → depth (declared_sub_onto n a xs q) ≡ depth xs
declared_sub_same n a xs (tree.sub h b) = bracket (left_out (is_some_body b) a xs) _ (scope.Subprogram (ident n h.name) false) (subprogram_opens (ident n h.name) false) (heading_same n false _ h) ∙ left_out_same (is_some_body b) a xs

sub_in_same : (n : Names) (r : Region) (a : ℕ) (xs : Events) (q : tree.Sub) → depth (sub_in_onto n r a xs q) ≡ depth xs
sub_in_same n (region.Visible m) a xs q = declared_sub_same n a xs q
sub_in_same n region.Private a xs q = declared_sub_same n a xs q
sub_in_same n region.Body a xs q = sub_same n xs q
sub_in_same n region.Subprogram a xs q = quiet xs _ (λ d. refl)

form_in_same : (n : Names) (r : Region) (b : Bool) (xs : Events) (s : Span) (f : tree.DeclForm) → depth (form_in_onto n r b xs s f) ≡ depth xs
form_in_same n r b xs s (tree.type_decl i t) = plain_form_same n r b xs s (tree.type_decl i t)
form_in_same n r b xs s (tree.subtype_decl i t) = plain_form_same n r b xs s (tree.subtype_decl i t)
form_in_same n r b xs s (tree.object_decl is o) = plain_form_same n r b xs s (tree.object_decl is o)
form_in_same n r b xs s (tree.sub_decl q) = sub_in_same n r s.from xs q
form_in_same n r b xs s (tree.pragma_decl p) = plain_form_same n r b xs s (tree.pragma_decl p)
form_in_same n r b xs s (tree.use_decl is) = plain_form_same n r b xs s (tree.use_decl is)

decls_same : (n : Names) (r : Region) (b : Bool) (xs : Events) (ds : tree.Decls) → depth (decls_onto n r b xs ds) ≡ depth xs
decls_same n r b xs tree.no_decls = refl
decls_same n r b xs (tree.decls (tree.declaration s f) ds) = decls_same n r (b && is_pragma_form f) _ ds ∙ form_in_same n r b xs s f

private_same : (n : Names) (xs : Events) (ds : Option tree.Decls) → depth (private_onto n xs ds) ≡ depth xs
private_same n xs None = refl
private_same n xs (Some ds) = quiet _ event.ListEnds (λ d. refl) ∙ decls_same n region.Private true xs ds

-- ---- files

context_item_same : (n : Names) (b : Bool) (xs : Events) (i : tree.ContextItem) → depth (context_item_onto n b xs i) ≡ depth xs
context_item_same n b xs (tree.pragma_item p) = pragma_same n region.Body b xs p
context_item_same n b xs (tree.with_item is) = listed_same n listed.With xs is
context_item_same n b xs (tree.use_item is) = listed_same n listed.ContextUse xs is

context_same : (n : Names) (b : Bool) (xs : Events) (is : List tree.ContextItem) → depth (context_onto n b xs is) ≡ depth xs
context_same n b xs [] = refl
context_same n b xs (i ∷ is) = context_same n (b && is_pragma_item i) _ is ∙ context_item_same n b xs i

at_library_level : (xs : Events) (s : Scope) → opened_in zero s ≡ Some zero → depth xs ≡ Some zero → depth (told xs (event.Opens s)) ≡ Some zero
at_library_level xs s h e = depth_told xs (event.Opens s) ∙ ap (λ (o : Option ℕ). depth_after o (event.Opens s)) e ∙ h

unit_closed : (n : Names) (xs : Events) (u : tree.UnitForm) → depth xs ≡ Some zero → depth (unit_onto n xs u) ≡ Some zero
unit_closed n xs (tree.package_unit p) e =
    end_name_same n _ p.end_name ∙ private_same n _ p.hidden ∙ quiet _ event.ListEnds (λ d. refl) ∙ decls_same n (region.Visible (n p.name.from)) true _ p.declarations ∙ aspects_same n _ p.aspects
    ∙ at_library_level xs (scope.Package (ident n p.name)) refl e
unit_closed n xs (tree.package_body_unit p) e =
    end_name_same n _ p.end_name ∙ quiet _ event.ListEnds (λ d. refl) ∙ decls_same n region.Body true _ p.declarations ∙ aspects_same n _ p.aspects
    ∙ at_library_level xs (scope.PackageBody (ident n p.name)) refl e
unit_closed n xs (tree.sub_unit q) e = sub_same n xs q ∙ e

nothing_open : depth [] ≡ Some zero
unfolding depth
nothing_open = refl

pub all_closed : (n : Names) (u : tree.SourceUnit) → depth (events n u) ≡ Some zero
all_closed n u = unit_closed n _ u.unit.form (context_same n true [] u.context ∙ nothing_open)
