-- The events of pragmas and statements (Ada RM 2.8, 5).
use Rattle.std.specs.Prelude.{ℕ, false, List, [], ◌∷◌, Option, Some, None, if◌then◌else◌}
use Rattle.ada_text.specs.declared.token.Span.{Span}
use Rattle.name_library.specs.declared.events.Event.{Event}
use Rattle.name_library.specs.declared.events.Event.TheVariants as event
use Rattle.name_library.specs.declared.events.Kind.TheVariants as kind
use Rattle.name_library.specs.declared.events.Scope.TheVariants as scope
use Rattle.name_numbers.specs.Numbers.{word_of}
use Rattle.name_events.specs.Asked.{is_check, pragma_kind}
use Rattle.name_uses.specs.Told.{ident, told, opened}
use Rattle.name_uses.specs.Uses.{args_onto, name_onto, onto, range_onto}
use Rattle.name_uses.specs.declared.places.Brackets.TheVariants as brackets
use Rattle.name_events.specs.declared.words.PragmaKind.{PragmaKind}
use Rattle.name_uses.specs.declared.places.Within.TheVariants as within
use Rattle.syntax_view.specs.Trees.{Expr, Range, Choice, other_values, values, LoopHead, forever, while, for, Pragma, Stmt, statement, Action, skip, call, assign, branches, case_of, loop, exit, return, pragma_stmt, Stmts, no_stmts, stmts, Branches, no_branches, branch, Alternatives, no_alternatives, alternative}

-- Assert, Assume, Loop_Invariant and Loop_Variant; any other is left out
abbrev pub check_onto : (ℕ → ℕ) → PragmaKind → List Event → Pragma → List Event
check_onto n k xs p = if is_check k then args_onto n within.Text brackets.AfterName xs p.args else told xs (event.LeftOut p.span.from)

abbrev pub pragma_onto : (ℕ → ℕ) → List Event → Pragma → List Event
pragma_onto n xs p = check_onto n (pragma_kind (word_of (n p.name.from))) xs p

abbrev pub some_onto : (ℕ → ℕ) → List Event → Option Expr → List Event
some_onto n xs None = xs
some_onto n xs (Some e) = onto n within.Text xs e

abbrev pub case_choice_onto : (ℕ → ℕ) → List Event → Choice → List Event
case_choice_onto n xs other_values = xs
case_choice_onto n xs (values r) = range_onto n within.Text xs r

abbrev pub case_choices_onto : (ℕ → ℕ) → List Event → List Choice → List Event
case_choices_onto n xs [] = xs
case_choices_onto n xs (c ∷ cs) = case_choices_onto n (case_choice_onto n xs c) cs

-- a loop parameter has a scope (Ada RM 5.5)
abbrev pub for_onto : (ℕ → ℕ) → List Event → Span → Range → List Event
for_onto n xs i r = told (range_onto n within.Text (opened scope.Loop kind.LoopParameter (ident n i) xs) r) event.DeclarationEnds

abbrev mutual
  pub stmt_onto : (ℕ → ℕ) → List Event → Stmt → List Event
  stmt_onto n xs (statement s a) = action_onto n xs a

  pub action_onto : (ℕ → ℕ) → List Event → Action → List Event
  action_onto n xs skip = xs
  action_onto n xs (call m) = name_onto n within.Text false xs m
  action_onto n xs (assign m e) = onto n within.Text (name_onto n within.Text false xs m) e
  action_onto n xs (branches bs ss) = stmts_onto n (branches_onto n xs bs) ss
  action_onto n xs (case_of e as') = alternatives_onto n (onto n within.Text xs e) as'
  action_onto n xs (loop forever ss) = stmts_onto n xs ss
  action_onto n xs (loop (while e) ss) = stmts_onto n (onto n within.Text xs e) ss
  action_onto n xs (loop (for i b r) ss) = told (stmts_onto n (for_onto n xs i r) ss) event.Closes
  action_onto n xs (exit e) = some_onto n xs e
  action_onto n xs (return e) = some_onto n xs e
  action_onto n xs (pragma_stmt p) = pragma_onto n xs p

  pub stmts_onto : (ℕ → ℕ) → List Event → Stmts → List Event
  stmts_onto n xs no_stmts = xs
  stmts_onto n xs (stmts s ss) = stmts_onto n (stmt_onto n xs s) ss

  pub branches_onto : (ℕ → ℕ) → List Event → Branches → List Event
  branches_onto n xs no_branches = xs
  branches_onto n xs (branch c ss bs) = branches_onto n (stmts_onto n (onto n within.Text xs c) ss) bs

  pub alternatives_onto : (ℕ → ℕ) → List Event → Alternatives → List Event
  alternatives_onto n xs no_alternatives = xs
  alternatives_onto n xs (alternative cs ss as') = alternatives_onto n (stmts_onto n (case_choices_onto n xs cs) ss) as'

abbrev pub loop_onto : (ℕ → ℕ) → List Event → LoopHead → Stmts → List Event
loop_onto n xs h ss = action_onto n xs (loop h ss)
