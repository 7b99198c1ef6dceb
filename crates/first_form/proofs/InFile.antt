-- The places of the form of a tree are in its file.
use Rattle.std.proofs.Common.{◌≡◌, ℕ, ◌-◌, ◌^◌, ◌<◌, ◌≤◌, Bool, true, false, Option, Some, None, List, [], ◌∷◌, length, take, reverse, All, refl, ap, subst, arith}
use Rattle.std.specs.Prelude.{◌&&◌, ◌==◌, if◌then◌else◌, is_none, option_map, option_and_then}
use Rattle.std.proofs.lemmas.List.{length-drop, length-take, length-reverse}
use Rattle.std.proofs.lemmas.List.Elements.{All-nil, All-cons}
use Rattle.std.proofs.lemmas.List.Sums.{count_by-le-length, prefix_len-le-length}
use Rattle.ada_values.specs.declared.place.Place.{Place}
use Rattle.ada_text.specs.declared.token.Span.{Span}
use Rattle.ada_text.specs.Bytes.{is_in_line, skipped}
use Rattle.ada_text.specs.Places.{counted_before}
use Rattle.typed_units.specs.declared.operators.Relation.{Relation}
use Rattle.ada_syntax.specs.declared.expressions.ExprNode.{ExprNode}
use Rattle.ada_syntax.specs.declared.expressions.ExprNode.TheVariants as node
use Rattle.ada_syntax.specs.declared.expressions.Expr.{Expr, out-Expr}
use Rattle.ada_syntax.specs.declared.statements.Pragma.{Pragma}
use Rattle.ada_syntax.specs.declared.statements.Action.{Action}
use Rattle.ada_syntax.specs.declared.statements.Action.TheVariants as action
use Rattle.ada_syntax.specs.declared.statements.Stmt.{Stmt, out-Stmt}
use Rattle.ada_syntax.specs.declared.declarations.Body.{Body}
use Rattle.ada_syntax.specs.declared.declarations.Sub.{Sub}
use Rattle.ada_syntax.specs.declared.declarations.Decl.{Decl}
use Rattle.ada_syntax.specs.declared.units.UnitForm.{UnitForm}
use Rattle.ada_syntax.specs.declared.units.UnitForm.TheVariants as unit
use Rattle.ada_syntax.specs.declared.units.SourceUnit.{SourceUnit}
use Rattle.first_form.specs.declared.form.FirstForm.{FirstForm}
use Rattle.first_form.specs.declared.form.Assertion.{Assertion}
use Rattle.first_form.specs.declared.form.Placed.{Placed}
use Rattle.first_form.specs.declared.form.Operand.{Operand}
use Rattle.first_form.specs.Form.{is_form}
use Rattle.first_form.specs.Spelled.{IsInFile, place_at, text_at}
use Rattle.first_form.specs.Tree.{action_in, argument_in, assertion_of, body_in, comparison_in, each, form_of, form_with, is_empty, is_ended, kept, operand_in, param_in, placed_in, pragma_in, relation_of, shape_of, statement_in, unit_in, with_first}

abbrev HasPlaces : Assertion → Type 0
HasPlaces a = IsInFile a.place × IsInFile a.left.place × IsInFile a.right.place

-- ---- what stands behind tests

when_true : {A : Type 0} (b : Bool) (o : Option A) (x : A) → (if b then o else None) ≡ Some x → o ≡ Some x
when_true true o x h = h
when_true false o x h = cc

-- ---- places

counted_length : (text : List ℕ) (at : ℕ) → length (counted_before text at) ≤ length text
counted_length text at = omega (arith, length-drop (skipped text) (take at text), length-take at text)

pub placed_in_file : (text : List ℕ) → length text < 2 ^ 32 - 1 → (s : Span) → IsInFile (place_at text s)
placed_in_file text short s =
    let front = counted_before text s.from in
    let counted = counted_length text s.from in
    record {
      file = refl;
      line = omega (arith, count_by-le-length (λ b. b == 10) front, counted);
      column = omega (arith, prefix_len-le-length is_in_line (reverse front), length-reverse front, counted);
    }

operand_at : (p : Place) (m : Option Operand) (x : Placed) → option_map (λ o. record { place = p; operand = o }) m ≡ Some x → p ≡ x.place
operand_at p None x h = cc
operand_at p (Some o) x h = let d : record { place = p; operand = o } ≡ x = cc in ap (λ (q : Placed). q.place) d

operand_in_file : (text : List ℕ) → length text < 2 ^ 32 - 1 → (e : Expr) (x : Placed) → placed_in text e ≡ Some x → IsInFile x.place
operand_in_file text short e x h =
    subst IsInFile (operand_at (place_at text (out-Expr e).span) (operand_in text (out-Expr e).node) x h) (placed_in_file text short (out-Expr e).span)

-- ---- an assertion

made_of : (p : Place) (l : Option Placed) (r : Option Relation) (m : Option Placed) (a : Assertion) → assertion_of p l r m ≡ Some a
    → (p ≡ a.place) × (l ≡ Some a.left) × (m ≡ Some a.right)
made_of p (Some l) (Some r) (Some m) a h =
    let d : record { place = p; left = l; relation = r; right = m } ≡ a = cc in
    (ap (λ (b : Assertion). b.place) d, ap (λ (b : Assertion). Some b.left) d, ap (λ (b : Assertion). Some b.right) d)
made_of p None r m a h = cc
made_of p (Some l) None m a h = cc
made_of p (Some l) (Some r) None a h = cc

comparison_in_file : (text : List ℕ) → length text < 2 ^ 32 - 1 → (p : Place) → IsInFile p → (n : ExprNode Expr) (a : Assertion) → comparison_in text p n ≡ Some a → HasPlaces a
comparison_in_file text short p i (node.Binary s o l r) a h =
    let m = made_of p (placed_in text l) (relation_of o) (placed_in text r) a h in
    (subst IsInFile m.0 i, operand_in_file text short l a.left m.1, operand_in_file text short r a.right m.2)
comparison_in_file text short p i n a h = cc

argument_in_file : (text : List ℕ) → length text < 2 ^ 32 - 1 → (p : Place) → IsInFile p → (o : Option Expr) (a : Assertion)
    → option_and_then (λ e. comparison_in text p (out-Expr e).node) o ≡ Some a → HasPlaces a
argument_in_file text short p i None a h = cc
argument_in_file text short p i (Some e) a h = comparison_in_file text short p i (out-Expr e).node a h

pragma_in_file : (text : List ℕ) → length text < 2 ^ 32 - 1 → (g : Pragma) (a : Assertion) → pragma_in text g ≡ Some a → HasPlaces a
pragma_in_file text short g a h =
    argument_in_file text short (place_at text g.span) (placed_in_file text short g.span) (argument_in g.args) a
    (when_true _ (option_and_then (λ e. comparison_in text (place_at text g.span) (out-Expr e).node) (argument_in g.args)) a h)

action_in_file : (text : List ℕ) → length text < 2 ^ 32 - 1 → (x : Action Stmt) (a : Assertion) → action_in text x ≡ Some a → HasPlaces a
action_in_file text short (action.Pragma g) a h = pragma_in_file text short g a h
action_in_file text short x a h = cc

-- ---- the list

split_first : {B : Type 0} (o : Option B) (p : Option (List B)) (ys : List B) → with_first o p ≡ Some ys
    → (y : B) × (zs : List B) × (o ≡ Some y) × (p ≡ Some zs) × (y ∷ zs ≡ ys)
split_first (Some y) (Some zs) ys h = let d : y ∷ zs ≡ ys = cc in (y, zs, refl, refl, d)
split_first None p ys h = cc
split_first (Some y) None ys h = cc

each_holds : {A B : Type 0} (P : B → Type 0) (f : A → Option B) → ((x : A) (y : B) → f x ≡ Some y → P y) → (xs : List A) (ys : List B) → each f xs ≡ Some ys → All P ys
each_holds P f one [] ys h = let d : [] ≡ ys = cc in subst (All P) d (All-nil P)
each_holds P f one (x ∷ xs) ys h =
    let s = split_first (f x) (each f xs) ys h in
    subst (All P) s.4 (All-cons P s.0 s.1 (one x s.0 s.2) (each_holds P f one xs s.1 s.3))

-- ---- the procedure

assertions_of : (name : List ℕ) (ps : Option (List (List ℕ))) (as' : Option (List Assertion)) (f : FirstForm) → form_with name ps as' ≡ Some f → as' ≡ Some f.assertions
assertions_of name (Some ps) (Some as') f h =
    let d : record { name = name; params = ps; assertions = as' } ≡ f = cc in ap (λ (g : FirstForm). Some g.assertions) d
assertions_of name None as' f h = cc
assertions_of name (Some ps) None f h = cc

body_in_file : (text : List ℕ) → length text < 2 ^ 32 - 1 → (s : Sub Decl) (b : Option (Body Decl)) (f : FirstForm) → body_in text s b ≡ Some f → All HasPlaces f.assertions
body_in_file text short s None f h = cc
body_in_file text short s (Some b) f h =
    let form = form_with (text_at text s.name) (each (param_in text) s.params) (each (statement_in text) b.statements) in
    let there = when_true (is_empty b.declarations && is_ended text s.name b.end_name) form f h in
    each_holds HasPlaces (statement_in text) (λ x a e. action_in_file text short (out-Stmt x).action a e) b.statements f.assertions
    (assertions_of (text_at text s.name) (each (param_in text) s.params) (each (statement_in text) b.statements) f there)

unit_in_file : (text : List ℕ) → length text < 2 ^ 32 - 1 → (u : UnitForm) (f : FirstForm) → unit_in text u ≡ Some f → All HasPlaces f.assertions
unit_in_file text short (unit.Sub s) f h =
    body_in_file text short s s.body f (when_true (is_none s.result && is_empty s.aspects) (body_in text s s.body) f h)
unit_in_file text short u f h = cc

kept_same : (o : Option FirstForm) (f : FirstForm) → option_and_then kept o ≡ Some f → o ≡ Some f
kept_same None f h = cc
kept_same (Some g) f h = when_true (is_form g) (Some g) f h

pub places_are_in_file : (text : List ℕ) (unit : SourceUnit) (f : FirstForm) → length text < 2 ^ 32 - 1 → form_of text unit ≡ Some f
    → All (λ a. IsInFile a.place × IsInFile a.left.place × IsInFile a.right.place) f.assertions
places_are_in_file text u f short h =
    unit_in_file text short u.unit.form f (when_true (is_empty u.context) (unit_in text u.unit.form) f (kept_same (shape_of text u) f h))
