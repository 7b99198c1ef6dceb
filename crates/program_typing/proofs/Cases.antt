-- The worked programs.
use Rattle.std.proofs.Common.{◌≡◌, ap, ap₂, subst, sym, ◌∙◌, refl, true≢false, ℕ, zero, suc, ◌<◌, ℤ, pos, negsuc, Bool, true, false, List, [], ◌∷◌, Option, Some, None, slice_get, is_some, codes, ◌≤◌, arith}
use Rattle.std.specs.Int.RustNames.{int_le}
use Rattle.ada_values.specs.Scalars.{in_base, integer_last}
use Rattle.ada_values.specs.Shapes.{in_shape}
use Rattle.ada_values.specs.Value.{Val, value, value_step}
use Rattle.ada_values.specs.declared.scalars.Op.TheVariants as op
use Rattle.ada_values.specs.declared.scalars.Scalar.{Scalar}
use Rattle.ada_values.specs.declared.shapes.Shape.TheVariants as shape
use Rattle.ada_values.specs.declared.values.Value.{fold-roll-Value, roll-Value}
use Rattle.ada_values.specs.declared.values.Value.TheOpen.{Value-F}
use Rattle.ada_values.specs.declared.values.Value.TheVariants as values
use Rattle.typed_units.specs.Syntax as text
use Rattle.typed_units.specs.View.{expr_step, stmt, stmt_step}
use Rattle.typed_units.specs.View as view
use Rattle.typed_units.specs.declared.expressions.Expr.{Expr, out-Expr, fold-roll-Expr}
use Rattle.typed_units.specs.declared.expressions.ExprNode.{ExprNode}
use Rattle.typed_units.specs.declared.expressions.ExprNode.TheVariants as node
use Rattle.typed_units.specs.declared.expressions.Fitted.{Fitted}
use Rattle.typed_units.specs.declared.expressions.Step.{Step}
use Rattle.typed_units.specs.declared.expressions.Target.{Target}
use Rattle.typed_units.specs.declared.operators.Bounds.{Bounds}
use Rattle.typed_units.specs.declared.operators.Object.{Object}
use Rattle.typed_units.specs.declared.operators.Object.TheVariants as object
use Rattle.typed_units.specs.declared.programs.Class.TheVariants as class
use Rattle.typed_units.specs.declared.programs.Mode.TheVariants as mode
use Rattle.typed_units.specs.declared.programs.Param.{Param}
use Rattle.typed_units.specs.declared.statements.Action.{Action}
use Rattle.typed_units.specs.declared.statements.Action.TheVariants as action
use Rattle.typed_units.specs.declared.statements.Stmt.{Stmt, out-Stmt, out-roll-Stmt, fold-roll-Stmt}
use Rattle.typed_units.specs.declared.statements.Stmt.TheOpen.{Stmt-F}
use Rattle.program_typing.specs.Cases.{assign, increment, no_such_object, of_natural, place, procedure, program, truth_assigned, unchecked, x_plus_one, x_read}
use Rattle.program_typing.specs.Cases as cases
use Rattle.program_typing.specs.Checks.{known_in, range_check, unless_known}
use Rattle.program_typing.specs.Expressions as rule
use Rattle.program_typing.specs.Expressions.{FitsFor, Frame, HasObject, HasSubtype, HasTarget, Steps, Takes, elsewhere}
use Rattle.program_typing.specs.Numbers.{routine_counted}
use Rattle.program_typing.specs.Standard.{long_last, standard_shapes}
use Rattle.program_typing.specs.Statements as does
use Rattle.program_typing.specs.Statements.{Acts, AllDo, Does, Loop}
use Rattle.program_typing.specs.Subtypes as subtypes
use Rattle.program_typing.specs.Subtypes.{IsLast, OfOneType, SoundSubtype, bounds_of, type_of}
use Rattle.program_typing.specs.WellTyped as typed
use Rattle.program_typing.specs.WellTyped.{Each, IsSubtype, WellTyped, WellTypedSub, frame}
use Rattle.program_typing.proofs.Nodes.{head_is, node_made, subtype_is, subtype_made}

-- ---- options

some_is : {A : Type 0} (a b : A) → Some a ≡ Some b → a ≡ b
some_is {A} a b e = ap (λ (o : Option A). elim o as (λ p. A) [ None ↦ a | Some c ↦ c ]) e

none_is : {A : Type 0} (o : Option A) (a : A) → is_some o ≡ false → o ≡ Some a → ⊥
none_is {A} o a n e = true≢false (sym (ap (λ (p : Option A). is_some p) e) ∙ n)

-- ---- the subtypes of Standard

abbrev pub scalar_from : ℕ → ℤ → Scalar
scalar_from last lo = record { lo = lo; hi = pos last; base_lo = negsuc last; base_hi = pos last; modulus = None }

-- an integer subtype of a type that ends at `last`, of 32 or 64 bits
integer_subtype : (body : List Stmt) (k t last : ℕ) (lo : ℤ) → IsLast last → t ≤ k
    → subtypes.class_of (program body) k ≡ Some class.Signed → subtypes.shape_of (program body) k ≡ Some (shape.Number (scalar_from last lo)) → type_of (program body) k ≡ Some t
    → subtypes.class_of (program body) t ≡ Some class.Signed → subtypes.shape_of (program body) t ≡ Some (shape.Number (scalar_from last (negsuc last))) → type_of (program body) t ≡ Some t
    → in_base (scalar_from last lo) lo ≡ true → in_base (scalar_from last lo) (pos last) ≡ true → int_le lo (pos last) ≡ true → SoundSubtype (program body) k
integer_subtype body k t last lo bits before c s u c' s' u' low high order = record {
  class = class.Signed;
  of_class = c;
  shape = shape.Number (scalar_from last lo);
  of_shape = s;
  sound = subtypes.number class.Signed (scalar_from last lo) (subtypes.signed last bits refl refl refl) low high order;
  type = t;
  of_type = u;
  before = before;
  is_type = u';
  type_class = c';
  type_shape = shape.Number (scalar_from last (negsuc last));
  of_type_shape = s';
  widens = subtypes.whole_range (scalar_from last lo);
}

truth_sound : (body : List Stmt) → SoundSubtype (program body) 0
truth_sound body = record {
  class = class.Boolean;
  of_class = refl;
  shape = shape.Truth;
  of_shape = refl;
  sound = subtypes.truth refl;
  type = 0;
  of_type = refl;
  before = omega arith;
  is_type = refl;
  type_class = refl;
  type_shape = shape.Truth;
  of_type_shape = refl;
  widens = subtypes.same_truth;
}

pub standard_sound : (body : List Stmt) (k : ℕ) → k < 7 → SoundSubtype (program body) k
standard_sound body zero h = truth_sound body
standard_sound body (suc zero) h = integer_subtype body 1 1 integer_last (negsuc integer_last) subtypes.bits_32 (omega arith) refl refl refl refl refl refl refl refl refl
standard_sound body (suc (suc zero)) h = integer_subtype body 2 1 integer_last (negsuc integer_last) subtypes.bits_32 (omega arith) refl refl refl refl refl refl refl refl refl
standard_sound body (suc (suc (suc zero))) h = integer_subtype body 3 1 integer_last (pos 0) subtypes.bits_32 (omega arith) refl refl refl refl refl refl refl refl refl
standard_sound body (suc (suc (suc (suc zero)))) h = integer_subtype body 4 1 integer_last (pos 1) subtypes.bits_32 (omega arith) refl refl refl refl refl refl refl refl refl
standard_sound body (suc (suc (suc (suc (suc zero))))) h = integer_subtype body 5 5 long_last (negsuc long_last) subtypes.bits_64 (omega arith) refl refl refl refl refl refl refl refl refl
standard_sound body (suc (suc (suc (suc (suc (suc zero)))))) h = integer_subtype body 6 5 long_last (negsuc long_last) subtypes.bits_64 (omega arith) refl refl refl refl refl refl refl refl refl
standard_sound body (suc (suc (suc (suc (suc (suc (suc k))))))) h = absurd (omega (arith, h))

-- ---- the statement

abbrev frame_of : List Stmt → Frame
frame_of body = frame (program body) (procedure body) [] elsewhere

abbrev x_param : Param
x_param = record { name = codes "X"; mode = mode.InOut; subtype = 3 }

abbrev one_read : Expr
one_read = cases.expr 3 13 1 (node.Static (roll-Value (Value-F.Int (pos 1))))

x_has : (body : List Stmt) → HasSubtype (frame_of body) x_read 3
x_has body = rule.has (frame_of body) (place 3 9) 3 (node.Read (place 3 9) (object.Param 0)) (rule.read (frame_of body) (place 3 9) (object.Param 0) 3 (rule.param 0 x_param refl))

one_in : in_shape standard_shapes 1 (value (roll-Value (Value-F.Int (pos 1)))) ≡ true
one_in = ap (λ (v : Val). in_shape standard_shapes 1 v) (fold-roll-Value Val value_step (Value-F.Int (pos 1)))

one_has : (body : List Stmt) → HasSubtype (frame_of body) one_read 1
one_has body = rule.has (frame_of body) (place 3 13) 1 (node.Static (roll-Value (Value-F.Int (pos 1)))) (rule.static (frame_of body) 1 (roll-Value (Value-F.Int (pos 1))) one_in)

sum_has : (body : List Stmt) → HasSubtype (frame_of body) x_plus_one 1
sum_has body =
    rule.has (frame_of body) (place 3 9) 1 (node.Binary (place 3 11) op.Add x_read one_read)
    (rule.arithmetic (frame_of body) (place 3 11) op.Add x_read one_read 3 1 1 rule.add (x_has body) (one_has body) refl refl refl)

check_is : (body : List Stmt) → range_check (program body) 3 x_plus_one ≡ of_natural
check_is body =
    ap₂ (λ (k : ℕ) (n : ExprNode Expr). unless_known (bounds_of (program body) 3) (known_in (program body) k n))
    (subtype_made (record { place = place 3 9; subtype = 1; node = node.Binary (place 3 11) op.Add x_read one_read }))
    (node_made (record { place = place 3 9; subtype = 1; node = node.Binary (place 3 11) op.Add x_read one_read }))

sum_fits : (body : List Stmt) → FitsFor (frame_of body) true 3 (record { bounds = of_natural; value = x_plus_one })
sum_fits body =
    subst (λ (b : Option Bounds). FitsFor (frame_of body) true 3 (record { bounds = b; value = x_plus_one })) (check_is body)
    (rule.fits (frame_of body) true 3 1 x_plus_one (sum_has body) (record { type = 1; first = refl; second = refl }) (rule.one_subtype true refl refl))

x_target : (body : List Stmt) → HasTarget (frame_of body) (record { place = place 3 4; object = object.Param 0; path = [] }) 3
x_target body = rule.target (frame_of body) (place 3 4) (object.Param 0) 3 3 [] (rule.param 0 x_param refl) (rule.in_out_param 0 x_param refl refl) (rule.here (frame_of body) 3)

x_does : (body : List Stmt) → Does (frame_of body) None (assign (object.Param 0) of_natural x_plus_one)
x_does body =
    does.does (frame_of body) None (place 3 4) (action.Assign (record { place = place 3 4; object = object.Param 0; path = [] }) (record { bounds = of_natural; value = x_plus_one }))
    (does.assigns (frame_of body) None (record { place = place 3 4; object = object.Param 0; path = [] }) 3 (record { bounds = of_natural; value = x_plus_one }) (x_target body) (sum_fits body))

-- ---- no quantified expressions and loops

abbrev routine_of : text.St → text.Routine
routine_of s = record { formals = record { mode = mode.InOut; subtype = 3 } ∷ []; result = None; pre = None; post = None; locals = []; opening = text.done; body = text.then s text.done }

abbrev plus_of : text.Ex → text.Ex → text.Ex
plus_of a b = text.at (place 3 9) 1 (text.op2 (text.binary op.Add (scalar_from integer_last (negsuc integer_last)) (place 3 11)) a b)

abbrev assign_of : text.Ex → text.St
assign_of e = text.st (place 3 4) (text.assign (text.target (place 3 4) (text.param 0) text.here) of_natural e)

sum_seen : view.expr standard_shapes x_plus_one ≡ plus_of (text.at (place 3 9) 3 (text.read (place 3 9) text.present (text.param 0))) (text.at (place 3 13) 1 (text.static (value (roll-Value (Value-F.Int (pos 1))))))
sum_seen =
    fold-roll-Expr text.Ex (expr_step standard_shapes) (record { place = place 3 9; subtype = 1; node = node.Binary (place 3 11) op.Add x_read one_read })
    ∙ ap₂ plus_of (fold-roll-Expr text.Ex (expr_step standard_shapes) (record { place = place 3 9; subtype = 3; node = node.Read (place 3 9) (object.Param 0) }))
    (fold-roll-Expr text.Ex (expr_step standard_shapes) (record { place = place 3 13; subtype = 1; node = node.Static (roll-Value (Value-F.Int (pos 1))) }))

x_counted : routine_counted 0 0 0 (view.routine standard_shapes (procedure (assign (object.Param 0) of_natural x_plus_one ∷ []))) ≡ true
x_counted =
    ap (λ (s : text.St). routine_counted 0 0 0 (routine_of s))
    (fold-roll-Stmt text.St (stmt_step standard_shapes) (record {
      place = place 3 4;
      action = action.Assign (record { place = place 3 4; object = object.Param 0; path = [] }) (record { bounds = of_natural; value = x_plus_one });
    }) ∙ ap assign_of sum_seen)

-- ---- the program that is well typed

abbrev pub increment_body : List Stmt
increment_body = assign (object.Param 0) of_natural x_plus_one ∷ []

pub increment_typed : WellTyped increment
increment_typed = record {
  standard = record { shapes = refl; kinds = refl };
  as_many = refl;
  subtypes = standard_sound increment_body;
  globals = typed.none;
  subs = typed.one_more (procedure increment_body) [] (record {
    params = typed.one_more x_param [] (record { there = omega arith; passed = typed.by_in_out }) typed.none;
    result = typed.no_result;
    pre = typed.no_contract;
    post = typed.no_contract;
    global = typed.not_stated;
    locals = typed.none;
    opening = does.opened;
    body = does.one_more (frame_of increment_body) None (assign (object.Param 0) of_natural x_plus_one) [] (x_does increment_body) (does.no_more (frame_of increment_body) None);
    counted = x_counted;
  }) typed.none;
}

-- ---- those that aren't

abbrev AssignOk : Frame → Action Stmt → Type 0
AssignOk f (action.Assign t v) = (k : ℕ) × HasTarget f t k × FitsFor f true k v
AssignOk f _ = Unit {0}

assign_ok : (f : Frame) (l : Option Loop) (a : Action Stmt) → Acts f l a → AssignOk f a
assign_ok _ _ _ (does.assigns f l t k v g h) = (k, g, h)
assign_ok _ _ _ (does.skips f l) = tt
assign_ok _ _ _ (does.calls f l q s xs a b c) = tt
assign_ok _ _ _ (does.branches f l bs ss a b) = tt
assign_ok _ _ _ (does.selects f l x j as' a b c d) = tt
assign_ok _ _ _ (does.loops f g l n h parameter before after has ds a b c d) = tt
assign_ok _ _ _ (does.exits f l) = tt
assign_ok _ _ _ (does.exits_when f l x a) = tt
assign_ok _ _ _ (does.returns f l a) = tt
assign_ok _ _ _ (does.gives f l k v a b) = tt
assign_ok _ _ _ (does.asserts f l x a) = tt
assign_ok _ _ _ (does.assumes f l x a) = tt

acts_of : (f : Frame) (l : Option Loop) (s : Stmt) → Does f l s → Acts f l (out-Stmt s).action
acts_of _ _ _ (does.does f l p x h) = subst (λ (a : Action Stmt). Acts f l a) (sym (ap (λ (o : Stmt-F Stmt). o.action) (out-roll-Stmt (record { place = p; action = x })))) h

first_does : (f : Frame) (l : Option Loop) (s : Stmt) (ss : List Stmt) → AllDo f l (s ∷ ss) → Does f l s
first_does _ _ _ _ (does.one_more f l s ss h hs) = h

-- what a program of one assignment to a whole object has where it is well typed
assigned : (x : Object) (fit : Option Bounds) (e : Expr) → WellTyped (program (assign x fit e ∷ []))
    → AssignOk (frame_of (assign x fit e ∷ [])) (action.Assign (record { place = place 3 4; object = x; path = [] }) (record { bounds = fit; value = e }))
assigned x fit e w =
    let body = assign x fit e ∷ [] in
    let f = frame_of body in
    let r : Stmt-F Stmt = record { place = place 3 4; action = action.Assign (record { place = place 3 4; object = x; path = [] }) (record { bounds = fit; value = e }) } in
    let sub = head_is (WellTypedSub (program body)) (procedure body) [] w.subs in
    let a = acts_of f None (assign x fit e) (first_does f None (assign x fit e) [] sub.body) in
    assign_ok f None r.action (subst (λ (o : Action Stmt). Acts f None o) (ap (λ (o : Stmt-F Stmt). o.action) (out-roll-Stmt r)) a)

check_of : (f : Frame) (whole : Bool) (k : ℕ) (v : Fitted Expr) → FitsFor f whole k v → v.bounds ≡ range_check f.program k v.value
check_of _ _ _ _ (rule.fits f whole k j x a b c) = refl

types_of : (f : Frame) (whole : Bool) (k : ℕ) (v : Fitted Expr) → FitsFor f whole k v → OfOneType f.program (out-Expr v.value).subtype k
types_of _ _ _ _ (rule.fits f whole k j x a b c) = subst (λ (i : ℕ). OfOneType f.program i k) (sym (subtype_is f x j a)) b

stays : (f : Frame) (j : ℕ) (ss : List (Step Expr)) (k : ℕ) → Steps f j ss k → ss ≡ [] → j ≡ k
stays _ _ _ _ (rule.here f k) e = refl
stays _ _ _ _ (rule.to_component f j n i k ks ss a b c) e = absurd (true≢false (ap (λ (xs : List (Step Expr)). elim xs as (λ ys. Bool) [ [] ↦ false | (y ∷ ys) ↦ true ]) e))
stays _ _ _ _ (rule.to_item f j i k a x ss b c d) e = absurd (true≢false (ap (λ (xs : List (Step Expr)). elim xs as (λ ys. Bool) [ [] ↦ false | (y ∷ ys) ↦ true ]) e))

object_of : (f : Frame) (t : Target Expr) (k : ℕ) → HasTarget f t k → t.path ≡ [] → HasObject f t.object k
object_of _ _ _ (rule.target f p o j k ss a b c) e = subst (λ (i : ℕ). HasObject f o i) (stays f j ss k c e) a

abbrev ParamOk : Frame → Object → ℕ → Type 0
ParamOk f (object.Param n) k = (x : Param) × (slice_get f.params n ≡ Some x) × (x.subtype ≡ k)
ParamOk f _ k = Unit {0}

param_ok : (f : Frame) (o : Object) (k : ℕ) → HasObject f o k → ParamOk f o k
param_ok f _ _ (rule.param n x e) = (x, e, refl)
param_ok f _ _ (rule.local n x e) = tt
param_ok f _ _ (rule.global n x e) = tt
param_ok f _ _ (rule.turn x e) = tt
param_ok f _ _ (rule.index x e) = tt

-- the first parameter is of Natural
of_three : (body : List Stmt) (k : ℕ) → HasTarget (frame_of body) (record { place = place 3 4; object = object.Param 0; path = [] }) k → 3 ≡ k
of_three body k h =
    let z = param_ok (frame_of body) (object.Param 0) k (object_of (frame_of body) (record { place = place 3 4; object = object.Param 0; path = [] }) k h refl) in
    ap (λ (x : Param). x.subtype) (some_is x_param z.0 z.1) ∙ z.2

pub unchecked_untyped : WellTyped unchecked → ⊥
unchecked_untyped w =
    let body = assign (object.Param 0) None x_plus_one ∷ [] in
    let f = frame_of body in
    let z = assigned (object.Param 0) None x_plus_one w in
    let three = of_three body z.0 z.1 in
    let fits = subst (λ (k : ℕ). FitsFor f true k (record { bounds = None; value = x_plus_one })) (sym three) z.2 in
    none_is None (record { first = pos 0; last = pos integer_last }) refl (check_of f true 3 (record { bounds = None; value = x_plus_one }) fits ∙ check_is body)

pub truth_untyped : WellTyped truth_assigned → ⊥
truth_untyped w =
    let e = cases.expr 3 9 0 (node.Static (values.Bool true)) in
    let body = assign (object.Param 0) None e ∷ [] in
    let f = frame_of body in
    let z = assigned (object.Param 0) None e w in
    let three = of_three body z.0 z.1 in
    let fits = subst (λ (k : ℕ). FitsFor f true k (record { bounds = None; value = e })) (sym three) z.2 in
    let one = subst (λ (j : ℕ). OfOneType f.program j 3) (subtype_made (record { place = place 3 9; subtype = 0; node = node.Static (values.Bool true) })) (types_of f true 3 (record { bounds = None; value = e }) fits) in
    let zero_is = some_is 0 one.type one.first in
    let one_is = some_is 1 one.type one.second in
    omega (arith, zero_is, one_is)

pub missing_untyped : WellTyped no_such_object → ⊥
missing_untyped w =
    let body = assign (object.Param 1) of_natural x_plus_one ∷ [] in
    let f = frame_of body in
    let z = assigned (object.Param 1) of_natural x_plus_one w in
    let y = param_ok f (object.Param 1) z.0 (object_of f (record { place = place 3 4; object = object.Param 1; path = [] }) z.0 z.1 refl) in
    none_is None y.0 refl y.1
