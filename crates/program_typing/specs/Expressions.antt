-- Which typed expressions are well typed, a line a rule: x has subtype k in a frame. -- Ada RM 4
use Rattle.std.specs.Prelude.{◌≡◌, ℕ, suc, ◌==◌, pos, ◌-ℤ◌, Bool, true, false, ◌||◌, List, [], ◌∷◌, length, slice_get, Option, Some, None, if◌then◌else◌}
use Rattle.ada_values.specs.Shapes.{in_shape}
use Rattle.ada_values.specs.Value.{value}
use Rattle.ada_values.specs.declared.place.Place.{Place}
use Rattle.ada_values.specs.declared.scalars.Op.{Op}
use Rattle.ada_values.specs.declared.scalars.Op.TheVariants as op
use Rattle.ada_values.specs.declared.shapes.ArrayShape.{ArrayShape}
use Rattle.ada_values.specs.declared.values.Value.{Value}
use Rattle.choice_cover.specs.Cover.{AtMostOnce, EachOnce}
use Rattle.typed_units.specs.declared.expressions.Actual.{Actual}
use Rattle.typed_units.specs.declared.expressions.Actual.TheVariants as actual
use Rattle.typed_units.specs.declared.expressions.Argument.{Argument}
use Rattle.typed_units.specs.declared.expressions.Arm.{Arm}
use Rattle.typed_units.specs.declared.expressions.Association.{Association}
use Rattle.typed_units.specs.declared.expressions.Expr.{Expr, roll-Expr}
use Rattle.typed_units.specs.declared.expressions.ExprNode.{ExprNode}
use Rattle.typed_units.specs.declared.expressions.ExprNode.TheVariants as node
use Rattle.typed_units.specs.declared.expressions.Fitted.{Fitted}
use Rattle.typed_units.specs.declared.expressions.Indexed.{Indexed}
use Rattle.typed_units.specs.declared.expressions.Step.{Step}
use Rattle.typed_units.specs.declared.expressions.Step.TheVariants as step
use Rattle.typed_units.specs.declared.expressions.Target.{Target}
use Rattle.typed_units.specs.declared.operators.Bounds.{Bounds}
use Rattle.typed_units.specs.declared.operators.Composite.TheVariants as composite
use Rattle.typed_units.specs.declared.operators.Connective.{Connective}
use Rattle.typed_units.specs.declared.operators.Counted.{Counted}
use Rattle.typed_units.specs.declared.operators.Object.{Object}
use Rattle.typed_units.specs.declared.operators.Object.TheVariants as object
use Rattle.typed_units.specs.declared.operators.Quantifier.{Quantifier}
use Rattle.typed_units.specs.declared.operators.Relation.{Relation}
use Rattle.typed_units.specs.declared.operators.Relation.TheVariants as relation
use Rattle.typed_units.specs.declared.programs.Class.TheVariants as class
use Rattle.typed_units.specs.declared.programs.Global.{Global}
use Rattle.typed_units.specs.declared.programs.Local.{Local}
use Rattle.typed_units.specs.declared.programs.Mode.TheVariants as mode
use Rattle.typed_units.specs.declared.programs.Param.{Param}
use Rattle.typed_units.specs.declared.programs.Program.{Program}
use Rattle.typed_units.specs.declared.programs.Sub.{Sub}
use Rattle.program_typing.specs.Checks.{index_check, range_check, subtype_check}
use Rattle.program_typing.specs.Standard.{boolean, integer_type}
use Rattle.program_typing.specs.Subtypes.{Has, IsArray, IsConstrained, IsRecord, IsType, OfOneType, class_of, fixed_bounds, has_next, is_enumeration, is_integer, is_ordered, pair_bounds, type_of}

-- ---- frames: where an expression stands

-- what attributes may stand there: a postcondition (Ada RM 6.1.1), or a pragma in the body of the loop of this number, with the number
-- of its parameter where it is a `for` loop (SPARK RM 5.5.3.1)
pub data Moment : Type 0 where
  in_post : Moment
  in_loop : ℕ → Option ℕ → Moment
  elsewhere : Moment

-- The objects that may be named: parameters and locals of the subprogram, variables of the program, and the parameters of the loops and
-- the indexes of the quantified expressions around; and the result of a function.
pub record Frame : Type 0 where
  pub program : Program
  pub params : List Param
  pub locals : List Local
  pub result : Option ℕ
  pub turns : List Counted
  pub indexes : List Counted
  pub moment : Moment

pub data Among (x : Counted) : List Counted → Type 0 where
  innermost : (xs : List Counted) → Among x (x ∷ xs)
  further : (y : Counted) (xs : List Counted) → Among x xs → Among x (y ∷ xs)

-- an object of subtype k
pub data HasObject (f : Frame) : Object → ℕ → Type 0 where
  param : (n : ℕ) (x : Param) → slice_get f.params n ≡ Some x → HasObject f (object.Param n) x.subtype
  local : (n : ℕ) (x : Local) → slice_get f.locals n ≡ Some x → HasObject f (object.Local n) x.subtype
  global : (n : ℕ) (x : Global) → slice_get f.program.globals n ≡ Some x → HasObject f (object.Global n) x.subtype
  turn : (x : Counted) → Among x f.turns → HasObject f (object.Turn x.number) x.subtype
  index : (x : Counted) → Among x f.indexes → HasObject f (object.Index x.number) x.subtype

-- a variable: no `in` parameter, constant, loop parameter or index -- L8, Ada RM 3.3
pub data IsVariable (f : Frame) : Object → Type 0 where
  out_param : (n : ℕ) (x : Param) → slice_get f.params n ≡ Some x → x.mode ≡ mode.Out → IsVariable f (object.Param n)
  in_out_param : (n : ℕ) (x : Param) → slice_get f.params n ≡ Some x → x.mode ≡ mode.InOut → IsVariable f (object.Param n)
  variable_local : (n : ℕ) (x : Local) → slice_get f.locals n ≡ Some x → x.constant ≡ false → IsVariable f (object.Local n)
  variable_global : (n : ℕ) (x : Global) → slice_get f.program.globals n ≡ Some x → IsVariable f (object.Global n)

-- what has a value on entry to the subprogram -- L19, Ada RM 6.1.1
pub data HasOld : Object → Type 0 where
  old_param : (n : ℕ) → HasOld (object.Param n)
  old_global : (n : ℕ) → HasOld (object.Global n)

-- what has a value on entry to a loop: no index, and not the loop's own parameter -- L19, SPARK RM 5.5.3.1
pub data HasEntry (own : Option ℕ) : Object → Type 0 where
  entry_param : (n : ℕ) → HasEntry own (object.Param n)
  entry_local : (n : ℕ) → HasEntry own (object.Local n)
  entry_global : (n : ℕ) → HasEntry own (object.Global n)
  entry_turn : (n : ℕ) → (own ≡ Some n → ⊥) → HasEntry own (object.Turn n)

-- ---- demands on subtypes

-- Of two subtypes of one type, where a value of j may be taken for k: arrays are of one constrained subtype, and also of any bounds where k
-- is unconstrained, but for assignments (`whole`). -- L8, L11, L13, L18
pub data Takes (p : Program) (k j : ℕ) : Bool → Type 0 where
  one_subtype : (whole : Bool) → IsConstrained p k → fixed_bounds p k ≡ fixed_bounds p j → Takes p k j whole
  any_subtype : Takes p k j false

-- a conversion goes between integer types or within one type that isn't an array type, a qualification within one type, `'Val` from an
-- integer type to an enumeration -- L18, L19
pub data Converts (p : Program) (j k : ℕ) : Type 0 where
  integers : Has is_integer p j → Has is_integer p k → Converts p j k
  within_type : OfOneType p j k → Takes p k j false → Converts p j k
  positions : Has is_integer p j → Has is_enumeration p k → IsType p k → Converts p j k

-- operators of two integers of one type -- L1
pub data IsArithmetic : Op → Type 0 where
  add : IsArithmetic op.Add
  subtract : IsArithmetic op.Sub
  multiply : IsArithmetic op.Mul
  divide : IsArithmetic op.Quo
  modulo : IsArithmetic op.Mod
  remainder : IsArithmetic op.Rem

-- `-` and `abs` -- L3
pub data IsSign : Op → Type 0 where
  minus : IsSign op.Neg
  absolute : IsSign op.Abs

-- operands of `=` and `/=` have one type, and arrays one constrained subtype; those of the others are ordered -- L5, L6
pub data Compares (p : Program) (j k : ℕ) : Relation → Type 0 where
  equal : IsConstrained p j → fixed_bounds p j ≡ fixed_bounds p k → Compares p j k relation.Equal
  differ : IsConstrained p j → fixed_bounds p j ≡ fixed_bounds p k → Compares p j k relation.Differs
  less : Has is_ordered p j → Compares p j k relation.Less
  at_most : Has is_ordered p j → Compares p j k relation.AtMost
  greater : Has is_ordered p j → Compares p j k relation.Greater
  at_least : Has is_ordered p j → Compares p j k relation.AtLeast

-- the subtype of an if-expression: a type, or that of arrays -- L26
pub data IsCommon (p : Program) (k : ℕ) : Type 0 where
  common_type : IsType p k → IsCommon p k
  common_array : (i : ℕ) → class_of p k ≡ Some (class.Array i) → IsCommon p k

-- the bounds of a range whose values lie in subtype k: they are of this subtype, or it is their type -- L22, L23
pub data Bounded (p : Program) (k j : ℕ) : Type 0 where
  same_subtype : j ≡ k → Bounded p k j
  its_type : type_of p j ≡ Some k → Bounded p k j

-- ---- aggregates -- L16

abbrev pub is_among : ℕ → List ℕ → Bool
is_among n [] = false
is_among n (m ∷ ms) = (n == m) || is_among n ms

-- the numbers from n on of components that aren't given
abbrev pub not_given : List ℕ → List ℕ → ℕ → List ℕ
not_given given [] n = []
not_given given (k ∷ ks) n = if is_among n given then not_given given ks (suc n) else n ∷ not_given given ks (suc n)

abbrev pub check_onto : Option Bounds → List Bounds → List Bounds
check_onto None bs = bs
check_onto (Some b) bs = b ∷ bs

-- an association of a range, and `others`
abbrev pub of_range : Bounds → Option Bounds → Expr → Association Expr
of_range r check x = record { ranges = r ∷ []; others = false; checks = check_onto check []; value = x }

abbrev pub of_others : List Bounds → Expr → Association Expr
of_others checks x = record { ranges = []; others = true; checks = checks; value = x }

abbrev pub lone : ℕ → Bounds
lone n = record { first = pos n; last = pos n }

abbrev pub numbers_of : List ℕ → Bounds
numbers_of ks = record { first = pos 0; last = pos (length ks) -ℤ pos 1 }

-- components with these numbers, of these subtypes, take a value x of subtype j, each with its check -- L8
pub data AllTake (p : Program) (ks : List ℕ) (x : Expr) (j : ℕ) : List ℕ → List Bounds → Type 0 where
  none_takes : AllTake p ks x j [] []
  one_takes : (n k : ℕ) (ns : List ℕ) (bs : List Bounds) → slice_get ks n ≡ Some k → OfOneType p j k → Takes p k j true → AllTake p ks x j ns bs
      → AllTake p ks x j (n ∷ ns) (check_onto (range_check p k x) bs)

-- the ranges have each value of the bounds once, and no other, or `others` gives the rest -- Ada RM 4.3.3
pub data Covers (b : Bounds) (ranges : List Bounds) : Bool → Type 0 where
  each_once : (others : Bool) → EachOnce b.first b.last ranges → Covers b ranges others
  with_others : AtMostOnce b.first b.last ranges → Covers b ranges true

abbrev pub with_index : Counted → Frame → Frame
with_index x f = record f { indexes = x ∷ f.indexes }

-- ---- the rules

mutual
  pub data HasSubtype : Frame → Expr → ℕ → Type 0 where
    has : (f : Frame) (p : Place) (k : ℕ) (x : ExprNode Expr) → Gives f x k → HasSubtype f (roll-Expr (record { place = p; subtype = k; node = x })) k

  -- what a node gives: a value of subtype k
  pub data Gives : Frame → ExprNode Expr → ℕ → Type 0 where
    -- L29: a static value lies in its subtype
    static : (f : Frame) (k : ℕ) (v : Value) → in_shape f.program.shapes k (value v) ≡ true → Gives f (node.Static v) k
    read : (f : Frame) (p : Place) (o : Object) (k : ℕ) → HasObject f o k → Gives f (node.Read p o) k
    -- L19: `'Old` in a postcondition, `'Loop_Entry` in a pragma inside the loop, `'Result` in the own postcondition
    old : (f : Frame) (p : Place) (o : Object) (k : ℕ) → f.moment ≡ in_post → HasObject f o k → HasOld o → Gives f (node.Old p o) k
    loop_entry : (f : Frame) (p : Place) (l : ℕ) (own : Option ℕ) (o : Object) (k : ℕ) → f.moment ≡ in_loop l own → HasObject f o k → HasEntry own o → Gives f (node.LoopEntry p l o) k
    result : (f : Frame) (p : Place) (k : ℕ) → f.moment ≡ in_post → f.result ≡ Some k → Gives f (node.Result p) k
    -- L19: the bounds of an array are of its index type, its length of an integer type
    first : (f : Frame) (x : Expr) (j i k : ℕ) (a : ArrayShape) → HasSubtype f x j → IsArray f.program j i a → type_of f.program i ≡ Some k → Gives f (node.First x) k
    last : (f : Frame) (x : Expr) (j i k : ℕ) (a : ArrayShape) → HasSubtype f x j → IsArray f.program j i a → type_of f.program i ≡ Some k → Gives f (node.Last x) k
    length_of : (f : Frame) (p : Place) (x : Expr) (j i k : ℕ) (a : ArrayShape) → HasSubtype f x j → IsArray f.program j i a → IsType f.program k → Has is_integer f.program k → Gives f (node.Length p x) k
    -- L19: `'Succ` and `'Pred` of enumerations and signed types, `'Pos` of enumerations
    succ : (f : Frame) (p : Place) (x : Expr) (j k : ℕ) → HasSubtype f x j → type_of f.program j ≡ Some k → Has has_next f.program k → Gives f (node.Succ p x) k
    pred : (f : Frame) (p : Place) (x : Expr) (j k : ℕ) → HasSubtype f x j → type_of f.program j ≡ Some k → Has has_next f.program k → Gives f (node.Pred p x) k
    position : (f : Frame) (x : Expr) (j : ℕ) → HasSubtype f x j → Has is_enumeration f.program j → Gives f (node.Same x) integer_type
    -- L3: unary `+`, and a known bound of an array
    plus : (f : Frame) (x : Expr) (j k : ℕ) → HasSubtype f x j → type_of f.program j ≡ Some k → Has is_ordered f.program j → Gives f (node.Same x) k
    sign : (f : Frame) (p : Place) (o : Op) (x : Expr) (j k : ℕ) → IsSign o → HasSubtype f x j → type_of f.program j ≡ Some k → Has is_integer f.program j → Gives f (node.Unary p o x) k
    -- L4
    negation : (f : Frame) (x : Expr) → HasSubtype f x boolean → Gives f (node.Not x) boolean
    connection : (f : Frame) (c : Connective) (x y : Expr) → HasSubtype f x boolean → HasSubtype f y boolean → Gives f (node.Connect c x y) boolean
    -- L1
    arithmetic : (f : Frame) (p : Place) (o : Op) (x y : Expr) (i j k : ℕ) → IsArithmetic o → HasSubtype f x i → HasSubtype f y j → type_of f.program i ≡ Some k → type_of f.program j ≡ Some k
        → Has is_integer f.program k → Gives f (node.Binary p o x y) k
    -- L2
    power : (f : Frame) (p : Place) (x y : Expr) (i j k : ℕ) → HasSubtype f x i → HasSubtype f y j → type_of f.program i ≡ Some k → type_of f.program j ≡ Some integer_type
        → Has is_integer f.program k → Gives f (node.Binary p op.Pow x y) k
    -- L5, L6
    comparison : (f : Frame) (r : Relation) (x y : Expr) (i j : ℕ) → HasSubtype f x i → HasSubtype f y j → OfOneType f.program i j → Compares f.program i j r → Gives f (node.Compare r x y) boolean
    -- L7
    membership : (f : Frame) (is : Bool) (x l h : Expr) (i j k t : ℕ) → HasSubtype f x i → HasSubtype f l j → HasSubtype f h k
        → type_of f.program i ≡ Some t → type_of f.program j ≡ Some t → type_of f.program k ≡ Some t → Has is_ordered f.program t → Gives f (node.Member is x l h) boolean
    -- L18, and `'Val` -- L19; with the range check
    conversion : (f : Frame) (x : Expr) (j k : ℕ) → HasSubtype f x j → Converts f.program j k → Gives f (node.Convert (range_check f.program k x) x) k
    -- L10, L12
    call : (f : Frame) (p : Place) (q k : ℕ) (s : Sub) (xs : List (Argument Expr)) → slice_get f.program.subs q ≡ Some s → s.result ≡ Some k → Arguments f s.params [] xs → Gives f (node.Call p q xs) k
    -- L14
    item : (f : Frame) (x : Expr) (y : Indexed Expr) (j i : ℕ) (a : ArrayShape) → HasSubtype f x j → IsArray f.program j i a → Indexes f i (pair_bounds a.bounds) y → Gives f (node.Item x y) a.item
    -- L15
    component : (f : Frame) (x : Expr) (n j k : ℕ) (ks : List ℕ) → HasSubtype f x j → IsRecord f.program j ks → slice_get ks n ≡ Some k → Gives f (node.Component x n) k
    -- L16, L17: each component once; each index of a constrained array once
    record_aggregate : (f : Frame) (k : ℕ) (ks : List ℕ) (xs : List (Association Expr)) → IsRecord f.program k ks → RecordParts f ks [] xs → Gives f (node.Aggregate composite.Record (numbers_of ks) xs) k
    array_aggregate : (f : Frame) (k i : ℕ) (a : ArrayShape) (b : Bounds) (xs : List (Association Expr)) (ranges : List Bounds) (others : Bool) → IsArray f.program k i a → pair_bounds a.bounds ≡ Some b
        → ArrayParts f a.item xs ranges others → Covers b ranges others → Gives f (node.Aggregate composite.Array b xs) k
    -- L9, L26
    choice : (f : Frame) (k : ℕ) (as' : List (Arm Expr)) (x : Expr) → IsCommon f.program k → Arms f k as' → Branch f k x → Gives f (node.If as' x) k
    -- L23; the index has its subtype in the predicate
    quantified : (f : Frame) (q : Quantifier) (x : Counted) (l h e : Expr) (i j : ℕ) → Has is_ordered f.program x.subtype → HasSubtype f l i → HasSubtype f h j
        → Bounded f.program x.subtype i → Bounded f.program x.subtype j → HasSubtype (with_index x f) e boolean → Gives f (node.Quantified q x l h e) boolean

  -- a value for subtype k, with its range check -- L8, L11, L13, Ada RM 4.6
  pub data FitsFor : Frame → Bool → ℕ → Fitted Expr → Type 0 where
    fits : (f : Frame) (whole : Bool) (k j : ℕ) (x : Expr) → HasSubtype f x j → OfOneType f.program j k → Takes f.program k j whole → FitsFor f whole k (record { bounds = range_check f.program k x; value = x })

  -- an index of an array of this index subtype and these bounds, where its subtype has any; with the index check -- L14
  pub data Indexes : Frame → ℕ → Option Bounds → Indexed Expr → Type 0 where
    indexes : (f : Frame) (i j : ℕ) (b : Option Bounds) (x : Expr) → HasSubtype f x j → OfOneType f.program j i → Indexes f i b (record { checked = index_check f.program b x; value = x })

  -- the steps from an object of one subtype to a part of another -- L14, L15
  pub data Steps : Frame → ℕ → List (Step Expr) → ℕ → Type 0 where
    here : (f : Frame) (k : ℕ) → Steps f k [] k
    to_component : (f : Frame) (j n i k : ℕ) (ks : List ℕ) (ss : List (Step Expr)) → IsRecord f.program j ks → slice_get ks n ≡ Some i → Steps f i ss k → Steps f j (step.Component n (length ks) ∷ ss) k
    to_item : (f : Frame) (j i k : ℕ) (a : ArrayShape) (x : Indexed Expr) (ss : List (Step Expr)) → IsArray f.program j i a → Indexes f i (pair_bounds a.bounds) x → Steps f a.item ss k
        → Steps f j (step.Item (pair_bounds a.bounds) x ∷ ss) k

  -- an object or a part of it, of subtype k, that may be written -- L8, L11
  pub data HasTarget : Frame → Target Expr → ℕ → Type 0 where
    target : (f : Frame) (p : Place) (o : Object) (j k : ℕ) (ss : List (Step Expr)) → HasObject f o j → IsVariable f o → Steps f j ss k → HasTarget f (record { place = p; object = o; path = ss }) k

  -- what is passed for a formal: by its mode, of its type, with the checks on the way in and back -- L11, Ada RM 6.4.1
  pub data Passes : Frame → Param → Actual Expr → Type 0 where
    pass_in : (f : Frame) (x : Param) (v : Fitted Expr) → x.mode ≡ mode.In → FitsFor f false x.subtype v → Passes f x (actual.In v)
    pass_out : (f : Frame) (x : Param) (t : Target Expr) (j : ℕ) → x.mode ≡ mode.Out → HasTarget f t j → OfOneType f.program j x.subtype → Takes f.program x.subtype j false
        → Passes f x (actual.Out t (subtype_check f.program j x.subtype))
    pass_in_out : (f : Frame) (x : Param) (t : Target Expr) (j : ℕ) → x.mode ≡ mode.InOut → HasTarget f t j → OfOneType f.program j x.subtype → Takes f.program x.subtype j false
        → Passes f x (actual.InOut t (subtype_check f.program x.subtype j) (subtype_check f.program j x.subtype))

  -- the arguments after those that give these formals: each formal once -- L10
  pub data Arguments : Frame → List Param → List ℕ → List (Argument Expr) → Type 0 where
    all_passed : (f : Frame) (ps : List Param) (given : List ℕ) → length given ≡ length ps → Arguments f ps given []
    one_passed : (f : Frame) (ps : List Param) (given : List ℕ) (n : ℕ) (x : Param) (v : Actual Expr) (as' : List (Argument Expr)) → slice_get ps n ≡ Some x → is_among n given ≡ false
        → Passes f x v → Arguments f ps (n ∷ given) as' → Arguments f ps given (record { formal = n; value = v } ∷ as')

  -- a branch of an if-expression of subtype k: of its type, and arrays of its bounds -- L26
  pub data Branch : Frame → ℕ → Expr → Type 0 where
    branch : (f : Frame) (k j : ℕ) (x : Expr) → HasSubtype f x j → OfOneType f.program j k → fixed_bounds f.program j ≡ fixed_bounds f.program k → Branch f k x

  pub data Arms : Frame → ℕ → List (Arm Expr) → Type 0 where
    no_arms : (f : Frame) (k : ℕ) → Arms f k []
    one_arm : (f : Frame) (k : ℕ) (c x : Expr) (as' : List (Arm Expr)) → HasSubtype f c boolean → Branch f k x → Arms f k as' → Arms f k (record { condition = c; gives = x } ∷ as')

  -- the associations of a record after those that give these components; `others` is last and gives some -- L8, L16
  pub data RecordParts : Frame → List ℕ → List ℕ → List (Association Expr) → Type 0 where
    all_parts : (f : Frame) (ks given : List ℕ) → length given ≡ length ks → RecordParts f ks given []
    one_part : (f : Frame) (ks given : List ℕ) (n k : ℕ) (v : Fitted Expr) (xs : List (Association Expr)) → slice_get ks n ≡ Some k → is_among n given ≡ false → FitsFor f true k v
        → RecordParts f ks (n ∷ given) xs → RecordParts f ks given (of_range (lone n) v.bounds v.value ∷ xs)
    other_parts : (f : Frame) (ks given : List ℕ) (n j : ℕ) (ns : List ℕ) (bs : List Bounds) (x : Expr) → not_given given ks 0 ≡ n ∷ ns → HasSubtype f x j
        → AllTake f.program ks x j (n ∷ ns) bs → RecordParts f ks given (of_others bs x ∷ [])

  -- the associations of an array with items of subtype k, with their ranges, and whether the last is `others` -- L8, L16
  pub data ArrayParts : Frame → ℕ → List (Association Expr) → List Bounds → Bool → Type 0 where
    no_items : (f : Frame) (k : ℕ) → ArrayParts f k [] [] false
    some_items : (f : Frame) (k : ℕ) (r : Bounds) (v : Fitted Expr) (xs : List (Association Expr)) (rs : List Bounds) (others : Bool) → FitsFor f true k v → ArrayParts f k xs rs others
        → ArrayParts f k (of_range r v.bounds v.value ∷ xs) (r ∷ rs) others
    other_items : (f : Frame) (k : ℕ) (v : Fitted Expr) → FitsFor f true k v → ArrayParts f k (of_others (check_onto v.bounds []) v.value ∷ []) [] true
