-- Which typed expression an expression is by the rules of the language, a line a rule. -- Ada RM 4
use Rattle.std.specs.Prelude.{◌≡◌, ◌&&◌, ℕ, suc, ℤ, pos, is_some, Bool, true, false, not, ◌||◌, ◌++◌, List, [], ◌∷◌, length, slice_get, Option, Some, None}
use Rattle.ada_text.specs.declared.token.Span.{Span}
use Rattle.ada_syntax.specs.declared.expressions.BinaryOperator.{BinaryOperator}
use Rattle.ada_syntax.specs.declared.expressions.Quantifier.{Quantifier}
use Rattle.ada_syntax.specs.declared.expressions.UnaryOperator.{UnaryOperator}
use Rattle.ada_values.specs.declared.place.Place.{Place}
use Rattle.ada_values.specs.declared.scalars.Scalar.{Scalar}
use Rattle.front_codes.specs.declared.codes.Code.{Code}
use Rattle.front_codes.specs.declared.codes.Code.TheVariants as code
use Rattle.name_library.specs.declared.links.Link.{Link}
use Rattle.name_numbers.specs.Numbers.{word_of}
use Rattle.name_numbers.specs.declared.words.Word.{Word}
use Rattle.name_numbers.specs.declared.words.Word.TheVariants as word
use Rattle.syntax_view.specs.Trees as tree
use Rattle.typed_units.specs.declared.expressions.Actual.{Actual}
use Rattle.typed_units.specs.declared.expressions.Actual.TheVariants as actual
use Rattle.typed_units.specs.declared.expressions.Argument.{Argument}
use Rattle.typed_units.specs.declared.expressions.Arm.{Arm}
use Rattle.typed_units.specs.declared.expressions.Expr.{Expr, out-Expr}
use Rattle.typed_units.specs.declared.expressions.ExprNode.TheVariants as node
use Rattle.typed_units.specs.declared.expressions.Fitted.{Fitted}
use Rattle.typed_units.specs.declared.expressions.Indexed.{Indexed}
use Rattle.typed_units.specs.declared.expressions.Step.TheVariants as step
use Rattle.typed_units.specs.declared.expressions.Association.{Association}
use Rattle.typed_units.specs.declared.operators.Bounds.{Bounds}
use Rattle.typed_units.specs.declared.operators.Composite.TheVariants as composite
use Rattle.typed_units.specs.declared.programs.Mode.{Mode}
use Rattle.typed_units.specs.declared.programs.Mode.TheVariants as mode
use Rattle.type_base.specs.Scope.{Scope}
use Rattle.type_base.specs.declared.seen.Demand.TheVariants as demand
use Rattle.type_base.specs.declared.seen.Moment.TheVariants as moment
use Rattle.type_base.specs.declared.seen.Seen.{Seen}
use Rattle.type_base.specs.declared.seen.Seen.TheVariants.{Unknown, Number, Typed}
use Rattle.type_base.specs.declared.seen.Want.{Want}
use Rattle.type_base.specs.declared.seen.Want.TheVariants as want
use Rattle.type_base.specs.declared.world.Component.{Component}
use Rattle.type_base.specs.declared.world.Discrete.{Discrete}
use Rattle.type_base.specs.declared.world.Form.TheVariants as form
use Rattle.type_base.specs.declared.world.Formal.{Formal}
use Rattle.type_base.specs.declared.world.Routine.{Routine}
use Rattle.type_base.specs.Demands.{agree, subtype_of}
use Rattle.type_base.specs.Lookups.{form_at, routine_at, type_at}
use Rattle.type_base.specs.Operators.{family_of, joined, unary_of}
use Rattle.type_base.specs.Results.{moved, truth_at, truth_in}
use Rattle.type_base.specs.Standard.{boolean, integer_base}
use Rattle.typing_rules.specs.declared.prefix.Between.{Between}
use Rattle.typing_rules.specs.declared.prefix.Found.TheVariants as found
use Rattle.typing_rules.specs.declared.prefix.Found.TheVariants.{Is}
use Rattle.typing_rules.specs.declared.prefix.Mapping.{Mapping}
use Rattle.typing_rules.specs.declared.prefix.Mapping.TheVariants as mapping
use Rattle.typing_rules.specs.declared.prefix.Part.{Part}
use Rattle.typing_rules.specs.declared.prefix.Prefix.{Prefix}
use Rattle.typing_rules.specs.declared.prefix.Prefix.TheVariants as prefix
use Rattle.typing_rules.specs.declared.prefix.Reach.{Reach}
use Rattle.typing_rules.specs.declared.prefix.Reach.TheVariants as reach
use Rattle.typing_rules.specs.declared.aggregates.Gives.{Gives as GivenParts}
use Rattle.typing_rules.specs.declared.aggregates.Manner.{Manner}
use Rattle.typing_rules.specs.declared.aggregates.Manner.TheVariants as manner
use Rattle.typing_rules.specs.Aggregates.{all_take, components_for, first_given, gives_value, is_empty, is_only, item_value, last_number, position_range, qualified_node}
use Rattle.typing_rules.specs.Attributes.{bound, bounded, entry_node, is_mapped, length_at, literal as literal_at, next_value, old_node, position, range_at}
use Rattle.typing_rules.specs.Calls.{formal_for, is_named, passed, same_type, writable}
use Rattle.typing_rules.specs.Conditions.{Common, branch_want, chosen, chosen_else, common_of, else_of, if_made, quantifier_of}
use Rattle.typing_rules.specs.Fits.{takes}
use Rattle.typing_rules.specs.Forms.{left_want, right_want, suffix_prefix}
use Rattle.typing_rules.specs.Kinds.{branches_kind, range_kind}
use Rattle.typing_rules.specs.Lookups.{Array, array_at, components_at, entity_by, entity_of, place_among, type_of, with_index}
use Rattle.typing_rules.specs.Names.{is_checked}
use Rattle.typing_rules.specs.Ranges.{bounds_reach, member_by, reach_in, static_range, want_or, weaker, bounds_of_type, reach_bounds, subtype_reach}
use Rattle.typing_rules.specs.Reading.{arg, args, arms, item, maybe, range, read, suffix}
use Rattle.typing_rules.specs.Values.{component_subtype, entity_prefix, formals_of, place_of}
use Rattle.expression_rules.specs.Rules.{Common as CommonType, Gives, GivesOne, Is as HasKind, IsAs, Kind}
use Rattle.typing_relations.specs.Demanded.{AnyInteger, Begins, Converts, Fits, Given, IsBranch, IsResult, Makes, OfType, Only, Tests, Valued, Covers, IsStatic, MayBeChosen, MayBePlaced, HasBounds, IsArray, IsMapping, WasThere, is_item}

-- a name so far of which nothing is known
abbrev pub IsOpen : Prefix → Type 0
IsOpen (prefix.Value Unknown) = Unit {0}
IsOpen (prefix.Called q found.Unknown) = Unit {0}
IsOpen _ = ⊥

-- what the branches of an if-expression are read for, and their common type -- L26
abbrev pub branches_want : Scope → Want → tree.Arms → tree.MaybeExpr → Want
branches_want c w as' e = branch_want w (branches_kind (arms c as') (maybe c e))

abbrev pub common_type : Scope → Want → tree.Arms → tree.MaybeExpr → Common
common_type c w as' e = common_of c (branches_want c w as' e) (arms c as') (maybe c e)

-- a value that is no part of an object, of which the next part is a value too
abbrev pub IsNoPart : Prefix → Type 0
IsNoPart (prefix.Part g) = ⊥
IsNoPart _ = Unit {0}

abbrev pub IsOut : Mode → Type 0
IsOut mode.In = ⊥
IsOut mode.Out = Unit {0}
IsOut mode.InOut = Unit {0}

mutual
  -- what an expression stands for where the context gives this: a value, or what else a name is
  pub data Stands : Scope → Want → tree.Expr → Prefix → Type 0 where
    literal : (c : Scope) (w : Want) (s : Span) (n : ℤ) → Stands c w (tree.at s (tree.number n)) (prefix.Value (Number n))
    name : (c : Scope) (w : Want) (s t i : Span) (ss : tree.Suffixes) (e f : Prefix) → Begins c (c.place s.from) (entity_of c i.from) e → Follows c w (c.place s.from) e ss f
        → Stands c w (tree.at s (tree.name (tree.named t i ss))) f
    name_after_unknown : (c : Scope) (w : Want) (s t i : Span) (ss : tree.Suffixes) (e f : Prefix) → entity_prefix c (c.place s.from) (entity_of c i.from) ≡ e → IsOpen e → Follows c w (c.place s.from) e ss f → Stands c w (tree.at s (tree.name (tree.named t i ss))) f
    -- an expression in parentheses is that expression, for the same context
    in_parentheses : (c : Scope) (w : Want) (s : Span) (as' : tree.Args) (i : tree.Item) (u v : Seen) → Only as' i → ItemHas c w i u → IsResult (moved (c.place s.from) u) v
        → Stands c w (tree.at s (tree.group as')) (prefix.Value v)
    -- L16, L17
    aggregate_is : (c : Scope) (w : Want) (s : Span) (as' : tree.Args) (v : Seen) → is_item as' ≡ false → Aggregates c (c.place s.from) w as' v → Stands c w (tree.at s (tree.group as')) (prefix.Value v)
    -- L3, L4
    unary : (c : Scope) (w : Want) (s q : Span) (o : UnaryOperator) (a : tree.Expr) (x v : Seen) (k : Kind) → Has c (weaker c.world w) a x → GivesOne c.world x o k → HasKind v k
        → unary_of c.world (c.place s.from) (place_of c (read c a)) o x ≡ v → Stands c w (tree.at s (tree.unary q o a)) (prefix.Value v)
    -- L1, L2, L4, L5, L6
    binary : (c : Scope) (w : Want) (s q : Span) (o : BinaryOperator) (a b : tree.Expr) (x y v : Seen) (k : Kind)
        → Has c (left_want c (family_of o) w (read c b)) a x → Has c (right_want c (family_of o) w (read c a)) b y → Gives c.world w x y (family_of o) k → HasKind v k
        → joined c.world w (c.place s.from) (c.place q.from) (place_of c (read c a)) (place_of c (read c b)) (family_of o) x y ≡ v → Stands c w (tree.at s (tree.binary q o a b)) (prefix.Value v)
    -- L7
    member : (c : Scope) (w : Want) (s q : Span) (b : Bool) (a : tree.Expr) (g : tree.Range) (x v : Seen) (u : Reach)
        → Has c (want_or want.Free (range_kind (range c g))) a x → IsAs c.world demand.Ordered x → Reaches c code.L7 (want_or want.Free (read c a).kind) g u → Tests c (range c g) x u
        → IsResult (member_by c (c.place s.from) (not b) (place_of c (read c a)) (range c g) x u) v → Stands c w (tree.at s (tree.member q b a g)) (prefix.Value v)

  -- an accepted expression, in a context
  pub data Has : Scope → Want → tree.Expr → Seen → Type 0 where
    has : (c : Scope) (w : Want) (e : tree.Expr) (f : Prefix) (v : Seen) → Stands c w e f → Valued c.world (place_of c (read c e)) f v → Has c w e v

  -- what may stand in parentheses
  pub data ItemStands : Scope → Want → tree.Item → Prefix → Type 0 where
    expression : (c : Scope) (w : Want) (s : Span) (e : tree.Expr) (f : Prefix) → Stands c w e f → ItemStands c w (tree.item s (tree.plain e)) f
    -- a number, where all conditions are static and all branches are numbers (Ada RM 4.9)
    chosen_number : (c : Scope) (w : Want) (s : Span) (as' : tree.Arms) (e : tree.Expr) (n : ℤ) → Picks c (branches_want c w as' (tree.an_expr e)) as' e n
        → ItemStands c w (tree.item s (tree.choose as' (tree.an_expr e))) (prefix.Value (Number n))
    -- L9, L26
    chosen_value : (c : Scope) (w : Want) (s : Span) (as' : tree.Arms) (e : tree.MaybeExpr) (xs : List (Arm Expr)) (x : Expr) (v : Seen)
        → chosen_else c (branches_want c w as' e) (arms c as') (maybe c e) ≡ None → Arms c (branches_want c w as' e) (common_type c w as' e) [] as' xs → Else c (c.place s.from) (branches_want c w as' e) (common_type c w as' e) e x
        → IsResult (if_made c (c.place s.from) (common_type c w as' e) xs x (chosen xs x)) v → ItemStands c w (tree.item s (tree.choose as' e)) (prefix.Value v)
    -- L23; the index has the range's subtype in the predicate
    quantified : (c : Scope) (w : Want) (s i : Span) (q : Quantifier) (g : tree.Range) (e : tree.Expr) (u : Reach) (b : Between) (x : Expr)
        → Reaches c code.L23 want.Free g u → reach_in c code.L23 integer_base (range c g) u ≡ Is b → Condition (with_index c i.from b.subtype) e x
        → ItemStands c w (tree.item s (tree.quantified q i g e)) (prefix.Value (truth_at (c.place s.from) (node.Quantified (quantifier_of q) (record { number = c.number i.from; subtype = b.subtype }) b.low b.high x)))

  pub data ItemHas : Scope → Want → tree.Item → Seen → Type 0 where
    item_has : (c : Scope) (w : Want) (i : tree.Item) (f : Prefix) (v : Seen) → ItemStands c w i f → Valued c.world (place_of c (item c i)) f v → ItemHas c w i v

  -- L4, L9: a Boolean expression
  pub data Condition : Scope → tree.Expr → Expr → Type 0 where
    condition : (c : Scope) (e : tree.Expr) (t : ℕ) (x : Expr) → Has c (want.Type boolean) e (Typed t x) → IsAs c.world demand.Truth (Typed t x) → Condition c e x

  -- L26: a branch
  pub data Branch : Scope → Want → Common → tree.Expr → Expr → Type 0 where
    branch : (c : Scope) (w : Want) (k : Common) (e : tree.Expr) (v : Seen) (x : Expr) → Has c w e v → IsBranch c.world k (place_of c (read c e)) v x → Branch c w k e x

  -- the number of the first branch whose condition is True, of conditions that are static and branches that are numbers
  pub data Picks : Scope → Want → tree.Arms → tree.Expr → ℤ → Type 0 where
    picks_else : (c : Scope) (w : Want) (e : tree.Expr) (n : ℤ) → Has c w e (Number n) → Picks c w tree.no_arms e n
    picks_first : (c : Scope) (w : Want) (i g : tree.Expr) (as' : tree.Arms) (e : tree.Expr) (x : Expr) (m n : ℤ) → Condition c i x → truth_in x ≡ Some true → Has c w g (Number m) → Picks c w as' e n
        → Picks c w (tree.arm i g as') e m
    picks_later : (c : Scope) (w : Want) (i g : tree.Expr) (as' : tree.Arms) (e : tree.Expr) (x : Expr) (m n : ℤ) → Condition c i x → truth_in x ≡ Some false → Has c w g (Number m) → Picks c w as' e n
        → Picks c w (tree.arm i g as') e n

  -- conditions with their branches, after those done
  pub data Arms : Scope → Want → Common → List (Arm Expr) → tree.Arms → List (Arm Expr) → Type 0 where
    no_more : (c : Scope) (w : Want) (k : Common) (xs : List (Arm Expr)) → Arms c w k xs tree.no_arms xs
    one_more : (c : Scope) (w : Want) (k : Common) (xs ys : List (Arm Expr)) (i g : tree.Expr) (x y : Expr) (as' : tree.Arms) → Condition c i x → Branch c w k g y
        → Arms c w k (xs ++ (record { condition = x; gives = y } ∷ [])) as' ys → Arms c w k xs (tree.arm i g as') ys

  -- without `else` it is True
  pub data Else : Scope → Place → Want → Common → tree.MaybeExpr → Expr → Type 0 where
    otherwise : (c : Scope) (p : Place) (w : Want) (k : Common) (e : tree.Expr) (x : Expr) → Branch c w k e x → Else c p w k (tree.an_expr e) x
    without : (c : Scope) (p : Place) (w : Want) (k : Common) (x : Expr) → else_of c p k w None ≡ Is x → Else c p w k tree.no_expr x

  -- what a range reaches over, by a rule, in a context -- L7, L22, L23
  pub data Reaches : Scope → Code → Want → tree.Range → Reach → Type 0 where
    -- two bounds of one integer or enumeration type
    two_bounds : (c : Scope) (r : Code) (w : Want) (l h : tree.Expr) (x y : Seen) (j k m : Kind)
        → Has c (want_or w (read c h).kind) l x → Has c (want_or w (read c l).kind) h y → HasKind x j → HasKind y k → IsAs c.world demand.Ordered x → IsAs c.world demand.Ordered y
        → CommonType c.world j k m → Reaches c r w (tree.range l (tree.an_expr h)) (bounds_reach (agree c.world r (place_of c (read c l)) (place_of c (read c h)) x y))
    -- a subtype of an integer or enumeration type
    of_subtype : (c : Scope) (r : Code) (w : Want) (e : tree.Expr) (k : ℕ) (d : Discrete) (s : Scalar) → Stands c w e (prefix.Subtype k) → form_at c.world k ≡ Some (form.Number d s)
        → Reaches c r w (tree.range e tree.no_expr) (reach.Between (static_range (place_of c (read c e)) k k s.lo s.hi))
    -- an array's `'Range`
    of_array : (c : Scope) (r : Code) (w : Want) (e : tree.Expr) (b : Between) → Stands c w e (prefix.Range b) → Reaches c r w (tree.range e tree.no_expr) (reach.Between b)

  -- what a name is after its suffixes
  pub data Follows : Scope → Want → Place → Prefix → tree.Suffixes → Prefix → Type 0 where
    ended : (c : Scope) (w : Want) (p : Place) (f : Prefix) → Follows c w p f tree.no_suffixes f
    then : (c : Scope) (w : Want) (p : Place) (f g h : Prefix) (s : tree.Suffix) (ss : tree.Suffixes) → Step c w p f s g → Follows c w p g ss h → Follows c w p f (tree.suffixes s ss) h
    -- nothing is known of the name so far, since a declaration that it names is refused: an identifier with a declaration of its own
    -- may follow
    unknown_before : (c : Scope) (w : Want) (p : Place) (f g h : Prefix) (s : tree.Suffix) (ss : tree.Suffixes) → suffix_prefix c w p f (suffix c s) ≡ g → IsOpen g → Follows c w p g ss h → Follows c w p f (tree.suffixes s ss) h

  -- what a name is after one more suffix
  pub data Step : Scope → Want → Place → Prefix → tree.Suffix → Prefix → Type 0 where
    -- an identifier with a declaration of its own
    anew : (c : Scope) (w : Want) (p : Place) (f g : Prefix) (s : Span) (l : Link) → c.link s.from ≡ Some l → Begins c p (entity_by c (Some l)) g → Step c w p f (tree.selected s) g
    -- L15: a component of the prefix's record
    object_component : (c : Scope) (w : Want) (p : Place) (g : Part) (s : Span) (cs : List Component) (n : ℕ)
        → c.link s.from ≡ None → components_at c.world g.subtype ≡ Some cs → place_among cs (c.name s.from) 0 ≡ Some n
        → Step c w p (prefix.Part g) (tree.selected s) (prefix.Part (record g { subtype = component_subtype (Some cs) n; target = record { place = g.target.place; object = g.target.object; path = g.target.path ++ (step.Component n (length cs) ∷ []) } }))
    value_component : (c : Scope) (w : Want) (p : Place) (f : Prefix) (s : Span) (t : ℕ) (x : Expr) (cs : List Component) (n : ℕ) (v : Seen)
        → c.link s.from ≡ None → IsNoPart f → Valued c.world p f (Typed t x) → components_at c.world (subtype_of x) ≡ Some cs → place_among cs (c.name s.from) 0 ≡ Some n
        → Makes c.world p (component_subtype (Some cs) n) (node.Component x n) v → Step c w p f (tree.selected s) (prefix.Value v)
    -- L18
    conversion : (c : Scope) (w : Want) (p : Place) (k : ℕ) (as' : tree.Args) (i : tree.Item) (u v : Seen)
        → Only as' i → ItemHas c want.Free i u → Converts c p k (place_of c (item c i)) u v → Step c w p (prefix.Subtype k) (tree.applied as') (prefix.Value v)
    -- L10, L11, L12: a function's call, and a procedure's
    function_call : (c : Scope) (w : Want) (p : Place) (q k : ℕ) (r : Routine) (as' : tree.Args) (xs : List (Argument Expr)) (v : Seen)
        → routine_at c.world q ≡ Some r → r.result ≡ Some k → Arguments c (formals_of c.world r) [] false [] as' xs → Makes c.world p k (node.Call p q xs) v
        → Step c w p (prefix.Routine q) (tree.applied as') (prefix.Value v)
    procedure_call : (c : Scope) (w : Want) (p : Place) (q : ℕ) (r : Routine) (as' : tree.Args) (xs : List (Argument Expr))
        → routine_at c.world q ≡ Some r → r.result ≡ None → Arguments c (formals_of c.world r) [] false [] as' xs → Step c w p (prefix.Routine q) (tree.applied as') (prefix.Called q (Is xs))
    -- L14: an item of an array, by one index
    object_item : (c : Scope) (w : Want) (p : Place) (g : Part) (as' : tree.Args) (a : Array) (x : Indexed Expr) → array_at c.world g.subtype ≡ Some a → Index c a as' x
        → Step c w p (prefix.Part g) (tree.applied as') (prefix.Part (record g { subtype = a.item; target = record { place = g.target.place; object = g.target.object; path = g.target.path ++ (step.Item a.bounds x ∷ []) } }))
    value_item : (c : Scope) (w : Want) (p : Place) (f : Prefix) (as' : tree.Args) (t : ℕ) (x : Expr) (a : Array) (y : Indexed Expr) (v : Seen)
        → IsNoPart f → Valued c.world p f (Typed t x) → array_at c.world (subtype_of x) ≡ Some a → Index c a as' y → Makes c.world p a.item (node.Item x y) v → Step c w p f (tree.applied as') (prefix.Value v)
    -- L10, L11: the argument of `'Succ`, `'Pred` and `'Pos`, of the subtype's type, and of `'Val`, of an integer type
    mapped_argument : (c : Scope) (w : Want) (p t : Place) (m : Mapping) (k : ℕ) (as' : tree.Args) (i : tree.Item) (v : Seen) → Only as' i → MapsTo c p t m k i v
        → Step c w p (prefix.Mapping m t k) (tree.applied as') (prefix.Value v)
    -- L19: the bounds of a scalar subtype or an array
    first_attribute : (c : Scope) (w : Want) (p : Place) (f : Prefix) (s t : Span) (v : Seen) → word_of (c.name t.from) ≡ Some word.First → HasBounds c p f → IsResult (bound c p true f) v
        → Step c w p f (tree.ticked s (tree.attribute t)) (prefix.Value v)
    last_attribute : (c : Scope) (w : Want) (p : Place) (f : Prefix) (s t : Span) (v : Seen) → word_of (c.name t.from) ≡ Some word.Last → HasBounds c p f → IsResult (bound c p false f) v
        → Step c w p f (tree.ticked s (tree.attribute t)) (prefix.Value v)
    -- the length and the range of an array
    length_attribute : (c : Scope) (w : Want) (p : Place) (f : Prefix) (s t : Span) (v : Seen) → word_of (c.name t.from) ≡ Some word.Length → IsArray c p f → IsResult (length_at c w p (c.place s.from) (bounded c p f)) v
        → Step c w p f (tree.ticked s (tree.attribute t)) (prefix.Value v)
    range_attribute : (c : Scope) (w : Want) (p : Place) (f g : Prefix) (s : Span) → IsArray c p f → range_at c p (bounded c p f) ≡ g → Step c w p f (tree.ticked s tree.range_attribute) g
    -- `'Succ` and `'Pred` of enumeration and signed subtypes, `'Pos` and `'Val` of enumerations
    mapping_attribute : (c : Scope) (w : Want) (p : Place) (k : ℕ) (s t : Span) (u : Word) (m : Mapping) (d : Discrete) (r : Scalar) → word_of (c.name t.from) ≡ Some u → IsMapping u m
        → form_at c.world k ≡ Some (form.Number d r) → is_mapped m d ≡ true → Step c w p (prefix.Subtype k) (tree.ticked s (tree.attribute t)) (prefix.Mapping m (c.place s.from) k)
    -- `'Old` in a postcondition, `'Loop_Entry` in a pragma inside the loop
    old_attribute : (c : Scope) (w : Want) (p : Place) (f : Prefix) (s t : Span) (v : Seen) → word_of (c.name t.from) ≡ Some word.Old → c.moment ≡ moment.InPost → WasThere c p (old_node p) f v
        → Step c w p f (tree.ticked s (tree.attribute t)) (prefix.Value v)
    entry_attribute : (c : Scope) (w : Want) (p : Place) (f : Prefix) (s t : Span) (l : ℕ) (m : Option ℕ) (v : Seen) → word_of (c.name t.from) ≡ Some word.LoopEntry → c.moment ≡ moment.InLoop l m
        → WasThere c p (entry_node p l m) f v → Step c w p f (tree.ticked s (tree.attribute t)) (prefix.Value v)
    -- `'Result` of a function in its own postcondition
    result_attribute : (c : Scope) (w : Want) (p : Place) (q k : ℕ) (r : Routine) (s t : Span) (v : Seen) → word_of (c.name t.from) ≡ Some word.Result → c.moment ≡ moment.InPost → c.own ≡ Some q
        → routine_at c.world q ≡ Some r → r.result ≡ Some k → Makes c.world p k (node.Result p) v → Step c w p (prefix.Routine q) (tree.ticked s (tree.attribute t)) (prefix.Value v)
    -- L18: a value of the subtype's type, and of a constrained array subtype
    qualified : (c : Scope) (w : Want) (p : Place) (k : ℕ) (s : Span) (as' : tree.Args) (x : Fitted Expr) (v : Seen) → Qualifies c k s as' x
        → Makes c.world p k (qualified_node x x.bounds (out-Expr x.value).node) v → Step c w p (prefix.Subtype k) (tree.ticked s (tree.qualified as')) (prefix.Value v)

  -- an aggregate at p, of the record type or the subtype that the context gives; an array's is constrained -- L16, L17
  pub data Aggregates : Scope → Place → Want → tree.Args → Seen → Type 0 where
    record_of_type : (c : Scope) (p : Place) (t : ℕ) (as' : tree.Args) (cs : List Component) (xs : List (Association Expr)) (v : Seen) → components_at c.world t ≡ Some cs → RecordParts c cs [] false [] as' xs
        → Makes c.world p t (node.Aggregate composite.Record (record { first = pos 0; last = last_number cs }) xs) v → Aggregates c p (want.Type t) as' v
    record_of_subtype : (c : Scope) (p : Place) (k : ℕ) (as' : tree.Args) (cs : List Component) (xs : List (Association Expr)) (v : Seen) → components_at c.world k ≡ Some cs → RecordParts c cs [] false [] as' xs
        → Makes c.world p k (node.Aggregate composite.Record (record { first = pos 0; last = last_number cs }) xs) v → Aggregates c p (want.Subtype k) as' v
    -- each index once, where `others` or associations by choices may leave some to it
    array_of_subtype : (c : Scope) (p : Place) (k i t : ℕ) (b : Bounds) (as' : tree.Args) (rs : List Bounds) (xs : List (Association Expr)) (partial : Bool) (v : Seen) → form_at c.world k ≡ Some (form.Array i (Some b) t)
        → ArrayParts c (record { index = i; bounds = Some b; item = t }) b 0 manner.Either [] [] as' rs xs partial → Covers b rs partial → Makes c.world p k (node.Aggregate composite.Array b xs) v → Aggregates c p (want.Subtype k) as' v

  -- L16: the associations of a record, after those done, which give these components: each once, positional before named, `others`
  -- last; the value has the type of all components that it is given to (L8)
  pub data RecordParts : Scope → List Component → List ℕ → Bool → List (Association Expr) → tree.Args → List (Association Expr) → Type 0 where
    all_components : (c : Scope) (cs : List Component) (given : List ℕ) (named : Bool) (xs : List (Association Expr)) → length given ≡ length cs → RecordParts c cs given named xs tree.no_args xs
    next_components : (c : Scope) (cs : List Component) (given : List ℕ) (named : Bool) (xs ys : List (Association Expr)) (a : tree.Arg) (as' : tree.Args) (g : GivenParts) (i : tree.Item) (u : Seen) (x : Fitted Expr)
        → components_for c cs given named (arg c a) (args c as') ≡ Some g → Given a i → ItemHas c (want.Subtype (first_given cs g.numbers)) i u
        → Fits c.world true (first_given cs g.numbers) (place_of c (item c i)) u x → all_take c.world cs (first_given cs g.numbers) g.numbers ≡ true
        → RecordParts c cs (g.numbers ++ given) (named || is_some (arg c a).value) (xs ++ (gives_value c.world cs g x ∷ [])) as' ys → RecordParts c cs given named xs (tree.args a as') ys

  -- L16: the associations of an array after n others, with the ranges and the values that are given so far and in the end: all
  -- positional, or all with choices, and `others` last; each value fits the items' subtype (L8)
  pub data ArrayParts : Scope → Array → Bounds → ℕ → Manner → List Bounds → List (Association Expr) → tree.Args → List Bounds → List (Association Expr) → Bool → Type 0 where
    no_items : (c : Scope) (a : Array) (b : Bounds) (n : ℕ) (m : Manner) (rs : List Bounds) (xs : List (Association Expr)) → ArrayParts c a b n m rs xs tree.no_args rs xs false
    by_place : (c : Scope) (a : Array) (b : Bounds) (n : ℕ) (m : Manner) (rs qs : List Bounds) (xs ys : List (Association Expr)) (s : Span) (i : tree.Item) (as' : tree.Args) (partial : Bool) (r : Bounds) (u : Seen) (x : Fitted Expr)
        → MayBePlaced m → position_range b n ≡ Is r → ItemHas c (want.Subtype a.item) i u → Fits c.world true a.item (place_of c (item c i)) u x
        → ArrayParts c a b (suc n) manner.ByPlace (rs ++ (r ∷ [])) (xs ++ (item_value (r ∷ []) false x ∷ [])) as' qs ys partial
        → ArrayParts c a b n m rs xs (tree.args (tree.arg s (tree.part i) tree.no_value) as') qs ys partial
    -- a range without values is the only choice
    by_choice : (c : Scope) (a : Array) (b : Bounds) (n : ℕ) (m : Manner) (rs qs : List Bounds) (xs ys : List (Association Expr)) (s : Span) (h : tree.ArgChoice) (i : tree.Item) (as' : tree.Args) (partial : Bool) (r : Bounds) (u : Seen) (x : Fitted Expr)
        → MayBeChosen m → StaticChoice c (type_of c.world a.index) h r → (is_empty r && not (is_only n (args c as'))) ≡ false → ItemHas c (want.Subtype a.item) i u → Fits c.world true a.item (place_of c (item c i)) u x
        → ArrayParts c a b (suc n) manner.ByChoice (rs ++ (r ∷ [])) (xs ++ (item_value (r ∷ []) false x ∷ [])) as' qs ys partial
        → ArrayParts c a b n m rs xs (tree.args (tree.arg s h (tree.value i)) as') qs ys partial
    by_others : (c : Scope) (a : Array) (b : Bounds) (n : ℕ) (m : Manner) (rs : List Bounds) (xs : List (Association Expr)) (s : Span) (i : tree.Item) (u : Seen) (x : Fitted Expr)
        → ItemHas c (want.Subtype a.item) i u → Fits c.world true a.item (place_of c (item c i)) u x
        → ArrayParts c a b n m rs xs (tree.args (tree.arg s tree.other_parts (tree.value i)) tree.no_args) rs (xs ++ (item_value [] true x ∷ [])) true

  -- L16: a static choice of type t: a value, a subtype, `'Range`, or two bounds
  pub data StaticChoice : Scope → ℕ → tree.ArgChoice → Bounds → Type 0 where
    one_value : (c : Scope) (t : ℕ) (i : tree.Item) (u : Seen) (n : ℤ) → ItemHas c (want.Type t) i u → IsStatic c.world t (place_of c (item c i)) u n → StaticChoice c t (tree.part i) (record { first = n; last = n })
    its_subtype : (c : Scope) (t : ℕ) (i : tree.Item) (k : ℕ) (b : Bounds) → ItemStands c (want.Type t) i (prefix.Subtype k)
        → reach_bounds c code.L16 t (place_of c (item c i)) (subtype_reach code.L16 (place_of c (item c i)) k (form_at c.world k)) ≡ Is b → StaticChoice c t (tree.part i) b
    its_range : (c : Scope) (t : ℕ) (i : tree.Item) (r : Between) (b : Bounds) → ItemStands c (want.Type t) i (prefix.Range r) → bounds_of_type c code.L16 t (place_of c (item c i)) r ≡ Is b → StaticChoice c t (tree.part i) b
    two_values : (c : Scope) (t : ℕ) (l h : tree.Expr) (u v : Seen) (m n : ℤ) → Has c (want.Type t) l u → Has c (want.Type t) h v → IsStatic c.world t (place_of c (read c l)) u m
        → IsStatic c.world t (place_of c (read c h)) v n → StaticChoice c t (tree.parts l h) (record { first = m; last = n })

  -- the operand of a qualification, an expression or an aggregate
  pub data Qualifies : Scope → ℕ → Span → tree.Args → Fitted Expr → Type 0 where
    by_value : (c : Scope) (k : ℕ) (s : Span) (as' : tree.Args) (i : tree.Item) (u : Seen) (x : Fitted Expr)
        → Only as' i → ItemHas c (want.Subtype k) i u → Fits c.world false k (place_of c (item c i)) u x → Qualifies c k s as' x
    by_aggregate : (c : Scope) (k : ℕ) (s : Span) (as' : tree.Args) (u : Seen) (x : Fitted Expr)
        → is_item as' ≡ false → Aggregates c (c.place s.from) (want.Subtype k) as' u → Fits c.world false k (c.place s.from) u x → Qualifies c k s as' x

  -- what such an attribute with its tick at t gives for an argument; a static value lies in the base range (L29)
  pub data MapsTo : Scope → Place → Place → Mapping → ℕ → tree.Item → Seen → Type 0 where
    succ : (c : Scope) (p t : Place) (k j : ℕ) (i : tree.Item) (u v : Seen) (x : Expr) → ItemHas c (want.Subtype (type_of c.world k)) i u → type_at c.world k ≡ Some j
        → OfType c.world j (place_of c (item c i)) u x → IsResult (next_value c p true t k (Typed j x)) v → MapsTo c p t mapping.Succ k i v
    pred : (c : Scope) (p t : Place) (k j : ℕ) (i : tree.Item) (u v : Seen) (x : Expr) → ItemHas c (want.Subtype (type_of c.world k)) i u → type_at c.world k ≡ Some j
        → OfType c.world j (place_of c (item c i)) u x → IsResult (next_value c p false t k (Typed j x)) v → MapsTo c p t mapping.Pred k i v
    position_of : (c : Scope) (p t : Place) (k j : ℕ) (i : tree.Item) (u v : Seen) (x : Expr) → ItemHas c (want.Subtype (type_of c.world k)) i u → type_at c.world k ≡ Some j
        → OfType c.world j (place_of c (item c i)) u x → IsResult (position c p (Typed j x)) v → MapsTo c p t mapping.Pos k i v
    val : (c : Scope) (p t : Place) (k : ℕ) (i : tree.Item) (u v : Seen) → ItemHas c want.Free i u → AnyInteger c.world u
        → IsResult (literal_at c p (type_of c.world k) (place_of c (item c i)) u) v → MapsTo c p t mapping.Val k i v

  -- L14: one index, of the index's type
  pub data Index : Scope → Array → tree.Args → Indexed Expr → Type 0 where
    index : (c : Scope) (a : Array) (as' : tree.Args) (i : tree.Item) (t : ℕ) (u : Seen) (x : Expr) → Only as' i → ItemHas c (want.Subtype a.index) i u
        → type_at c.world a.index ≡ Some t → OfType c.world t (place_of c (item c i)) u x → Index c a as' (record { checked = is_checked c.world a.bounds x; value = x })

  -- L10: the arguments of a call, after those done, which give these formals: positional before named, each formal once
  pub data Arguments : Scope → List Formal → List ℕ → Bool → List (Argument Expr) → tree.Args → List (Argument Expr) → Type 0 where
    all_given : (c : Scope) (fs : List Formal) (given : List ℕ) (named : Bool) (xs : List (Argument Expr)) → length given ≡ length fs → Arguments c fs given named xs tree.no_args xs
    next_given : (c : Scope) (fs : List Formal) (given : List ℕ) (named : Bool) (xs ys : List (Argument Expr)) (a : tree.Arg) (as' : tree.Args) (n : ℕ) (f : Formal) (i : tree.Item) (x : Actual Expr)
        → formal_for c fs given named (arg c a) ≡ Some n → slice_get fs n ≡ Some f → Given a i → Passes c f.mode f.subtype i x
        → Arguments c fs (n ∷ given) (named || is_named (arg c a).value) (xs ++ (record { formal = n; value = x } ∷ [])) as' ys → Arguments c fs given named xs (tree.args a as') ys

  -- L11: what is passed for a formal of a mode and a subtype; for `out` and `in out` a variable
  pub data Passes : Scope → Mode → ℕ → tree.Item → Actual Expr → Type 0 where
    passed_in : (c : Scope) (k : ℕ) (i : tree.Item) (u : Seen) (x : Fitted Expr) → ItemHas c (want.Subtype k) i u → Fits c.world false k (place_of c (item c i)) u x → Passes c mode.In k i (actual.In x)
    passed_out : (c : Scope) (m : Mode) (k : ℕ) (i : tree.Item) (g : Part) → IsOut m → ItemStands c want.Free i (prefix.Part g) → writable g.access ≡ true
        → same_type (type_at c.world k) (type_at c.world g.subtype) ≡ true → takes c.world false k g.subtype ≡ true → Passes c m k i (passed c m k g)

-- ---- in a reader's words

-- e is the typed expression x, of type t, where the context gives w
abbrev pub HasType : Scope → Want → tree.Expr → ℕ → Expr → Type 0
HasType c w e t x = Has c w e (Typed t x)

-- e is the universal number n
abbrev pub HasNumber : Scope → Want → tree.Expr → ℤ → Type 0
HasNumber c w e n = Has c w e (Number n)
