-- What one association of an aggregate leads to is what the rules say of it and those that follow.
use Rattle.std.proofs.Common.{◌≡◌, refl, sym, ap, subst, ◌∙◌, ℕ, zero, suc, ◌+◌, ◌<◌, ◌≤◌, Bool, true, false, List, [], ◌∷◌, ◌++◌, length, drop, get_or, Option, Some, None, arith}
use Rattle.std.specs.Prelude.{◌==◌, ◌||◌, is_some, if◌then◌else◌}
use Rattle.std.proofs.lemmas.List.{drop_more}
use Rattle.ada_syntax.specs.declared.expressions.Arg.{Arg as Written}
use Rattle.ada_syntax.specs.declared.expressions.Expr.{Expr}
use Rattle.ada_syntax.specs.declared.expressions.Item.{Item}
use Rattle.ada_values.specs.declared.place.Place.{Place}
use Rattle.front_codes.specs.declared.codes.Code.TheVariants as code
use Rattle.syntax_view.specs.View.{arg_of, args_of, expr, value_of}
use Rattle.typed_units.specs.declared.expressions.Association.{Association}
use Rattle.typed_units.specs.declared.expressions.Expr.{Expr as Typed}
use Rattle.typed_units.specs.declared.operators.Bounds.{Bounds}
use Rattle.type_base.specs.Demands.{broken}
use Rattle.type_base.specs.Scope.{Scope}
use Rattle.type_base.specs.declared.world.Component.{Component}
use Rattle.typing_rules.specs.declared.aggregates.ArrayItems.{ArrayItems}
use Rattle.typing_rules.specs.declared.aggregates.Gathered.{Gathered}
use Rattle.typing_rules.specs.declared.aggregates.Gives.{Gives}
use Rattle.typing_rules.specs.declared.aggregates.Manner.{Manner}
use Rattle.typing_rules.specs.declared.aggregates.Manner.TheVariants as manner
use Rattle.typing_rules.specs.declared.prefix.Found.{Found}
use Rattle.typing_rules.specs.declared.prefix.Found.TheVariants.{Is}
use Rattle.typing_rules.specs.Aggregates.{Sort, chosen, first_given, gathered, gives_else, is_end, is_only, items, misfit, none_gathered, position_range, positional, record_parts, rest, some_values, sort_else, sort_of, stopped, unless_by_choice, unless_by_place, value_for, with_rest}
use Rattle.typing_rules.specs.Calls.{operand_of}
use Rattle.typing_rules.specs.Fits.{both, spoiled}
use Rattle.typing_rules.specs.Lookups.{Array, type_of}
use Rattle.typing_rules.specs.Parts.{Arg}
use Rattle.typing_rules.specs.Reading.{arg, args, value}
use Rattle.aggregate_rules.specs.Steps.{association_gives}
use Rattle.expression_reader.specs.Sorts.{item_step, items_by, sort_read}
use Rattle.expression_reader.specs.declared.sorts.ItemStep.{ItemStep}
use Rattle.expression_reader.specs.declared.sorts.ItemStep.TheVariants as step
use Rattle.expression_reader.specs.declared.sorts.ReadSort.{ReadSort}

-- the associations from the n-th on
abbrev from : Scope → List (Written Expr) → ℕ → List Arg
from c xs n = args c (args_of expr (drop n xs))

one_from : (c : Scope) (xs : List (Written Expr)) (n : ℕ) (a : Written Expr) → n < length xs → from c xs n ≡ arg c (arg_of expr (get_or xs n a)) ∷ from c xs (n + 1)
one_from c xs n a h = ap (λ (ys : List (Written Expr)). args c (args_of expr ys)) (drop_more xs n a h)

drop_all : {A : Type 0} (xs : List A) → drop (length xs) xs ≡ []
drop_all [] = refl
drop_all (x ∷ xs) = drop_all xs

zero_not : (n : ℕ) → false ≡ (zero == suc n)
zero_not n = grind arith

one_less : (n m : ℕ) → (n == m) ≡ (suc n == suc m)
one_less n m = grind arith

-- none follow where as many stand before
pub ends_by : (c : Scope) (xs : List (Written Expr)) (n : ℕ) → n ≤ length xs → is_end (args c (args_of expr (drop n xs))) ≡ (n == length xs)
ends_by c [] zero h = refl
ends_by c [] (suc n) h = absurd (omega arith)
ends_by c (x ∷ xs) zero h = zero_not (length xs)
ends_by c (x ∷ xs) (suc n) h = ends_by c xs n (omega arith) ∙ one_less n (length xs)

pub ended_by : (c : Scope) (xs : List (Written Expr)) (n : ℕ) → n ≤ length xs → length xs ≤ n → from c xs n ≡ []
ended_by c xs n h k = let e : n ≡ length xs = omega arith in subst (λ (m : ℕ). from c xs m ≡ []) (sym e) (ap (λ (ys : List (Written Expr)). args c (args_of expr ys)) (drop_all xs))

-- ---- records

abbrev Parts : Type 0
Parts = Found (List (Association Typed))

-- what follows an association
abbrev followed : Scope → Place → List Component → List ℕ → Bool → Parts → Arg → List Arg → Gives → Parts
followed c p cs given named done x xs g = record_parts c p cs (g.numbers ++ given) (named || is_some x.value) (both (λ xs x. xs ++ (x ∷ [])) done (value_for c cs g (first_given cs g.numbers) (operand_of x))) xs

parts_from : (c : Scope) (p : Place) (cs : List Component) (given : List ℕ) (named : Bool) (done : Parts) (xs : List (Written Expr)) (n : ℕ) (a : Written Expr) → n < length xs →
    gives_else (association_gives c cs given named (arg_of expr (get_or xs n a)) (n + 1 == length xs))
    (spoiled done (broken code.L16 (c.place (arg c (arg_of expr (get_or xs n a))).from)))
    (followed c p cs given named done (arg c (arg_of expr (get_or xs n a))) (from c xs (n + 1)))
    ≡ record_parts c p cs given named done (from c xs n)
parts_from c p cs given named done xs n a h =
    let x = arg c (arg_of expr (get_or xs n a)) in
    let last : is_end (from c xs (n + 1)) ≡ (n + 1 == length xs) = ends_by c xs (n + 1) (omega arith) in
    let here : record_parts c p cs given named done (from c xs n) ≡ record_parts c p cs given named done (x ∷ from c xs (n + 1)) = ap (record_parts c p cs given named done) (one_from c xs n a h) in
    ap (λ (b : Bool). gives_else (association_gives c cs given named (arg_of expr (get_or xs n a)) b) (spoiled done (broken code.L16 (c.place x.from))) (followed c p cs given named done x (from c xs (n + 1)))) (sym last) ∙ sym here

pub part_stops : (c : Scope) (p : Place) (cs : List Component) (given : List ℕ) (named : Bool) (done : Parts) (xs : List (Written Expr)) (n : ℕ) (a : Written Expr) → n < length xs →
    None ≡ association_gives c cs given named (arg_of expr (get_or xs n a)) (n + 1 == length xs) →
    spoiled done (broken code.L16 (c.place (arg c (arg_of expr (get_or xs n a))).from)) ≡ record_parts c p cs given named done (args c (args_of expr (drop n xs)))
part_stops c p cs given named done xs n a h e =
    ap (λ (o : Option Gives). gives_else o (spoiled done (broken code.L16 (c.place (arg c (arg_of expr (get_or xs n a))).from))) (followed c p cs given named done (arg c (arg_of expr (get_or xs n a))) (from c xs (n + 1)))) e
    ∙ parts_from c p cs given named done xs n a h

pub part_goes : (c : Scope) (p : Place) (cs : List Component) (given : List ℕ) (named : Bool) (done : Parts) (xs : List (Written Expr)) (n : ℕ) (a : Written Expr) (g : Gives) → n < length xs →
    Some g ≡ association_gives c cs given named (arg_of expr (get_or xs n a)) (n + 1 == length xs) →
    record_parts c p cs (g.numbers ++ given) (named || is_some (arg c (arg_of expr (get_or xs n a))).value)
    (both (λ xs x. xs ++ (x ∷ [])) done (value_for c cs g (first_given cs g.numbers) (operand_of (arg c (arg_of expr (get_or xs n a)))))) (args c (args_of expr (drop (n + 1) xs)))
    ≡ record_parts c p cs given named done (args c (args_of expr (drop n xs)))
part_goes c p cs given named done xs n a g h e =
    ap (λ (o : Option Gives). gives_else o (spoiled done (broken code.L16 (c.place (arg c (arg_of expr (get_or xs n a))).from))) (followed c p cs given named done (arg c (arg_of expr (get_or xs n a))) (from c xs (n + 1)))) e
    ∙ parts_from c p cs given named done xs n a h

-- ---- arrays

abbrev stepped : Scope → Array → Bounds → ℕ → Bool → Manner → Gathered → Arg → Sort → List Arg → ArrayItems
stepped c a b n last m g x s xs = items_by (item_step c a.item b n last m g x (sort_read c a.item s)) (λ m' g'. items c a b (suc n) m' g' xs)

abbrev sorted : Scope → Array → Bounds → ℕ → Manner → Gathered → Arg → Sort → List Arg → ArrayItems
sorted c a b n m g x s xs =
    sort_else s (stopped c g x)
    (λ o. unless_by_choice m (stopped c g x) (items c a b (suc n) manner.ByPlace (gathered c a g (position_range b n) (Some o)) xs))
    (λ r o. unless_by_place m (stopped c g x) (items c a b (suc n) manner.ByChoice (gathered c a g (some_values (is_only n xs) (c.place x.from) r) (Some o)) xs))
    (λ o. if is_end xs then with_rest c a g o else stopped c g x)

by_end : (last : Bool) (i j : ArrayItems) (f : Manner → Gathered → ArrayItems) → items_by (if last then step.Ended i else step.Ended j) f ≡ (if last then i else j)
by_end true i j f = refl
by_end false i j f = refl

by_sort : (c : Scope) (a : Array) (b : Bounds) (n : ℕ) (m : Manner) (g : Gathered) (x : Arg) (xs : List Arg) (s : Sort) → stepped c a b n (is_end xs) m g x s xs ≡ sorted c a b n m g x s xs
by_sort c a b n manner.Either g x xs (positional o) = refl
by_sort c a b n manner.ByPlace g x xs (positional o) = refl
by_sort c a b n manner.ByChoice g x xs (positional o) = refl
by_sort c a b n manner.Either g x xs (chosen r o) = refl
by_sort c a b n manner.ByPlace g x xs (chosen r o) = refl
by_sort c a b n manner.ByChoice g x xs (chosen r o) = refl
by_sort c a b n m g x xs (rest o) = by_end (is_end xs) (with_rest c a g o) (stopped c g x) (λ m' g'. items c a b (suc n) m' g' xs)
by_sort c a b n m g x xs misfit = refl

-- the step of the n-th association
abbrev pub step_at : Scope → Array → Bounds → ℕ → Manner → Gathered → List (Written Expr) → Written Expr → ItemStep
step_at c a b n m g xs d =
    let x = arg c (arg_of expr d) in item_step c a.item b n (n + 1 == length xs) m g x (sort_read c a.item (sort_of c (type_of c.world a.index) x))

abbrev going : Scope → Array → Bounds → ℕ → List (Written Expr) → Manner → Gathered → ArrayItems
going c a b n xs m g = items c a b (n + 1) m g (from c xs (n + 1))

items_from : (c : Scope) (a : Array) (b : Bounds) (n : ℕ) (m : Manner) (g : Gathered) (xs : List (Written Expr)) (d : Written Expr) → n < length xs →
    items_by (step_at c a b n m g xs (get_or xs n d)) (going c a b n xs) ≡ items c a b n m g (from c xs n)
items_from c a b n m g xs d h =
    let x = arg c (arg_of expr (get_or xs n d)) in
    let s = sort_of c (type_of c.world a.index) x in
    let last : is_end (from c xs (n + 1)) ≡ (n + 1 == length xs) = ends_by c xs (n + 1) (omega arith) in
    let more : suc n ≡ n + 1 = omega arith in
    let here : stepped c a b n (is_end (from c xs (n + 1))) m g x s (from c xs (n + 1)) ≡ items c a b n m g (x ∷ from c xs (n + 1)) = by_sort c a b n m g x (from c xs (n + 1)) s in
    ap (λ (k : ℕ). items_by (step_at c a b n m g xs (get_or xs n d)) (λ m' g'. items c a b k m' g' (from c xs (n + 1)))) (sym more)
    ∙ ap (λ (l : Bool). items_by (item_step c a.item b n l m g x (sort_read c a.item s)) (λ m' g'. items c a b (suc n) m' g' (from c xs (n + 1)))) (sym last)
    ∙ here ∙ ap (items c a b n m g) (sym (one_from c xs n d h))

pub item_stops : (c : Scope) (a : Array) (b : Bounds) (n : ℕ) (m : Manner) (g : Gathered) (xs : List (Written Expr)) (d : Written Expr) (i : ArrayItems) → n < length xs →
    step.Ended i ≡ step_at c a b n m g xs (get_or xs n d) → i ≡ items c a b n m g (args c (args_of expr (drop n xs)))
item_stops c a b n m g xs d i h e = ap (λ (s : ItemStep). items_by s (going c a b n xs)) e ∙ items_from c a b n m g xs d h

pub item_goes : (c : Scope) (a : Array) (b : Bounds) (n : ℕ) (m : Manner) (g : Gathered) (xs : List (Written Expr)) (d : Written Expr) (m' : Manner) (g' : Gathered) → n < length xs →
    step.Further m' g' ≡ step_at c a b n m g xs (get_or xs n d) → items c a b (n + 1) m' g' (args c (args_of expr (drop (n + 1) xs))) ≡ items c a b n m g (args c (args_of expr (drop n xs)))
item_goes c a b n m g xs d m' g' h e = ap (λ (s : ItemStep). items_by s (going c a b n xs)) e ∙ items_from c a b n m g xs d h

-- ---- as the walk asks it, of an association that stands at a place in the list

-- an association with a value is one with a value when it is read
value_there : (c : Scope) (v : Option (Item Expr)) → is_some (value c (value_of expr v)) ≡ is_some v
value_there c (Some i) = refl
value_there c None = refl

pub part_stopped : (c : Scope) (p q : Place) (cs : List Component) (given gs : List ℕ) (named : Bool) (done r : Parts) (xs all : List (Written Expr)) (n : ℕ) (a : Written Expr) (o : Option Gives)
    → n < length xs → a ≡ get_or xs n a → gs ≡ given → o ≡ association_gives c cs gs named (arg_of expr a) (n + 1 == length xs) → o ≡ None → q ≡ c.place (arg c (arg_of expr a)).from
    → r ≡ spoiled done (broken code.L16 q) → record_parts c p cs given named done (args c (args_of expr (drop n xs))) ≡ record_parts c p cs [] false (Is []) (args c (args_of expr xs)) → xs ≡ all
    → r ≡ record_parts c p cs [] false (Is []) (args c (args_of expr all))
part_stopped c p q cs given gs named done r xs all n a o h is same gives none place made before whole =
    let here : None ≡ association_gives c cs given named (arg_of expr a) (n + 1 == length xs) = sym none ∙ gives ∙ ap (λ (ns : List ℕ). association_gives c cs ns named (arg_of expr a) (n + 1 == length xs)) same in
    let there : None ≡ association_gives c cs given named (arg_of expr (get_or xs n a)) (n + 1 == length xs) = here ∙ ap (λ (b : Written Expr). association_gives c cs given named (arg_of expr b) (n + 1 == length xs)) is in
    made ∙ ap (λ (k : Place). spoiled done (broken code.L16 k)) place
    ∙ ap (λ (b : Written Expr). spoiled done (broken code.L16 (c.place (arg c (arg_of expr b)).from))) is
    ∙ part_stops c p cs given named done xs n a h there ∙ before ∙ ap (λ (ys : List (Written Expr)). record_parts c p cs [] false (Is []) (args c (args_of expr ys))) whole

pub part_went : (c : Scope) (p : Place) (cs : List Component) (given gs given' : List ℕ) (named named' : Bool) (done done' : Parts) (xs : List (Written Expr)) (n : ℕ) (a : Written Expr) (o : Option Gives) (g : Gives)
    → n < length xs → a ≡ get_or xs n a → gs ≡ given → o ≡ association_gives c cs gs named (arg_of expr a) (n + 1 == length xs) → o ≡ Some g
    → given' ≡ g.numbers ++ given → named' ≡ (named || is_some a.value)
    → done' ≡ both (λ xs x. xs ++ (x ∷ [])) done (value_for c cs g (first_given cs g.numbers) (operand_of (arg c (arg_of expr a))))
    → record_parts c p cs given' named' done' (args c (args_of expr (drop (n + 1) xs))) ≡ record_parts c p cs given named done (args c (args_of expr (drop n xs)))
part_went c p cs given gs given' named named' done done' xs n a o g h is same gives some numbers name found =
    let here : Some g ≡ association_gives c cs given named (arg_of expr a) (n + 1 == length xs) = sym some ∙ gives ∙ ap (λ (ns : List ℕ). association_gives c cs ns named (arg_of expr a) (n + 1 == length xs)) same in
    let there : Some g ≡ association_gives c cs given named (arg_of expr (get_or xs n a)) (n + 1 == length xs) = here ∙ ap (λ (b : Written Expr). association_gives c cs given named (arg_of expr b) (n + 1 == length xs)) is in
    let left = from c xs (n + 1) in
    ap (λ (ns : List ℕ). record_parts c p cs ns named' done' left) numbers
    ∙ ap (λ (b : Bool). record_parts c p cs (g.numbers ++ given) b done' left) (name ∙ ap (λ (b : Bool). named || b) (sym (value_there c a.value)))
    ∙ ap (λ (d : Parts). record_parts c p cs (g.numbers ++ given) (named || is_some (arg c (arg_of expr a)).value) d left) found
    ∙ ap (λ (b : Written Expr). followed c p cs given named done (arg c (arg_of expr b)) left g) is
    ∙ part_goes c p cs given named done xs n a g h there

step_made : (c : Scope) (a : Array) (b : Bounds) (n : ℕ) (m : Manner) (g : Gathered) (xs : List (Written Expr)) (x : Written Expr) (t : ℕ) (s : ReadSort) (w : ItemStep) → x ≡ get_or xs n x → t ≡ type_of c.world a.index
    → s ≡ sort_read c a.item (sort_of c t (arg c (arg_of expr x))) → w ≡ item_step c a.item b n (n + 1 == length xs) m g (arg c (arg_of expr x)) s → w ≡ step_at c a b n m g xs (get_or xs n x)
step_made c a b n m g xs x t s w is ty sort made =
    let y = arg c (arg_of expr x) in
    made ∙ ap (item_step c a.item b n (n + 1 == length xs) m g y) sort ∙ ap (λ (k : ℕ). item_step c a.item b n (n + 1 == length xs) m g y (sort_read c a.item (sort_of c k y))) ty
    ∙ ap (step_at c a b n m g xs) is

pub item_stopped : (c : Scope) (a : Array) (b : Bounds) (n : ℕ) (m : Manner) (g : Gathered) (xs all : List (Written Expr)) (x : Written Expr) (t : ℕ) (s : ReadSort) (w : ItemStep) (i : ArrayItems)
    → n < length xs → x ≡ get_or xs n x → t ≡ type_of c.world a.index → s ≡ sort_read c a.item (sort_of c t (arg c (arg_of expr x)))
    → w ≡ item_step c a.item b n (n + 1 == length xs) m g (arg c (arg_of expr x)) s → w ≡ step.Ended i
    → items c a b n m g (args c (args_of expr (drop n xs))) ≡ items c a b 0 manner.Either none_gathered (args c (args_of expr xs)) → xs ≡ all → i ≡ items c a b 0 manner.Either none_gathered (args c (args_of expr all))
item_stopped c a b n m g xs all x t s w i h is ty sort made ended before whole =
    item_stops c a b n m g xs x i h (sym ended ∙ step_made c a b n m g xs x t s w is ty sort made) ∙ before ∙ ap (λ (ys : List (Written Expr)). items c a b 0 manner.Either none_gathered (args c (args_of expr ys))) whole

pub item_went : (c : Scope) (a : Array) (b : Bounds) (n : ℕ) (m : Manner) (g : Gathered) (xs : List (Written Expr)) (x : Written Expr) (t : ℕ) (s : ReadSort) (w : ItemStep) (m' : Manner) (g' : Gathered)
    → n < length xs → x ≡ get_or xs n x → t ≡ type_of c.world a.index → s ≡ sort_read c a.item (sort_of c t (arg c (arg_of expr x)))
    → w ≡ item_step c a.item b n (n + 1 == length xs) m g (arg c (arg_of expr x)) s → w ≡ step.Further m' g'
    → items c a b (n + 1) m' g' (args c (args_of expr (drop (n + 1) xs))) ≡ items c a b n m g (args c (args_of expr (drop n xs)))
item_went c a b n m g xs x t s w m' g' h is ty sort made further =
    item_goes c a b n m g xs x m' g' h (sym further ∙ step_made c a b n m g xs x t s w is ty sort made)

false_true : false ≡ true → ⊥
false_true e = cc

pub name_kept : (b b' v : Bool) → b' ≡ b → b ≡ true → b' ≡ (b || v)
name_kept true b' v e h = e
name_kept false b' v e h = absurd (false_true h)

pub name_found : (b b' w v : Bool) → b' ≡ w → b ≡ false → w ≡ v → b' ≡ (b || v)
name_found false b' w v e h i = e ∙ i
name_found true b' w v e h i = absurd (false_true (sym h))
