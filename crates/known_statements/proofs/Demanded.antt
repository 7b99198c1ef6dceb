-- What is found of the arguments of pragmas whose names are declared.
use Rattle.std.proofs.Common.{ℕ, List, [], Option, Some, None}
use Rattle.ada_values.specs.declared.place.Place.{Place}
use Rattle.front_codes.specs.declared.codes.Code.TheVariants.{L9, L25}
use Rattle.name_numbers.specs.declared.words.Word.{Word}
use Rattle.name_numbers.specs.declared.words.Word.TheVariants as word
use Rattle.syntax_view.specs.Trees as tree
use Rattle.typed_units.specs.declared.expressions.Expr.{Expr}
use Rattle.typed_units.specs.declared.statements.Direction.{Direction}
use Rattle.typed_units.specs.declared.statements.Way.{Way}
use Rattle.type_base.specs.Demands.{broken, operand}
use Rattle.type_base.specs.Scope.{Scope}
use Rattle.type_base.specs.Standard.{integer_base}
use Rattle.type_base.specs.declared.seen.Demand.TheVariants as demand
use Rattle.type_base.specs.declared.seen.Seen.{Seen}
use Rattle.type_base.specs.declared.seen.Seen.TheVariants as seen'
use Rattle.type_base.specs.declared.seen.Want.TheVariants as want
use Rattle.type_base.specs.declared.world.World.{World}
use Rattle.expression_rules.specs.Known.{IsKnown}
use Rattle.typing_rules.specs.Reading.{item_seen}
use Rattle.typing_rules.specs.declared.prefix.Found.{Found}
use Rattle.typing_rules.specs.declared.prefix.Found.TheVariants.{Is}
use Rattle.typing_laws.specs.Declared.{IsSound, ItemDeclared}
use Rattle.typing_laws.proofs.KnownRanges.{operand_as}
use Rattle.typing_laws.proofs.KnownTrees.{item_seen_known}
use Rattle.typing_laws.proofs.Standing.{IsFound, IsPlaced, integer_there, number_placed, with_found_found}
use Rattle.statement_typing.specs.Asked.{item_place}
use Rattle.statement_typing.specs.Aspects.{item_condition}
use Rattle.statement_typing.specs.Checks.{added}
use Rattle.statement_typing.specs.Pragmas.{as_integer, checked, checked_arg, checked_by, choice_word, direction_of, integer_seen, moved_value, no_more, way, way_by, ways, ways_onto}
use Rattle.known_statements.specs.Declared.{ArgumentDeclared, ArgumentsDeclared}
use Rattle.known_statements.proofs.Asked.{added_found, beside_found, item_condition_found, refused_found}

-- ---- conditions

unchecked : (c : Scope) (p : Place) (i : tree.Item) → IsFound (checked_by c p None i)
unchecked c p i = refused_found (λ (x : Expr) (y : Expr). x) (broken L9 p) (item_condition c L9 i)

checked_by_found : (c : Scope) (p : Place) (w : Option Word) (i : tree.Item) → IsSound c.world → ItemDeclared c i → IsFound (checked_by c p w i)
checked_by_found c p (Some word.Check) i sound h = item_condition_found c L9 i sound h
checked_by_found c p None i sound h = unchecked c p i
checked_by_found c p (Some word.SparkMode) i sound h = unchecked c p i
checked_by_found c p (Some word.Pure) i sound h = unchecked c p i
checked_by_found c p (Some word.Preelaborate) i sound h = unchecked c p i
checked_by_found c p (Some word.Assert) i sound h = unchecked c p i
checked_by_found c p (Some word.Assume) i sound h = unchecked c p i
checked_by_found c p (Some word.LoopInvariant) i sound h = unchecked c p i
checked_by_found c p (Some word.LoopVariant) i sound h = unchecked c p i
checked_by_found c p (Some word.Pre) i sound h = unchecked c p i
checked_by_found c p (Some word.Post) i sound h = unchecked c p i
checked_by_found c p (Some word.Global) i sound h = unchecked c p i
checked_by_found c p (Some word.First) i sound h = unchecked c p i
checked_by_found c p (Some word.Last) i sound h = unchecked c p i
checked_by_found c p (Some word.Length) i sound h = unchecked c p i
checked_by_found c p (Some word.Succ) i sound h = unchecked c p i
checked_by_found c p (Some word.Pred) i sound h = unchecked c p i
checked_by_found c p (Some word.Pos) i sound h = unchecked c p i
checked_by_found c p (Some word.Val) i sound h = unchecked c p i
checked_by_found c p (Some word.Old) i sound h = unchecked c p i
checked_by_found c p (Some word.Result) i sound h = unchecked c p i
checked_by_found c p (Some word.LoopEntry) i sound h = unchecked c p i
checked_by_found c p (Some word.On) i sound h = unchecked c p i
checked_by_found c p (Some word.Increases) i sound h = unchecked c p i
checked_by_found c p (Some word.Decreases) i sound h = unchecked c p i
checked_by_found c p (Some word.Input) i sound h = unchecked c p i
checked_by_found c p (Some word.Output) i sound h = unchecked c p i
checked_by_found c p (Some word.InOut) i sound h = unchecked c p i

checked_arg_found : (word' : ℕ → Option Word) (c : Scope) (a : tree.Arg) → IsSound c.world → ArgumentDeclared c a → IsFound (checked_arg word' c a)
checked_arg_found word' c (tree.arg s (tree.part i) tree.no_value) sound h = item_condition_found c L9 i sound h
checked_arg_found word' c (tree.arg s tree.other_parts tree.no_value) sound h = tt
checked_arg_found word' c (tree.arg s (tree.parts l k) tree.no_value) sound h = tt
checked_arg_found word' c (tree.arg s (tree.part j) (tree.value i)) sound h = checked_by_found c (c.place s.from) (choice_word word' (tree.part j)) i sound h
checked_arg_found word' c (tree.arg s tree.other_parts (tree.value i)) sound h = checked_by_found c (c.place s.from) (choice_word word' tree.other_parts) i sound h
checked_arg_found word' c (tree.arg s (tree.parts l k) (tree.value i)) sound h = checked_by_found c (c.place s.from) (choice_word word' (tree.parts l k)) i sound h

no_more_found : (c : Scope) (as' : tree.Args) → IsFound (no_more c as')
no_more_found c tree.no_args = tt
no_more_found c (tree.args (tree.arg s k v) as') = tt

pub checked_found : (word' : ℕ → Option Word) (c : Scope) (p : Place) (as' : tree.Args) → IsSound c.world → ArgumentsDeclared c as' → IsFound (checked word' c p as')
checked_found word' c p tree.no_args sound h = tt
checked_found word' c p (tree.args a as') sound h = beside_found (checked_arg word' c a) (no_more c as') (checked_arg_found word' c a sound h.0) (no_more_found c as')

-- ---- directions

integer_found : (w : World) (p : Place) (s : Seen) → IsPlaced w s → IsFound (integer_seen p s)
integer_found w p (seen'.Refused f) h = tt
integer_found w p seen'.Unknown h = absurd h
integer_found w p (seen'.Number n) h = absurd h
integer_found w p (seen'.Typed t x) h = tt

as_integer_placed : (w : World) (p : Place) (s : Seen) → IsSound w → IsKnown w s → IsPlaced w (as_integer w p s)
as_integer_placed w p (seen'.Refused f) sound h = tt
as_integer_placed w p seen'.Unknown sound h = absurd h
as_integer_placed w p (seen'.Number n) sound h = number_placed w L25 p p integer_base n (integer_there w sound)
as_integer_placed w p (seen'.Typed t x) sound h = h

moved_found : (c : Scope) (i : tree.Item) → IsSound c.world → ItemDeclared c i → IsFound (moved_value c.world (item_place c i) (item_seen c want.Free i))
moved_found c i sound h =
    let p = item_place c i in
    let s = operand c.world demand.Integer L25 p (item_seen c want.Free i) in
    integer_found c.world p (as_integer c.world p s) (as_integer_placed c.world p s sound (operand_as c.world demand.Integer L25 p (item_seen c want.Free i) (item_seen_known c want.Free sound tt i h)))

way_by_found : (c : Scope) (p : Place) (d : Option Direction) (i : tree.Item) → IsSound c.world → ItemDeclared c i → IsFound (way_by c p d i)
way_by_found c p (Some d) i sound h =
    with_found_found (λ (x : Expr). record { direction = d; value = x }) (moved_value c.world (item_place c i) (item_seen c want.Free i)) (moved_found c i sound h)
way_by_found c p None i sound h = refused_found (λ (x : Way) (y : Expr). x) (broken L25 p) (moved_value c.world (item_place c i) (item_seen c want.Free i))

way_found : (word' : ℕ → Option Word) (c : Scope) (a : tree.Arg) → IsSound c.world → ArgumentDeclared c a → IsFound (way word' c a)
way_found word' c (tree.arg s k (tree.value i)) sound h = way_by_found c (c.place s.from) (direction_of (choice_word word' k)) i sound h
way_found word' c (tree.arg s k tree.no_value) sound h = tt

ways_onto_found : (word' : ℕ → Option Word) (c : Scope) (done : Found (List Way)) (as' : tree.Args) → IsSound c.world → IsFound done → ArgumentsDeclared c as' → IsFound (ways_onto word' c done as')
ways_onto_found word' c done tree.no_args sound h i = h
ways_onto_found word' c done (tree.args a as') sound h i =
    ways_onto_found word' c (added done (way word' c a)) as' sound (added_found done (way word' c a) h (way_found word' c a sound i.0)) i.1

pub ways_found : (word' : ℕ → Option Word) (c : Scope) (p : Place) (as' : tree.Args) → IsSound c.world → ArgumentsDeclared c as' → IsFound (ways word' c p as')
ways_found word' c p tree.no_args sound h = tt
ways_found word' c p (tree.args a as') sound h = ways_onto_found word' c (Is []) (tree.args a as') sound tt h
