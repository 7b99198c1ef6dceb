-- What is told of aspects and of pragmas.
use Rattle.std.proofs.Common.{refl, List, [], ◌∷◌, ◌++◌, Option, Some, None, Bool, true}
use Rattle.std.specs.Prelude.{ℕ}
use Rattle.ada_values.specs.declared.place.Place.{Place}
use Rattle.front_codes.specs.declared.codes.Code.{Code}
use Rattle.front_codes.specs.declared.codes.Code.TheVariants.{L9, L25, L28, L30}
use Rattle.front_codes.specs.declared.codes.Refusal.{Refusal}
use Rattle.name_numbers.specs.declared.words.Word.{Word}
use Rattle.name_numbers.specs.declared.words.Word.TheVariants as word
use Rattle.typed_units.specs.declared.expressions.Expr.{Expr}
use Rattle.typed_units.specs.declared.statements.Direction.{Direction}
use Rattle.typed_units.specs.declared.statements.Way.{Way}
use Rattle.type_base.specs.declared.seen.Moment.TheVariants as moment
use Rattle.type_base.specs.declared.seen.Want.TheVariants as want
use Rattle.type_base.specs.declared.world.World.{World}
use Rattle.type_base.specs.Scope.{Scope}
use Rattle.type_base.specs.Standard.{boolean}
use Rattle.syntax_view.specs.Trees as tree
use Rattle.typing_rules.specs.Fits.{found_fault}
use Rattle.typing_rules.specs.Reading.{item_seen}
use Rattle.typing_rules.specs.declared.prefix.Found.{Found}
use Rattle.typing_rules.specs.declared.prefix.Found.TheVariants.{Is}
use Rattle.statement_typing.specs.Asked.{item_faults, item_place}
use Rattle.statement_typing.specs.Checks.{added, all_of, and_also, broken, fault_beyond, fault_in, refuse, unless}
use Rattle.statement_typing.specs.Files.{Home, place_at, scope}
use Rattle.statement_typing.specs.declared.parts.Stated.TheVariants.{Global, Post, Pre}
use Rattle.statement_typing.specs.Aspects.{aspect_faults, aspect_found, aspect_number, aspects_faults, aspects_found, condition, contract_of, faults_in, global_items, item_condition, item_condition_faults, may_stand, stated, stated_faults}
use Rattle.statement_typing.specs.Pragmas.{checked, checked_arg, checked_arg_faults, checked_by, checked_by_faults, checked_faults, choice_word, direction_of, moved_value, no_more, no_more_faults, way, way_by, way_by_faults, way_faults, ways, ways_faults, ways_from_faults, ways_onto}
use Rattle.typing_laws.proofs.Merging.{first_alone, first_joined}
use Rattle.typing_laws.proofs.Trees.{item_seen_first}
use Rattle.statement_laws.proofs.Telling.{Hears, Told, told_both, told_broken, told_in, told_seen, told_with}
use Rattle.statement_laws.proofs.Definitions.{told_added}
use Rattle.statement_laws.proofs.Lists.{AllTold, each_told, first_grouped, more_told, none_told}

-- ---- conditions

pub condition_hears : (w : World) (r : Code) (p : Place) → Hears (condition w r p)
condition_hears w r p = record { refused = λ f. refl; unknown = refl }

pub item_condition_told : (c : Scope) (r : Code) (i : tree.Item) → Told (item_condition c r i) (item_condition_faults c r i)
item_condition_told c r i =
    told_seen (condition c.world r (item_place c i)) (item_seen c (want.Type boolean) i) (item_faults c (want.Type boolean) i)
    (condition_hears c.world r (item_place c i)) (item_seen_first c (want.Type boolean) i)

-- ---- aspects

pub globals_told : (h : Home) (c : Scope) (i : tree.Item) → Told (all_of (global_items h c i)) (faults_in (global_items h c i))
globals_told h c i = each_told (global_items h c i) (Is []) [] refl

pub stated_told : (h : Home) (w : World) (p : Place) (a : Option Word) (i : Option tree.Item) → Told (stated h w p a i) (stated_faults h w p a i)
stated_told h w p (Some word.Pre) (Some i) =
    told_with (λ x. Pre (contract_of p x)) (item_condition (scope h moment.Elsewhere w) L28 i) (item_condition_faults (scope h moment.Elsewhere w) L28 i)
    (item_condition_told (scope h moment.Elsewhere w) L28 i)
stated_told h w p (Some word.Pre) None = told_broken L28 p
stated_told h w p (Some word.Post) (Some i) =
    told_with (λ x. Post (contract_of p x)) (item_condition (scope h moment.InPost w) L28 i) (item_condition_faults (scope h moment.InPost w) L28 i)
    (item_condition_told (scope h moment.InPost w) L28 i)
stated_told h w p (Some word.Post) None = told_broken L28 p
stated_told h w p (Some word.Global) (Some i) =
    told_with (λ gs. Global (record { place = p; items = gs })) (all_of (global_items h (scope h moment.Elsewhere w) i)) (faults_in (global_items h (scope h moment.Elsewhere w) i))
    (globals_told h (scope h moment.Elsewhere w) i)
stated_told h w p (Some word.Global) None = told_broken L30 p
stated_told h w p None i = refl
stated_told h w p (Some word.SparkMode) i = refl
stated_told h w p (Some word.Pure) i = refl
stated_told h w p (Some word.Preelaborate) i = refl
stated_told h w p (Some word.Assert) i = refl
stated_told h w p (Some word.Assume) i = refl
stated_told h w p (Some word.LoopInvariant) i = refl
stated_told h w p (Some word.LoopVariant) i = refl
stated_told h w p (Some word.First) i = refl
stated_told h w p (Some word.Last) i = refl
stated_told h w p (Some word.Length) i = refl
stated_told h w p (Some word.Succ) i = refl
stated_told h w p (Some word.Pred) i = refl
stated_told h w p (Some word.Pos) i = refl
stated_told h w p (Some word.Val) i = refl
stated_told h w p (Some word.Old) i = refl
stated_told h w p (Some word.Result) i = refl
stated_told h w p (Some word.LoopEntry) i = refl
stated_told h w p (Some word.On) i = refl
stated_told h w p (Some word.Check) i = refl
stated_told h w p (Some word.Increases) i = refl
stated_told h w p (Some word.Decreases) i = refl
stated_told h w p (Some word.Input) i = refl
stated_told h w p (Some word.Output) i = refl
stated_told h w p (Some word.InOut) i = refl

pub aspect_told : (h : Home) (w : World) (first : Bool) (ns : List ℕ) (a : tree.Aspect) → Told (aspect_found h w first ns a) (aspect_faults h w first ns a)
aspect_told h w first ns a =
    told_both (λ u s. s) (unless (may_stand first ns (aspect_number (h.file.word a.name.from))) L28 (place_at h a.span) true)
    (stated h w (place_at h a.name) (h.file.word a.name.from) a.value)
    (fault_in (unless (may_stand first ns (aspect_number (h.file.word a.name.from))) L28 (place_at h a.span) true))
    (stated_faults h w (place_at h a.name) (h.file.word a.name.from) a.value)
    (told_in (unless (may_stand first ns (aspect_number (h.file.word a.name.from))) L28 (place_at h a.span) true))
    (stated_told h w (place_at h a.name) (h.file.word a.name.from) a.value)

aspects_each : (h : Home) (w : World) (first : Bool) (ns : List ℕ) (as' : List tree.Aspect) → AllTold (aspects_found h w first ns as') (aspects_faults h w first ns as')
aspects_each h w first ns [] = none_told
aspects_each h w first ns (a ∷ as') =
    more_told (aspect_found h w first ns a) (aspects_found h w first (aspect_number (h.file.word a.name.from) ∷ ns) as')
    (aspect_faults h w first ns a) (aspects_faults h w first (aspect_number (h.file.word a.name.from) ∷ ns) as')
    (aspect_told h w first ns a) (aspects_each h w first (aspect_number (h.file.word a.name.from) ∷ ns) as')

pub aspects_told : (h : Home) (w : World) (first : Bool) (ns : List ℕ) (as' : List tree.Aspect) → Told (all_of (aspects_found h w first ns as')) (aspects_faults h w first ns as')
aspects_told h w first ns as' = aspects_each h w first ns as' (Is []) [] refl

-- ---- assertions

unchecked : (c : Scope) (p : Place) (i : tree.Item) → Told (and_also {A = Expr} (refuse L9 p) (item_condition c L9 i)) (broken L9 p ++ item_condition_faults c L9 i)
unchecked c p i = told_both (λ x y. x) (refuse {A = Expr} L9 p) (item_condition c L9 i) (broken L9 p) (item_condition_faults c L9 i) (told_broken L9 p) (item_condition_told c L9 i)

checked_by_told : (c : Scope) (p : Place) (w : Option Word) (i : tree.Item) → Told (checked_by c p w i) (checked_by_faults c p w i)
checked_by_told c p (Some word.Check) i = item_condition_told c L9 i
checked_by_told c p None i = unchecked c p i
checked_by_told c p (Some word.SparkMode) i = unchecked c p i
checked_by_told c p (Some word.Pure) i = unchecked c p i
checked_by_told c p (Some word.Preelaborate) i = unchecked c p i
checked_by_told c p (Some word.Assert) i = unchecked c p i
checked_by_told c p (Some word.Assume) i = unchecked c p i
checked_by_told c p (Some word.LoopInvariant) i = unchecked c p i
checked_by_told c p (Some word.LoopVariant) i = unchecked c p i
checked_by_told c p (Some word.Pre) i = unchecked c p i
checked_by_told c p (Some word.Post) i = unchecked c p i
checked_by_told c p (Some word.Global) i = unchecked c p i
checked_by_told c p (Some word.First) i = unchecked c p i
checked_by_told c p (Some word.Last) i = unchecked c p i
checked_by_told c p (Some word.Length) i = unchecked c p i
checked_by_told c p (Some word.Succ) i = unchecked c p i
checked_by_told c p (Some word.Pred) i = unchecked c p i
checked_by_told c p (Some word.Pos) i = unchecked c p i
checked_by_told c p (Some word.Val) i = unchecked c p i
checked_by_told c p (Some word.Old) i = unchecked c p i
checked_by_told c p (Some word.Result) i = unchecked c p i
checked_by_told c p (Some word.LoopEntry) i = unchecked c p i
checked_by_told c p (Some word.On) i = unchecked c p i
checked_by_told c p (Some word.Increases) i = unchecked c p i
checked_by_told c p (Some word.Decreases) i = unchecked c p i
checked_by_told c p (Some word.Input) i = unchecked c p i
checked_by_told c p (Some word.Output) i = unchecked c p i
checked_by_told c p (Some word.InOut) i = unchecked c p i

checked_arg_told : (word' : ℕ → Option Word) (c : Scope) (a : tree.Arg) → Told (checked_arg word' c a) (checked_arg_faults word' c a)
checked_arg_told word' c (tree.arg s (tree.part i) tree.no_value) = item_condition_told c L9 i
checked_arg_told word' c (tree.arg s tree.other_parts tree.no_value) = told_broken L9 (c.place s.from)
checked_arg_told word' c (tree.arg s (tree.parts l h) tree.no_value) = told_broken L9 (c.place s.from)
checked_arg_told word' c (tree.arg s (tree.part j) (tree.value i)) = checked_by_told c (c.place s.from) (choice_word word' (tree.part j)) i
checked_arg_told word' c (tree.arg s tree.other_parts (tree.value i)) = checked_by_told c (c.place s.from) (choice_word word' tree.other_parts) i
checked_arg_told word' c (tree.arg s (tree.parts l h) (tree.value i)) = checked_by_told c (c.place s.from) (choice_word word' (tree.parts l h)) i

no_more_told : (c : Scope) (as' : tree.Args) → Told (no_more c as') (no_more_faults c as')
no_more_told c tree.no_args = refl
no_more_told c (tree.args (tree.arg s k v) as') = told_broken L9 (c.place s.from)

pub checked_told : (word' : ℕ → Option Word) (c : Scope) (p : Place) (as' : tree.Args) → Told (checked word' c p as') (checked_faults word' c p as')
checked_told word' c p tree.no_args = told_broken L9 p
checked_told word' c p (tree.args a as') =
    told_both (λ x y. x) (checked_arg word' c a) (no_more c as') (checked_arg_faults word' c a) (no_more_faults c as') (checked_arg_told word' c a) (no_more_told c as')

-- ---- variants

moved_hears : (w : World) (p : Place) → Hears (moved_value w p)
moved_hears w p = record { refused = λ f. refl; unknown = refl }

moved_told : (c : Scope) (i : tree.Item) → Told (moved_value c.world (item_place c i) (item_seen c want.Free i)) (item_faults c want.Free i ++ fault_beyond (item_seen c want.Free i) (moved_value c.world (item_place c i) (item_seen c want.Free i)))
moved_told c i = told_seen (moved_value c.world (item_place c i)) (item_seen c want.Free i) (item_faults c want.Free i) (moved_hears c.world (item_place c i)) (item_seen_first c want.Free i)

way_by_told : (c : Scope) (p : Place) (d : Option Direction) (i : tree.Item) → Told (way_by c p d i) (way_by_faults c p d i)
way_by_told c p (Some d) i =
    told_with (λ x. record { direction = d; value = x }) (moved_value c.world (item_place c i) (item_seen c want.Free i))
    (item_faults c want.Free i ++ fault_beyond (item_seen c want.Free i) (moved_value c.world (item_place c i) (item_seen c want.Free i))) (moved_told c i)
way_by_told c p None i =
    first_grouped (found_fault (way_by c p None i)) (broken L25 p) (item_faults c want.Free i) (fault_beyond (item_seen c want.Free i) (moved_value c.world (item_place c i) (item_seen c want.Free i)))
    (told_both (λ x y. x) (refuse {A = Way} L25 p) (moved_value c.world (item_place c i) (item_seen c want.Free i)) (broken L25 p)
    (item_faults c want.Free i ++ fault_beyond (item_seen c want.Free i) (moved_value c.world (item_place c i) (item_seen c want.Free i))) (told_broken L25 p) (moved_told c i))

way_told : (word' : ℕ → Option Word) (c : Scope) (a : tree.Arg) → Told (way word' c a) (way_faults word' c a)
way_told word' c (tree.arg s k (tree.value i)) = way_by_told c (c.place s.from) (direction_of (choice_word word' k)) i
way_told word' c (tree.arg s k tree.no_value) = told_broken L25 (c.place s.from)

ways_onto_told : (word' : ℕ → Option Word) (c : Scope) (as' : tree.Args) (done : Found (List Way)) (fs : List Refusal) → Told done fs → Told (ways_onto word' c done as') (fs ++ ways_from_faults word' c as')
ways_onto_told word' c tree.no_args done fs h = first_alone (found_fault done) fs h
ways_onto_told word' c (tree.args a as') done fs h =
    first_joined (found_fault (ways_onto word' c (added done (way word' c a)) as')) fs (way_faults word' c a) (ways_from_faults word' c as')
    (ways_onto_told word' c as' (added done (way word' c a)) (fs ++ way_faults word' c a) (told_added done (way word' c a) fs (way_faults word' c a) h (way_told word' c a)))

pub ways_told : (word' : ℕ → Option Word) (c : Scope) (p : Place) (as' : tree.Args) → Told (ways word' c p as') (ways_faults word' c p as')
ways_told word' c p tree.no_args = told_broken L25 p
ways_told word' c p (tree.args a as') = ways_onto_told word' c (tree.args a as') (Is []) [] refl
