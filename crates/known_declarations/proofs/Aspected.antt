-- What is found of aspects whose names are declared.
use Rattle.std.proofs.Common.{ℕ, Bool, true, false, List, [], ◌∷◌, Option, Some, None}
use Rattle.std.specs.Prelude.{not, if◌then◌else◌}
use Rattle.ada_text.specs.declared.token.Span.{Span}
use Rattle.ada_values.specs.declared.place.Place.{Place}
use Rattle.front_codes.specs.declared.codes.Code.TheVariants.{L28, L30}
use Rattle.name_numbers.specs.declared.words.Word.{Word}
use Rattle.name_numbers.specs.declared.words.Word.TheVariants as word
use Rattle.syntax_view.specs.Trees as tree
use Rattle.typed_units.specs.declared.operators.Object.TheVariants as object
use Rattle.typed_units.specs.declared.programs.GlobalMode.{GlobalMode}
use Rattle.typed_units.specs.declared.programs.GlobalMode.TheVariants as mode
use Rattle.type_base.specs.Scope.{Scope}
use Rattle.type_base.specs.declared.entities.Entity.TheVariants as entity
use Rattle.type_base.specs.declared.seen.Moment.TheVariants as moment
use Rattle.type_base.specs.declared.world.World.{World}
use Rattle.typing_rules.specs.declared.prefix.Found.{Found}
use Rattle.typing_rules.specs.declared.prefix.Found.TheVariants.{Refused, Unknown, Is}
use Rattle.typing_laws.specs.Declared.{ArgsDeclared, IsSound, ItemDeclared}
use Rattle.typing_laws.proofs.Standing.{IsFound, both_found, with_found_found}
use Rattle.statement_typing.specs.Aspects.{aspect_number, aspects_found, choice_mode, contract_of, distinct, fresh, global_items, globals_after, globals_in, has_global, has_mode, in_parentheses, item_condition, listed, listed_arg, listed_args, listed_mark, listed_names, may_stand, moded, moded_args, modes_after, stated}
use Rattle.statement_typing.specs.Checks.{all_of, refuse, unless}
use Rattle.statement_typing.specs.Files.{Home, place_at, scope}
use Rattle.statement_typing.specs.Subtypes.{Mark, mark, mark_of}
use Rattle.statement_typing.specs.declared.parts.Listed.{Listed}
use Rattle.statement_typing.specs.declared.parts.Stated.{Stated}
use Rattle.statement_typing.specs.declared.parts.Stated.TheVariants.{Global, Post, Pre}
use Rattle.known_statements.specs.Declared.{ArgumentDeclared, ArgumentsDeclared}
use Rattle.known_statements.proofs.Asked.{AllFound, all_found, item_condition_found, joined_found, unless_found}
use Rattle.known_declarations.specs.Declared.{AspectsDeclared, GlobalsDeclared, StatedDeclared}
use Rattle.known_declarations.proofs.Indicated.{MarkDeclared, mark_declared}

-- ---- the names of globals

listed_mark_found : (c : Scope) (p : Place) (m : GlobalMode) (x : Mark) → MarkDeclared c x → IsFound (listed_mark p m x)
listed_mark_found c p m (mark entity.Unknown rest) h = absurd h.0
listed_mark_found c p m (mark entity.Package tree.no_suffixes) h = tt
listed_mark_found c p m (mark entity.Package (tree.suffixes s rest)) h = tt
listed_mark_found c p m (mark (entity.Subtype k) tree.no_suffixes) h = tt
listed_mark_found c p m (mark (entity.Subtype k) (tree.suffixes s rest)) h = tt
listed_mark_found c p m (mark (entity.Routine q) tree.no_suffixes) h = tt
listed_mark_found c p m (mark (entity.Routine q) (tree.suffixes s rest)) h = tt
listed_mark_found c p m (mark (entity.Number n) tree.no_suffixes) h = tt
listed_mark_found c p m (mark (entity.Number n) (tree.suffixes s rest)) h = tt
listed_mark_found c p m (mark (entity.Literal k n) tree.no_suffixes) h = tt
listed_mark_found c p m (mark (entity.Literal k n) (tree.suffixes s rest)) h = tt
listed_mark_found c p m (mark (entity.Static k n) tree.no_suffixes) h = tt
listed_mark_found c p m (mark (entity.Static k n) (tree.suffixes s rest)) h = tt
listed_mark_found c p m (mark (entity.Constant k n) tree.no_suffixes) h = tt
listed_mark_found c p m (mark (entity.Constant k n) (tree.suffixes s rest)) h = tt
listed_mark_found c p m (mark (entity.Object k (object.Global g) a) tree.no_suffixes) h = tt
listed_mark_found c p m (mark (entity.Object k (object.Global g) a) (tree.suffixes s rest)) h = tt
listed_mark_found c p m (mark (entity.Object k (object.Local g) a) tree.no_suffixes) h = tt
listed_mark_found c p m (mark (entity.Object k (object.Local g) a) (tree.suffixes s rest)) h = tt
listed_mark_found c p m (mark (entity.Object k (object.Param g) a) tree.no_suffixes) h = tt
listed_mark_found c p m (mark (entity.Object k (object.Param g) a) (tree.suffixes s rest)) h = tt
listed_mark_found c p m (mark (entity.Object k (object.Turn g) a) tree.no_suffixes) h = tt
listed_mark_found c p m (mark (entity.Object k (object.Turn g) a) (tree.suffixes s rest)) h = tt
listed_mark_found c p m (mark (entity.Object k (object.Index g) a) tree.no_suffixes) h = tt
listed_mark_found c p m (mark (entity.Object k (object.Index g) a) (tree.suffixes s rest)) h = tt

listed_found : (c : Scope) (m : GlobalMode) (i : tree.Item) → ItemDeclared c i → IsFound (listed c m i)
listed_found c m (tree.item s (tree.plain (tree.at t (tree.name n)))) h = listed_mark_found c (c.place t.from) m (mark_of c n) (mark_declared c n h)
listed_found c m (tree.item s (tree.plain (tree.at t (tree.number n)))) h = tt
listed_found c m (tree.item s (tree.plain (tree.at t tree.null))) h = tt
listed_found c m (tree.item s (tree.plain (tree.at t (tree.group as')))) h = tt
listed_found c m (tree.item s (tree.plain (tree.at t (tree.unary p o a)))) h = tt
listed_found c m (tree.item s (tree.plain (tree.at t (tree.binary p o a b)))) h = tt
listed_found c m (tree.item s (tree.plain (tree.at t (tree.member p b a g)))) h = tt
listed_found c m (tree.item s (tree.choose x e)) h = tt
listed_found c m (tree.item s (tree.quantified q t g e)) h = tt

listed_arg_found : (c : Scope) (m : GlobalMode) (a : tree.Arg) → ArgumentDeclared c a → IsFound (listed_arg c m a)
listed_arg_found c m (tree.arg s (tree.part i) tree.no_value) h = listed_found c m i h
listed_arg_found c m (tree.arg s (tree.part i) (tree.value j)) h = tt
listed_arg_found c m (tree.arg s tree.other_parts tree.no_value) h = tt
listed_arg_found c m (tree.arg s tree.other_parts (tree.value j)) h = tt
listed_arg_found c m (tree.arg s (tree.parts l k) tree.no_value) h = tt
listed_arg_found c m (tree.arg s (tree.parts l k) (tree.value j)) h = tt

listed_args_found : (c : Scope) (m : GlobalMode) (as' : tree.Args) → ArgumentsDeclared c as' → AllFound (listed_args c m as')
listed_args_found c m tree.no_args h = tt
listed_args_found c m (tree.args a as') h = (listed_arg_found c m a h.0, listed_args_found c m as' h.1)

-- arguments whose names are all declared, so also those that are values alone
argument_declared : (c : Scope) (a : tree.Arg) (as' : tree.Args) → ArgsDeclared c (tree.args a as') → ArgumentDeclared c a
argument_declared c (tree.arg s k (tree.value i)) as' h = h.0.1
argument_declared c (tree.arg s (tree.part i) tree.no_value) as' h = h.0.0
argument_declared c (tree.arg s tree.other_parts tree.no_value) as' h = tt
argument_declared c (tree.arg s (tree.parts l k) tree.no_value) as' h = tt

arguments_declared : (c : Scope) (as' : tree.Args) → ArgsDeclared c as' → ArgumentsDeclared c as'
arguments_declared c tree.no_args h = tt
arguments_declared c (tree.args (tree.arg s k v) as') h = (argument_declared c (tree.arg s k v) as' h, arguments_declared c as' h.1)

listed_names_found : (c : Scope) (m : GlobalMode) (i : tree.Item) → ItemDeclared c i → AllFound (listed_names c m i)
listed_names_found c m (tree.item s (tree.plain (tree.at t (tree.group as')))) h = listed_args_found c m as' (arguments_declared c as' h)
listed_names_found c m (tree.item s (tree.plain (tree.at t (tree.name n)))) h = (listed_found c m (tree.item s (tree.plain (tree.at t (tree.name n)))) h, tt)
listed_names_found c m (tree.item s (tree.plain (tree.at t (tree.number n)))) h = (tt, tt)
listed_names_found c m (tree.item s (tree.plain (tree.at t tree.null))) h = (tt, tt)
listed_names_found c m (tree.item s (tree.plain (tree.at t (tree.unary p o a)))) h = (tt, tt)
listed_names_found c m (tree.item s (tree.plain (tree.at t (tree.binary p o a b)))) h = (tt, tt)
listed_names_found c m (tree.item s (tree.plain (tree.at t (tree.member p b a g)))) h = (tt, tt)
listed_names_found c m (tree.item s (tree.choose x e)) h = (tt, tt)
listed_names_found c m (tree.item s (tree.quantified q t g e)) h = (tt, tt)

again_found : (c : Scope) (p : Place) (b : Bool) (xs : List (Found Listed)) → AllFound xs → AllFound (if b then refuse L30 p ∷ xs else xs)
again_found c p true xs h = (tt, h)
again_found c p false xs h = h

moded_found : (c : Scope) (p : Place) (ms : List GlobalMode) (m : Option GlobalMode) (k : tree.ArgChoice) (s : Span) (v : tree.Value) → ArgumentDeclared c (tree.arg s k v) → AllFound (moded c p ms m v)
moded_found c p ms (Some m) k s (tree.value i) h = again_found c p (has_mode m ms) (listed_names c m i) (listed_names_found c m i h)
moded_found c p ms (Some m) k s tree.no_value h = (tt, tt)
moded_found c p ms None k s (tree.value i) h = (tt, tt)
moded_found c p ms None k s tree.no_value h = (tt, tt)

moded_args_found : (h : Home) (c : Scope) (ms : List GlobalMode) (as' : tree.Args) → ArgumentsDeclared c as' → AllFound (moded_args h c ms as')
moded_args_found h c ms tree.no_args i = tt
moded_args_found h c ms (tree.args (tree.arg s k v) as') i =
    joined_found (moded c (c.place s.from) ms (choice_mode h k) v) (moded_args h c (modes_after ms (choice_mode h k)) as')
    (moded_found c (c.place s.from) ms (choice_mode h k) k s v i.0) (moded_args_found h c (modes_after ms (choice_mode h k)) as' i.1)

parentheses_found : (h : Home) (c : Scope) (as' : tree.Args) → ArgumentsDeclared c as' → AllFound (in_parentheses h c as')
parentheses_found h c tree.no_args i = tt
parentheses_found h c (tree.args (tree.arg s k (tree.value j)) as') i = moded_args_found h c [] (tree.args (tree.arg s k (tree.value j)) as') i
parentheses_found h c (tree.args (tree.arg s k tree.no_value) as') i = listed_args_found c mode.Input (tree.args (tree.arg s k tree.no_value) as') i

globals_found : (h : Home) (c : Scope) (i : tree.Item) → GlobalsDeclared c i → AllFound (globals_in h c i)
globals_found h c (tree.item s (tree.plain (tree.at t (tree.group as')))) j = parentheses_found h c as' j
globals_found h c (tree.item s (tree.plain (tree.at t tree.null))) j = tt
globals_found h c (tree.item s (tree.plain (tree.at t (tree.name n)))) j = (listed_found c mode.Input (tree.item s (tree.plain (tree.at t (tree.name n)))) j, tt)
globals_found h c (tree.item s (tree.plain (tree.at t (tree.number n)))) j = (tt, tt)
globals_found h c (tree.item s (tree.plain (tree.at t (tree.unary p o a)))) j = (tt, tt)
globals_found h c (tree.item s (tree.plain (tree.at t (tree.binary p o a b)))) j = (tt, tt)
globals_found h c (tree.item s (tree.plain (tree.at t (tree.member p b a g)))) j = (tt, tt)
globals_found h c (tree.item s (tree.choose x e)) j = (tt, tt)
globals_found h c (tree.item s (tree.quantified q t g e)) j = (tt, tt)

fresh_found : (gs : List ℕ) (l : Found Listed) → IsFound l → IsFound (fresh gs l)
fresh_found gs (Is l) h = unless_found (not (has_global l.item.global gs)) L30 l.place l.item
fresh_found gs Unknown h = absurd h
fresh_found gs (Refused f) h = tt

distinct_found : (gs : List ℕ) (ls : List (Found Listed)) → AllFound ls → AllFound (distinct gs ls)
distinct_found gs [] h = tt
distinct_found gs (l ∷ ls) h = (fresh_found gs l h.0, distinct_found (globals_after gs l) ls h.1)

items_found : (h : Home) (c : Scope) (i : tree.Item) → GlobalsDeclared c i → IsFound (all_of (global_items h c i))
items_found h c i j = all_found (global_items h c i) (distinct_found [] (globals_in h c i) (globals_found h c i j))

-- ---- aspects

pub stated_found : (h : Home) (w : World) (p : Place) (a : Option Word) (i : Option tree.Item) → IsSound w → StatedDeclared h w a i → IsFound (stated h w p a i)
stated_found h w p (Some word.Pre) (Some i) sound j =
    with_found_found (λ x. Pre (contract_of p x)) (item_condition (scope h moment.Elsewhere w) L28 i) (item_condition_found (scope h moment.Elsewhere w) L28 i sound j)
stated_found h w p (Some word.Post) (Some i) sound j =
    with_found_found (λ x. Post (contract_of p x)) (item_condition (scope h moment.InPost w) L28 i) (item_condition_found (scope h moment.InPost w) L28 i sound j)
stated_found h w p (Some word.Global) (Some i) sound j =
    with_found_found (λ gs. Global (record { place = p; items = gs })) (all_of (global_items h (scope h moment.Elsewhere w) i)) (items_found h (scope h moment.Elsewhere w) i j)
stated_found h w p (Some word.Pre) None sound j = tt
stated_found h w p (Some word.Post) None sound j = tt
stated_found h w p (Some word.Global) None sound j = tt
stated_found h w p None i sound j = tt
stated_found h w p (Some word.SparkMode) i sound j = tt
stated_found h w p (Some word.Pure) i sound j = tt
stated_found h w p (Some word.Preelaborate) i sound j = tt
stated_found h w p (Some word.Assert) i sound j = tt
stated_found h w p (Some word.Assume) i sound j = tt
stated_found h w p (Some word.LoopInvariant) i sound j = tt
stated_found h w p (Some word.LoopVariant) i sound j = tt
stated_found h w p (Some word.First) i sound j = tt
stated_found h w p (Some word.Last) i sound j = tt
stated_found h w p (Some word.Length) i sound j = tt
stated_found h w p (Some word.Succ) i sound j = tt
stated_found h w p (Some word.Pred) i sound j = tt
stated_found h w p (Some word.Pos) i sound j = tt
stated_found h w p (Some word.Val) i sound j = tt
stated_found h w p (Some word.Old) i sound j = tt
stated_found h w p (Some word.Result) i sound j = tt
stated_found h w p (Some word.LoopEntry) i sound j = tt
stated_found h w p (Some word.On) i sound j = tt
stated_found h w p (Some word.Check) i sound j = tt
stated_found h w p (Some word.Increases) i sound j = tt
stated_found h w p (Some word.Decreases) i sound j = tt
stated_found h w p (Some word.Input) i sound j = tt
stated_found h w p (Some word.Output) i sound j = tt
stated_found h w p (Some word.InOut) i sound j = tt

pub aspects_all_found : (h : Home) (w : World) (first : Bool) (ns : List ℕ) (as' : List tree.Aspect) → IsSound w → AspectsDeclared h w as' → AllFound (aspects_found h w first ns as')
aspects_all_found h w first ns [] sound i = tt
aspects_all_found h w first ns (a ∷ as') sound i =
    let n = aspect_number (h.file.word a.name.from) in
    let s = stated h w (place_at h a.name) (h.file.word a.name.from) a.value in (
      both_found (λ (u : Bool) (s : Stated). s) (unless (may_stand first ns n) L28 (place_at h a.span) true) s (unless_found (may_stand first ns n) L28 (place_at h a.span) true)
          (stated_found h w (place_at h a.name) (h.file.word a.name.from) a.value sound i.0),
      aspects_all_found h w first (n ∷ ns) as' sound i.1,
    )
