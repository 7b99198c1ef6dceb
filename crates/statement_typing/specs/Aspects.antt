-- Pre, Post and Global. -- L28, L30, Ada RM 6.1.1, 13.1.1, SPARK RM 6.1.4
use Rattle.std.specs.Prelude.{ℕ, Bool, true, false, Option, Some, None, List, [], ◌∷◌, ◌++◌, ◌==◌, ◌&&◌, ◌||◌, not, if◌then◌else◌}
use Rattle.ada_values.specs.declared.place.Place.{Place}
use Rattle.front_codes.specs.declared.codes.Code.{Code}
use Rattle.front_codes.specs.declared.codes.Code.TheVariants.{L28, L30}
use Rattle.front_codes.specs.declared.codes.Refusal.{Refusal}
use Rattle.name_numbers.specs.declared.words.Word.{Word}
use Rattle.name_numbers.specs.declared.words.Word.TheVariants as word
use Rattle.typed_units.specs.declared.expressions.Expr.{Expr}
use Rattle.typed_units.specs.declared.operators.Object.TheVariants as object
use Rattle.typed_units.specs.declared.programs.Contract.{Contract}
use Rattle.typed_units.specs.declared.programs.GlobalAspect.{GlobalAspect}
use Rattle.typed_units.specs.declared.programs.GlobalItem.{GlobalItem}
use Rattle.typed_units.specs.declared.programs.GlobalMode.{GlobalMode}
use Rattle.typed_units.specs.declared.programs.GlobalMode.TheVariants as mode
use Rattle.type_base.specs.declared.entities.Entity.{Entity}
use Rattle.type_base.specs.declared.entities.Entity.TheVariants as entity
use Rattle.type_base.specs.declared.seen.Demand.TheVariants as demand
use Rattle.type_base.specs.declared.seen.Moment.TheVariants as moment
use Rattle.type_base.specs.declared.seen.Seen.{Seen}
use Rattle.type_base.specs.declared.seen.Seen.TheVariants as seen'
use Rattle.type_base.specs.declared.seen.Want.TheVariants as want
use Rattle.type_base.specs.declared.world.World.{World}
use Rattle.type_base.specs.Demands.{operand}
use Rattle.type_base.specs.Scope.{Scope}
use Rattle.type_base.specs.Standard.{boolean}
use Rattle.syntax_view.specs.Trees as tree
use Rattle.typing_rules.specs.declared.prefix.Found.{Found}
use Rattle.typing_rules.specs.declared.prefix.Found.TheVariants.{Refused, Unknown, Is}
use Rattle.typing_rules.specs.Fits.{both, with_found}
use Rattle.typing_rules.specs.Reading.{item_seen}
use Rattle.statement_typing.specs.Asked.{item_faults, item_place}
use Rattle.statement_typing.specs.declared.draft.Draft.{Draft}
use Rattle.statement_typing.specs.declared.parts.Listed.{Listed}
use Rattle.statement_typing.specs.declared.parts.Stated.{Stated}
use Rattle.statement_typing.specs.declared.parts.Stated.TheVariants.{Global, Nothing, Post, Pre}
use Rattle.statement_typing.specs.Checks.{all_of, broken, fault_beyond, fault_in, refuse, unless}
use Rattle.statement_typing.specs.Subtypes.{Mark, mark, mark_of}
use Rattle.statement_typing.specs.Files.{Home, place_at, scope}
use Rattle.statement_typing.specs.Objects.{changed_at}

-- ---- conditions

-- what a Boolean operand is
abbrev pub truth_seen : Code → Place → Seen → Found Expr
truth_seen r p (seen'.Refused f) = Refused f
truth_seen r p seen'.Unknown = Unknown
truth_seen r p (seen'.Number n) = refuse r p
truth_seen r p (seen'.Typed t x) = Is x

-- a condition at a place, by a rule
abbrev pub condition : World → Code → Place → Seen → Found Expr
condition w r p s = truth_seen r p (operand w demand.Truth r p s)

abbrev pub item_condition : Scope → Code → tree.Item → Found Expr
item_condition c r i = condition c.world r (item_place c i) (item_seen c (want.Type boolean) i)

abbrev pub item_condition_faults : Scope → Code → tree.Item → List Refusal
item_condition_faults c r i = item_faults c (want.Type boolean) i ++ fault_beyond (item_seen c (want.Type boolean) i) (item_condition c r i)

-- ---- Global -- L30

abbrev pub listed_as : Place → GlobalMode → Entity → tree.Suffixes → Found Listed
listed_as p m (entity.Object k (object.Global g) a) tree.no_suffixes = Is (record { place = p; item = record { mode = m; global = g } })
listed_as p m entity.Unknown tree.no_suffixes = Unknown
listed_as p m e rest = refuse L30 p

abbrev pub listed_mark : Place → GlobalMode → Mark → Found Listed
listed_mark p m (mark e rest) = listed_as p m e rest

-- the name of a global
abbrev pub listed : Scope → GlobalMode → tree.Item → Found Listed
listed c m (tree.item s (tree.plain (tree.at t (tree.name n)))) = listed_mark (c.place t.from) m (mark_of c n)
listed c m (tree.item s f) = refuse L30 (c.place s.from)

-- names in parentheses
abbrev pub listed_arg : Scope → GlobalMode → tree.Arg → Found Listed
listed_arg c m (tree.arg s (tree.part i) tree.no_value) = listed c m i
listed_arg c m (tree.arg s h v) = refuse L30 (c.place s.from)

abbrev pub listed_args : Scope → GlobalMode → tree.Args → List (Found Listed)
listed_args c m tree.no_args = []
listed_args c m (tree.args a as') = listed_arg c m a ∷ listed_args c m as'

abbrev pub listed_names : Scope → GlobalMode → tree.Item → List (Found Listed)
listed_names c m (tree.item s (tree.plain (tree.at t (tree.group as')))) = listed_args c m as'
listed_names c m i = listed c m i ∷ []

-- the mode that a choice is
abbrev pub mode_word : Option Word → Option GlobalMode
mode_word (Some word.Input) = Some mode.Input
mode_word (Some word.Output) = Some mode.Output
mode_word (Some word.InOut) = Some mode.InOut
mode_word _ = None

abbrev pub choice_mode : Home → tree.ArgChoice → Option GlobalMode
choice_mode h (tree.part (tree.item s (tree.plain (tree.at t (tree.name (tree.named u n tree.no_suffixes)))))) = mode_word (h.file.word n.from)
choice_mode h _ = None

abbrev pub is_mode : GlobalMode → GlobalMode → Bool
is_mode mode.Input mode.Input = true
is_mode mode.Output mode.Output = true
is_mode mode.InOut mode.InOut = true
is_mode _ _ = false

abbrev pub has_mode : GlobalMode → List GlobalMode → Bool
has_mode m [] = false
has_mode m (n ∷ ns) = is_mode m n || has_mode m ns

-- an association of a mode, of which each stands once
abbrev pub moded : Scope → Place → List GlobalMode → Option GlobalMode → tree.Value → List (Found Listed)
moded c p ms (Some m) (tree.value i) = if has_mode m ms then refuse L30 p ∷ listed_names c m i else listed_names c m i
moded c p ms m v = refuse L30 p ∷ []

abbrev pub modes_after : List GlobalMode → Option GlobalMode → List GlobalMode
modes_after ms None = ms
modes_after ms (Some m) = m ∷ ms

abbrev pub moded_args : Home → Scope → List GlobalMode → tree.Args → List (Found Listed)
moded_args h c ms tree.no_args = []
moded_args h c ms (tree.args (tree.arg s k v) as') =
    moded c (c.place s.from) ms (choice_mode h k) v ++ moded_args h c (modes_after ms (choice_mode h k)) as'

-- associations where the first is one, else names, which are inputs
abbrev pub in_parentheses : Home → Scope → tree.Args → List (Found Listed)
in_parentheses h c (tree.args (tree.arg s k (tree.value i)) as') = moded_args h c [] (tree.args (tree.arg s k (tree.value i)) as')
in_parentheses h c as' = listed_args c mode.Input as'

abbrev pub globals_in : Home → Scope → tree.Item → List (Found Listed)
globals_in h c (tree.item s (tree.plain (tree.at t tree.null))) = []
globals_in h c (tree.item s (tree.plain (tree.at t (tree.group as')))) = in_parentheses h c as'
globals_in h c i = listed c mode.Input i ∷ []

-- each global once
abbrev pub has_global : ℕ → List ℕ → Bool
has_global g [] = false
has_global g (n ∷ ns) = (n == g) || has_global g ns

abbrev pub fresh : List ℕ → Found Listed → Found GlobalItem
fresh gs (Is l) = unless (not (has_global l.item.global gs)) L30 l.place l.item
fresh gs Unknown = Unknown
fresh gs (Refused f) = Refused f

abbrev pub globals_after : List ℕ → Found Listed → List ℕ
globals_after gs (Is l) = l.item.global ∷ gs
globals_after gs Unknown = gs
globals_after gs (Refused f) = gs

abbrev pub distinct : List ℕ → List (Found Listed) → List (Found GlobalItem)
distinct gs [] = []
distinct gs (l ∷ ls) = fresh gs l ∷ distinct (globals_after gs l) ls

abbrev pub global_items : Home → Scope → tree.Item → List (Found GlobalItem)
global_items h c i = distinct [] (globals_in h c i)

abbrev pub faults_in : {A : Type 0} → List (Found A) → List Refusal
faults_in [] = []
faults_in (f ∷ fs) = fault_in f ++ faults_in fs

-- ---- aspects -- L28

abbrev pub contract_of : Place → Expr → Contract
contract_of p x = record { place = p; condition = x }

-- an aspect's value, which it must have
abbrev pub stated : Home → World → Place → Option Word → Option tree.Item → Found Stated
stated h w p (Some word.Pre) (Some i) = with_found (λ x. Pre (contract_of p x)) (item_condition (scope h moment.Elsewhere w) L28 i)
stated h w p (Some word.Pre) None = refuse L28 p
stated h w p (Some word.Post) (Some i) = with_found (λ x. Post (contract_of p x)) (item_condition (scope h moment.InPost w) L28 i)
stated h w p (Some word.Post) None = refuse L28 p
stated h w p (Some word.Global) (Some i) = with_found (λ gs. Global (record { place = p; items = gs })) (all_of (global_items h (scope h moment.Elsewhere w) i))
stated h w p (Some word.Global) None = refuse L30 p
stated h w p _ i = Is Nothing

abbrev pub stated_faults : Home → World → Place → Option Word → Option tree.Item → List Refusal
stated_faults h w p (Some word.Pre) (Some i) = item_condition_faults (scope h moment.Elsewhere w) L28 i
stated_faults h w p (Some word.Pre) None = broken L28 p
stated_faults h w p (Some word.Post) (Some i) = item_condition_faults (scope h moment.InPost w) L28 i
stated_faults h w p (Some word.Post) None = broken L28 p
stated_faults h w p (Some word.Global) (Some i) = faults_in (global_items h (scope h moment.Elsewhere w) i)
stated_faults h w p (Some word.Global) None = broken L30 p
stated_faults h w p _ i = []

-- aspects by number; SPARK_Mode is no contract, and may stand on a body too
abbrev pub aspect_number : Option Word → ℕ
aspect_number (Some word.Pre) = 1
aspect_number (Some word.Post) = 2
aspect_number (Some word.Global) = 3
aspect_number _ = 0

abbrev pub has_aspect : ℕ → List ℕ → Bool
has_aspect n [] = false
has_aspect n (m ∷ ms) = (m == n) || has_aspect n ms

-- an aspect stands on the first declaration, and once
abbrev pub may_stand : Bool → List ℕ → ℕ → Bool
may_stand first ns n = (first || (n == 0)) && not (has_aspect n ns)

abbrev pub aspect_found : Home → World → Bool → List ℕ → tree.Aspect → Found Stated
aspect_found h w first ns a =
    both (λ u s. s) (unless (may_stand first ns (aspect_number (h.file.word a.name.from))) L28 (place_at h a.span) true)
    (stated h w (place_at h a.name) (h.file.word a.name.from) a.value)

abbrev pub aspect_faults : Home → World → Bool → List ℕ → tree.Aspect → List Refusal
aspect_faults h w first ns a =
    fault_in (unless (may_stand first ns (aspect_number (h.file.word a.name.from))) L28 (place_at h a.span) true)
    ++ stated_faults h w (place_at h a.name) (h.file.word a.name.from) a.value

abbrev pub aspects_found : Home → World → Bool → List ℕ → List tree.Aspect → List (Found Stated)
aspects_found h w first ns [] = []
aspects_found h w first ns (a ∷ as') = aspect_found h w first ns a ∷ aspects_found h w first (aspect_number (h.file.word a.name.from) ∷ ns) as'

abbrev pub aspects_faults : Home → World → Bool → List ℕ → List tree.Aspect → List Refusal
aspects_faults h w first ns [] = []
aspects_faults h w first ns (a ∷ as') = aspect_faults h w first ns a ++ aspects_faults h w first (aspect_number (h.file.word a.name.from) ∷ ns) as'

-- ---- a subprogram with its aspects

abbrev pub with_stated : ℕ → Stated → Draft → Draft
with_stated q (Pre c) d = record d { subs = changed_at q (λ x. record x { pre = Some c }) d.subs }
with_stated q (Post c) d = record d { subs = changed_at q (λ x. record x { post = Some c }) d.subs }
with_stated q (Global g) d = record d { subs = changed_at q (λ x. record x { global = Some g }) d.subs }
with_stated q Nothing d = d

abbrev pub with_found_aspect : ℕ → Found Stated → Draft → Draft
with_found_aspect q (Is s) d = with_stated q s d
with_found_aspect q Unknown d = d
with_found_aspect q (Refused f) d = d

abbrev pub with_aspects : ℕ → List (Found Stated) → Draft → Draft
with_aspects q [] d = d
with_aspects q (s ∷ ss) d = with_aspects q ss (with_found_aspect q s d)
