-- What the aspects of a subprogram state, a constructor a rule. -- L28, L30, Ada RM 6.1.1, 13.1.1, SPARK RM 6.1.4
use Rattle.std.specs.Prelude.{◌≡◌, ℕ, Bool, true, false, Option, Some, List, [], ◌∷◌, ◌++◌}
use Rattle.ada_text.specs.declared.token.Span.{Span}
use Rattle.name_numbers.specs.declared.words.Word.{Word}
use Rattle.name_numbers.specs.declared.words.Word.TheVariants as word
use Rattle.syntax_view.specs.Trees as tree
use Rattle.typed_units.specs.declared.expressions.Expr.{Expr}
use Rattle.typed_units.specs.declared.operators.Object.TheVariants as object
use Rattle.typed_units.specs.declared.programs.GlobalItem.{GlobalItem}
use Rattle.typed_units.specs.declared.programs.GlobalMode.{GlobalMode}
use Rattle.typed_units.specs.declared.programs.GlobalMode.TheVariants as mode
use Rattle.type_base.specs.Scope.{Scope}
use Rattle.type_base.specs.declared.entities.Access.{Access}
use Rattle.type_base.specs.declared.entities.Entity.TheVariants as entity
use Rattle.type_base.specs.declared.seen.Moment.TheVariants as moment
use Rattle.type_base.specs.declared.world.World.{World}
use Rattle.statement_typing.specs.declared.parts.Listed.{Listed}
use Rattle.statement_typing.specs.declared.parts.Stated.{Stated}
use Rattle.statement_typing.specs.declared.parts.Stated.TheVariants.{Global, Nothing, Post, Pre}
use Rattle.statement_typing.specs.Aspects.{aspect_number, choice_mode, contract_of, has_global, has_mode, may_stand}
use Rattle.statement_typing.specs.Files.{Home, place_at, scope}
use Rattle.statement_relations.specs.Asks.{ItemHolds}
use Rattle.declaration_relations.specs.Indicates.{NameMeans}

-- ---- Global -- L30, SPARK RM 6.1.4

-- the name of a variable of a package
pub data Lists (c : Scope) (m : GlobalMode) : tree.Item → Listed → Type 0 where
  lists : (s t : Span) (n : tree.Name) (k g : ℕ) (a : Access) → NameMeans c n (entity.Object k (object.Global g) a) tree.no_suffixes
      → Lists c m (tree.item s (tree.plain (tree.at t (tree.name n)))) (record { place = c.place t.from; item = record { mode = m; global = g } })

-- names in parentheses
pub data ListsEach (c : Scope) (m : GlobalMode) : tree.Args → List Listed → Type 0 where
  no_more : ListsEach c m tree.no_args []
  one_more : (s : Span) (i : tree.Item) (as' : tree.Args) (x : Listed) (xs : List Listed) → Lists c m i x → ListsEach c m as' xs
      → ListsEach c m (tree.args (tree.arg s (tree.part i) tree.no_value) as') (x ∷ xs)

-- what stands after a mode
pub data ListsAll (c : Scope) (m : GlobalMode) : tree.Item → List Listed → Type 0 where
  several : (s t : Span) (as' : tree.Args) (xs : List Listed) → ListsEach c m as' xs → ListsAll c m (tree.item s (tree.plain (tree.at t (tree.group as')))) xs
  one : (i : tree.Item) (x : Listed) → Lists c m i x → ListsAll c m i (x ∷ [])

-- modes with their names, of which each stands once, after these
pub data ListsByMode (h : Home) (c : Scope) : List GlobalMode → tree.Args → List Listed → Type 0 where
  no_more : (ms : List GlobalMode) → ListsByMode h c ms tree.no_args []
  one_more : (ms : List GlobalMode) (s : Span) (k : tree.ArgChoice) (i : tree.Item) (as' : tree.Args) (m : GlobalMode) (xs ys : List Listed) → choice_mode h k ≡ Some m → has_mode m ms ≡ false
      → ListsAll c m i xs → ListsByMode h c (m ∷ ms) as' ys → ListsByMode h c ms (tree.args (tree.arg s k (tree.value i)) as') (xs ++ ys)

-- `null`, modes with their names, or names, which are inputs
pub data ListsGlobals (h : Home) (c : Scope) : tree.Item → List Listed → Type 0 where
  nothing : (s t : Span) → ListsGlobals h c (tree.item s (tree.plain (tree.at t tree.null))) []
  by_mode : (s t : Span) (as' : tree.Args) (xs : List Listed) → ListsByMode h c [] as' xs → ListsGlobals h c (tree.item s (tree.plain (tree.at t (tree.group as')))) xs
  inputs : (i : tree.Item) (xs : List Listed) → ListsAll c mode.Input i xs → ListsGlobals h c i xs

-- each global once, and none of these
pub data Distinct : List ℕ → List Listed → List GlobalItem → Type 0 where
  no_more : (gs : List ℕ) → Distinct gs [] []
  one_more : (gs : List ℕ) (x : Listed) (xs : List Listed) (ys : List GlobalItem) → has_global x.item.global gs ≡ false → Distinct (x.item.global ∷ gs) xs ys
      → Distinct gs (x ∷ xs) (x.item ∷ ys)

-- ---- aspects -- L28

-- an aspect that is no contract
abbrev pub IsNoContract : Option Word → Type 0
IsNoContract (Some word.Pre) = ⊥
IsNoContract (Some word.Post) = ⊥
IsNoContract (Some word.Global) = ⊥
IsNoContract _ = Unit {0}

pub data States (h : Home) (w : World) (a : tree.Aspect) : Stated → Type 0 where
  -- a Boolean, in a postcondition with what was before the call
  pre : (i : tree.Item) (x : Expr) → h.file.word a.name.from ≡ Some word.Pre → a.value ≡ Some i → ItemHolds (scope h moment.Elsewhere w) i x
      → States h w a (Pre (contract_of (place_at h a.name) x))
  post : (i : tree.Item) (x : Expr) → h.file.word a.name.from ≡ Some word.Post → a.value ≡ Some i → ItemHolds (scope h moment.InPost w) i x
      → States h w a (Post (contract_of (place_at h a.name) x))
  globals : (i : tree.Item) (ls : List Listed) (xs : List GlobalItem) → h.file.word a.name.from ≡ Some word.Global → a.value ≡ Some i → ListsGlobals h (scope h moment.Elsewhere w) i ls → Distinct [] ls xs
      → States h w a (Global (record { place = place_at h a.name; items = xs }))
  no_contract : IsNoContract (h.file.word a.name.from) → States h w a Nothing

-- aspects, each of which stands once; contracts stand on the first declaration alone -- Ada RM 13.1.1, SPARK RM 6.1
pub data AllState (h : Home) (w : World) (first : Bool) : List ℕ → List tree.Aspect → List Stated → Type 0 where
  no_more : (ns : List ℕ) → AllState h w first ns [] []
  one_more : (ns : List ℕ) (a : tree.Aspect) (as' : List tree.Aspect) (x : Stated) (xs : List Stated) → may_stand first ns (aspect_number (h.file.word a.name.from)) ≡ true → States h w a x
      → AllState h w first (aspect_number (h.file.word a.name.from) ∷ ns) as' xs → AllState h w first ns (a ∷ as') (x ∷ xs)
