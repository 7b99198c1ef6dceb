-- Aspects that are accepted obey their rules.
use Rattle.std.proofs.Common.{◌≡◌, refl, sym, ap, ◌∙◌, subst, inl, inr, ℕ, Bool, true, false, Option, Some, None, List, [], ◌∷◌, ◌++◌, map}
use Rattle.std.specs.Prelude.{not, if◌then◌else◌}
use Rattle.ada_values.specs.declared.place.Place.{Place}
use Rattle.ada_text.specs.declared.token.Span.{Span}
use Rattle.front_codes.specs.declared.codes.Code.TheVariants as code
use Rattle.name_numbers.specs.declared.words.Word.{Word}
use Rattle.name_numbers.specs.declared.words.Word.TheVariants as word
use Rattle.syntax_view.specs.Trees as tree
use Rattle.typed_units.specs.declared.operators.Object.TheVariants as object
use Rattle.typed_units.specs.declared.programs.GlobalItem.{GlobalItem}
use Rattle.typed_units.specs.declared.programs.GlobalMode.{GlobalMode}
use Rattle.typed_units.specs.declared.programs.GlobalMode.TheVariants as mode
use Rattle.type_base.specs.Scope.{Scope}
use Rattle.type_base.specs.declared.entities.Entity.{Entity}
use Rattle.type_base.specs.declared.entities.Entity.TheVariants as entity
use Rattle.type_base.specs.declared.seen.Moment.TheVariants as moment
use Rattle.type_base.specs.declared.world.World.{World}
use Rattle.typing_rules.specs.declared.prefix.Found.{Found}
use Rattle.typing_rules.specs.declared.prefix.Found.TheVariants as found
use Rattle.statement_typing.specs.declared.parts.Listed.{Listed}
use Rattle.statement_typing.specs.declared.parts.Stated.{Stated}
use Rattle.statement_typing.specs.declared.parts.Stated.TheVariants.{Global, Post, Pre}
use Rattle.statement_typing.specs.Aspects.{aspect_found, aspect_number, aspects_found, choice_mode, contract_of, distinct, fresh, global_items, globals_after, globals_in, has_global, has_mode, in_parentheses, item_condition, listed, listed_arg, listed_args, listed_as, listed_mark, listed_names, may_stand, moded, moded_args, modes_after, stated}
use Rattle.statement_typing.specs.Checks.{all_of, refuse, unless}
use Rattle.statement_typing.specs.Files.{Home, place_at, scope}
use Rattle.statement_typing.specs.Subtypes.{Mark, mark, mark_of}
use Rattle.typing_relations.proofs.Accepting.{Finds, both_finds, finds_map, found_as, with_finds}
use Rattle.statement_relations.specs.Asks.{ItemHolds}
use Rattle.statement_relations.proofs.Asking.{item_holds}
use Rattle.declaration_relations.specs.Indicates.{NameMeans}
use Rattle.declaration_relations.specs.States as rule
use Rattle.declaration_relations.specs.States.{AllState, Distinct, IsNoContract, Lists, ListsAll, ListsByMode, ListsEach, ListsGlobals, States}
use Rattle.declaration_relations.proofs.Indicating.{Marks, name_marks}
use Rattle.declaration_relations.proofs.Keeping.{all_are, first_and, none_and, unless_keeps}

-- ---- names of globals

lists_as : (c : Scope) (m : GlobalMode) (s t : Span) (n : tree.Name) (e : Entity) (ss : tree.Suffixes) → NameMeans c n e ss → Finds (listed_as (c.place t.from) m e ss) (Lists c m (tree.item s (tree.plain (tree.at t (tree.name n)))))
lists_as c m s t n (entity.Object k (object.Global g) a) tree.no_suffixes h = rule.lists s t n k g a h
lists_as c m s t n (entity.Object k (object.Global g) a) (tree.suffixes x rest) h = tt
lists_as c m s t n entity.Unknown tree.no_suffixes h = tt
lists_as c m s t n entity.Unknown (tree.suffixes x rest) h = tt
lists_as c m s t n e ss h = tt

lists_marked : (c : Scope) (m : GlobalMode) (s t : Span) (n : tree.Name) (x : Mark) → Marks (NameMeans c n) x → Finds (listed_mark (c.place t.from) m x) (Lists c m (tree.item s (tree.plain (tree.at t (tree.name n)))))
lists_marked c m s t n (mark e ss) h = elim h [
  | inl i ↦ subst (λ (f : Entity). Finds (listed_as (c.place t.from) m f ss) (Lists c m (tree.item s (tree.plain (tree.at t (tree.name n)))))) (sym i) tt
  | inr j ↦ lists_as c m s t n e ss j
]

lists_finds : (c : Scope) (m : GlobalMode) (i : tree.Item) → Finds (listed c m i) (Lists c m i)
lists_finds c m (tree.item s (tree.plain (tree.at t (tree.name n)))) = lists_marked c m s t n (mark_of c n) (name_marks c n)
lists_finds c m (tree.item s f) = tt

-- ---- names in parentheses

abbrev Begins : Scope → GlobalMode → tree.Arg → Listed → Type 0
Begins c m a x = (as' : tree.Args) (xs : List Listed) → ListsEach c m as' xs → ListsEach c m (tree.args a as') (x ∷ xs)

arg_finds : (c : Scope) (m : GlobalMode) (a : tree.Arg) → Finds (listed_arg c m a) (Begins c m a)
arg_finds c m (tree.arg s (tree.part i) tree.no_value) =
    finds_map (Lists c m i) (Begins c m (tree.arg s (tree.part i) tree.no_value)) (λ x h as' xs j. rule.one_more s i as' x xs h j) (listed c m i) (lists_finds c m i)
arg_finds c m (tree.arg s h v) = tt

each_are : (c : Scope) (m : GlobalMode) (as' : tree.Args) (xs : List Listed) → listed_args c m as' ≡ map found.Is xs → ListsEach c m as' xs
each_are c m tree.no_args xs e = subst (ListsEach c m tree.no_args) (sym (none_and xs e)) rule.no_more
each_are c m (tree.args a as') xs e =
    let f = first_and (listed_arg c m a) (listed_args c m as') xs e in
    subst (ListsEach c m (tree.args a as')) (sym f.together) (found_as (Begins c m a) (listed_arg c m a) f.first f.is_first (arg_finds c m a) as' f.others (each_are c m as' f.others f.are_others))

one_is : (c : Scope) (m : GlobalMode) (i : tree.Item) (xs : List Listed) → listed c m i ∷ [] ≡ map found.Is xs → ListsAll c m i xs
one_is c m i xs e =
    let f = first_and (listed c m i) [] xs e in
    subst (ListsAll c m i) (sym (f.together ∙ ap (λ (l : List Listed). f.first ∷ l) (none_and f.others f.are_others))) (rule.one i f.first (found_as (Lists c m i) (listed c m i) f.first f.is_first (lists_finds c m i)))

names_are : (c : Scope) (m : GlobalMode) (i : tree.Item) (xs : List Listed) → listed_names c m i ≡ map found.Is xs → ListsAll c m i xs
names_are c m (tree.item s (tree.plain (tree.at t (tree.group as')))) xs e = rule.several s t as' xs (each_are c m as' xs e)
names_are c m i xs e = one_is c m i xs e

-- ---- modes

-- what is found in two lists together
record Parted {A : Type 0} (xs ys : List (Found A)) (zs : List A) : Type 0 where
  pub left : List A
  pub right : List A
  pub is_left : xs ≡ map found.Is left
  pub is_right : ys ≡ map found.Is right
  pub together : zs ≡ left ++ right

parted : {A : Type 0} → (xs ys : List (Found A)) (zs : List A) → xs ++ ys ≡ map found.Is zs → Parted xs ys zs
parted [] ys zs e = record { left = []; right = zs; is_left = refl; is_right = e; together = refl }
parted {A = A} (x ∷ xs) ys zs e =
    let f = first_and x (xs ++ ys) zs e in
    let p = parted xs ys f.others f.are_others in
    record {
      left = f.first ∷ p.left;
      right = p.right;
      is_left = ap (λ (y : Found A). y ∷ xs) f.is_first ∙ ap (λ (l : List (Found A)). found.Is f.first ∷ l) p.is_left;
      is_right = p.is_right;
      together = f.together ∙ ap (λ (l : List A). f.first ∷ l) p.together;
    }

no_refusal : {A B : Type 0} → (r : Found A) (xs : List (Found A)) (ys : List A) → ((y : A) → r ≡ found.Is y → B) → r ∷ xs ≡ map found.Is ys → B
no_refusal r xs ys h e =
    let f = first_and r xs ys e in
    h f.first f.is_first

-- an association of a mode that none before it has
record Moded (h : Home) (c : Scope) (ms : List GlobalMode) (k : tree.ArgChoice) (v : tree.Value) (xs : List Listed) : Type 0 where
  pub mode : GlobalMode
  pub item : tree.Item
  pub is_value : v ≡ tree.value item
  pub is_mode : choice_mode h k ≡ Some mode
  pub new : has_mode mode ms ≡ false
  pub names : ListsAll c mode item xs

moded_once : (h : Home) (c : Scope) (p : Place) (ms : List GlobalMode) (k : tree.ArgChoice) (m : GlobalMode) (i : tree.Item) (xs : List Listed) → choice_mode h k ≡ Some m → (b : Bool) → has_mode m ms ≡ b
    → (if b then refuse code.L30 p ∷ listed_names c m i else listed_names c m i) ≡ map found.Is xs → Moded h c ms k (tree.value i) xs
moded_once h c p ms k m i xs z false n e = record { mode = m; item = i; is_value = refl; is_mode = z; new = n; names = names_are c m i xs e }
moded_once h c p ms k m i xs z true n e = no_refusal (refuse code.L30 p) (listed_names c m i) xs (λ y j. cc) e

moded_is : (h : Home) (c : Scope) (p : Place) (ms : List GlobalMode) (k : tree.ArgChoice) (v : tree.Value) (xs : List Listed) (o : Option GlobalMode) → choice_mode h k ≡ o → moded c p ms o v ≡ map found.Is xs
    → Moded h c ms k v xs
moded_is h c p ms k (tree.value i) xs (Some m) z e = moded_once h c p ms k m i xs z (has_mode m ms) refl e
moded_is h c p ms k tree.no_value xs (Some m) z e = no_refusal (refuse code.L30 p) [] xs (λ y j. cc) e
moded_is h c p ms k (tree.value i) xs None z e = no_refusal (refuse code.L30 p) [] xs (λ y j. cc) e
moded_is h c p ms k tree.no_value xs None z e = no_refusal (refuse code.L30 p) [] xs (λ y j. cc) e

by_mode : (h : Home) (c : Scope) (ms : List GlobalMode) (as' : tree.Args) (xs : List Listed) → moded_args h c ms as' ≡ map found.Is xs → ListsByMode h c ms as' xs
by_mode h c ms tree.no_args xs e = subst (ListsByMode h c ms tree.no_args) (sym (none_and xs e)) (rule.no_more ms)
by_mode h c ms (tree.args (tree.arg s k v) as') xs e =
    let p = parted (moded c (c.place s.from) ms (choice_mode h k) v) (moded_args h c (modes_after ms (choice_mode h k)) as') xs e in
    let d = moded_is h c (c.place s.from) ms k v p.left (choice_mode h k) refl p.is_left in
    let after : ListsByMode h c (d.mode ∷ ms) as' p.right = subst (λ (o : Option GlobalMode). ListsByMode h c (modes_after ms o) as' p.right) d.is_mode (by_mode h c (modes_after ms (choice_mode h k)) as' p.right p.is_right) in
    let one : ListsByMode h c ms (tree.args (tree.arg s k (tree.value d.item)) as') (p.left ++ p.right) = rule.one_more ms s k d.item as' d.mode p.left p.right d.is_mode d.new d.names after in
    subst (ListsByMode h c ms (tree.args (tree.arg s k v) as')) (sym p.together)
    (subst (λ (u : tree.Value). ListsByMode h c ms (tree.args (tree.arg s k u) as') (p.left ++ p.right)) (sym d.is_value) one)

in_group : (h : Home) (c : Scope) (s t : Span) (as' : tree.Args) (xs : List Listed) → in_parentheses h c as' ≡ map found.Is xs → ListsGlobals h c (tree.item s (tree.plain (tree.at t (tree.group as')))) xs
in_group h c s t (tree.args (tree.arg a k (tree.value i)) as') xs e = rule.by_mode s t (tree.args (tree.arg a k (tree.value i)) as') xs (by_mode h c [] (tree.args (tree.arg a k (tree.value i)) as') xs e)
in_group h c s t as' xs e = rule.inputs (tree.item s (tree.plain (tree.at t (tree.group as')))) xs (rule.several s t as' xs (each_are c mode.Input as' xs e))

globals_are : (h : Home) (c : Scope) (i : tree.Item) (xs : List Listed) → globals_in h c i ≡ map found.Is xs → ListsGlobals h c i xs
globals_are h c (tree.item s (tree.plain (tree.at t tree.null))) xs e = subst (ListsGlobals h c (tree.item s (tree.plain (tree.at t tree.null)))) (sym (none_and xs e)) (rule.nothing s t)
globals_are h c (tree.item s (tree.plain (tree.at t (tree.group as')))) xs e = in_group h c s t as' xs e
globals_are h c i xs e = rule.inputs i xs (one_is c mode.Input i xs e)

-- ---- each once

was_false : (b : Bool) → not b ≡ true → b ≡ false
was_false true e = sym e
was_false false e = refl

abbrev IsFresh : List ℕ → Found Listed → GlobalItem → Type 0
IsFresh gs l y = (z : Listed) × (l ≡ found.Is z) × (has_global z.item.global gs ≡ false) × (y ≡ z.item)

fresh_finds : (gs : List ℕ) (l : Found Listed) → Finds (fresh gs l) (IsFresh gs l)
fresh_finds gs (found.Refused f) = tt
fresh_finds gs found.Unknown = tt
fresh_finds gs (found.Is z) =
    unless_keeps (IsFresh gs (found.Is z)) (not (has_global z.item.global gs)) code.L30 z.place z.item (λ e. (z, refl, was_false (has_global z.item.global gs) e, refl))

record AreDistinct (gs : List ℕ) (ls : List (Found Listed)) (xs : List GlobalItem) : Type 0 where
  pub names : List Listed
  pub are : ls ≡ map found.Is names
  pub once : Distinct gs names xs

distinct_are : (gs : List ℕ) (ls : List (Found Listed)) (xs : List GlobalItem) → distinct gs ls ≡ map found.Is xs → AreDistinct gs ls xs
distinct_are gs [] xs e = record { names = []; are = refl; once = subst (Distinct gs []) (sym (none_and xs e)) (rule.no_more gs) }
distinct_are gs (l ∷ ls) xs e =
    let f = first_and (fresh gs l) (distinct (globals_after gs l) ls) xs e in
    let z = found_as (IsFresh gs l) (fresh gs l) f.first f.is_first (fresh_finds gs l) in
    let d = distinct_are (globals_after gs l) ls f.others f.are_others in
    let after : Distinct (z.0.item.global ∷ gs) d.names f.others = subst (λ (n : List ℕ). Distinct n d.names f.others) (ap (globals_after gs) z.1) d.once in
    let same : xs ≡ z.0.item ∷ f.others = f.together ∙ ap (λ (y : GlobalItem). y ∷ f.others) z.3 in
    record {
      names = z.0 ∷ d.names;
      are = ap (λ (y : Found Listed). y ∷ ls) z.1 ∙ ap (λ (l : List (Found Listed)). found.Is z.0 ∷ l) d.are;
      once = subst (Distinct gs (z.0 ∷ d.names)) (sym same) (rule.one_more gs z.0 d.names f.others z.2 after);
    }

-- ---- aspects

states_by : (h : Home) (w : World) (a : tree.Aspect) (o : Option Word) → h.file.word a.name.from ≡ o → (v : Option tree.Item) → a.value ≡ v → Finds (stated h w (place_at h a.name) o v) (States h w a)
states_by h w a (Some word.Pre) e (Some i) k =
    let c = scope h moment.Elsewhere w in
    with_finds (ItemHolds c i) (States h w a) (λ x. Pre (contract_of (place_at h a.name) x)) (item_condition c code.L28 i) (item_holds c code.L28 i) (λ x z. rule.pre i x e k z)
states_by h w a (Some word.Pre) e None k = tt
states_by h w a (Some word.Post) e (Some i) k =
    let c = scope h moment.InPost w in
    with_finds (ItemHolds c i) (States h w a) (λ x. Post (contract_of (place_at h a.name) x)) (item_condition c code.L28 i) (item_holds c code.L28 i) (λ x z. rule.post i x e k z)
states_by h w a (Some word.Post) e None k = tt
states_by h w a (Some word.Global) e (Some i) k =
    let c = scope h moment.Elsewhere w in
    with_finds (λ xs. global_items h c i ≡ map found.Is xs) (States h w a) (λ gs. Global (record { place = place_at h a.name; items = gs })) (all_of (global_items h c i)) (all_are (global_items h c i))
    (λ xs z. let d = distinct_are [] (globals_in h c i) xs z in rule.globals i d.names xs e k (globals_are h c i d.names d.are) d.once)
states_by h w a (Some word.Global) e None k = tt
states_by h w a o e v k = rule.no_contract (subst IsNoContract (sym e) tt)

pub states_finds : (h : Home) (w : World) (a : tree.Aspect) → Finds (stated h w (place_at h a.name) (h.file.word a.name.from) a.value) (States h w a)
states_finds h w a = states_by h w a (h.file.word a.name.from) refl a.value refl

abbrev Stands : Home → World → Bool → List ℕ → tree.Aspect → Stated → Type 0
Stands h w first ns a x = (may_stand first ns (aspect_number (h.file.word a.name.from)) ≡ true) × States h w a x

aspect_finds : (h : Home) (w : World) (first : Bool) (ns : List ℕ) (a : tree.Aspect) → Finds (aspect_found h w first ns a) (Stands h w first ns a)
aspect_finds h w first ns a =
    let b = may_stand first ns (aspect_number (h.file.word a.name.from)) in
    both_finds (λ u. b ≡ true) (States h w a) (Stands h w first ns a) (λ u s. s) (unless b code.L28 (place_at h a.span) true) (stated h w (place_at h a.name) (h.file.word a.name.from) a.value)
    (unless_keeps (λ u. b ≡ true) b code.L28 (place_at h a.span) true (λ e. e)) (states_finds h w a) (λ u s e i. (e, i))

pub aspects_are : (h : Home) (w : World) (first : Bool) (ns : List ℕ) (as' : List tree.Aspect) (xs : List Stated) → aspects_found h w first ns as' ≡ map found.Is xs → AllState h w first ns as' xs
aspects_are h w first ns [] xs e = subst (AllState h w first ns []) (sym (none_and xs e)) (rule.no_more ns)
aspects_are h w first ns (a ∷ as') xs e =
    let n = aspect_number (h.file.word a.name.from) in
    let f = first_and (aspect_found h w first ns a) (aspects_found h w first (n ∷ ns) as') xs e in
    let s = found_as (Stands h w first ns a) (aspect_found h w first ns a) f.first f.is_first (aspect_finds h w first ns a) in
    subst (AllState h w first ns (a ∷ as')) (sym f.together) (rule.one_more ns a as' f.first f.others s.0 s.1 (aspects_are h w first (n ∷ ns) as' f.others f.are_others))

pub aspects_finds : (h : Home) (w : World) (first : Bool) (ns : List ℕ) (as' : List tree.Aspect) → Finds (all_of (aspects_found h w first ns as')) (AllState h w first ns as')
aspects_finds h w first ns as' =
    finds_map (λ xs. aspects_found h w first ns as' ≡ map found.Is xs) (AllState h w first ns as') (λ xs e. aspects_are h w first ns as' xs e) (all_of (aspects_found h w first ns as')) (all_are (aspects_found h w first ns as'))
