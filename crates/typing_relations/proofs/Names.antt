-- Names: what a suffix makes of a name.
use Rattle.std.proofs.Common.{◌≡◌, refl, ℕ, false, List, [], ◌∷◌, Option, Some, None}
use Rattle.ada_text.specs.declared.token.Span.{Span}
use Rattle.ada_values.specs.declared.place.Place.{Place}
use Rattle.front_codes.specs.declared.codes.Refusal.{Refusal}
use Rattle.name_library.specs.declared.links.Link.{Link}
use Rattle.name_numbers.specs.Numbers.{word_of}
use Rattle.name_numbers.specs.declared.words.Word.{Word}
use Rattle.name_numbers.specs.declared.words.Word.TheVariants as word
use Rattle.syntax_view.specs.Trees as tree
use Rattle.typed_units.specs.declared.expressions.Argument.{Argument}
use Rattle.typed_units.specs.declared.expressions.Expr.{Expr}
use Rattle.typed_units.specs.declared.expressions.ExprNode.TheVariants as node
use Rattle.typed_units.specs.declared.expressions.Indexed.{Indexed}
use Rattle.type_base.specs.Scope.{Scope}
use Rattle.type_base.specs.declared.seen.Moment.{Moment}
use Rattle.type_base.specs.declared.seen.Moment.TheVariants as moment
use Rattle.type_base.specs.declared.seen.Seen.{Seen}
use Rattle.type_base.specs.declared.seen.Seen.TheVariants as seen
use Rattle.type_base.specs.declared.seen.Want.{Want}
use Rattle.type_base.specs.declared.world.Component.{Component}
use Rattle.type_base.specs.declared.world.Formal.{Formal}
use Rattle.type_base.specs.declared.world.Routine.{Routine}
use Rattle.type_base.specs.Demands.{subtype_of}
use Rattle.type_base.specs.Lookups.{routine_at}
use Rattle.typing_rules.specs.declared.prefix.Found.{Found}
use Rattle.typing_rules.specs.declared.prefix.Found.TheVariants as found
use Rattle.typing_rules.specs.declared.prefix.Part.{Part}
use Rattle.typing_rules.specs.declared.prefix.Prefix.{Prefix}
use Rattle.typing_rules.specs.declared.prefix.Prefix.TheVariants as prefix
use Rattle.typing_rules.specs.Aggregates.{no_subtype, qualification}
use Rattle.typing_rules.specs.Attributes.{attribute_by, entry_at, left_out, old_at}
use Rattle.typing_rules.specs.Calls.{arguments}
use Rattle.typing_rules.specs.Forms.{application, suffix_prefix, suffixes_prefix}
use Rattle.typing_rules.specs.Lookups.{Array, array_at, components_at, entity_by, entity_of, place_among, seen_as}
use Rattle.typing_rules.specs.Names.{array_item, call_by, component, component_of, component_part, function_call, index_of, item_of, part_component, part_item, record_component, routine_call, selected_by, unless_refused, value_component, value_item}
use Rattle.typing_rules.specs.Parts as parts
use Rattle.typing_rules.specs.Parts.{Arg, Operand}
use Rattle.typing_rules.specs.Reading.{args, suffix, suffixes, tick}
use Rattle.typing_rules.specs.Values.{call_value, component_subtype, entity_prefix, formals_of, prefix_fault, value_of}
use Rattle.typing_relations.specs.Demanded as demanded
use Rattle.typing_relations.specs.Demanded.{Begins, Makes, Valued}
use Rattle.typing_relations.specs.Obeys as rule
use Rattle.typing_relations.specs.Obeys.{Arguments, Follows, Index, Step, IsNoPart}
use Rattle.typing_relations.proofs.Accepting.{Accepts, Allows, Finds, accepts_map, allows_all, allows_map, finds_map, makes_accepts, then_accepts}
use Rattle.typing_relations.proofs.Parts.{ArgsGood, arguments_finds, conversion_step, index_finds, mapped_step}
use Rattle.typing_relations.proofs.Attributed.{attribute_step, range_step}
use Rattle.typing_relations.proofs.Aggregated.{qualified_step, unknown_accepts}
use Rattle.typing_relations.proofs.Values.{begins, valued}

-- ---- parts that obey

abbrev pub AttributeGood : Scope → tree.Attribute → Type 0
AttributeGood c (tree.attribute s) = Unit {0}
AttributeGood c tree.range_attribute = Unit {0}
AttributeGood c (tree.qualified as') = ArgsGood c as'

abbrev pub SuffixGood : Scope → tree.Suffix → Type 0
SuffixGood c (tree.selected s) = Unit {0}
SuffixGood c (tree.ticked s a) = AttributeGood c a
SuffixGood c (tree.applied as') = ArgsGood c as'

abbrev pub SuffixesGood : Scope → tree.Suffixes → Type 0
SuffixesGood c tree.no_suffixes = Unit {0}
SuffixesGood c (tree.suffixes s ss) = SuffixGood c s × SuffixesGood c ss

-- ---- selected components

unless_allows : (P : Prefix → Type 0) (o : Option Refusal) (g : Prefix) → Allows g P → Allows (unless_refused o g) P
unless_allows P (Some f) g h = tt
unless_allows P None g h = h

anew_step : (c : Scope) (w : Want) (p : Place) (f : Prefix) (s : Span) (l : Link) → c.link s.from ≡ Some l → Allows (selected_by c p f s.from (Some l)) (Step c w p f (tree.selected s))
anew_step c w p f s l e =
    let g = entity_prefix c p (entity_by c (Some l)) in
    unless_allows (Step c w p f (tree.selected s)) (prefix_fault f) g
    (allows_map (Begins c p (entity_by c (Some l))) (Step c w p f (tree.selected s)) (λ h i. rule.anew c w p f h s l e i) g (begins c p (entity_by c (Some l))))

part_place : (c : Scope) (w : Want) (p : Place) (g : Part) (s : Span) (cs : List Component) (m : Option ℕ) → c.link s.from ≡ None → components_at c.world g.subtype ≡ Some cs → place_among cs (c.name s.from) 0 ≡ m
    → Allows (component_part p g cs m) (Step c w p (prefix.Part g) (tree.selected s))
part_place c w p g s cs None e i j = tt
part_place c w p g s cs (Some n) e i j = rule.object_component c w p g s cs n e i j

part_components : (c : Scope) (w : Want) (p : Place) (g : Part) (s : Span) (m : Option (List Component)) → c.link s.from ≡ None → components_at c.world g.subtype ≡ m
    → Allows (part_component p (c.name s.from) g m) (Step c w p (prefix.Part g) (tree.selected s))
part_components c w p g s None e i = tt
part_components c w p g s (Some cs) e i = part_place c w p g s cs (place_among cs (c.name s.from) 0) e i refl

value_place : (c : Scope) (w : Want) (p : Place) (f : Prefix) (s : Span) (t : ℕ) (x : Expr) (cs : List Component) (m : Option ℕ) → c.link s.from ≡ None → IsNoPart f → Valued c.world p f (seen.Typed t x)
    → components_at c.world (subtype_of x) ≡ Some cs → place_among cs (c.name s.from) 0 ≡ m → Accepts (component_of c p x cs m) (λ v. Step c w p f (tree.selected s) (prefix.Value v))
value_place c w p f s t x cs None e o h i j = tt
value_place c w p f s t x cs (Some n) e o h i j =
    let k = component_subtype (Some cs) n in
    accepts_map (Makes c.world p k (node.Component x n)) (λ v. Step c w p f (tree.selected s) (prefix.Value v)) (λ v z. rule.value_component c w p f s t x cs n v e o h i j z) (seen_as c p k (node.Component x n)) (makes_accepts c p k (node.Component x n))

value_components : (c : Scope) (w : Want) (p : Place) (f : Prefix) (s : Span) (t : ℕ) (x : Expr) (m : Option (List Component)) → c.link s.from ≡ None → IsNoPart f → Valued c.world p f (seen.Typed t x) → components_at c.world (subtype_of x) ≡ m
    → Accepts (record_component c p (c.name s.from) x m) (λ v. Step c w p f (tree.selected s) (prefix.Value v))
value_components c w p f s t x None e o h i = tt
value_components c w p f s t x (Some cs) e o h i = value_place c w p f s t x cs (place_among cs (c.name s.from) 0) e o h i refl

value_component_step : (c : Scope) (w : Want) (p : Place) (f : Prefix) (s : Span) (u : Seen) → c.link s.from ≡ None → IsNoPart f → Accepts u (Valued c.world p f)
    → Accepts (value_component c p (c.name s.from) u) (λ v. Step c w p f (tree.selected s) (prefix.Value v))
value_component_step c w p f s (seen.Refused g) e o h = tt
value_component_step c w p f s seen.Unknown e o h = tt
value_component_step c w p f s (seen.Number n) e o h = tt
value_component_step c w p f s (seen.Typed t x) e o h = value_components c w p f s t x (components_at c.world (subtype_of x)) e o h refl

component_step : (c : Scope) (w : Want) (p : Place) (f : Prefix) (s : Span) → c.link s.from ≡ None → Allows (component c p (c.name s.from) f) (Step c w p f (tree.selected s))
component_step c w p (prefix.Part g) s e = part_components c w p g s (components_at c.world g.subtype) e refl
component_step c w p prefix.Package s e = let f = prefix.Package in value_component_step c w p f s (value_of c p f) e tt (valued c p f)
component_step c w p (prefix.Subtype k) s e = let f = prefix.Subtype k in value_component_step c w p f s (value_of c p f) e tt (valued c p f)
component_step c w p (prefix.Routine q) s e = let f = prefix.Routine q in value_component_step c w p f s (value_of c p f) e tt (valued c p f)
component_step c w p (prefix.Called q xs) s e = let f = prefix.Called q xs in value_component_step c w p f s (value_of c p f) e tt (valued c p f)
component_step c w p (prefix.Mapping m t k) s e = let f = prefix.Mapping m t k in value_component_step c w p f s (value_of c p f) e tt (valued c p f)
component_step c w p (prefix.Range b) s e = let f = prefix.Range b in value_component_step c w p f s (value_of c p f) e tt (valued c p f)
component_step c w p (prefix.Constant t x) s e = let f = prefix.Constant t x in value_component_step c w p f s (value_of c p f) e tt (valued c p f)
component_step c w p (prefix.Value v) s e = let f = prefix.Value v in value_component_step c w p f s (value_of c p f) e tt (valued c p f)

selected_step : (c : Scope) (w : Want) (p : Place) (f : Prefix) (s : Span) (m : Option Link) → c.link s.from ≡ m → Allows (selected_by c p f s.from m) (Step c w p f (tree.selected s))
selected_step c w p f s (Some l) e = anew_step c w p f s l e
selected_step c w p f s None e = component_step c w p f s e

-- ---- items

array_item_step : (c : Scope) (w : Want) (p : Place) (f : Prefix) (as' : tree.Args) (t : ℕ) (x : Expr) (m : Option Array) → ArgsGood c as' → IsNoPart f → Valued c.world p f (seen.Typed t x) → array_at c.world (subtype_of x) ≡ m
    → Accepts (array_item c p x (args c as') m) (λ v. Step c w p f (tree.applied as') (prefix.Value v))
array_item_step c w p f as' t x None h o i e = tt
array_item_step c w p f as' t x (Some a) h o i e =
    then_accepts (Index c a as') (λ v. Step c w p f (tree.applied as') (prefix.Value v)) (index_of c p a (args c as')) (λ z. seen_as c p a.item (node.Item x z)) (index_finds c p a as' h)
    (λ y j. accepts_map (Makes c.world p a.item (node.Item x y)) (λ v. Step c w p f (tree.applied as') (prefix.Value v)) (λ v z. rule.value_item c w p f as' t x a y v o i e j z) (seen_as c p a.item (node.Item x y)) (makes_accepts c p a.item (node.Item x y)))

value_item_step : (c : Scope) (w : Want) (p : Place) (f : Prefix) (as' : tree.Args) (u : Seen) → ArgsGood c as' → IsNoPart f → Accepts u (Valued c.world p f) → Accepts (value_item c p (args c as') u) (λ v. Step c w p f (tree.applied as') (prefix.Value v))
value_item_step c w p f as' (seen.Refused g) h o i = tt
value_item_step c w p f as' seen.Unknown h o i = unknown_accepts (λ v. Step c w p f (tree.applied as') (prefix.Value v)) c (args c as')
value_item_step c w p f as' (seen.Number n) h o i = tt
value_item_step c w p f as' (seen.Typed t x) h o i = array_item_step c w p f as' t x (array_at c.world (subtype_of x)) h o i refl

item_found : (c : Scope) (w : Want) (p : Place) (g : Part) (a : Array) (as' : tree.Args) (x : Found (Indexed Expr)) → array_at c.world g.subtype ≡ Some a → Finds x (Index c a as') → Allows (item_of g a x) (Step c w p (prefix.Part g) (tree.applied as'))
item_found c w p g a as' (found.Refused f) e h = tt
item_found c w p g a as' found.Unknown e h = tt
item_found c w p g a as' (found.Is x) e h = rule.object_item c w p g as' a x e h

part_item_step : (c : Scope) (w : Want) (p : Place) (g : Part) (as' : tree.Args) (m : Option Array) → ArgsGood c as' → array_at c.world g.subtype ≡ m → Allows (part_item c p g (args c as') m) (Step c w p (prefix.Part g) (tree.applied as'))
part_item_step c w p g as' None h e = tt
part_item_step c w p g as' (Some a) h e = item_found c w p g a as' (index_of c p a (args c as')) e (index_finds c p a as' h)

-- ---- calls

value_called : (c : Scope) (w : Want) (p : Place) (q k : ℕ) (r : Routine) (as' : tree.Args) (xs : Found (List (Argument Expr))) → routine_at c.world q ≡ Some r → r.result ≡ Some k
    → Finds xs (Arguments c (formals_of c.world r) [] false [] as') → Accepts (call_value c p q (Some k) xs) (λ v. Step c w p (prefix.Routine q) (tree.applied as') (prefix.Value v))
value_called c w p q k r as' xs e i h =
    then_accepts (Arguments c (formals_of c.world r) [] false [] as') (λ v. Step c w p (prefix.Routine q) (tree.applied as') (prefix.Value v)) xs (λ a. seen_as c p k (node.Call p q a)) h
    (λ a j. accepts_map (Makes c.world p k (node.Call p q a)) (λ v. Step c w p (prefix.Routine q) (tree.applied as') (prefix.Value v)) (λ v z. rule.function_call c w p q k r as' a v e i j z) (seen_as c p k (node.Call p q a)) (makes_accepts c p k (node.Call p q a)))

function_step : (c : Scope) (w : Want) (p : Place) (q k : ℕ) (r : Routine) (as' : tree.Args) (fs : List Formal) (m : Option Array) → routine_at c.world q ≡ Some r → r.result ≡ Some k → formals_of c.world r ≡ fs → ArgsGood c as'
    → Finds (arguments c p fs [] false (found.Is []) (args c as')) (Arguments c (formals_of c.world r) [] false [] as') → Allows (function_call c p q k (args c as') fs m) (Step c w p (prefix.Routine q) (tree.applied as'))
function_step c w p q k r as' [] (Some a) e i j h z =
    let n = node.Call p q [] in
    value_item_step c w p (prefix.Routine q) as' (seen_as c p k n) h tt (accepts_map (Makes c.world p k n) (Valued c.world p (prefix.Routine q)) (λ v y. demanded.of_call q k r v e i j y) (seen_as c p k n) (makes_accepts c p k n))
function_step c w p q k r as' [] None e i j h z = value_called c w p q k r as' (arguments c p [] [] false (found.Is []) (args c as')) e i z
function_step c w p q k r as' (f ∷ fs) m e i j h z = value_called c w p q k r as' (arguments c p (f ∷ fs) [] false (found.Is []) (args c as')) e i z

result_step : (c : Scope) (w : Want) (p : Place) (q : ℕ) (r : Routine) (as' : tree.Args) (k : Option ℕ) → routine_at c.world q ≡ Some r → r.result ≡ k → ArgsGood c as'
    → Allows (call_by c p q (args c as') k (formals_of c.world r)) (Step c w p (prefix.Routine q) (tree.applied as'))
result_step c w p q r as' (Some k) e i h = function_step c w p q k r as' (formals_of c.world r) (array_at c.world k) e i refl h (arguments_finds c p (formals_of c.world r) as' h)
result_step c w p q r as' None e i h =
    finds_map (Arguments c (formals_of c.world r) [] false [] as') (λ ys. Step c w p (prefix.Routine q) (tree.applied as') (prefix.Called q (found.Is ys))) (λ ys j. rule.procedure_call c w p q r as' ys e i j)
    (arguments c p (formals_of c.world r) [] false (found.Is []) (args c as')) (arguments_finds c p (formals_of c.world r) as' h)

call_step : (c : Scope) (w : Want) (p : Place) (q : ℕ) (as' : tree.Args) (m : Option Routine) → routine_at c.world q ≡ m → ArgsGood c as' → Allows (routine_call c p q (args c as') m) (Step c w p (prefix.Routine q) (tree.applied as'))
call_step c w p q as' None e h = unknown_accepts (λ v. Step c w p (prefix.Routine q) (tree.applied as') (prefix.Value v)) c (args c as')
call_step c w p q as' (Some r) e h = result_step c w p q r as' r.result e refl h

application_step : (c : Scope) (w : Want) (p : Place) (f : Prefix) (as' : tree.Args) → ArgsGood c as' → Allows (application c p f (args c as')) (Step c w p f (tree.applied as'))
application_step c w p (prefix.Subtype k) as' h = conversion_step c w p k as' h
application_step c w p (prefix.Routine q) as' h = call_step c w p q as' (routine_at c.world q) refl h
application_step c w p (prefix.Mapping m t k) as' h = mapped_step c w p m t k as' h
application_step c w p (prefix.Part g) as' h = part_item_step c w p g as' (array_at c.world g.subtype) h refl
application_step c w p prefix.Package as' h = let f = prefix.Package in value_item_step c w p f as' (value_of c p f) h tt (valued c p f)
application_step c w p (prefix.Called q xs) as' h = let f = prefix.Called q xs in value_item_step c w p f as' (value_of c p f) h tt (valued c p f)
application_step c w p (prefix.Range b) as' h = let f = prefix.Range b in value_item_step c w p f as' (value_of c p f) h tt (valued c p f)
application_step c w p (prefix.Constant t x) as' h = let f = prefix.Constant t x in value_item_step c w p f as' (value_of c p f) h tt (valued c p f)
application_step c w p (prefix.Value s) as' h = let f = prefix.Value s in value_item_step c w p f as' (value_of c p f) h tt (valued c p f)

-- ---- qualifications and attributes

unqualified : (P : Seen → Type 0) (p : Place) (s : Seen) → Accepts (no_subtype p s) P
unqualified P p (seen.Refused f) = tt
unqualified P p seen.Unknown = tt
unqualified P p (seen.Number n) = tt
unqualified P p (seen.Typed t x) = tt

qualification_step : (c : Scope) (w : Want) (p : Place) (f : Prefix) (s : Span) (as' : tree.Args) → ArgsGood c as'
    → Accepts (qualification c p f (c.place s.from) (args c as')) (λ v. Step c w p f (tree.ticked s (tree.qualified as')) (prefix.Value v))
qualification_step c w p (prefix.Subtype k) s as' h = qualified_step c w p k s as' h
qualification_step c w p prefix.Package s as' h = unqualified (λ v. Step c w p prefix.Package (tree.ticked s (tree.qualified as')) (prefix.Value v)) p (value_of c p prefix.Package)
qualification_step c w p (prefix.Routine q) s as' h = let f = prefix.Routine q in unqualified (λ v. Step c w p f (tree.ticked s (tree.qualified as')) (prefix.Value v)) p (value_of c p f)
qualification_step c w p (prefix.Called q xs) s as' h = let f = prefix.Called q xs in unqualified (λ v. Step c w p f (tree.ticked s (tree.qualified as')) (prefix.Value v)) p (value_of c p f)
qualification_step c w p (prefix.Mapping m t k) s as' h = let f = prefix.Mapping m t k in unqualified (λ v. Step c w p f (tree.ticked s (tree.qualified as')) (prefix.Value v)) p (value_of c p f)
qualification_step c w p (prefix.Range b) s as' h = let f = prefix.Range b in unqualified (λ v. Step c w p f (tree.ticked s (tree.qualified as')) (prefix.Value v)) p (value_of c p f)
qualification_step c w p (prefix.Constant t x) s as' h = let f = prefix.Constant t x in unqualified (λ v. Step c w p f (tree.ticked s (tree.qualified as')) (prefix.Value v)) p (value_of c p f)
qualification_step c w p (prefix.Part g) s as' h = let f = prefix.Part g in unqualified (λ v. Step c w p f (tree.ticked s (tree.qualified as')) (prefix.Value v)) p (value_of c p f)
qualification_step c w p (prefix.Value u) s as' h = let f = prefix.Value u in unqualified (λ v. Step c w p f (tree.ticked s (tree.qualified as')) (prefix.Value v)) p (value_of c p f)

tick_step : (c : Scope) (w : Want) (p : Place) (f : Prefix) (s : Span) (a : tree.Attribute) → AttributeGood c a → Allows (suffix_prefix c w p f (tick c s.from a)) (Step c w p f (tree.ticked s a))
tick_step c w p f s (tree.attribute t) h = attribute_step c w p f s t
tick_step c w p f s tree.range_attribute h = range_step c w p f s
tick_step c w p f s (tree.qualified as') h = qualification_step c w p f s as' h

pub suffix_step : (c : Scope) (w : Want) (p : Place) (f : Prefix) (s : tree.Suffix) → SuffixGood c s → Allows (suffix_prefix c w p f (suffix c s)) (Step c w p f s)
suffix_step c w p f (tree.selected s) h = selected_step c w p f s (c.link s.from) refl
suffix_step c w p f (tree.ticked s a) h = tick_step c w p f s a h
suffix_step c w p f (tree.applied as') h = application_step c w p f as' h

-- ---- what is refused stays so

abbrev IsRefused : Prefix → Type 0
IsRefused (prefix.Value (seen.Refused f)) = Unit {0}
IsRefused (prefix.Called q (found.Refused f)) = Unit {0}
IsRefused _ = ⊥

-- what a suffix makes of a name in which something is refused
abbrev Refuses : (Prefix → Prefix) → Type 0
Refuses n = ((g : Refusal) → IsRefused (n (prefix.Value (seen.Refused g)))) × ((q : ℕ) (g : Refusal) → IsRefused (n (prefix.Called q (found.Refused g))))

left_out_refused : (p : Place) (o : Option Refusal) → IsRefused (left_out p o)
left_out_refused p (Some f) = tt
left_out_refused p None = tt

left_out_refuses : (p : Place) → Refuses (λ f. left_out p (prefix_fault f))
left_out_refuses p = ((λ g. left_out_refused p (Some g)), (λ q g. left_out_refused p (Some g)))

old_refuses : (c : Scope) (p : Place) (m : Moment) → Refuses (λ f. prefix.Value (old_at c p f m))
old_refuses c p moment.InPost = ((λ g. tt), (λ q g. tt))
old_refuses c p (moment.InLoop l k) = ((λ g. tt), (λ q g. tt))
old_refuses c p moment.Elsewhere = ((λ g. tt), (λ q g. tt))

entry_refuses : (c : Scope) (p : Place) (m : Moment) → Refuses (λ f. prefix.Value (entry_at c p f m))
entry_refuses c p moment.InPost = ((λ g. tt), (λ q g. tt))
entry_refuses c p (moment.InLoop l k) = ((λ g. tt), (λ q g. tt))
entry_refuses c p moment.Elsewhere = ((λ g. tt), (λ q g. tt))

attribute_refuses : (c : Scope) (w : Want) (p t : Place) (m : Option Word) → Refuses (λ f. attribute_by c w p f t m)
attribute_refuses c w p t (Some word.First) = ((λ g. tt), (λ q g. tt))
attribute_refuses c w p t (Some word.Last) = ((λ g. tt), (λ q g. tt))
attribute_refuses c w p t (Some word.Length) = ((λ g. tt), (λ q g. tt))
attribute_refuses c w p t (Some word.Succ) = ((λ g. tt), (λ q g. tt))
attribute_refuses c w p t (Some word.Pred) = ((λ g. tt), (λ q g. tt))
attribute_refuses c w p t (Some word.Pos) = ((λ g. tt), (λ q g. tt))
attribute_refuses c w p t (Some word.Val) = ((λ g. tt), (λ q g. tt))
attribute_refuses c w p t (Some word.Old) = old_refuses c p c.moment
attribute_refuses c w p t (Some word.LoopEntry) = entry_refuses c p c.moment
attribute_refuses c w p t (Some word.Result) = ((λ g. tt), (λ q g. tt))
attribute_refuses c w p t (Some word.SparkMode) = left_out_refuses p
attribute_refuses c w p t (Some word.Pure) = left_out_refuses p
attribute_refuses c w p t (Some word.Preelaborate) = left_out_refuses p
attribute_refuses c w p t (Some word.Assert) = left_out_refuses p
attribute_refuses c w p t (Some word.Assume) = left_out_refuses p
attribute_refuses c w p t (Some word.LoopInvariant) = left_out_refuses p
attribute_refuses c w p t (Some word.LoopVariant) = left_out_refuses p
attribute_refuses c w p t (Some word.Pre) = left_out_refuses p
attribute_refuses c w p t (Some word.Post) = left_out_refuses p
attribute_refuses c w p t (Some word.Global) = left_out_refuses p
attribute_refuses c w p t (Some word.On) = left_out_refuses p
attribute_refuses c w p t (Some word.Check) = left_out_refuses p
attribute_refuses c w p t (Some word.Increases) = left_out_refuses p
attribute_refuses c w p t (Some word.Decreases) = left_out_refuses p
attribute_refuses c w p t (Some word.Input) = left_out_refuses p
attribute_refuses c w p t (Some word.Output) = left_out_refuses p
attribute_refuses c w p t (Some word.InOut) = left_out_refuses p
attribute_refuses c w p t None = left_out_refuses p

selected_refuses : (c : Scope) (p : Place) (at : ℕ) (m : Option Link) → Refuses (λ f. selected_by c p f at m)
selected_refuses c p at (Some l) = ((λ g. tt), (λ q g. tt))
selected_refuses c p at None = ((λ g. tt), (λ q g. tt))

suffix_refuses : (c : Scope) (w : Want) (p : Place) (s : parts.Suffix) → Refuses (λ f. suffix_prefix c w p f s)
suffix_refuses c w p (parts.selected at) = selected_refuses c p at (c.link at)
suffix_refuses c w p (parts.attribute t at) = attribute_refuses c w p (c.place t) (word_of (c.name at))
suffix_refuses c w p (parts.range_attribute t) = ((λ g. tt), (λ q g. tt))
suffix_refuses c w p (parts.qualified t as') = ((λ g. tt), (λ q g. tt))
suffix_refuses c w p (parts.applied as') = ((λ g. tt), (λ q g. tt))

still_refused : (n : Prefix → Prefix) (f : Prefix) → Refuses n → IsRefused f → IsRefused (n f)
still_refused n (prefix.Value (seen.Refused g)) h i = h.0 g
still_refused n (prefix.Called q (found.Refused g)) h i = h.1 q g
still_refused n prefix.Package h i = absurd i
still_refused n (prefix.Subtype k) h i = absurd i
still_refused n (prefix.Routine q) h i = absurd i
still_refused n (prefix.Called q found.Unknown) h i = absurd i
still_refused n (prefix.Called q (found.Is xs)) h i = absurd i
still_refused n (prefix.Mapping m t k) h i = absurd i
still_refused n (prefix.Range b) h i = absurd i
still_refused n (prefix.Constant t x) h i = absurd i
still_refused n (prefix.Part g) h i = absurd i
still_refused n (prefix.Value seen.Unknown) h i = absurd i
still_refused n (prefix.Value (seen.Number m)) h i = absurd i
still_refused n (prefix.Value (seen.Typed t x)) h i = absurd i

all_refused : (c : Scope) (w : Want) (p : Place) (f : Prefix) (ss : List parts.Suffix) → IsRefused f → IsRefused (suffixes_prefix c w p f ss)
all_refused c w p f [] h = h
all_refused c w p f (s ∷ ss) h = all_refused c w p (suffix_prefix c w p f s) ss (still_refused (λ g. suffix_prefix c w p g s) f (suffix_refuses c w p s) h)

refused_allows : (P : Prefix → Type 0) (f : Prefix) → IsRefused f → Allows f P
refused_allows P (prefix.Value (seen.Refused g)) i = tt
refused_allows P (prefix.Called q (found.Refused g)) i = tt
refused_allows P prefix.Package i = absurd i
refused_allows P (prefix.Subtype k) i = absurd i
refused_allows P (prefix.Routine q) i = absurd i
refused_allows P (prefix.Called q found.Unknown) i = absurd i
refused_allows P (prefix.Called q (found.Is xs)) i = absurd i
refused_allows P (prefix.Mapping m t k) i = absurd i
refused_allows P (prefix.Range b) i = absurd i
refused_allows P (prefix.Constant t x) i = absurd i
refused_allows P (prefix.Part g) i = absurd i
refused_allows P (prefix.Value seen.Unknown) i = absurd i
refused_allows P (prefix.Value (seen.Number m)) i = absurd i
refused_allows P (prefix.Value (seen.Typed t x)) i = absurd i

-- ---- all suffixes

-- What follows a name that is so or of which nothing is known, is what two such ways make of it.
pub from_there : (g h : Prefix) (B F P : Prefix → Type 0) → Allows g B → Allows h F → (IsRefused g → IsRefused h) → ((f : Prefix) → B g → F f → P f) → (rule.IsOpen g → (f : Prefix) → F f → P f) → Allows h P
from_there (prefix.Value (seen.Refused r)) h B F P b f i then free = refused_allows P h (i tt)
from_there (prefix.Called q (found.Refused r)) h B F P b f i then free = refused_allows P h (i tt)
from_there (prefix.Value seen.Unknown) h B F P b f i then free = allows_map F P (free tt) h f
from_there (prefix.Called q found.Unknown) h B F P b f i then free = allows_map F P (free tt) h f
from_there prefix.Package h B F P b f i then free = allows_map F P (λ k z. then k b z) h f
from_there (prefix.Subtype j) h B F P b f i then free = allows_map F P (λ k z. then k b z) h f
from_there (prefix.Routine q) h B F P b f i then free = allows_map F P (λ k z. then k b z) h f
from_there (prefix.Called q (found.Is xs)) h B F P b f i then free = allows_map F P (λ k z. then k b z) h f
from_there (prefix.Mapping m t j) h B F P b f i then free = allows_map F P (λ k z. then k b z) h f
from_there (prefix.Range r) h B F P b f i then free = allows_map F P (λ k z. then k b z) h f
from_there (prefix.Constant t x) h B F P b f i then free = allows_map F P (λ k z. then k b z) h f
from_there (prefix.Part g) h B F P b f i then free = allows_map F P (λ k z. then k b z) h f
from_there (prefix.Value (seen.Number n)) h B F P b f i then free = allows_map F P (λ k z. then k b z) h f
from_there (prefix.Value (seen.Typed t x)) h B F P b f i then free = allows_map F P (λ k z. then k b z) h f

pub follows : (c : Scope) (w : Want) (p : Place) (f : Prefix) (ss : tree.Suffixes) → SuffixesGood c ss → Allows (suffixes_prefix c w p f (suffixes c ss)) (Follows c w p f ss)
follows c w p f tree.no_suffixes h = allows_all (Follows c w p f tree.no_suffixes) f (rule.ended c w p f)
follows c w p f (tree.suffixes s ss) h =
    let g = suffix_prefix c w p f (suffix c s) in
    let k = suffixes_prefix c w p g (suffixes c ss) in
    from_there g k (Step c w p f s) (Follows c w p g ss) (Follows c w p f (tree.suffixes s ss)) (suffix_step c w p f s h.0) (follows c w p g ss h.1) (all_refused c w p g (suffixes c ss))
    (λ j b z. rule.then c w p f g j s ss b z) (λ o j z. rule.unknown_before c w p f g j s ss refl o z)

pub name_follows : (c : Scope) (w : Want) (s t i : Span) (ss : tree.Suffixes) → SuffixesGood c ss
    → Allows (suffixes_prefix c w (c.place s.from) (entity_prefix c (c.place s.from) (entity_of c i.from)) (suffixes c ss)) (rule.Stands c w (tree.at s (tree.name (tree.named t i ss))))
name_follows c w s t i ss h =
    let p = c.place s.from in
    let g = entity_prefix c p (entity_of c i.from) in
    let k = suffixes_prefix c w p g (suffixes c ss) in
    from_there g k (Begins c p (entity_of c i.from)) (Follows c w p g ss) (rule.Stands c w (tree.at s (tree.name (tree.named t i ss)))) (begins c p (entity_of c i.from)) (follows c w p g ss h) (all_refused c w p g (suffixes c ss))
    (λ j b z. rule.name c w s t i ss g j b z) (λ o j z. rule.name_after_unknown c w s t i ss g j refl o z)
