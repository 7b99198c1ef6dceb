-- Names: what is refused of a name with what follows it is the first of the broken rules.
use Rattle.std.proofs.Common.{◌≡◌, refl, sym, ◌∙◌, ap, false, List, [], ◌∷◌, ◌++◌, Option, Some, None}
use Rattle.std.specs.Prelude.{ℕ}
use Rattle.ada_values.specs.declared.place.Place.{Place}
use Rattle.ada_values.specs.declared.values.Value.{Value}
use Rattle.front_codes.specs.Codes.{first_of_two}
use Rattle.front_codes.specs.declared.codes.Code.TheVariants as code
use Rattle.front_codes.specs.declared.codes.Refusal.{Refusal}
use Rattle.name_library.specs.declared.links.Link.{Link}
use Rattle.name_numbers.specs.Numbers.{word_of}
use Rattle.name_numbers.specs.declared.words.Word.{Word}
use Rattle.name_numbers.specs.declared.words.Word.TheVariants as word
use Rattle.typed_units.specs.declared.expressions.Expr.{Expr, out-Expr}
use Rattle.typed_units.specs.declared.expressions.ExprNode.TheVariants as node
use Rattle.typed_units.specs.declared.expressions.Fitted.{Fitted}
use Rattle.typed_units.specs.declared.operators.Object.{Object}
use Rattle.type_base.specs.Scope.{Scope}
use Rattle.type_base.specs.declared.entities.Access.{Access}
use Rattle.type_base.specs.declared.entities.Entity.{Entity}
use Rattle.type_base.specs.declared.entities.Entity.TheVariants as entity
use Rattle.type_base.specs.declared.seen.Moment.{Moment}
use Rattle.type_base.specs.declared.seen.Moment.TheVariants as moment
use Rattle.type_base.specs.declared.seen.Seen.TheVariants as seen
use Rattle.type_base.specs.declared.seen.Want.{Want}
use Rattle.type_base.specs.declared.seen.Want.TheVariants as want
use Rattle.type_base.specs.Demands.{broken}
use Rattle.type_base.specs.Faults.{First, fault, fault_of, listed}
use Rattle.type_base.specs.Lookups.{constant_at, type_at}
use Rattle.type_base.proofs.Firsts.{first_listed, merge}
use Rattle.typing_rules.specs.declared.prefix.Found.{Found}
use Rattle.typing_rules.specs.declared.prefix.Found.TheVariants as found
use Rattle.typing_rules.specs.declared.prefix.Prefix.{Prefix}
use Rattle.typing_rules.specs.declared.prefix.Prefix.TheVariants as prefix
use Rattle.typing_rules.specs.Aggregates.{aggregate, qualification, qualified_as, qualified_by, qualified_node}
use Rattle.typing_rules.specs.Attributes.{attribute_by, entry_at, left_out, old_at}
use Rattle.typing_rules.specs.Faults.{aggregate_faults, attribute_inside, faults_of, grouped_faults, name_faults, own_fault, qualified_inside, suffix_inside, suffixes_faults}
use Rattle.typing_rules.specs.Fits.{fit, found_fault}
use Rattle.typing_rules.specs.Forms.{name_prefix, suffix_prefix, suffixes_prefix}
use Rattle.typing_rules.specs.Lookups.{entity_of, scalar_value, seen_as, type_of}
use Rattle.typing_rules.specs.Names.{only_operand, selected_by}
use Rattle.typing_rules.specs.Parts.{Arg, Operand, Suffix, applied, attribute, qualified, range_attribute, selected}
use Rattle.typing_rules.specs.Values.{constant_by, entity_prefix, object_by, place_of, prefix_fault, seen_of}
use Rattle.typing_laws.proofs.Merging.{first_after, first_alone, first_as, first_joined, first_more, first_within, merge_again, merge_itself, merge_later, merge_swapped}
use Rattle.typing_laws.proofs.Operands.{ArgsFirst, MaybeFirst, SuffixFirst, SuffixesFirst, seen_as_is, seen_then_is, waits_merged}
use Rattle.typing_laws.proofs.Arguments.{fit_waits}
use Rattle.typing_laws.proofs.Aggregated.{aggregate_first}
use Rattle.typing_laws.proofs.Indexing.{application_first, inside_as, inside_waits, only_first}

-- ---- qualifications

qualified_as_is : (c : Scope) (p : Place) (k : ℕ) (v : Found (Fitted Expr)) → fault_of (qualified_as c p k v) ≡ found_fault v
qualified_as_is c p k v = seen_then_is v (λ x. seen_as c p k (qualified_node x x.bounds (out-Expr x.value).node)) (λ x. seen_as_is c p k (qualified_node x x.bounds (out-Expr x.value).node))

qualified_first : (c : Scope) (p : Place) (k : ℕ) (t : Place) (as' : List Arg) (o : Option Operand) → ArgsFirst as' → MaybeFirst o
    → First (fault_of (qualified_by c p k t as' o)) (grouped_faults c t (want.Subtype k) as' o ++ listed (fault_of (qualified_by c p k t as' o)))
qualified_first c p k t as' (Some o) h i =
    let s = seen_of c o (want.Subtype k) in
    let v = fit c.world code.L18 false k (place_of c o) s in
    inside_as (fault_of (qualified_as c p k v)) (found_fault v) (faults_of c o (want.Subtype k)) (qualified_as_is c p k v)
    (inside_waits c o (want.Subtype k) (found_fault v) i (fit_waits c.world code.L18 false k (place_of c o) s))
qualified_first c p k t as' None h i =
    let s = aggregate c t (want.Subtype k) as' in
    let v = fit c.world code.L18 false k t s in
    inside_as (fault_of (qualified_as c p k v)) (found_fault v) (aggregate_faults c t (want.Subtype k) as') (qualified_as_is c p k v)
    (first_within (fault_of s) (found_fault v) (aggregate_faults c t (want.Subtype k) as') (aggregate_first c t (want.Subtype k) as' h) (waits_merged s (found_fault v) (fit_waits c.world code.L18 false k t s)))

qualification_first : (c : Scope) (p : Place) (f : Prefix) (t : Place) (as' : List Arg) → ArgsFirst as' → First (fault_of (qualification c p f t as')) (qualified_inside c t f as' ++ listed (fault_of (qualification c p f t as')))
qualification_first c p (prefix.Subtype k) t as' h = qualified_first c p k t as' (only_operand as') h (only_first as' h)
qualification_first c p prefix.Package t as' h = first_listed (fault_of (qualification c p prefix.Package t as'))
qualification_first c p (prefix.Routine q) t as' h = first_listed (fault_of (qualification c p (prefix.Routine q) t as'))
qualification_first c p (prefix.Called q xs) t as' h = first_listed (fault_of (qualification c p (prefix.Called q xs) t as'))
qualification_first c p (prefix.Mapping m u k) t as' h = first_listed (fault_of (qualification c p (prefix.Mapping m u k) t as'))
qualification_first c p (prefix.Range b) t as' h = first_listed (fault_of (qualification c p (prefix.Range b) t as'))
qualification_first c p (prefix.Constant u x) t as' h = first_listed (fault_of (qualification c p (prefix.Constant u x) t as'))
qualification_first c p (prefix.Part g) t as' h = first_listed (fault_of (qualification c p (prefix.Part g) t as'))
qualification_first c p (prefix.Value s) t as' h = first_listed (fault_of (qualification c p (prefix.Value s) t as'))

-- ---- one more suffix

-- What a suffix makes of a prefix, with the rules that are broken inside it: what is refused is told besides these; a value that is
-- refused stays so, but for what is broken inside; and so does a procedure's call, whose value is refused too.
abbrev Kept : (Prefix → Option Refusal) → (Prefix → List Refusal) → Type 0
Kept n xs =
    ((f : Prefix) → First (n f) (xs f ++ listed (n f)))
    × (((g : Refusal) (fs : List Refusal) → First (Some g) fs → First (n (prefix.Value (seen.Refused g))) (fs ++ (xs (prefix.Value (seen.Refused g)) ++ [])))
    × ((q : ℕ) (g : Refusal) (fs : List Refusal) → First (Some g) fs → First (n (prefix.Called q (found.Refused g))) (fs ++ (xs (prefix.Called q (found.Refused g)) ++ listed (n (prefix.Called q (found.Refused g)))))))

value_kept : (u : Option Refusal) (g : Refusal) (fs : List Refusal) → u ≡ Some g → First (Some g) fs → First u (fs ++ [])
value_kept u g fs e h = first_as u (Some g) (fs ++ []) e (first_alone (Some g) fs h)

call_kept : (p : Place) (u : Option Refusal) (g : Refusal) (fs : List Refusal) → u ≡ Some (first_of_two (broken code.L12 p) g) → First (Some g) fs → First u (fs ++ listed u)
call_kept p u g fs e h = first_within (Some g) u fs h (ap (merge (Some g)) e ∙ merge_later (Some g) (Some (broken code.L12 p)) ∙ sym e)

-- an attribute, inside which no rule is broken
attribute_kept : (p : Place) (n : Prefix → Option Refusal) → ((g : Refusal) → n (prefix.Value (seen.Refused g)) ≡ Some g)
    → ((q : ℕ) (g : Refusal) → n (prefix.Called q (found.Refused g)) ≡ Some (first_of_two (broken code.L12 p) g)) → Kept n (λ f. [])
attribute_kept p n h i = (
  (λ f. first_listed (n f)),
  (
    (λ g fs j. value_kept (n (prefix.Value (seen.Refused g))) g fs (h g) j),
    (λ q g fs j. call_kept p (n (prefix.Called q (found.Refused g))) g fs (i q g) j),
  ),
)

left_out_is : (p : Place) (o : Option Refusal) → prefix_fault (left_out p o) ≡ merge (fault code.LeftOut p) o
left_out_is p (Some f) = refl
left_out_is p None = refl

left_out_told : (p : Place) (o : Option Refusal) → First (prefix_fault (left_out p o)) (listed (fault code.LeftOut p) ++ listed (prefix_fault (left_out p o)))
left_out_told p o =
    let l = fault code.LeftOut p in
    inside_as (prefix_fault (left_out p o)) (merge l o) (listed l) (left_out_is p o) (first_within l (merge l o) (listed l) (first_listed l) (merge_again l o))

left_out_kept : (p : Place) → Kept (λ f. prefix_fault (left_out p (prefix_fault f))) (λ f. listed (fault code.LeftOut p))
left_out_kept p = (
  (λ f. left_out_told p (prefix_fault f)),
  (
    (λ g fs h.
        let l = fault code.LeftOut p in first_more (Some g) l (merge l (Some g)) fs (listed l) (merge_swapped l (Some g)) h (first_listed l)),
    (λ q g fs h.
        let l = fault code.LeftOut p in
        first_more (Some g) (merge l (Some g)) (merge l (Some g)) fs (listed l ++ listed (merge l (Some g))) (sym (merge_later (Some g) l)) h (left_out_told p (Some g))),
  ),
)

old_value : (c : Scope) (p : Place) (g : Refusal) (m : Moment) → fault_of (old_at c p (prefix.Value (seen.Refused g)) m) ≡ Some g
old_value c p g moment.InPost = refl
old_value c p g (moment.InLoop l k) = refl
old_value c p g moment.Elsewhere = refl

old_call : (c : Scope) (p : Place) (q : ℕ) (g : Refusal) (m : Moment) → fault_of (old_at c p (prefix.Called q (found.Refused g)) m) ≡ Some (first_of_two (broken code.L12 p) g)
old_call c p q g moment.InPost = refl
old_call c p q g (moment.InLoop l k) = refl
old_call c p q g moment.Elsewhere = refl

entry_value : (c : Scope) (p : Place) (g : Refusal) (m : Moment) → fault_of (entry_at c p (prefix.Value (seen.Refused g)) m) ≡ Some g
entry_value c p g moment.InPost = refl
entry_value c p g (moment.InLoop l k) = refl
entry_value c p g moment.Elsewhere = refl

entry_call : (c : Scope) (p : Place) (q : ℕ) (g : Refusal) (m : Moment) → fault_of (entry_at c p (prefix.Called q (found.Refused g)) m) ≡ Some (first_of_two (broken code.L12 p) g)
entry_call c p q g moment.InPost = refl
entry_call c p q g (moment.InLoop l k) = refl
entry_call c p q g moment.Elsewhere = refl

attributed_kept : (c : Scope) (w : Want) (p t : Place) (m : Option Word) → Kept (λ f. prefix_fault (attribute_by c w p f t m)) (λ f. attribute_inside p m)
attributed_kept c w p t (Some word.First) = attribute_kept p (λ f. prefix_fault (attribute_by c w p f t (Some word.First))) (λ g. refl) (λ q g. refl)
attributed_kept c w p t (Some word.Last) = attribute_kept p (λ f. prefix_fault (attribute_by c w p f t (Some word.Last))) (λ g. refl) (λ q g. refl)
attributed_kept c w p t (Some word.Length) = attribute_kept p (λ f. prefix_fault (attribute_by c w p f t (Some word.Length))) (λ g. refl) (λ q g. refl)
attributed_kept c w p t (Some word.Succ) = attribute_kept p (λ f. prefix_fault (attribute_by c w p f t (Some word.Succ))) (λ g. refl) (λ q g. refl)
attributed_kept c w p t (Some word.Pred) = attribute_kept p (λ f. prefix_fault (attribute_by c w p f t (Some word.Pred))) (λ g. refl) (λ q g. refl)
attributed_kept c w p t (Some word.Pos) = attribute_kept p (λ f. prefix_fault (attribute_by c w p f t (Some word.Pos))) (λ g. refl) (λ q g. refl)
attributed_kept c w p t (Some word.Val) = attribute_kept p (λ f. prefix_fault (attribute_by c w p f t (Some word.Val))) (λ g. refl) (λ q g. refl)
attributed_kept c w p t (Some word.Old) = attribute_kept p (λ f. prefix_fault (attribute_by c w p f t (Some word.Old))) (λ g. old_value c p g c.moment) (λ q g. old_call c p q g c.moment)
attributed_kept c w p t (Some word.LoopEntry) = attribute_kept p (λ f. prefix_fault (attribute_by c w p f t (Some word.LoopEntry))) (λ g. entry_value c p g c.moment) (λ q g. entry_call c p q g c.moment)
attributed_kept c w p t (Some word.Result) = attribute_kept p (λ f. prefix_fault (attribute_by c w p f t (Some word.Result))) (λ g. refl) (λ q g. refl)
attributed_kept c w p t (Some word.SparkMode) = left_out_kept p
attributed_kept c w p t (Some word.Pure) = left_out_kept p
attributed_kept c w p t (Some word.Preelaborate) = left_out_kept p
attributed_kept c w p t (Some word.Assert) = left_out_kept p
attributed_kept c w p t (Some word.Assume) = left_out_kept p
attributed_kept c w p t (Some word.LoopInvariant) = left_out_kept p
attributed_kept c w p t (Some word.LoopVariant) = left_out_kept p
attributed_kept c w p t (Some word.Pre) = left_out_kept p
attributed_kept c w p t (Some word.Post) = left_out_kept p
attributed_kept c w p t (Some word.Global) = left_out_kept p
attributed_kept c w p t (Some word.On) = left_out_kept p
attributed_kept c w p t (Some word.Check) = left_out_kept p
attributed_kept c w p t (Some word.Increases) = left_out_kept p
attributed_kept c w p t (Some word.Decreases) = left_out_kept p
attributed_kept c w p t (Some word.Input) = left_out_kept p
attributed_kept c w p t (Some word.Output) = left_out_kept p
attributed_kept c w p t (Some word.InOut) = left_out_kept p
attributed_kept c w p t None = left_out_kept p

-- an identifier that has a link keeps what is refused before it
selected_value : (c : Scope) (p : Place) (at : ℕ) (g : Refusal) (m : Option Link) → prefix_fault (selected_by c p (prefix.Value (seen.Refused g)) at m) ≡ Some g
selected_value c p at g (Some l) = refl
selected_value c p at g None = refl

selected_call : (c : Scope) (p : Place) (at q : ℕ) (g : Refusal) (m : Option Link)
    → merge (Some g) (prefix_fault (selected_by c p (prefix.Called q (found.Refused g)) at m)) ≡ prefix_fault (selected_by c p (prefix.Called q (found.Refused g)) at m)
selected_call c p at q g (Some l) = merge_itself (Some g)
selected_call c p at q g None = merge_later (Some g) (Some (broken code.L12 p))

suffix_kept : (c : Scope) (w : Want) (p : Place) (s : Suffix) → SuffixFirst s → Kept (λ f. prefix_fault (suffix_prefix c w p f s)) (λ f. suffix_inside c p f s)
suffix_kept c w p (selected at) h = (
  (λ f. first_listed (prefix_fault (selected_by c p f at (c.link at)))),
  (
    (λ g fs i. value_kept (prefix_fault (selected_by c p (prefix.Value (seen.Refused g)) at (c.link at))) g fs (selected_value c p at g (c.link at)) i),
    (λ q g fs i. first_within (Some g) (prefix_fault (selected_by c p (prefix.Called q (found.Refused g)) at (c.link at))) fs i (selected_call c p at q g (c.link at))),
  ),
)
suffix_kept c w p (attribute t at) h = attributed_kept c w p (c.place t) (word_of (c.name at))
suffix_kept c w p (range_attribute t) h = attribute_kept p (λ f. prefix_fault (suffix_prefix c w p f (range_attribute t))) (λ g. refl) (λ q g. refl)
suffix_kept c w p (qualified t as') h = (
  (λ f. qualification_first c p f (c.place t) as' h),
  (
    (λ g fs i. value_kept (Some g) g fs refl i),
    (λ q g fs i. call_kept p (Some (first_of_two (broken code.L12 p) g)) g fs refl i),
  ),
)
suffix_kept c w p (applied as') h = (
  (λ f. application_first c p f as' h),
  (
    (λ g fs i. value_kept (Some g) g fs refl i),
    (λ q g fs i. call_kept p (Some (first_of_two (broken code.L12 p) g)) g fs refl i),
  ),
)

kept_first : (n : Prefix → Option Refusal) (xs : Prefix → List Refusal) (f : Prefix) (fs : List Refusal) → Kept n xs → First (prefix_fault f) fs → First (n f) (fs ++ (xs f ++ own_fault f (n f)))
kept_first n xs prefix.Package fs k h = first_after (n prefix.Package) fs (xs prefix.Package ++ listed (n prefix.Package)) h (k.0 prefix.Package)
kept_first n xs (prefix.Subtype j) fs k h = let f = prefix.Subtype j in first_after (n f) fs (xs f ++ listed (n f)) h (k.0 f)
kept_first n xs (prefix.Routine q) fs k h = let f = prefix.Routine q in first_after (n f) fs (xs f ++ listed (n f)) h (k.0 f)
kept_first n xs (prefix.Called q (found.Refused g)) fs k h = k.1.1 q g fs h
kept_first n xs (prefix.Called q found.Unknown) fs k h = let f = prefix.Called q found.Unknown in first_after (n f) fs (xs f ++ listed (n f)) h (k.0 f)
kept_first n xs (prefix.Called q (found.Is as')) fs k h = let f = prefix.Called q (found.Is as') in first_after (n f) fs (xs f ++ listed (n f)) h (k.0 f)
kept_first n xs (prefix.Mapping m t j) fs k h = let f = prefix.Mapping m t j in first_after (n f) fs (xs f ++ listed (n f)) h (k.0 f)
kept_first n xs (prefix.Range b) fs k h = let f = prefix.Range b in first_after (n f) fs (xs f ++ listed (n f)) h (k.0 f)
kept_first n xs (prefix.Constant t x) fs k h = let f = prefix.Constant t x in first_after (n f) fs (xs f ++ listed (n f)) h (k.0 f)
kept_first n xs (prefix.Part g) fs k h = let f = prefix.Part g in first_after (n f) fs (xs f ++ listed (n f)) h (k.0 f)
kept_first n xs (prefix.Value (seen.Refused g)) fs k h = k.1.0 g fs h
kept_first n xs (prefix.Value seen.Unknown) fs k h = let f = prefix.Value seen.Unknown in first_after (n f) fs (xs f ++ listed (n f)) h (k.0 f)
kept_first n xs (prefix.Value (seen.Number m)) fs k h = let f = prefix.Value (seen.Number m) in first_after (n f) fs (xs f ++ listed (n f)) h (k.0 f)
kept_first n xs (prefix.Value (seen.Typed t x)) fs k h = let f = prefix.Value (seen.Typed t x) in first_after (n f) fs (xs f ++ listed (n f)) h (k.0 f)

-- ---- all suffixes

suffixes_first : (c : Scope) (w : Want) (p : Place) (f : Prefix) (ss : List Suffix) (fs : List Refusal) → SuffixesFirst ss → First (prefix_fault f) fs
    → First (prefix_fault (suffixes_prefix c w p f ss)) (fs ++ suffixes_faults c w p f ss)
suffixes_first c w p f [] fs h i = first_alone (prefix_fault f) fs i
suffixes_first c w p f (s ∷ ss) fs h i =
    let g = suffix_prefix c w p f s in
    let gs = suffix_inside c p f s ++ own_fault f (prefix_fault g) in
    first_joined (prefix_fault (suffixes_prefix c w p g ss)) fs gs (suffixes_faults c w p g ss)
    (suffixes_first c w p g ss (fs ++ gs) h.1
    (kept_first (λ z. prefix_fault (suffix_prefix c w p z s)) (λ z. suffix_inside c p z s) f fs (suffix_kept c w p s h.0) i))

-- ---- what a name begins with

constant_is : (p : Place) (k : ℕ) (v : Option Value) (m : Option ℕ) → prefix_fault (constant_by p k v m) ≡ None
constant_is p k (Some v) (Some t) = refl
constant_is p k (Some v) None = refl
constant_is p k None m = refl

object_is : (p : Place) (k : ℕ) (o : Object) (a : Access) (m : Option ℕ) → prefix_fault (object_by p k o a m) ≡ None
object_is p k o a (Some t) = refl
object_is p k o a None = refl

entity_is : (c : Scope) (p : Place) (e : Entity) → prefix_fault (entity_prefix c p e) ≡ None
entity_is c p entity.Unknown = refl
entity_is c p entity.Package = refl
entity_is c p (entity.Subtype k) = refl
entity_is c p (entity.Routine q) = refl
entity_is c p (entity.Number n) = refl
entity_is c p (entity.Literal k n) = seen_as_is c p k (node.Static (scalar_value k n))
entity_is c p (entity.Static k n) = constant_is p k (Some (scalar_value (type_of c.world k) n)) (type_at c.world k)
entity_is c p (entity.Constant k n) = constant_is p k (constant_at c.world n) (type_at c.world k)
entity_is c p (entity.Object k o a) = object_is p k o a (type_at c.world k)

pub name_first : (c : Scope) (w : Want) (p : Place) (i : ℕ) (ss : List Suffix) → SuffixesFirst ss → First (prefix_fault (name_prefix c w p i ss)) (name_faults c w p i ss)
name_first c w p i ss h =
    let f = entity_prefix c p (entity_of c i) in suffixes_first c w p f ss [] h (first_as (prefix_fault f) None [] (entity_is c p (entity_of c i)) refl)
