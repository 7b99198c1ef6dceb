-- What the walk does with the parts is what the rules say.
use Rattle.std.proofs.Common.{◌≡◌, refl, sym, ap, ◌∙◌, ℕ, ◌+◌, ◌<◌, ◌≤◌, true, false, List, [], ◌∷◌, length, drop, get_or, Option, Some, None}
use Rattle.std.proofs.lemmas.List.{drop_more}
use Rattle.ada_syntax.specs.declared.expressions.Arg.{Arg as Written}
use Rattle.ada_syntax.specs.declared.expressions.Expr.{Expr}
use Rattle.ada_values.specs.declared.place.Place.{Place}
use Rattle.syntax_view.specs.Trees as tree
use Rattle.type_base.specs.Demands.{operand}
use Rattle.type_base.specs.Standard.{boolean}
use Rattle.type_base.specs.declared.seen.Demand.TheVariants as demand
use Rattle.syntax_view.specs.View.{arg_of, args_of, expr}
use Rattle.type_base.specs.Scope.{Scope}
use Rattle.type_base.specs.declared.seen.Family.{Family}
use Rattle.type_base.specs.declared.seen.Family.TheVariants as family
use Rattle.front_codes.specs.declared.codes.Code.TheVariants as code
use Rattle.type_base.specs.Results.{moved}
use Rattle.type_base.specs.declared.seen.Seen.{Seen}
use Rattle.type_base.specs.declared.seen.Seen.TheVariants as seen
use Rattle.type_base.specs.declared.seen.Want.{Want}
use Rattle.type_base.specs.declared.seen.Want.TheVariants as want
use Rattle.type_base.specs.declared.world.Formal.{Formal}
use Rattle.typed_units.specs.declared.expressions.Expr.{Expr as Typed}
use Rattle.typing_rules.specs.declared.prefix.Found.{Found}
use Rattle.typing_rules.specs.declared.prefix.Found.TheVariants.{Is}
use Rattle.typing_rules.specs.declared.prefix.Prefix.{Prefix}
use Rattle.typing_rules.specs.declared.prefix.Prefix.TheVariants as prefix
use Rattle.typing_rules.specs.Aggregates.{grouped, aggregate, qualified_by, qualified_as}
use Rattle.typing_rules.specs.Calls.{arguments, operand_of}
use Rattle.typing_rules.specs.Fits.{fit}
use Rattle.typing_rules.specs.Forms.{left_want, right_want}
use Rattle.type_base.specs.declared.seen.Parameter.{Parameter}
use Rattle.typing_rules.specs.Lookups.{Array, with_index}
use Rattle.typing_rules.specs.Names.{after_unknown, function_call, indexed_call, operand_beside, only_operand}
use Rattle.typing_rules.specs.Parts.{Arg, Operand}
use Rattle.typing_rules.specs.Conditions.{condition}
use Rattle.typing_rules.specs.Ranges.{found_expr}
use Rattle.typing_rules.specs.Reading.{arg, args, read}
use Rattle.typing_rules.specs.Values.{call_value, place_of, value_of}
use Rattle.expression_kinds.proofs.Alone.{many}
use Rattle.operand_rules.specs.Operands.{read_maybe, value_read}
use Rattle.operand_rules.specs.declared.operands.ReadOperand.{ReadOperand}
use Rattle.expression_reader.specs.Reader.{is_indexed, left_want_by, right_want_by}

none_some : {A : Type 0} (a : A) → None ≡ Some a → ⊥
none_some a e = cc

false_true : false ≡ true → ⊥
false_true e = cc

pub left_by_kind : (c : Scope) (f : Family) (w : Want) (o : Operand) → left_want_by c f w o.kind ≡ left_want c f w o
left_by_kind c (family.Arithmetic p) w o = refl
left_by_kind c (family.Compare r) w o = refl
left_by_kind c (family.Connect k) w o = refl
left_by_kind c family.Power w o = refl

pub right_by_kind : (c : Scope) (f : Family) (w : Want) (o : Operand) → right_want_by c f w o.kind ≡ right_want c f w o
right_by_kind c (family.Arithmetic p) w o = refl
right_by_kind c (family.Compare r) w o = refl
right_by_kind c (family.Connect k) w o = refl
right_by_kind c family.Power w o = refl

pub call_indexed : (c : Scope) (p : Place) (q k : ℕ) (as' : List Arg) (fs : List Formal) (a : Option Array) → is_indexed fs a ≡ true → prefix.Value (indexed_call c p q (Some k) as') ≡ function_call c p q k as' fs a
call_indexed c p q k as' [] (Some a) h = refl
call_indexed c p q k as' [] None h = absurd (false_true h)
call_indexed c p q k as' (f ∷ fs) a h = absurd (false_true h)

pub call_given : (c : Scope) (p : Place) (q k : ℕ) (as' : List Arg) (fs : List Formal) (a : Option Array) → is_indexed fs a ≡ false → prefix.Value (call_value c p q (Some k) (arguments c p fs [] false (Is []) as')) ≡ function_call c p q k as' fs a
call_given c p q k as' [] (Some a) h = absurd (false_true (sym h))
call_given c p q k as' [] None h = refl
call_given c p q k as' (f ∷ fs) a h = refl

-- more arguments than one are none alone
pub more : (c : Scope) (w : Want) (as' : List (Written Expr)) → 2 ≤ length as' → None ≡ read_maybe c w (only_operand (args c (args_of expr as')))
more c w as' h = sym (ap (read_maybe c w) (many c as' h))

pub one_before : (c : Scope) (as' : List (Written Expr)) (n : ℕ) (a : Written Expr) → n < length as' → operand_beside c (operand_of (arg c (arg_of expr (get_or as' n a)))) (after_unknown c (args c (args_of expr (drop (n + 1) as')))) ≡ after_unknown c (args c (args_of expr (drop n as')))
one_before c as' n a h = ap (λ (bs : List (Written Expr)). after_unknown c (args c (args_of expr bs))) (sym (drop_more as' n a h))

abbrev value_or : Scope → Option ReadOperand → Seen
value_or c (Some r) = value_read c r
value_or c None = seen.Unknown

abbrev place_or : Place → Option ReadOperand → Place
place_or p (Some r) = r.place
place_or p None = p

pub grouped_some : (c : Scope) (p : Place) (w : Want) (as' : List Arg) (o : Option Operand) (r : ReadOperand) → read_maybe c w o ≡ Some r → moved p (value_read c r) ≡ grouped c p w as' o
grouped_some c p w as' (Some o) r h = ap (λ (x : Option ReadOperand). moved p (value_or c x)) (sym h)
grouped_some c p w as' None r h = absurd (none_some r h)

pub grouped_none : (c : Scope) (p : Place) (w : Want) (as' : List Arg) (o : Option Operand) → read_maybe c w o ≡ None → aggregate c p w as' ≡ grouped c p w as' o
grouped_none c p w as' None h = refl
grouped_none c p w as' (Some o) h = absurd (none_some _ (sym h))

pub qualified_some : (c : Scope) (p : Place) (k : ℕ) (t : Place) (as' : List Arg) (o : Option Operand) (r : ReadOperand) → read_maybe c (want.Subtype k) o ≡ Some r → qualified_as c p k (fit c.world code.L18 false k r.place (value_read c r)) ≡ qualified_by c p k t as' o
qualified_some c p k t as' (Some o) r h = ap (λ (x : Option ReadOperand). qualified_as c p k (fit c.world code.L18 false k (place_or t x) (value_or c x))) (sym h)
qualified_some c p k t as' None r h = absurd (none_some r h)

pub qualified_none : (c : Scope) (p : Place) (k : ℕ) (t : Place) (as' : List Arg) (o : Option Operand) → read_maybe c (want.Subtype k) o ≡ None → qualified_as c p k (fit c.world code.L18 false k t (aggregate c t (want.Subtype k) as')) ≡ qualified_by c p k t as' o
qualified_none c p k t as' None h = refl
qualified_none c p k t as' (Some o) h = absurd (none_some _ (sym h))

-- the scope of a predicate
pub inner : (c : Scope) (at k j : ℕ) (ps : List Parameter) → ps ≡ (with_index c at k).parameters → k ≡ j → record c { parameters = ps } ≡ with_index c at j
inner c at k j ps h e = ap (λ (qs : List Parameter). record c { parameters = qs }) h ∙ ap (with_index c at) e

-- a predicate, which is read in its scope
pub predicate : (c : Scope) (at k j : ℕ) (ps : List Parameter) (e : tree.Expr) → ps ≡ (with_index c at k).parameters → k ≡ j → found_expr (operand c.world demand.Truth code.L23 (place_of (record c { parameters = ps }) (read (record c { parameters = ps }) e)) (value_of c (place_of (record c { parameters = ps }) (read (record c { parameters = ps }) e)) ((read (record c { parameters = ps }) e).prefix (want.Type boolean)))) ≡ condition c code.L23 (read (with_index c at j) e)
predicate c at k j ps e h i = ap (λ (d : Scope). found_expr (operand c.world demand.Truth code.L23 (place_of d (read d e)) (value_of c (place_of d (read d e)) ((read d e).prefix (want.Type boolean))))) (inner c at k j ps h i)

pub predicate_of : (c : Scope) (at k j : ℕ) (ps qs : List Parameter) (e : tree.Expr) (q : Place) (f : Prefix) (s : Seen) (r : Found Typed) → qs ≡ ps → ps ≡ (with_index c at k).parameters → k ≡ j
    → q ≡ place_of (record c { parameters = qs }) (read (record c { parameters = qs }) e) → f ≡ (read (record c { parameters = qs }) e).prefix (want.Type boolean) → s ≡ value_of c q f
    → r ≡ found_expr (operand c.world demand.Truth code.L23 q s) → r ≡ condition c code.L23 (read (with_index c at j) e)
predicate_of c at k j ps qs e q f s r same h i there read_for value made =
    made ∙ ap (λ (x : Seen). found_expr (operand c.world demand.Truth code.L23 q x)) value
    ∙ ap (λ (g : Prefix). found_expr (operand c.world demand.Truth code.L23 q (value_of c q g))) read_for
    ∙ ap (λ (p : Place). found_expr (operand c.world demand.Truth code.L23 p (value_of c p ((read (record c { parameters = qs }) e).prefix (want.Type boolean))))) there
    ∙ predicate c at k j qs e (same ∙ h) i
