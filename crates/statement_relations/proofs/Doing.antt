-- Accepted statements obey their rules.
use Rattle.std.proofs.Common.{◌≡◌, refl, subst, ap, sym, ◌∙◌, ℕ, Bool, true, false, List, [], ◌∷◌, ◌++◌, map, Option, Some, None}
use Rattle.std.specs.Prelude.{◌&&◌, if◌then◌else◌}
use Rattle.ada_text.specs.declared.token.Span.{Span}
use Rattle.ada_values.specs.declared.place.Place.{Place}
use Rattle.front_codes.specs.declared.codes.Code.TheVariants as code
use Rattle.name_numbers.specs.declared.words.Word.{Word}
use Rattle.name_numbers.specs.declared.words.Word.TheVariants as word
use Rattle.syntax_view.specs.Trees as tree
use Rattle.typed_units.specs.declared.expressions.Expr.{Expr}
use Rattle.typed_units.specs.declared.expressions.Fitted.{Fitted}
use Rattle.typed_units.specs.declared.operators.Object.TheVariants as object
use Rattle.typed_units.specs.declared.statements.Action.TheVariants as action
use Rattle.typed_units.specs.declared.statements.Alternative.{Alternative}
use Rattle.typed_units.specs.declared.statements.Branch.{Branch}
use Rattle.typed_units.specs.declared.statements.Demand.TheVariants as demand
use Rattle.typed_units.specs.declared.statements.Head.TheVariants as head
use Rattle.typed_units.specs.declared.statements.Stmt.{Stmt, roll-Stmt}
use Rattle.type_base.specs.Scope.{Scope}
use Rattle.type_base.specs.declared.seen.Want.TheVariants as want
use Rattle.typing_rules.specs.declared.prefix.Between.{Between}
use Rattle.typing_rules.specs.declared.prefix.Found.{Found}
use Rattle.typing_rules.specs.declared.prefix.Found.TheVariants as found
use Rattle.typing_rules.specs.declared.prefix.Part.{Part}
use Rattle.typing_rules.specs.Fits.{both, with_found}
use Rattle.typing_rules.specs.Lookups.{with_parameter}
use Rattle.typing_rules.specs.Reading.{call_seen, seen, target_seen}
use Rattle.statement_typing.specs.declared.parts.Selected.{Selected}
use Rattle.statement_typing.specs.declared.parts.Spread.{Spread}
use Rattle.statement_typing.specs.Asked.{place_of, range_seen}
use Rattle.statement_typing.specs.Checks.{added, all_of, and_also, refuse, unless}
use Rattle.statement_typing.specs.Choices.{any_others, cover, has_others, others_last, selector, selector_want, spreads_in}
use Rattle.statement_typing.specs.Pragmas.{checked, ways}
use Rattle.statement_typing.specs.Statements.{Around, Body, Loop, Returns, Stage, a_value, action_at, add_after, add_before, add_demand, after_group, alternative_of, alternatives_onto, assignment, before_group, body_onto, branches_onto, call_action, case_at, demand_of, empty, entry, exit_of, in_group, in_loop, in_pragma, inside, invocation, is_demand, may_stand, nothing, pragma_by, return_of, returned, sort_of, sort_of_pragma, stage_after, stmt, stmt_place, stmts, stmts_onto, tested, value_for, with_demand, with_stmt, with_turn}
use Rattle.statement_typing.specs.Subtypes.{heard, part}
use Rattle.typing_relations.specs.Obeys.{Condition}
use Rattle.typing_relations.proofs.Accepting.{BothAre, Finds, both_are, both_finds, finds_always, finds_itself, finds_map, found_as, with_finds}
use Rattle.statement_relations.specs.Asks.{AllChoose, Calls, Checks, Covers, IsFor, Ranges, Selects, Targets, Ways}
use Rattle.statement_relations.specs.Does as rule
use Rattle.statement_relations.specs.Does.{Acts, AllDo, Alternatives, Branches, Demands, Does, Heads, IsOther, Repeats}
use Rattle.statement_relations.proofs.Asking.{calls_finds, checks_finds, is_for, ranges_finds, targets_finds, tested_finds, ways_finds}
use Rattle.statement_relations.proofs.Choosing.{Onto, all_chosen, covers_finds, selects_finds}
use Rattle.statement_relations.proofs.Parted.{IsAdded, added_is, and_also_both, and_also_left, unless_finds}

-- ---- statements without statements in them

abbrev Value : Scope → tree.Expr → Found Part → Fitted Expr → Type 0
Value c e t x = (g : Part) × (t ≡ found.Is g) × IsFor c true g.subtype e x

value_finds : (c : Scope) (e : tree.Expr) (t : Found Part) → Finds (value_for c t e) (Value c e t)
value_finds c e (found.Is g) = finds_map (IsFor c true g.subtype e) (Value c e (found.Is g)) (λ x h. (g, refl, h)) (value_for c (found.Is g) e) (is_for c code.L8 true g.subtype e)
value_finds c e found.Unknown = and_also_left (Value c e found.Unknown) found.Unknown (heard (seen c want.Unknown e)) tt
value_finds c e (found.Refused f) = and_also_left (Value c e (found.Refused f)) found.Unknown (heard (seen c want.Unknown e)) tt

assigned : (a : Around) (p : Place) (s : Span) (n : tree.Name) (e : tree.Expr) → Finds (assignment a.scope n e) (Acts a p s (tree.assign n e))
assigned a p s n e =
    let c = a.scope in
    let t = target_seen c n in
    both_finds (λ g. (t ≡ found.Is g) × Targets c n g) (Value c e t) (Acts a p s (tree.assign n e)) (λ g f. action.Assign g.target f) t (value_for c t e)
    (both_so (λ g. t ≡ found.Is g) (Targets c n) t (finds_itself t) (targets_finds c n)) (value_finds c e t)
    (λ g x h i. rule.assigns a p s n e g x h.1 (subst (λ (k : Part). IsFor c true k.subtype e x) (same_part t g i.0 h.0 i.1) i.2))
  where
    both_so : {A : Type 0} → (P Q : A → Type 0) (y : Found A) → Finds y P → Finds y Q → Finds y (λ z. P z × Q z)
    both_so P Q (found.Refused f) h i = tt
    both_so P Q found.Unknown h i = tt
    both_so P Q (found.Is z) h i = (h, i)

    same_part : (t : Found Part) (g k : Part) → t ≡ found.Is g → t ≡ found.Is k → k ≡ g
    same_part t g k h i = cc

called : (a : Around) (p : Place) (s : Span) (n : tree.Name) → Finds (invocation a.scope n) (Acts a p s (tree.call n))
called a p s n = with_finds (λ k. Calls a.scope n k.routine k.arguments) (Acts a p s (tree.call n)) call_action (call_seen a.scope n) (calls_finds a.scope n) (λ k h. rule.calls a p s n k.routine k.arguments h)

abbrev Given : Around → tree.Expr → Found ℕ → Fitted Expr → Type 0
Given a e k x = (n : ℕ) × (k ≡ found.Is n) × IsFor a.scope false n e x

given_finds : (a : Around) (e : tree.Expr) (k : Found ℕ) → Finds (returned a.scope k e) (Given a e k)
given_finds a e (found.Is n) = finds_map (IsFor a.scope false n e) (Given a e (found.Is n)) (λ x h. (n, refl, h)) (returned a.scope (found.Is n) e) (is_for a.scope code.L13 false n e)
given_finds a e found.Unknown = and_also_left (Given a e found.Unknown) found.Unknown (heard (seen a.scope want.Unknown e)) tt
given_finds a e (found.Refused f) = and_also_left (Given a e (found.Refused f)) found.Unknown (heard (seen a.scope want.Unknown e)) tt

returned_by : (a : Around) (p : Place) (s : Span) (e : Option tree.Expr) (r : Returns) → a.returns ≡ r → Finds (return_of a p r e) (Acts a p s (tree.return e))
returned_by a p s None nothing h = rule.returns a p s h
returned_by a p s (Some e) nothing h = and_also_left (Acts a p s (tree.return (Some e))) (refuse code.L13 (place_of a.scope e)) (heard (seen a.scope want.Free e)) tt
returned_by a p s None (a_value k) h = tt
returned_by a p s (Some e) (a_value k) h =
    with_finds (Given a e k) (Acts a p s (tree.return (Some e))) action.Give (returned a.scope k e) (given_finds a e k)
    (λ x i. rule.gives a p s i.0 e x (h ∙ ap a_value i.1) i.2)

in_loop_finds : (p : Place) (l : Option Loop) → Finds (in_loop l p) (λ b. (k : Loop) × (l ≡ Some k))
in_loop_finds p None = tt
in_loop_finds p (Some k) = (k, refl)

exited : (a : Around) (p : Place) (s : Span) (e : Option tree.Expr) → Finds (exit_of a p e) (Acts a p s (tree.exit e))
exited a p s None =
    with_finds (λ b. (k : Loop) × (a.loop ≡ Some k)) (Acts a p s (tree.exit None)) (λ b. action.Exit) (in_loop a.loop p) (in_loop_finds p a.loop) (λ b h. rule.exits a p s h.0 h.1)
exited a p s (Some e) =
    both_finds (λ b. (k : Loop) × (a.loop ≡ Some k)) (Condition a.scope e) (Acts a p s (tree.exit (Some e))) (λ b x. action.ExitWhen x) (in_loop a.loop p) (tested a.scope e)
    (in_loop_finds p a.loop) (tested_finds a.scope e) (λ b x h i. rule.exits_when a p s h.0 e x h.1 i)

pragma_finds : (a : Around) (p : Place) (s : Span) (q : tree.Pragma) (o : Option Word) → a.word q.name.from ≡ o → Finds (pragma_by a p o q.args) (Acts a p s (tree.pragma_stmt q))
pragma_finds a p s q (Some word.Assert) e =
    with_finds (Checks a.word (in_pragma a) q.args) (Acts a p s (tree.pragma_stmt q)) action.Assert (checked a.word (in_pragma a) p q.args) (checks_finds a.word (in_pragma a) p q.args) (λ x h. rule.asserts a p s q x e h)
pragma_finds a p s q (Some word.Assume) e =
    with_finds (Checks a.word (in_pragma a) q.args) (Acts a p s (tree.pragma_stmt q)) action.Assume (checked a.word (in_pragma a) p q.args) (checks_finds a.word (in_pragma a) p q.args) (λ x h. rule.assumes a p s q x e h)
pragma_finds a p s q (Some word.LoopInvariant) e = and_also_left (Acts a p s (tree.pragma_stmt q)) (refuse code.L25 p) (checked a.word (in_pragma a) p q.args) tt
pragma_finds a p s q (Some word.LoopVariant) e = and_also_left (Acts a p s (tree.pragma_stmt q)) (refuse code.L25 p) (ways a.word (in_pragma a) p q.args) tt
pragma_finds a p s q o e = rule.passes_over a p s q (subst IsOther (sym e) tt)

-- ---- heads and groups of loops

heads_finds : (c : Scope) (h : tree.LoopHead) → Finds (entry c h).head (λ x. Heads c h x (entry c h).scope)
heads_finds c tree.forever = rule.forever
heads_finds c (tree.while e) = with_finds (Condition c e) (λ x. Heads c (tree.while e) x c) head.While (tested c e) (tested_finds c e) (λ x h. rule.while e x h)
heads_finds c (tree.for s b g) = for_finds (range_seen c code.L22 want.Free g) refl
  where
    for_finds : (r : Found Between) → range_seen c code.L22 want.Free g ≡ r
        → Finds (with_found (λ x. head.For b (record { number = c.number s.from; subtype = x.subtype }) x.low x.high) r) (λ x. Heads c (tree.for s b g) x (entry c (tree.for s b g)).scope)
    for_finds (found.Refused f) e = tt
    for_finds found.Unknown e = tt
    for_finds (found.Is r) e =
        let ranges = found_as (Ranges c code.L22 want.Free g) (range_seen c code.L22 want.Free g) r e (ranges_finds c code.L22 want.Free g) in
        let turns : (entry c (tree.for s b g)).scope ≡ with_parameter c s.from r.subtype (object.Turn (c.number s.from)) = ap (with_turn c s) e in
        subst (Heads c (tree.for s b g) (head.For b (record { number = c.number s.from; subtype = r.subtype }) r.low r.high)) (sym turns) (rule.for s b g r ranges)

demands_by : (a : Around) (p : Place) (s : Span) (q : tree.Pragma) (o : Option Word) → a.word q.name.from ≡ o → Finds (demand_of a p (sort_of_pragma o q.args)) (Demands a (tree.statement s (tree.pragma_stmt q)))
demands_by a p s q (Some word.LoopInvariant) e =
    with_finds (Checks a.word (in_pragma a) q.args) (Demands a (tree.statement s (tree.pragma_stmt q))) demand.Invariant (checked a.word (in_pragma a) p q.args) (checks_finds a.word (in_pragma a) p q.args)
    (λ x h. rule.invariant s q x e h)
demands_by a p s q (Some word.LoopVariant) e =
    with_finds (Ways a.word (in_pragma a) [] q.args) (Demands a (tree.statement s (tree.pragma_stmt q))) demand.Variant (ways a.word (in_pragma a) p q.args) (ways_finds a.word (in_pragma a) p q.args)
    (λ x h. rule.variant s q x e h)
demands_by a p s q o e = tt

demands_finds : (a : Around) (s : tree.Stmt) → Finds (demand_of a (stmt_place a s) (sort_of a s)) (Demands a s)
demands_finds a (tree.statement s (tree.pragma_stmt q)) = demands_by a (a.scope.place s.from) s q (a.word q.name.from) refl
demands_finds a (tree.statement s tree.skip) = tt
demands_finds a (tree.statement s (tree.call n)) = tt
demands_finds a (tree.statement s (tree.assign n e)) = tt
demands_finds a (tree.statement s (tree.branches bs ss)) = tt
demands_finds a (tree.statement s (tree.case_of e as')) = tt
demands_finds a (tree.statement s (tree.loop h ss)) = tt
demands_finds a (tree.statement s (tree.exit e)) = tt
demands_finds a (tree.statement s (tree.return e)) = tt

-- ---- lists that begin with nothing

from_nothing : {A : Type 0} → (P : List A → List A → Type 0) (x : Found (List A)) → Finds x (Onto (found.Is []) P) → Finds x (P [])
from_nothing {A = A} P x h = finds_map (Onto (found.Is []) P) (P []) (λ ys i. subst (λ (l : List A). P l ys) (empty i.0 i.1) i.2) x h
  where
    empty : (l : List A) → found.Is [] ≡ found.Is l → l ≡ []
    empty l e = cc

-- ---- `case`, of what its alternatives are

selected_finds : (a : Around) (p : Place) (s : Span) (e : tree.Expr) (as' : tree.Alternatives) → ((t : ℕ) → Finds (alternatives_onto a (want.Type t) (found.Is []) as') (Alternatives a t [] as'))
    → (x : Found Selected) → part a.scope want.Free e (selector a.scope e) ≡ x
    → Finds (case_at p x (unless (others_last as') code.L21 p true) (cover a.scope p x as') (alternatives_onto a (selector_want x) (found.Is []) as')) (Acts a p s (tree.case_of e as'))
selected_finds a p s e as' h (found.Refused f) z = nothing_found (found.Refused f) tt
  where
    nothing_found : (x : Found Selected) → Finds x (λ y. ⊥) → Finds (case_at p x (unless (others_last as') code.L21 p true) (cover a.scope p x as') (alternatives_onto a (selector_want x) (found.Is []) as')) (Acts a p s (tree.case_of e as'))
    nothing_found x i =
        let o = unless (others_last as') code.L21 p true in
        let k = cover a.scope p x as' in
        let ys = alternatives_onto a (selector_want x) (found.Is []) as' in
        both_finds (λ y. ⊥) (λ y. Unit {0}) (Acts a p s (tree.case_of e as')) (λ y us. action.Case y.value us) (and_also (and_also x o) k) ys
        (and_also_left (λ y. ⊥) (and_also x o) k (and_also_left (λ y. ⊥) x o i)) (finds_always (Unit {0}) ys tt) (λ y us l m. absurd l)
selected_finds a p s e as' h found.Unknown z =
    let o = unless (others_last as') code.L21 p true in
    let k = cover a.scope p found.Unknown as' in
    let ys = alternatives_onto a want.Unknown (found.Is []) as' in
    both_finds (λ y. ⊥) (λ y. Unit {0}) (Acts a p s (tree.case_of e as')) (λ y us. action.Case y.value us) (and_also (and_also found.Unknown o) k) ys
    (and_also_left (λ y. ⊥) (and_also found.Unknown o) k (and_also_left (λ y. ⊥) found.Unknown o tt)) (finds_always (Unit {0}) ys tt) (λ y us l m. absurd l)
selected_finds a p s e as' h (found.Is x) z =
    let c = a.scope in
    let o = unless (others_last as') code.L21 p true in
    let k = cover c p (found.Is x) as' in
    let Is : Selected → Type 0 = λ y. y ≡ x in
    let Last : Type 0 = others_last as' ≡ true in
    let Whole : Type 0 = Covers c x (any_others as') as' in
    let selects = found_as (Selects c e) (part c want.Free e (selector c e)) x z (selects_finds c e) in
    both_finds (λ y. (Is y × Last) × Whole) (Alternatives a x.of [] as') (Acts a p s (tree.case_of e as')) (λ y us. action.Case y.value us) (and_also (and_also (found.Is x) o) k) (alternatives_onto a (want.Type x.of) (found.Is []) as')
    (and_also_both (λ y. Is y × Last) Whole (and_also (found.Is x) o) k
    (and_also_both Is Last (found.Is x) o refl (finds_map (λ b. Last × (b ≡ true)) (λ b. Last) (λ b i. i.0) o (unless_finds (others_last as') code.L21 p true)))
    (covers_finds c p x as')) (h x.of)
    (λ y us i j. subst (λ (w : Selected). Acts a p s (tree.case_of e as') (action.Case w.value us)) (sym i.0.0) (rule.selects a p s e as' x us selects i.0.1 i.1 j))

-- ---- all statements

abbrev After : Around → Stage → Found Body → tree.Stmts → Body → Type 0
After a t done ss z = (y : Body) × (done ≡ found.Is y) × Repeats a t y ss z

-- the rest of a loop's statements, where this is the next
next_finds : (a : Around) (t : Stage) (done : Found Body) (s : tree.Stmt) (ss : tree.Stmts) (b : Bool) → (is_demand (sort_of a s) && may_stand t (sort_of a s)) ≡ b → Finds (stmt a s) (Does a s)
    → Finds (body_onto a (stage_after t (sort_of a s)) (with_demand done (demand_of a (stmt_place a s) (sort_of a s))) ss) (After a (stage_after t (sort_of a s)) (with_demand done (demand_of a (stmt_place a s) (sort_of a s))) ss)
    → Finds (body_onto a (stage_after t (sort_of a s)) (with_stmt t done (stmt a s)) ss) (After a (stage_after t (sort_of a s)) (with_stmt t done (stmt a s)) ss)
    → Finds (if b then body_onto a (stage_after t (sort_of a s)) (with_demand done (demand_of a (stmt_place a s) (sort_of a s))) ss else body_onto a (stage_after t (sort_of a s)) (with_stmt t done (stmt a s)) ss) (After a t done (tree.stmts s ss))
next_finds a t done s ss true e h i j =
    let d = demand_of a (stmt_place a s) (sort_of a s) in
    finds_map (After a (stage_after t (sort_of a s)) (with_demand done d) ss) (After a t done (tree.stmts s ss))
    (λ z k. one z k.0 (found_as (λ y. BothAre add_demand done d y) (with_demand done d) k.0 k.1 (both_are add_demand done d)) k.2)
    (body_onto a (stage_after t (sort_of a s)) (with_demand done d) ss) i
  where
    one : (z y : Body) → BothAre add_demand done (demand_of a (stmt_place a s) (sort_of a s)) y → Repeats a (stage_after t (sort_of a s)) y ss z → After a t done (tree.stmts s ss) z
    one z y k m =
        let is = found_as (Demands a s) (demand_of a (stmt_place a s) (sort_of a s)) k.right k.is_right (demands_finds a s) in
        (k.left, k.is_left, rule.demands a t k.left z s ss k.right e is (subst (λ (l : Body). Repeats a (stage_after t (sort_of a s)) l ss z) k.together m))
next_finds a before_group done s ss false e h i j =
    finds_map (After a (stage_after before_group (sort_of a s)) (with_stmt before_group done (stmt a s)) ss) (After a before_group done (tree.stmts s ss))
    (λ z k. one z k.0 (found_as (λ y. BothAre add_before done (stmt a s) y) (both add_before done (stmt a s)) k.0 k.1 (both_are add_before done (stmt a s))) k.2)
    (body_onto a (stage_after before_group (sort_of a s)) (with_stmt before_group done (stmt a s)) ss) j
  where
    one : (z y : Body) → BothAre add_before done (stmt a s) y → Repeats a (stage_after before_group (sort_of a s)) y ss z → After a before_group done (tree.stmts s ss) z
    one z y k m =
        let is = found_as (Does a s) (stmt a s) k.right k.is_right h in
        (k.left, k.is_left, rule.before a k.left z s ss k.right e is (subst (λ (l : Body). Repeats a (stage_after before_group (sort_of a s)) l ss z) k.together m))
next_finds a (in_group v) done s ss false e h i j =
    finds_map (After a (stage_after (in_group v) (sort_of a s)) (with_stmt (in_group v) done (stmt a s)) ss) (After a (in_group v) done (tree.stmts s ss))
    (λ z k. one z k.0 (found_as (λ y. BothAre add_after done (stmt a s) y) (both add_after done (stmt a s)) k.0 k.1 (both_are add_after done (stmt a s))) k.2)
    (body_onto a (stage_after (in_group v) (sort_of a s)) (with_stmt (in_group v) done (stmt a s)) ss) j
  where
    one : (z y : Body) → BothAre add_after done (stmt a s) y → Repeats a (stage_after (in_group v) (sort_of a s)) y ss z → After a (in_group v) done (tree.stmts s ss) z
    one z y k m =
        let is = found_as (Does a s) (stmt a s) k.right k.is_right h in
        (k.left, k.is_left, rule.right_after a v k.left z s ss k.right e is (subst (λ (l : Body). Repeats a (stage_after (in_group v) (sort_of a s)) l ss z) k.together m))
next_finds a after_group done s ss false e h i j =
    finds_map (After a (stage_after after_group (sort_of a s)) (with_stmt after_group done (stmt a s)) ss) (After a after_group done (tree.stmts s ss))
    (λ z k. one z k.0 (found_as (λ y. BothAre add_after done (stmt a s) y) (both add_after done (stmt a s)) k.0 k.1 (both_are add_after done (stmt a s))) k.2)
    (body_onto a (stage_after after_group (sort_of a s)) (with_stmt after_group done (stmt a s)) ss) j
  where
    one : (z y : Body) → BothAre add_after done (stmt a s) y → Repeats a (stage_after after_group (sort_of a s)) y ss z → After a after_group done (tree.stmts s ss) z
    one z y k m =
        let is = found_as (Does a s) (stmt a s) k.right k.is_right h in
        (k.left, k.is_left, rule.later a k.left z s ss k.right e is (subst (λ (l : Body). Repeats a (stage_after after_group (sort_of a s)) l ss z) k.together m))

mutual
  pub does_finds : (a : Around) (s : tree.Stmt) → Finds (stmt a s) (Does a s)
  does_finds a (tree.statement s x) =
      let p = a.scope.place s.from in
      with_finds (Acts a p s x) (Does a (tree.statement s x)) (λ y. roll-Stmt (record { place = p; action = y })) (action_at a p s x) (acts_finds a p s x) (λ y h. rule.does a s x y h)

  acts_finds : (a : Around) (p : Place) (s : Span) (x : tree.Action) → Finds (action_at a p s x) (Acts a p s x)
  acts_finds a p s tree.skip = rule.skips a p s
  acts_finds a p s (tree.call n) = called a p s n
  acts_finds a p s (tree.assign n e) = assigned a p s n e
  acts_finds a p s (tree.branches bs ss) =
      both_finds (Branches a [] bs) (AllDo a [] ss) (Acts a p s (tree.branches bs ss)) action.If (branches_onto a (found.Is []) bs) (stmts_onto a (found.Is []) ss)
      (from_nothing (λ xs ys. Branches a xs bs ys) (branches_onto a (found.Is []) bs) (branches_finds a (found.Is []) bs))
      (from_nothing (λ xs ys. AllDo a xs ss ys) (stmts_onto a (found.Is []) ss) (all_finds a (found.Is []) ss)) (λ xs ys h i. rule.branches a p s bs ss xs ys h i)
  acts_finds a p s (tree.case_of e as') =
      selected_finds a p s e as' (λ t. from_nothing (λ xs ys. Alternatives a t xs as' ys) (alternatives_onto a (want.Type t) (found.Is []) as') (alternatives_finds a t (found.Is []) as'))
      (part a.scope want.Free e (selector a.scope e)) refl
  acts_finds a p s (tree.loop h ss) =
      let n = a.scope.number s.from in
      let e = entry a.scope h in
      let b = inside a p n e in
      both_finds (λ x. Heads a.scope h x e.scope) (After b before_group (found.Is empty) ss) (Acts a p s (tree.loop h ss))
      (λ x y. action.Loop (record { number = n; head = x; before = y.before; group = y.group; after = y.after })) e.head (body_onto b before_group (found.Is empty) ss)
      (heads_finds a.scope h) (body_finds b before_group (found.Is empty) ss)
      (λ x y i j. rule.loops a p s h ss x e.scope y i (subst (λ (l : Body). Repeats b before_group l ss y) (no_body j.0 j.1) j.2))
    where
      no_body : (l : Body) → found.Is empty ≡ found.Is l → l ≡ empty
      no_body l i = cc
  acts_finds a p s (tree.exit e) = exited a p s e
  acts_finds a p s (tree.return e) = returned_by a p s e a.returns refl
  acts_finds a p s (tree.pragma_stmt q) = pragma_finds a p s q (a.word q.name.from) refl

  pub all_finds : (a : Around) (done : Found (List Stmt)) (ss : tree.Stmts) → Finds (stmts_onto a done ss) (Onto done (λ xs ys. AllDo a xs ss ys))
  all_finds a done tree.no_stmts = finds_map (λ ys. done ≡ found.Is ys) (Onto done (λ xs ys. AllDo a xs tree.no_stmts ys)) (λ ys e. (ys, e, rule.no_more a ys)) done (finds_itself done)
  all_finds a done (tree.stmts s ss) =
      let more = added done (stmt a s) in
      finds_map (Onto more (λ xs ys. AllDo a xs ss ys)) (Onto done (λ xs ys. AllDo a xs (tree.stmts s ss) ys)) (λ ys h. one (does_finds a s) ys h.0 (added_is done (stmt a s) h.0 h.1) h.2)
      (stmts_onto a more ss) (all_finds a more ss)
    where
      one : Finds (stmt a s) (Does a s) → (ys zs : List Stmt) → IsAdded done (stmt a s) zs → AllDo a zs ss ys → Onto done (λ xs us. AllDo a xs (tree.stmts s ss) us) ys
      one good ys zs d h =
          let is = found_as (Does a s) (stmt a s) d.item d.is_item good in
          (d.before, d.is_before, rule.one_more a d.before ys s ss d.item is (subst (λ (l : List Stmt). AllDo a l ss ys) d.together h))

  branches_finds : (a : Around) (done : Found (List (Branch Stmt))) (bs : tree.Branches) → Finds (branches_onto a done bs) (Onto done (λ xs ys. Branches a xs bs ys))
  branches_finds a done tree.no_branches = finds_map (λ ys. done ≡ found.Is ys) (Onto done (λ xs ys. Branches a xs tree.no_branches ys)) (λ ys e. (ys, e, rule.no_branches a ys)) done (finds_itself done)
  branches_finds a done (tree.branch e ss bs) =
      let x = both (λ y ys. record { condition = y; body = ys }) (tested a.scope e) (stmts_onto a (found.Is []) ss) in
      let more = added done x in
      finds_map (Onto more (λ xs ys. Branches a xs bs ys)) (Onto done (λ xs ys. Branches a xs (tree.branch e ss bs) ys)) (λ ys h. one (from_nothing (λ zs us. AllDo a zs ss us) (stmts_onto a (found.Is []) ss) (all_finds a (found.Is []) ss)) ys h.0 (added_is done x h.0 h.1) h.2)
      (branches_onto a more bs) (branches_finds a more bs)
    where
      one : Finds (stmts_onto a (found.Is []) ss) (AllDo a [] ss) → (ys zs : List (Branch Stmt)) → IsAdded done (both (λ y us. record { condition = y; body = us }) (tested a.scope e) (stmts_onto a (found.Is []) ss)) zs → Branches a zs bs ys
          → Onto done (λ xs us. Branches a xs (tree.branch e ss bs) us) ys
      one good ys zs d h =
          let make : Expr → List Stmt → Branch Stmt = λ y us. record { condition = y; body = us } in
          let x = both make (tested a.scope e) (stmts_onto a (found.Is []) ss) in
          let is = found_as (λ z. BothAre make (tested a.scope e) (stmts_onto a (found.Is []) ss) z) x d.item d.is_item (both_are make (tested a.scope e) (stmts_onto a (found.Is []) ss)) in
          let test = found_as (Condition a.scope e) (tested a.scope e) is.left is.is_left (tested_finds a.scope e) in
          let body = found_as (AllDo a [] ss) (stmts_onto a (found.Is []) ss) is.right is.is_right good in
          let put : zs ≡ d.before ++ (make is.left is.right ∷ []) = d.together ∙ ap (λ (b : Branch Stmt). d.before ++ (b ∷ [])) is.together in
          (d.before, d.is_before, rule.one_branch a d.before ys e ss bs is.left is.right test body (subst (λ (l : List (Branch Stmt)). Branches a l bs ys) put h))

  alternatives_finds : (a : Around) (t : ℕ) (done : Found (List (Alternative Stmt))) (as' : tree.Alternatives) → Finds (alternatives_onto a (want.Type t) done as') (Onto done (λ xs ys. Alternatives a t xs as' ys))
  alternatives_finds a t done tree.no_alternatives =
      finds_map (λ ys. done ≡ found.Is ys) (Onto done (λ xs ys. Alternatives a t xs tree.no_alternatives ys)) (λ ys e. (ys, e, rule.no_alternatives a t ys)) done (finds_itself done)
  alternatives_finds a t done (tree.alternative ks ss as') =
      let x = alternative_of a.scope (want.Type t) ks (stmts_onto a (found.Is []) ss) in
      let more = added done x in
      finds_map (Onto more (λ xs ys. Alternatives a t xs as' ys)) (Onto done (λ xs ys. Alternatives a t xs (tree.alternative ks ss as') ys)) (λ ys h. one (from_nothing (λ zs us. AllDo a zs ss us) (stmts_onto a (found.Is []) ss) (all_finds a (found.Is []) ss)) ys h.0 (added_is done x h.0 h.1) h.2)
      (alternatives_onto a (want.Type t) more as') (alternatives_finds a t more as')
    where
      one : Finds (stmts_onto a (found.Is []) ss) (AllDo a [] ss) → (ys zs : List (Alternative Stmt)) → IsAdded done (alternative_of a.scope (want.Type t) ks (stmts_onto a (found.Is []) ss)) zs → Alternatives a t zs as' ys
          → Onto done (λ xs us. Alternatives a t xs (tree.alternative ks ss as') us) ys
      one good ys zs d h =
          let make : List Spread → List Stmt → Alternative Stmt = λ xs us. record { choices = map (λ z. z.choice) xs; others = has_others ks; body = us } in
          let choices = all_of (spreads_in a.scope (want.Type t) ks) in
          let x = both make choices (stmts_onto a (found.Is []) ss) in
          let is = found_as (λ z. BothAre make choices (stmts_onto a (found.Is []) ss) z) x d.item d.is_item (both_are make choices (stmts_onto a (found.Is []) ss)) in
          let chosen = found_as (AllChoose a.scope t [] ks) choices is.left is.is_left (from_nothing (λ xs us. AllChoose a.scope t xs ks us) choices (all_chosen a.scope t (found.Is []) ks)) in
          let body = found_as (AllDo a [] ss) (stmts_onto a (found.Is []) ss) is.right is.is_right good in
          let put : zs ≡ d.before ++ (make is.left is.right ∷ []) = d.together ∙ ap (λ (b : Alternative Stmt). d.before ++ (b ∷ [])) is.together in
          (d.before, d.is_before, rule.one_alternative a t d.before ys ks ss as' is.left is.right chosen body (subst (λ (l : List (Alternative Stmt)). Alternatives a t l as' ys) put h))

  body_finds : (a : Around) (t : Stage) (done : Found Body) (ss : tree.Stmts) → Finds (body_onto a t done ss) (After a t done ss)
  body_finds a t done tree.no_stmts = finds_map (λ z. done ≡ found.Is z) (After a t done tree.no_stmts) (λ z e. (z, e, rule.ended a t z)) done (finds_itself done)
  body_finds a t done (tree.stmts s ss) =
      next_finds a t done s ss (is_demand (sort_of a s) && may_stand t (sort_of a s)) refl (does_finds a s)
      (body_finds a (stage_after t (sort_of a s)) (with_demand done (demand_of a (stmt_place a s) (sort_of a s))) ss)
      (body_finds a (stage_after t (sort_of a s)) (with_stmt t done (stmt a s)) ss)

-- ---- what is asked of them

pub statement_obeys : (a : Around) (s : tree.Stmt) (x : Stmt) → stmt a s ≡ found.Is x → Does a s x
statement_obeys a s x e = found_as (Does a s) (stmt a s) x e (does_finds a s)

pub statements_obey : (a : Around) (ss : tree.Stmts) (xs : List Stmt) → stmts a ss ≡ found.Is xs → AllDo a [] ss xs
statements_obey a ss xs e = found_as (AllDo a [] ss) (stmts a ss) xs e (from_nothing (λ us ys. AllDo a us ss ys) (stmts a ss) (all_finds a (found.Is []) ss))
