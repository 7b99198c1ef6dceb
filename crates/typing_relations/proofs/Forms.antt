-- Operators, ranges, membership tests, if-expressions and quantified expressions.
use Rattle.std.proofs.Common.{◌≡◌, refl, sym, ◌∙◌, ap, subst, ℕ, ℤ, Bool, true, false, ◌==◌, List, [], ◌∷◌, ◌++◌, Option, Some, None, arith}
use Rattle.std.proofs.lemmas.Bool.Decides.{nat_tests}
use Rattle.std.specs.Prelude.{not, ◌&&◌}
use Rattle.ada_text.specs.declared.token.Span.{Span}
use Rattle.ada_syntax.specs.declared.expressions.BinaryOperator.{BinaryOperator}
use Rattle.ada_syntax.specs.declared.expressions.Quantifier.{Quantifier}
use Rattle.ada_syntax.specs.declared.expressions.UnaryOperator.{UnaryOperator}
use Rattle.ada_values.specs.declared.place.Place.{Place}
use Rattle.front_codes.specs.declared.codes.Code.{Code}
use Rattle.front_codes.specs.declared.codes.Code.TheVariants as code
use Rattle.syntax_view.specs.Trees as tree
use Rattle.typed_units.specs.declared.expressions.Arm.{Arm}
use Rattle.typed_units.specs.declared.expressions.Expr.{Expr}
use Rattle.typed_units.specs.declared.expressions.ExprNode.TheVariants as node
use Rattle.type_base.specs.Scope.{Scope}
use Rattle.type_base.specs.declared.seen.Agreed.{Agreed}
use Rattle.type_base.specs.declared.seen.Agreed.TheVariants as agreed
use Rattle.type_base.specs.declared.seen.Demand.TheVariants as demand
use Rattle.type_base.specs.declared.seen.Family.{Family}
use Rattle.type_base.specs.declared.seen.Seen.{Seen}
use Rattle.type_base.specs.declared.seen.Seen.TheVariants as seen
use Rattle.type_base.specs.declared.seen.Want.{Want}
use Rattle.type_base.specs.declared.seen.Want.TheVariants as want
use Rattle.type_base.specs.declared.world.Form.{Form}
use Rattle.type_base.specs.declared.world.Form.TheVariants as form
use Rattle.type_base.specs.declared.world.World.{World}
use Rattle.type_base.specs.Demands.{agree, broken, is_one, operand, placed_number, subtype_of}
use Rattle.type_base.specs.Lookups.{form_at}
use Rattle.type_base.specs.Operators.{family_of, joined, unary_of}
use Rattle.type_base.specs.Results.{truth_at, truth_in}
use Rattle.type_base.specs.Standard.{boolean, integer_base}
use Rattle.typing_rules.specs.declared.prefix.Between.{Between}
use Rattle.typing_rules.specs.declared.prefix.Found.{Found}
use Rattle.typing_rules.specs.declared.prefix.Found.TheVariants as found
use Rattle.typing_rules.specs.declared.prefix.Prefix.{Prefix}
use Rattle.typing_rules.specs.declared.prefix.Prefix.TheVariants as prefix
use Rattle.typing_rules.specs.declared.prefix.Reach.{Reach}
use Rattle.typing_rules.specs.declared.prefix.Reach.TheVariants as reach
use Rattle.typing_rules.specs.Conditions.{Common, arm_of, arms_onto, branch, branch_by, chosen, chosen_else, chosen_number, number_seen, pick, truth_found, condition, else_of, if_by, if_made, index_subtype, quantified_seen, quantifier_of, Chooser, Counting, chooser, counting}
use Rattle.typing_rules.specs.Fits.{both}
use Rattle.typing_rules.specs.Forms.{left_want, right_want}
use Rattle.typing_rules.specs.Kinds.{range_kind}
use Rattle.typing_rules.specs.Lookups.{type_of, with_index}
use Rattle.typing_rules.specs.Parts as parts
use Rattle.typing_rules.specs.Parts.{Operand}
use Rattle.typing_rules.specs.Ranges.{bounds_reach, found_expr, lone_reach, member_by, member_number, member_of, member_typed, no_range, range_found, reach_in, reach_of, reach_seen, subtype_reach, two_reach, want_or, weaker}
use Rattle.typing_rules.specs.Reading.{arms, maybe, range, read}
use Rattle.typing_rules.specs.Values.{place_of, seen_of, value_of}
use Rattle.expression_rules.specs.Rules as kind
use Rattle.expression_rules.specs.Rules.{Gives, GivesOne, Is as HasKind, IsAs, Kind}
use Rattle.expression_rules.proofs.Accepted.{Are, Operands, accepted, binary_given, unary_given}
use Rattle.typing_relations.specs.Demanded as demanded
use Rattle.typing_relations.specs.Demanded.{IsBranch, IsResult, TakesNumber, Tests, Valued}
use Rattle.typing_relations.specs.Obeys as rule
use Rattle.typing_relations.specs.Obeys.{Arms, Branch, Condition, Else, Has, ItemStands, Picks, Reaches, Stands, branches_want, common_type}
use Rattle.typing_relations.proofs.Accepting.{Accepts, Allows, BothAre, Finds, Kinded, Reached, accepted_as, accepts_always, accepts_both, accepts_map, beside_accepts, both_are, both_finds, finds_always, finds_itself, finds_map, found_as, if_accepts, if_finds, kinded, result, result_with, then_accepts}
use Rattle.typing_relations.proofs.Parts.{ExprGood, expr_accepts}
use Rattle.typing_relations.proofs.Values.{both_true, of_valued, operand_accepts, placed_accepts}

-- ---- parts that obey

abbrev pub MaybeGood : Scope → tree.MaybeExpr → Type 0
MaybeGood c tree.no_expr = Unit {0}
MaybeGood c (tree.an_expr e) = ExprGood c e

abbrev pub RangeGood : Scope → tree.Range → Type 0
RangeGood c (tree.range l h) = ExprGood c l × MaybeGood c h

abbrev pub ArmsGood : Scope → tree.Arms → Type 0
ArmsGood c tree.no_arms = Unit {0}
ArmsGood c (tree.arm x g as') = (ExprGood c x × ExprGood c g) × ArmsGood c as'

-- ---- operators

one_operand : (w : World) (x : Seen) (o : UnaryOperator) (k : Kind) (P : Seen → Type 0) → GivesOne w x o k → Accepts x P → P x
one_operand w x _ _ P (kind.plus k i m) h = accepted_as P x k i h
one_operand w x _ _ P (kind.minus k i m) h = accepted_as P x k i h
one_operand w x _ _ P (kind.absolute k i m) h = accepted_as P x k i h
one_operand w x _ _ P (kind.opposite t i m) h = accepted_as P x (kind.of t) i h

left_operand : (w : World) (v : Want) (x y : Seen) (f : Family) (k : Kind) (P : Seen → Type 0) → Gives w v x y f k → Accepts x P → P x
left_operand w v x y _ _ P (kind.arithmetic o j k l i m a b g) h = accepted_as P x j i h
left_operand w v x y _ _ P (kind.comparison r j k l i m a b g n) h = accepted_as P x j i h
left_operand w v x y _ _ P (kind.connection c j k l i m a b g) h = accepted_as P x j i h
left_operand w v x y _ _ P (kind.power j k l i m a g) h = accepted_as P x j i h

right_operand : (w : World) (v : Want) (x y : Seen) (f : Family) (k : Kind) (P : Seen → Type 0) → Gives w v x y f k → Accepts y P → P y
right_operand w v x y _ _ P (kind.arithmetic o j k l i m a b g) h = accepted_as P y k m h
right_operand w v x y _ _ P (kind.comparison r j k l i m a b g n) h = accepted_as P y k m h
right_operand w v x y _ _ P (kind.connection c j k l i m a b g) h = accepted_as P y k m h
right_operand w v x y _ _ P (kind.power j k l i m a g) h = accepted_as P y k m h

pub unary_stands : (c : Scope) (w : Want) (s q : Span) (o : UnaryOperator) (a : tree.Expr) → ExprGood c a
    → Accepts (unary_of c.world (c.place s.from) (place_of c (read c a)) o (seen_of c (read c a) (weaker c.world w))) (λ v. Stands c w (tree.at s (tree.unary q o a)) (prefix.Value v))
unary_stands c w s q o a h =
    let x = seen_of c (read c a) (weaker c.world w) in
    let r = unary_of c.world (c.place s.from) (place_of c (read c a)) o x in
    accepts_map (Kinded r) (λ v. Stands c w (tree.at s (tree.unary q o a)) (prefix.Value v))
    (λ v z.
    let g = unary_given c.world (c.place s.from) (place_of c (read c a)) o x z.kind z.has in
    rule.unary c w s q o a x v z.kind (one_operand c.world x o z.kind (Has c (weaker c.world w) a) g (expr_accepts c a (weaker c.world w) h)) g z.still z.same)
    r (kinded r)

pub binary_stands : (c : Scope) (w : Want) (s q : Span) (o : BinaryOperator) (a b : tree.Expr) → ExprGood c a → ExprGood c b
    → Accepts (joined c.world w (c.place s.from) (c.place q.from) (place_of c (read c a)) (place_of c (read c b)) (family_of o) (seen_of c (read c a) (left_want c (family_of o) w (read c b))) (seen_of c (read c b) (right_want c (family_of o) w (read c a))))
    (λ v. Stands c w (tree.at s (tree.binary q o a b)) (prefix.Value v))
binary_stands c w s q o a b h i =
    let f = family_of o in
    let l = left_want c f w (read c b) in
    let u = right_want c f w (read c a) in
    let x = seen_of c (read c a) l in
    let y = seen_of c (read c b) u in
    let r = joined c.world w (c.place s.from) (c.place q.from) (place_of c (read c a)) (place_of c (read c b)) f x y in
    accepts_map (Kinded r) (λ v. Stands c w (tree.at s (tree.binary q o a b)) (prefix.Value v))
    (λ v z.
    let g = binary_given c.world w (c.place s.from) (c.place q.from) (place_of c (read c a)) (place_of c (read c b)) f x y z.kind z.has in
    rule.binary c w s q o a b x y v z.kind (left_operand c.world w x y f z.kind (Has c l a) g (expr_accepts c a l h)) (right_operand c.world w x y f z.kind (Has c u b) g (expr_accepts c b u i)) g z.still z.same)
    r (kinded r)

-- ---- ranges

-- two bounds that agree
bounds_by : (c : Scope) (r : Code) (p q : Place) (x y : Seen) (g : Agreed) (R : Reach → Type 0) → agree c.world r p q (operand c.world demand.Ordered r p x) (operand c.world demand.Ordered r q y) ≡ g
    → ((k : Kind) → Operands c.world demand.Ordered r p q x y k → R (bounds_reach (agree c.world r p q x y))) → Reached (bounds_reach g) R
bounds_by c r p q x y (agreed.Refused f) R e k = tt
bounds_by c r p q x y agreed.Unknown R e k = tt
bounds_by c r p q x y (agreed.Numbers a b) R e k =
    let z = accepted c.world demand.Ordered r p q x y kind.universal (subst (λ g. Are g kind.universal) (sym e) tt) in subst (λ g. R (bounds_reach g)) (sym z.same ∙ e) (k kind.universal z)
bounds_by c r p q x y (agreed.Typed t a b) R e k =
    let z = accepted c.world demand.Ordered r p q x y (kind.of t) (subst (λ g. Are g (kind.of t)) (sym e) refl) in subst (λ g. R (bounds_reach g)) (sym z.same ∙ e) (k (kind.of t) z)

two_reached : (c : Scope) (r : Code) (w : Want) (l h : tree.Expr) → ExprGood c l → ExprGood c h → Reached (two_reach c r w (read c l) (read c h)) (Reaches c r w (tree.range l (tree.an_expr h)))
two_reached c r w l h i j =
    let lw = want_or w (read c h).kind in
    let hw = want_or w (read c l).kind in
    let x = seen_of c (read c l) lw in
    let y = seen_of c (read c h) hw in
    let p = place_of c (read c l) in
    let q = place_of c (read c h) in
    bounds_by c r p q x y (agree c.world r p q (operand c.world demand.Ordered r p x) (operand c.world demand.Ordered r q y)) (Reaches c r w (tree.range l (tree.an_expr h))) refl
    (λ k z. rule.two_bounds c r w l h x y z.left z.right k (accepted_as (Has c lw l) x z.left z.is_left (expr_accepts c l lw i)) (accepted_as (Has c hw h) y z.right z.is_right (expr_accepts c h hw j)) z.is_left z.is_right z.met_left z.met_right z.common)

subtype_reached : (c : Scope) (r : Code) (w : Want) (e : tree.Expr) (k : ℕ) (m : Option Form) → form_at c.world k ≡ m → Stands c w e (prefix.Subtype k) → Reached (subtype_reach r (place_of c (read c e)) k m) (Reaches c r w (tree.range e tree.no_expr))
subtype_reached c r w e k None i h = tt
subtype_reached c r w e k (Some (form.Number d s)) i h = rule.of_subtype c r w e k d s h i
subtype_reached c r w e k (Some form.Truth) i h = tt
subtype_reached c r w e k (Some (form.Array a b t)) i h = tt
subtype_reached c r w e k (Some (form.Record a b)) i h = tt

not_reached : (R : Reach → Type 0) (r : Code) (p : Place) (s : Seen) → Reached (no_range r p s) R
not_reached R r p (seen.Refused f) = tt
not_reached R r p seen.Unknown = tt
not_reached R r p (seen.Number n) = tt
not_reached R r p (seen.Typed t x) = tt

lone_reached : (c : Scope) (r : Code) (w : Want) (e : tree.Expr) (f : Prefix) → Allows f (Stands c w e) → Reached (lone_reach c r (place_of c (read c e)) f) (Reaches c r w (tree.range e tree.no_expr))
lone_reached c r w e (prefix.Subtype k) h = subtype_reached c r w e k (form_at c.world k) refl h
lone_reached c r w e (prefix.Range b) h = rule.of_array c r w e b h
lone_reached c r w e prefix.Package h = let p = place_of c (read c e) in not_reached (Reaches c r w (tree.range e tree.no_expr)) r p (value_of c p prefix.Package)
lone_reached c r w e (prefix.Routine q) h = let p = place_of c (read c e) in not_reached (Reaches c r w (tree.range e tree.no_expr)) r p (value_of c p (prefix.Routine q))
lone_reached c r w e (prefix.Called q xs) h = let p = place_of c (read c e) in not_reached (Reaches c r w (tree.range e tree.no_expr)) r p (value_of c p (prefix.Called q xs))
lone_reached c r w e (prefix.Mapping m t k) h = let p = place_of c (read c e) in not_reached (Reaches c r w (tree.range e tree.no_expr)) r p (value_of c p (prefix.Mapping m t k))
lone_reached c r w e (prefix.Constant t x) h = let p = place_of c (read c e) in not_reached (Reaches c r w (tree.range e tree.no_expr)) r p (value_of c p (prefix.Constant t x))
lone_reached c r w e (prefix.Part g) h = let p = place_of c (read c e) in not_reached (Reaches c r w (tree.range e tree.no_expr)) r p (value_of c p (prefix.Part g))
lone_reached c r w e (prefix.Value s) h = let p = place_of c (read c e) in not_reached (Reaches c r w (tree.range e tree.no_expr)) r p (value_of c p (prefix.Value s))

pub reaches : (c : Scope) (r : Code) (w : Want) (g : tree.Range) → RangeGood c g → Reached (reach_of c r w (range c g)) (Reaches c r w g)
reaches c r w (tree.range l tree.no_expr) h = lone_reached c r w l ((read c l).prefix w) (h.0 w)
reaches c r w (tree.range l (tree.an_expr e)) h = two_reached c r w l e h.0 h.1

-- ---- membership tests

tests_typed : (c : Scope) (p : Place) (is : Bool) (g : parts.Range) (t : ℕ) (x : Expr) (u : Reach) (b : Found Between) → reach_in c code.L7 t g u ≡ b → Accepts (member_typed c p is g t x b) (λ v. Tests c g (seen.Typed t x) u)
tests_typed c p is g t x u (found.Refused f) e = tt
tests_typed c p is g t x u found.Unknown e = tt
tests_typed c p is g t x u (found.Is b) e =
    let D = Tests c g (seen.Typed t x) u in
    if_accepts (λ v. D) (t == type_of c.world b.subtype) (member_of p is x b) (broken code.L7 (place_of c g.low))
    (λ i. let same : t ≡ type_of c.world b.subtype = grind (arith, nat_tests) in accepts_always D (member_of p is x b) (demanded.value_tested t x u b e same))

number_tested : (D : Type 0) (p : Place) (is : Bool) (b : Between) (s : Seen) → Accepts s (λ v. D) → Accepts (member_number p is b s) (λ v. D)
number_tested D p is b (seen.Refused f) h = tt
number_tested D p is b seen.Unknown h = tt
number_tested D p is b (seen.Number n) h = h
number_tested D p is b (seen.Typed t x) h = accepts_always D (member_of p is x b) h

reach_unseen : (P : Seen → Type 0) (u : Reach) → Accepts (reach_seen u) P
reach_unseen P (reach.Refused f) = tt
reach_unseen P reach.Unknown = tt
reach_unseen P (reach.Numbers a b) = tt
reach_unseen P (reach.Between b) = tt

tests : (c : Scope) (p : Place) (is : Bool) (q : Place) (g : parts.Range) (x : Seen) (u : Reach) → Accepts (member_by c p is q g x u) (λ v. Tests c g x u)
tests c p is q g (seen.Refused f) u = beside_accepts (λ v. Tests c g (seen.Refused f) u) f (reach_seen u)
tests c p is q g seen.Unknown u = reach_unseen (λ v. Tests c g seen.Unknown u) u
tests c p is q g (seen.Typed t x) u = tests_typed c p is g t x u (reach_in c code.L7 t g u) refl
tests c p is q g (seen.Number n) (reach.Refused f) = tt
tests c p is q g (seen.Number n) reach.Unknown = tt
tests c p is q g (seen.Number n) (reach.Numbers a b) = demanded.numbers n a b
tests c p is q g (seen.Number n) (reach.Between b) =
    let D = Tests c g (seen.Number n) (reach.Between b) in
    let t = type_of c.world b.subtype in
    number_tested D p is b (placed_number c.world code.L7 q q t n) (placed_accepts c.world code.L7 q q t n (λ v. D) (λ i. demanded.number_takes n b i))

-- with what is so of what is tested, and of the range
tests_with : (c : Scope) (p : Place) (is : Bool) (q : Place) (g : parts.Range) (x : Seen) (u : Reach) (P : Seen → Type 0) (R : Reach → Type 0) → Accepts x P → Reached u R → Accepts (member_by c p is q g x u) (λ v. P x × R u)
tests_with c p is q g (seen.Refused f) u P R h i = beside_accepts (λ v. P (seen.Refused f) × R u) f (reach_seen u)
tests_with c p is q g seen.Unknown u P R h i = reach_unseen (λ v. P seen.Unknown × R u) u
tests_with c p is q g (seen.Number n) (reach.Refused f) P R h i = tt
tests_with c p is q g (seen.Number n) reach.Unknown P R h i = tt
tests_with c p is q g (seen.Number n) (reach.Numbers a b) P R h i = (h, i)
tests_with c p is q g (seen.Number n) (reach.Between b) P R h i = accepts_always (P (seen.Number n) × R (reach.Between b)) (member_by c p is q g (seen.Number n) (reach.Between b)) (h, i)
tests_with c p is q g (seen.Typed t x) (reach.Refused f) P R h i = tt
tests_with c p is q g (seen.Typed t x) reach.Unknown P R h i = tt
tests_with c p is q g (seen.Typed t x) (reach.Numbers a b) P R h i = accepts_always (P (seen.Typed t x) × R (reach.Numbers a b)) (member_by c p is q g (seen.Typed t x) (reach.Numbers a b)) (h, i)
tests_with c p is q g (seen.Typed t x) (reach.Between b) P R h i = accepts_always (P (seen.Typed t x) × R (reach.Between b)) (member_by c p is q g (seen.Typed t x) (reach.Between b)) (h, i)

member_is : (c : Scope) (w : Want) (s q : Span) (b : Bool) (a : tree.Expr) (g : tree.Range) (x : Seen) (u : Reach)
    → Accepts x (λ v. Has c (want_or want.Free (range_kind (range c g))) a v × IsAs c.world demand.Ordered v) → Reached u (Reaches c code.L7 (want_or want.Free (read c a).kind) g)
    → Accepts (member_by c (c.place s.from) (not b) (place_of c (read c a)) (range c g) x u) (λ v. Stands c w (tree.at s (tree.member q b a g)) (prefix.Value v))
member_is c w s q b a g x u h i =
    let p = c.place s.from in
    let pa = place_of c (read c a) in
    let P : Seen → Type 0 = λ v. Has c (want_or want.Free (range_kind (range c g))) a v × IsAs c.world demand.Ordered v in
    let R = Reaches c code.L7 (want_or want.Free (read c a).kind) g in
    let r = member_by c p (not b) pa (range c g) x u in
    result_with ((P x × R u) × Tests c (range c g) x u) (λ v. Stands c w (tree.at s (tree.member q b a g)) (prefix.Value v)) r
    (accepts_both (λ v. P x × R u) (λ v. Tests c (range c g) x u) (λ v. (P x × R u) × Tests c (range c g) x u) (λ v y z. (y, z)) r (tests_with c p (not b) pa (range c g) x u P R h i) (tests c p (not b) pa (range c g) x u))
    (λ v y z. rule.member c w s q b a g x v u y.0.0.0 y.0.0.1 y.0.1 y.1 z)

pub member_stands : (c : Scope) (w : Want) (s q : Span) (b : Bool) (a : tree.Expr) (g : tree.Range) → ExprGood c a → RangeGood c g
    → Accepts (member_by c (c.place s.from) (not b) (place_of c (read c a)) (range c g)
    (operand c.world demand.Ordered code.L7 (place_of c (read c a)) (seen_of c (read c a) (want_or want.Free (range_kind (range c g))))) (reach_of c code.L7 (want_or want.Free (read c a).kind) (range c g)))
    (λ v. Stands c w (tree.at s (tree.member q b a g)) (prefix.Value v))
member_stands c w s q b a g h i =
    let k = want_or want.Free (range_kind (range c g)) in
    let x = seen_of c (read c a) k in
    let pa = place_of c (read c a) in
    member_is c w s q b a g (operand c.world demand.Ordered code.L7 pa x) (reach_of c code.L7 (want_or want.Free (read c a).kind) (range c g))
    (operand_accepts c.world demand.Ordered code.L7 pa x (Has c k a) (expr_accepts c a k h)) (reaches c code.L7 (want_or want.Free (read c a).kind) g i)

-- ---- conditions

expr_found : (P : Expr → Type 0) (s : Seen) → Accepts s (λ v. (t : ℕ) (x : Expr) → v ≡ seen.Typed t x → P x) → Finds (found_expr s) P
expr_found P (seen.Refused f) h = tt
expr_found P seen.Unknown h = tt
expr_found P (seen.Number n) h = tt
expr_found P (seen.Typed t x) h = h t x refl

-- of an operand which, where it is accepted, is that of c' for e
pub condition_finds : (c c' : Scope) (r : Code) (o : Operand) (e : tree.Expr) → Accepts (seen_of c o (want.Type boolean)) (Has c' (want.Type boolean) e) → c'.world ≡ c.world → Finds (condition c r o) (Condition c' e)
condition_finds c c' r o e h i =
    let w = want.Type boolean in
    let s = seen_of c o w in
    let p = place_of c o in
    expr_found (Condition c' e) (operand c.world demand.Truth r p s)
    (accepts_map (λ v. Has c' w e v × IsAs c.world demand.Truth v) (λ v. (t : ℕ) (x : Expr) → v ≡ seen.Typed t x → Condition c' e x)
    (λ v z t x same. rule.condition c' e t x (subst (Has c' w e) same z.0) (subst (λ (j : World). IsAs j demand.Truth (seen.Typed t x)) (sym i) (subst (IsAs c.world demand.Truth) same z.1)))
    (operand c.world demand.Truth r p s) (operand_accepts c.world demand.Truth r p s (Has c' w e) h))

-- ---- if-expressions

abbrev seen_or : Expr → Seen → Expr
seen_or d (seen.Typed t x) = x
seen_or d _ = d

typed_same : {t u : ℕ} → {x y : Expr} → seen.Typed t x ≡ seen.Typed u y → x ≡ y
typed_same {t} {u} {x} {y} e = ap (seen_or x) e

branch_is : (c : Scope) (k : Common) (q : Place) (s : Seen) (P : Seen → Type 0) → Accepts s P → Finds (branch_by c k q s) (λ x. P s × IsBranch c.world k q s x)
branch_is c k q (seen.Refused f) P h = tt
branch_is c k q seen.Unknown P h = tt
branch_is c k q (seen.Number n) P h =
    expr_found (λ x. P (seen.Number n) × IsBranch c.world k q (seen.Number n) x) (placed_number c.world code.L26 q q k.type n)
    (placed_accepts c.world code.L26 q q k.type n (λ v. (t : ℕ) (x : Expr) → v ≡ seen.Typed t x → P (seen.Number n) × IsBranch c.world k q (seen.Number n) x)
    (λ i t x e. (h, subst (IsBranch c.world k q (seen.Number n)) (typed_same e) (demanded.number_branch n i))))
branch_is c k q (seen.Typed u x) P h =
    if_finds (λ y. P (seen.Typed u x) × IsBranch c.world k q (seen.Typed u x) y) ((u == k.type) && is_one c.world k.subtype (subtype_of x)) (found.Is x) (broken code.L26 q)
    (λ i.
    let z = both_true (u == k.type) (is_one c.world k.subtype (subtype_of x)) i in
    let equal : (u == k.type) ≡ true = z.0 in
    let same : u ≡ k.type = grind (arith, nat_tests) in
    (h, subst (λ t. IsBranch c.world k q (seen.Typed t x) x) (sym same) (demanded.value_branch x z.1)))

branch_finds : (c : Scope) (w : Want) (k : Common) (e : tree.Expr) → ExprGood c e → Finds (branch c k w (read c e)) (Branch c w k e)
branch_finds c w k e h =
    let q = place_of c (read c e) in
    let s = seen_of c (read c e) w in
    finds_map (λ x. Has c w e s × IsBranch c.world k q s x) (Branch c w k e) (λ x z. rule.branch c w k e s x z.0 z.1) (branch_by c k q s) (branch_is c k q s (Has c w e) (expr_accepts c e w h))

-- an arm
record ArmIs (c : Scope) (w : Want) (k : Common) (i g : tree.Expr) (a : Arm Expr) : Type 0 where
  condition : Condition c i a.condition
  gives : Branch c w k g a.gives

arm_finds : (c : Scope) (w : Want) (k : Common) (i g : tree.Expr) → ExprGood c i → ExprGood c g → Finds (arm_of c k w (record { condition = read c i; gives = read c g })) (ArmIs c w k i g)
arm_finds c w k i g h j =
    both_finds (Condition c i) (Branch c w k g) (ArmIs c w k i g) (λ x y. record { condition = x; gives = y }) (condition c code.L9 (read c i)) (branch c k w (read c g))
    (condition_finds c c code.L9 (read c i) i (expr_accepts c i (want.Type boolean) h) refl) (branch_finds c w k g j) (λ a b y z. record { condition = y; gives = z })

-- the arms after those done
record ArmsAfter (c : Scope) (w : Want) (k : Common) (done : Found (List (Arm Expr))) (as' : tree.Arms) (ys : List (Arm Expr)) : Type 0 where
  so_far : List (Arm Expr)
  is : done ≡ found.Is so_far
  rest : Arms c w k so_far as' ys

all_arms : (c : Scope) (w : Want) (k : Common) (done : Found (List (Arm Expr))) (as' : tree.Arms) → ArmsGood c as' → Finds (arms_onto c k w done (arms c as')) (ArmsAfter c w k done as')
all_arms c w k done tree.no_arms h = finds_map (λ xs. done ≡ found.Is xs) (ArmsAfter c w k done tree.no_arms) (λ xs e. record { so_far = xs; is = e; rest = rule.no_more c w k xs }) done (finds_itself done)
all_arms c w k done (tree.arm i g as') h =
    let join : List (Arm Expr) → Arm Expr → List (Arm Expr) = λ xs x. xs ++ (x ∷ []) in
    let next = arm_of c k w (record { condition = read c i; gives = read c g }) in
    let now = both join done next in
    finds_map (ArmsAfter c w k now as') (ArmsAfter c w k done (tree.arm i g as'))
    (λ ys z.
    let b = found_as (λ zs. BothAre join done next zs) now z.so_far z.is (both_are join done next) in
    let a = found_as (ArmIs c w k i g) next b.right b.is_right (arm_finds c w k i g h.0.0 h.0.1) in
    record {
      so_far = b.left;
      is = b.is_left;
      rest = rule.one_more c w k b.left ys i g b.right.condition b.right.gives as' a.condition a.gives (subst (λ zs. Arms c w k zs as' ys) b.together z.rest);
    })
    (arms_onto c k w now (arms c as')) (all_arms c w k now as' h.1)

abbrev list_or : {A : Type 0} → A → Found A → A
list_or d (found.Is a) = a
list_or d _ = d

arms_finds : (c : Scope) (w : Want) (k : Common) (as' : tree.Arms) → ArmsGood c as' → Finds (arms_onto c k w (found.Is []) (arms c as')) (Arms c w k [] as')
arms_finds c w k as' h =
    finds_map (ArmsAfter c w k (found.Is []) as') (Arms c w k [] as')
    (λ ys z. subst (λ xs. Arms c w k xs as' ys) (sym (ap (list_or []) z.is)) z.rest) (arms_onto c k w (found.Is []) (arms c as')) (all_arms c w k (found.Is []) as' h)

else_finds : (c : Scope) (p : Place) (w : Want) (k : Common) (e : tree.MaybeExpr) → MaybeGood c e → Finds (else_of c p k w (maybe c e)) (Else c p w k e)
else_finds c p w k tree.no_expr h = rule.without c p w k _ refl
else_finds c p w k (tree.an_expr e) h = finds_map (Branch c w k e) (Else c p w k (tree.an_expr e)) (λ x i. rule.otherwise c p w k e x i) (branch c k w (read c e)) (branch_finds c w k e h)

-- the number that static conditions choose

abbrev IfSome : {A : Type 0} → Option A → (A → Type 0) → Type 0
IfSome None P = Unit {0}
IfSome (Some a) P = P a

pick_is : (A : Bool → Type 0) (P Q R : ℤ → Type 0) (b : Option Bool) (x y : Option ℤ) → IfSome b A → IfSome x P → IfSome y Q
    → ((m n : ℤ) → A true → P m → Q n → R m) → ((m n : ℤ) → A false → P m → Q n → R n) → IfSome (pick b x y) R
pick_is A P Q R None x y h i j k l = tt
pick_is A P Q R (Some true) None y h i j k l = tt
pick_is A P Q R (Some false) None y h i j k l = tt
pick_is A P Q R (Some true) (Some m) None h i j k l = tt
pick_is A P Q R (Some false) (Some m) None h i j k l = tt
pick_is A P Q R (Some true) (Some m) (Some n) h i j k l = k m n h i j
pick_is A P Q R (Some false) (Some m) (Some n) h i j k l = l m n h i j

number_is : (P : Seen → Type 0) (s : Seen) → Accepts s P → IfSome (number_seen s) (λ n. P (seen.Number n))
number_is P (seen.Refused f) h = tt
number_is P seen.Unknown h = tt
number_is P (seen.Number n) h = h
number_is P (seen.Typed t x) h = tt

-- a condition that has a truth value
record Holds (c : Scope) (i : tree.Expr) (b : Bool) : Type 0 where
  value : Expr
  condition : Condition c i value
  truth : truth_in value ≡ Some b

truth_known : (c : Scope) (i : tree.Expr) (x : Expr) (m : Option Bool) → truth_in x ≡ m → Condition c i x → IfSome m (Holds c i)
truth_known c i x None e h = tt
truth_known c i x (Some b) e h = record { value = x; condition = h; truth = e }

truth_is : (c : Scope) (i : tree.Expr) (x : Found Expr) → Finds x (Condition c i) → IfSome (truth_found x) (Holds c i)
truth_is c i (found.Refused f) h = tt
truth_is c i found.Unknown h = tt
truth_is c i (found.Is x) h = truth_known c i x (truth_in x) refl h

number_picked : (c : Scope) (w : Want) (e : tree.Expr) (m : Option ℤ) → IfSome m (λ n. Has c w e (seen.Number n)) → IfSome m (Picks c w tree.no_arms e)
number_picked c w e None h = tt
number_picked c w e (Some n) h = rule.picks_else c w e n h

picks : (c : Scope) (w : Want) (as' : tree.Arms) (e : tree.Expr) → ArmsGood c as' → ExprGood c e → IfSome (chosen_number c w (arms c as') (read c e)) (Picks c w as' e)
picks c w tree.no_arms e h j = number_picked c w e (number_seen (seen_of c (read c e) w)) (number_is (Has c w e) (seen_of c (read c e) w) (expr_accepts c e w j))
picks c w (tree.arm i g as') e h j =
    let x = condition c code.L9 (read c i) in
    pick_is (Holds c i) (λ n. Has c w g (seen.Number n)) (Picks c w as' e) (Picks c w (tree.arm i g as') e) (truth_found x) (number_seen (seen_of c (read c g) w)) (chosen_number c w (arms c as') (read c e))
    (truth_is c i x (condition_finds c c code.L9 (read c i) i (expr_accepts c i (want.Type boolean) h.0.0) refl)) (number_is (Has c w g) (seen_of c (read c g) w) (expr_accepts c g w h.0.1)) (picks c w as' e h.1 j)
    (λ m n a y z. rule.picks_first c w i g as' e a.value m n a.condition a.truth y z) (λ m n a y z. rule.picks_later c w i g as' e a.value m n a.condition a.truth y z)

-- the parts of an if-expression
record PartsAre (c : Scope) (p : Place) (w : Want) (k : Common) (as' : tree.Arms) (e : tree.MaybeExpr) (z : Chooser) : Type 0 where
  arms : Arms c w k [] as' z.arms
  otherwise : Else c p w k e z.otherwise

abbrev IsNone : Option ℤ → Type 0
IsNone None = Unit {0}
IsNone (Some n) = ⊥

number_stands : (c : Scope) (w : Want) (s : Span) (as' : tree.Arms) (e : tree.MaybeExpr) (n : ℤ) → chosen_else c (branches_want c w as' e) (arms c as') (maybe c e) ≡ Some n → ArmsGood c as' → MaybeGood c e
    → ItemStands c w (tree.item s (tree.choose as' e)) (prefix.Value (seen.Number n))
number_stands c w s as' tree.no_expr n i h j = absurd (subst IsNone i tt)
number_stands c w s as' (tree.an_expr e) n i h j =
    let b = branches_want c w as' (tree.an_expr e) in rule.chosen_number c w s as' e n (subst (λ (m : Option ℤ). IfSome m (Picks c b as' e)) i (picks c b as' e h j))

if_by_stands : (c : Scope) (w : Want) (s : Span) (as' : tree.Arms) (e : tree.MaybeExpr) (m : Option ℤ) → chosen_else c (branches_want c w as' e) (arms c as') (maybe c e) ≡ m → ArmsGood c as' → MaybeGood c e
    → Accepts (if_by c (c.place s.from) (branches_want c w as' e) (arms c as') (maybe c e) m) (λ v. ItemStands c w (tree.item s (tree.choose as' e)) (prefix.Value v))
if_by_stands c w s as' e (Some n) i h j = number_stands c w s as' e n i h j
if_by_stands c w s as' e None i h j =
    let p = c.place s.from in
    let b = branches_want c w as' e in
    let k = common_type c w as' e in
    let xs = arms_onto c k b (found.Is []) (arms c as') in
    let o = else_of c p k b (maybe c e) in
    then_accepts (PartsAre c p b k as' e) (λ v. ItemStands c w (tree.item s (tree.choose as' e)) (prefix.Value v)) (both chooser xs o) (λ r. if_made c p k r.arms r.otherwise (chosen r.arms r.otherwise))
    (both_finds (Arms c b k [] as') (Else c p b k e) (PartsAre c p b k as' e) chooser xs o (arms_finds c b k as' h) (else_finds c p b k e j) (λ ys x y z. record { arms = y; otherwise = z }))
    (λ r z.
    let q = if_made c p k r.arms r.otherwise (chosen r.arms r.otherwise) in
    accepts_map (IsResult q) (λ v. ItemStands c w (tree.item s (tree.choose as' e)) (prefix.Value v)) (λ v y. rule.chosen_value c w s as' e r.arms r.otherwise v i z.arms z.otherwise y) q (result q))

pub if_stands : (c : Scope) (w : Want) (s : Span) (as' : tree.Arms) (e : tree.MaybeExpr) → ArmsGood c as' → MaybeGood c e
    → Accepts (if_by c (c.place s.from) (branches_want c w as' e) (arms c as') (maybe c e) (chosen_else c (branches_want c w as' e) (arms c as') (maybe c e))) (λ v. ItemStands c w (tree.item s (tree.choose as' e)) (prefix.Value v))
if_stands c w s as' e h j = if_by_stands c w s as' e (chosen_else c (branches_want c w as' e) (arms c as') (maybe c e)) refl h j

-- ---- quantified expressions

index_good : (c : Scope) (i : Span) (e : tree.Expr) (k : ℕ) → ExprGood (with_index c i.from k) e → Accepts (seen_of c (read (with_index c i.from k) e) (want.Type boolean)) (Has (with_index c i.from k) (want.Type boolean) e)
index_good c i e k h =
    let d = with_index c i.from k in
    let w = want.Type boolean in
    of_valued c (place_of c (read d e)) (Stands d w e) (Has d w e) (λ f v j l. rule.has d w e f v j l) ((read d e).prefix w) (h w)

range_known : (c : Scope) (t : ℕ) (g : parts.Range) (u : Reach) (R : Reach → Type 0) → Reached u R → Finds (reach_in c code.L23 t g u) (λ b. R u)
range_known c t g (reach.Refused f) R h = tt
range_known c t g reach.Unknown R h = tt
range_known c t g (reach.Between b) R h = h
range_known c t g (reach.Numbers a b) R h = finds_always (R (reach.Numbers a b)) (reach_in c code.L23 t g (reach.Numbers a b)) h

pub quantified_stands : (c : Scope) (w : Want) (s i : Span) (q : Quantifier) (g : tree.Range) (e : tree.Expr) → RangeGood c g → ((k : ℕ) → ExprGood (with_index c i.from k) e)
    → Accepts (quantified_seen c (c.place s.from) q i.from (range c g) (λ k. read (with_index c i.from k) e)) (λ v. ItemStands c w (tree.item s (tree.quantified q i g e)) (prefix.Value v))
quantified_stands c w s i q g e h j =
    let p = c.place s.from in
    let r = range_found c code.L23 (range c g) in
    let u = reach_of c code.L23 want.Free (range c g) in
    let f : ℕ → Operand = λ k. read (with_index c i.from k) e in
    let n = index_subtype c.world r in
    let x = condition c code.L23 (f n) in
    let P : Counting → Type 0 = λ z. BothAre counting r x z in
    then_accepts P (λ v. ItemStands c w (tree.item s (tree.quantified q i g e)) (prefix.Value v)) (both counting r x)
    (λ z. truth_at p (node.Quantified (quantifier_of q) (record { number = c.number i.from; subtype = z.range.subtype }) z.range.low z.range.high z.predicate))
    (both_are counting r x)
    (λ z b.
    let known = found_as (λ (a : Between). Reaches c code.L23 want.Free g u) r b.left b.is_left (range_known c integer_base (range c g) u (Reaches c code.L23 want.Free g) (reaches c code.L23 want.Free g h)) in
    let d = with_index c i.from n in
    let holds = found_as (Condition d e) x b.right b.is_right (condition_finds c d code.L23 (f n) e (index_good c i e n (j n)) refl) in
    let there : n ≡ b.left.subtype = ap (index_subtype c.world) b.is_left in
    let made = rule.quantified c w s i q g e u b.left b.right known b.is_left (subst (λ (k : ℕ). Condition (with_index c i.from k) e b.right) there holds) in
    subst (λ (y : Counting). ItemStands c w (tree.item s (tree.quantified q i g e)) (prefix.Value (truth_at p (node.Quantified (quantifier_of q) (record { number = c.number i.from; subtype = y.range.subtype }) y.range.low y.range.high y.predicate)))) (sym b.together) made)
