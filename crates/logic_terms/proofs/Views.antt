-- No two terms or formulas are one node.
use Rattle.std.proofs.Common.{◌≡◌, refl, sym, ◌∙◌, ap, ap₂, subst, Bool, true, false, List, [], ◌∷◌, map, IsTrue, ◌↔◌}
use Rattle.std.specs.Prelude.{pos, Result, IfOk}
use Rattle.std.proofs.lemmas.Result.{IfOk-weaker}
use Rattle.logic_terms.specs.Node.{add, sub, mul, quo, rem, mod_by, pow, bit, tru, neg, fst, lst, fld, arith, le, eq, conj, disj, iff, sel, upd, ite, sto, fill, fields, call, all, any, Node, num, flag, sym as symbol, bound, op1, op2, op3, opn, quant, Nodes, no_nodes, node}
use Rattle.logic_terms.specs.View.{term, formula, term_step, formula_step, nodes_of}
use Rattle.logic_terms.specs.Same.{same_node}
use Rattle.logic_terms.specs.declared.syntax.Term.{Term}
use Rattle.logic_terms.specs.declared.syntax.Formula.{Formula}
use Rattle.logic_terms.specs.declared.syntax.Term.TheVariants as t
use Rattle.logic_terms.specs.declared.syntax.Formula.TheVariants as f
use Rattle.logic_terms.specs.declared.syntax.Formula.TheOpen.{Formula-F, Term-F}
use Rattle.logic_terms.specs.declared.syntax.Formula.TheViews.{roll-Formula, roll-Term}
use Rattle.logic_terms.specs.declared.syntax.Formula.TheFolds.{map-Formula, map-Term, fold-roll-Formula, fold-roll-Term, ind-Formula, ind-Term}
use Rattle.logic_terms.proofs.SameNodes.{same_node-is, same_node-refl}

-- the term or formula that has a node
abbrev mutual
  term_back : Node → Term
  term_back (num n) = t.Num n
  term_back (symbol k) = t.Sym k
  term_back (bound k) = t.Bound k
  term_back (op2 (arith add) a b) = t.Add (term_back a) (term_back b)
  term_back (op2 (arith sub) a b) = t.Sub (term_back a) (term_back b)
  term_back (op2 (arith mul) a b) = t.Mul (term_back a) (term_back b)
  term_back (op2 (arith quo) a b) = t.Quo (term_back a) (term_back b)
  term_back (op2 (arith rem) a b) = t.Rem (term_back a) (term_back b)
  term_back (op2 (arith mod_by) a b) = t.Mod (term_back a) (term_back b)
  term_back (op2 (arith pow) a b) = t.Pow (term_back a) (term_back b)
  term_back (op1 bit a) = t.Bit (formula_back a)
  term_back (op3 ite a b c) = t.Ite (formula_back a) (term_back b) (term_back c)
  term_back (op2 sel a b) = t.Sel (term_back a) (term_back b)
  term_back (op3 sto a b c) = t.Sto (term_back a) (term_back b) (term_back c)
  term_back (op1 fst a) = t.Fst (term_back a)
  term_back (op1 lst a) = t.Lst (term_back a)
  term_back (op3 fill a b c) = t.Fill (term_back a) (term_back b) (term_back c)
  term_back (opn fields ns) = t.Rec (terms_back ns)
  term_back (op1 (fld k) a) = t.Fld k (term_back a)
  term_back (op2 (upd k) a b) = t.Upd k (term_back a) (term_back b)
  term_back (opn (call k) ns) = t.Call k (terms_back ns)
  term_back _ = t.Num (pos 0)

  formula_back : Node → Formula
  formula_back (flag true) = f.True
  formula_back (flag false) = f.False
  formula_back (op1 tru a) = f.Tru (term_back a)
  formula_back (op2 le a b) = f.Le (term_back a) (term_back b)
  formula_back (op2 eq a b) = f.Eq (term_back a) (term_back b)
  formula_back (op1 neg a) = f.Not (formula_back a)
  formula_back (op2 conj a b) = f.And (formula_back a) (formula_back b)
  formula_back (op2 disj a b) = f.Or (formula_back a) (formula_back b)
  formula_back (op2 iff a b) = f.Iff (formula_back a) (formula_back b)
  formula_back (quant all a b c) = f.All (term_back a) (term_back b) (formula_back c)
  formula_back (quant any a b c) = f.Any (term_back a) (term_back b) (formula_back c)
  formula_back _ = f.True

  terms_back : Nodes → List Term
  terms_back no_nodes = []
  terms_back (node a ns) = term_back a ∷ terms_back ns

abbrev Came : Term → Type 0
Came x = term_back (term x) ≡ x

abbrev FormulaCame : Formula → Type 0
FormulaCame p = formula_back (formula p) ≡ p

abbrev Told : Type 0
Told = (x : Term) × Came x

abbrev FormulaTold : Type 0
FormulaTold = (p : Formula) × FormulaCame p

lists_come : (xs : List Told) → terms_back (nodes_of (map term (map (λ e. e.0) xs))) ≡ map (λ e. e.0) xs
lists_come [] = refl
lists_come (x ∷ xs) = ap₂ (λ y ys. y ∷ ys) x.1 (lists_come xs)

three : {A B C D : Type 0} (g : A → B → C → D) {a a' : A} {b b' : B} {c c' : C} → a ≡ a' → b ≡ b' → c ≡ c' → g a b c ≡ g a' b' c'
three g {a} {a'} {b} {b'} {c} {c'} p q r = ap (λ x. g x b c) p ∙ ap (λ x. g a' x c) q ∙ ap (λ x. g a' b' x) r

term_layer : (y : Term-F FormulaTold Told) → term_back (term_step (map-Term Formula Term Node Node formula term (map-Term FormulaTold Told Formula Term (λ e. e.0) (λ e. e.0) y))) ≡ roll-Term (map-Term FormulaTold Told Formula Term (λ e. e.0) (λ e. e.0) y)
term_layer (Term-F.Num n) = sym (t.rolls-Num n)
term_layer (Term-F.Sym k) = sym (t.rolls-Sym k)
term_layer (Term-F.Bound k) = sym (t.rolls-Bound k)
term_layer (Term-F.Add a b) = ap₂ t.Add a.1 b.1 ∙ sym (t.rolls-Add a.0 b.0)
term_layer (Term-F.Sub a b) = ap₂ t.Sub a.1 b.1 ∙ sym (t.rolls-Sub a.0 b.0)
term_layer (Term-F.Mul a b) = ap₂ t.Mul a.1 b.1 ∙ sym (t.rolls-Mul a.0 b.0)
term_layer (Term-F.Quo a b) = ap₂ t.Quo a.1 b.1 ∙ sym (t.rolls-Quo a.0 b.0)
term_layer (Term-F.Rem a b) = ap₂ t.Rem a.1 b.1 ∙ sym (t.rolls-Rem a.0 b.0)
term_layer (Term-F.Mod a b) = ap₂ t.Mod a.1 b.1 ∙ sym (t.rolls-Mod a.0 b.0)
term_layer (Term-F.Pow a b) = ap₂ t.Pow a.1 b.1 ∙ sym (t.rolls-Pow a.0 b.0)
term_layer (Term-F.Bit a) = ap t.Bit a.1 ∙ sym (t.rolls-Bit a.0)
term_layer (Term-F.Ite a b c) = three t.Ite a.1 b.1 c.1 ∙ sym (t.rolls-Ite a.0 b.0 c.0)
term_layer (Term-F.Sel a b) = ap₂ t.Sel a.1 b.1 ∙ sym (t.rolls-Sel a.0 b.0)
term_layer (Term-F.Sto a b c) = three t.Sto a.1 b.1 c.1 ∙ sym (t.rolls-Sto a.0 b.0 c.0)
term_layer (Term-F.Fst a) = ap t.Fst a.1 ∙ sym (t.rolls-Fst a.0)
term_layer (Term-F.Lst a) = ap t.Lst a.1 ∙ sym (t.rolls-Lst a.0)
term_layer (Term-F.Fill a b c) = three t.Fill a.1 b.1 c.1 ∙ sym (t.rolls-Fill a.0 b.0 c.0)
term_layer (Term-F.Rec ns) = ap t.Rec (lists_come ns) ∙ sym (t.rolls-Rec (map (λ e. e.0) ns))
term_layer (Term-F.Fld k a) = ap (t.Fld k) a.1 ∙ sym (t.rolls-Fld k a.0)
term_layer (Term-F.Upd k a b) = ap₂ (t.Upd k) a.1 b.1 ∙ sym (t.rolls-Upd k a.0 b.0)
term_layer (Term-F.Call k ns) = ap (t.Call k) (lists_come ns) ∙ sym (t.rolls-Call k (map (λ e. e.0) ns))

formula_layer : (y : Formula-F FormulaTold Told) → formula_back (formula_step (map-Formula Formula Term Node Node formula term (map-Formula FormulaTold Told Formula Term (λ e. e.0) (λ e. e.0) y))) ≡ roll-Formula (map-Formula FormulaTold Told Formula Term (λ e. e.0) (λ e. e.0) y)
formula_layer Formula-F.True = sym f.rolls-True
formula_layer Formula-F.False = sym f.rolls-False
formula_layer (Formula-F.Tru a) = ap f.Tru a.1 ∙ sym (f.rolls-Tru a.0)
formula_layer (Formula-F.Le a b) = ap₂ f.Le a.1 b.1 ∙ sym (f.rolls-Le a.0 b.0)
formula_layer (Formula-F.Eq a b) = ap₂ f.Eq a.1 b.1 ∙ sym (f.rolls-Eq a.0 b.0)
formula_layer (Formula-F.Not a) = ap f.Not a.1 ∙ sym (f.rolls-Not a.0)
formula_layer (Formula-F.And a b) = ap₂ f.And a.1 b.1 ∙ sym (f.rolls-And a.0 b.0)
formula_layer (Formula-F.Or a b) = ap₂ f.Or a.1 b.1 ∙ sym (f.rolls-Or a.0 b.0)
formula_layer (Formula-F.Iff a b) = ap₂ f.Iff a.1 b.1 ∙ sym (f.rolls-Iff a.0 b.0)
formula_layer (Formula-F.All a b c) = three f.All a.1 b.1 c.1 ∙ sym (f.rolls-All a.0 b.0 c.0)
formula_layer (Formula-F.Any a b c) = three f.Any a.1 b.1 c.1 ∙ sym (f.rolls-Any a.0 b.0 c.0)

formula_turn : (x : Formula-F Formula Term) (y : Formula-F FormulaTold Told) → map-Formula FormulaTold Told Formula Term (λ e. e.0) (λ e. e.0) y ≡ x → FormulaCame (roll-Formula x)
formula_turn x y is = subst (λ z. FormulaCame (roll-Formula z)) is
    (ap formula_back (fold-roll-Formula Node Node formula_step term_step (map-Formula FormulaTold Told Formula Term (λ e. e.0) (λ e. e.0) y)) ∙ formula_layer y)

term_turn : (x : Term-F Formula Term) (y : Term-F FormulaTold Told) → map-Term FormulaTold Told Formula Term (λ e. e.0) (λ e. e.0) y ≡ x → Came (roll-Term x)
term_turn x y is = subst (λ z. Came (roll-Term z)) is
    (ap term_back (fold-roll-Term Node Node formula_step term_step (map-Term FormulaTold Told Formula Term (λ e. e.0) (λ e. e.0) y)) ∙ term_layer y)

pub formula_came : (p : Formula) → formula_back (formula p) ≡ p
formula_came = ind-Formula FormulaCame Came formula_turn term_turn

pub term_came : (x : Term) → term_back (term x) ≡ x
term_came = ind-Term FormulaCame Came formula_turn term_turn

pub formula_injective : (p q : Formula) → formula p ≡ formula q → p ≡ q
formula_injective p q e = sym (formula_came p) ∙ ap formula_back e ∙ formula_came q

pub term_injective : (x y : Term) → term x ≡ term y → x ≡ y
term_injective x y e = sym (term_came x) ∙ ap term_back e ∙ term_came y

-- two formulas are one where their nodes are
pub same_formulas : (r : Bool) (p q : Formula) → r ≡ same_node (formula p) (formula q) → IsTrue r ↔ (p ≡ q)
same_formulas r p q h = ((λ e. formula_injective p q (same_node-is _ _ (sym h ∙ e))), (λ e. h ∙ subst (λ x. same_node (formula p) (formula x) ≡ true) e (same_node-refl (formula p))))

pub same_terms : (r : Bool) (x y : Term) → r ≡ same_node (term x) (term y) → IsTrue r ↔ (x ≡ y)
same_terms r x y h = ((λ e. term_injective x y (same_node-is _ _ (sym h ∙ e))), (λ e. h ∙ subst (λ z. same_node (term x) (term z) ≡ true) e (same_node-refl (term x))))

-- what is the node of a formula or of a term, where there is any, is it
pub only_formula : {E : Type 0} (r : Result Formula E) (p : Formula) → IfOk r (λ x. formula x ≡ formula p) → IfOk r (λ x. x ≡ p)
only_formula r p h = IfOk-weaker r (λ x. formula x ≡ formula p) (λ x. x ≡ p) (λ x e. formula_injective x p e) h

pub only_term : {E : Type 0} (r : Result Term E) (t : Term) → IfOk r (λ x. term x ≡ term t) → IfOk r (λ x. x ≡ t)
only_term r t h = IfOk-weaker r (λ x. term x ≡ term t) (λ x. x ≡ t) (λ x e. term_injective x t e) h
