-- No term is the node of a formula.
use Rattle.std.proofs.Common.{◌≡◌, refl, sym, ◌∙◌, ap, subst, Bool, true, false}
use Rattle.std.proofs.lemmas.Bool.{false≢true}
use Rattle.logic_terms.specs.Node.{bit, fst, lst, fld, arith, sel, upd, Node, num, sym as symbol, bound, op1, op2, op3, opn}
use Rattle.logic_terms.specs.View.{term, formula, term_step, formula_step}
use Rattle.logic_terms.specs.Same.{same_node}
use Rattle.logic_terms.specs.declared.syntax.Term.{Term}
use Rattle.logic_terms.specs.declared.syntax.Formula.{Formula}
use Rattle.logic_terms.specs.declared.syntax.Formula.TheOpen.{Formula-F, Term-F}
use Rattle.logic_terms.specs.declared.syntax.Formula.TheViews.{roll-Formula, roll-Term}
use Rattle.logic_terms.specs.declared.syntax.Formula.TheFolds.{map-Formula, map-Term, fold-roll-Formula, fold-roll-Term, ind-Formula, ind-Term}
use Rattle.logic_terms.proofs.SameNodes.{same_node-is}

abbrev is_term : Node → Bool
is_term (num n) = true
is_term (symbol k) = true
is_term (bound k) = true
is_term (op1 bit a) = true
is_term (op1 fst a) = true
is_term (op1 lst a) = true
is_term (op1 (fld k) a) = true
is_term (op2 (arith o) a b) = true
is_term (op2 sel a b) = true
is_term (op2 (upd k) a b) = true
is_term (op3 o a b c) = true
is_term (opn o ns) = true
is_term _ = false

abbrev Term-is : Term → Type 0
Term-is x = is_term (term x) ≡ true

abbrev Formula-is : Formula → Type 0
Formula-is p = is_term (formula p) ≡ false

abbrev Told : Type 0
Told = (x : Term) × Term-is x

abbrev FormulaTold : Type 0
FormulaTold = (p : Formula) × Formula-is p

term_layer : (y : Term-F FormulaTold Told) → is_term (term_step (map-Term Formula Term Node Node formula term (map-Term FormulaTold Told Formula Term (λ e. e.0) (λ e. e.0) y))) ≡ true
term_layer (Term-F.Num n) = refl
term_layer (Term-F.Sym k) = refl
term_layer (Term-F.Bound k) = refl
term_layer (Term-F.Add a b) = refl
term_layer (Term-F.Sub a b) = refl
term_layer (Term-F.Mul a b) = refl
term_layer (Term-F.Quo a b) = refl
term_layer (Term-F.Rem a b) = refl
term_layer (Term-F.Mod a b) = refl
term_layer (Term-F.Pow a b) = refl
term_layer (Term-F.Bit p) = refl
term_layer (Term-F.Ite p a b) = refl
term_layer (Term-F.Sel a i) = refl
term_layer (Term-F.Sto a i v) = refl
term_layer (Term-F.Fst a) = refl
term_layer (Term-F.Lst a) = refl
term_layer (Term-F.Fill f l v) = refl
term_layer (Term-F.Rec ts) = refl
term_layer (Term-F.Fld k r) = refl
term_layer (Term-F.Upd k r v) = refl
term_layer (Term-F.Call k ts) = refl

formula_layer : (y : Formula-F FormulaTold Told) → is_term (formula_step (map-Formula Formula Term Node Node formula term (map-Formula FormulaTold Told Formula Term (λ e. e.0) (λ e. e.0) y))) ≡ false
formula_layer Formula-F.True = refl
formula_layer Formula-F.False = refl
formula_layer (Formula-F.Tru a) = refl
formula_layer (Formula-F.Le a b) = refl
formula_layer (Formula-F.Eq a b) = refl
formula_layer (Formula-F.Not a) = refl
formula_layer (Formula-F.And a b) = refl
formula_layer (Formula-F.Or a b) = refl
formula_layer (Formula-F.Iff a b) = refl
formula_layer (Formula-F.All a b c) = refl
formula_layer (Formula-F.Any a b c) = refl

formula_turn : (x : Formula-F Formula Term) (y : Formula-F FormulaTold Told) → map-Formula FormulaTold Told Formula Term (λ e. e.0) (λ e. e.0) y ≡ x → Formula-is (roll-Formula x)
formula_turn x y is = subst (λ z. Formula-is (roll-Formula z)) is
    (ap is_term (fold-roll-Formula Node Node formula_step term_step (map-Formula FormulaTold Told Formula Term (λ e. e.0) (λ e. e.0) y)) ∙ formula_layer y)

term_turn : (x : Term-F Formula Term) (y : Term-F FormulaTold Told) → map-Term FormulaTold Told Formula Term (λ e. e.0) (λ e. e.0) y ≡ x → Term-is (roll-Term x)
term_turn x y is = subst (λ z. Term-is (roll-Term z)) is
    (ap is_term (fold-roll-Term Node Node formula_step term_step (map-Term FormulaTold Told Formula Term (λ e. e.0) (λ e. e.0) y)) ∙ term_layer y)

formula_is : (p : Formula) → is_term (formula p) ≡ false
formula_is = ind-Formula Formula-is Term-is formula_turn term_turn

term_is : (x : Term) → is_term (term x) ≡ true
term_is = ind-Term Formula-is Term-is formula_turn term_turn

apart_by : (x p : Node) (b : Bool) → same_node x p ≡ b → is_term x ≡ true → is_term p ≡ false → b ≡ false
apart_by x p false e s t = refl
apart_by x p true e s t = absurd (false≢true (sym t ∙ ap is_term (sym (same_node-is x p e)) ∙ s))

pub no_formula : (x : Term) (p : Formula) → same_node (term x) (formula p) ≡ false
no_formula x p = apart_by (term x) (formula p) (same_node (term x) (formula p)) refl (term_is x) (formula_is p)
