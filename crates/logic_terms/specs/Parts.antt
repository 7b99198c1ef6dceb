-- The nodes of which the code tells the parts.
use Rattle.logic_terms.specs.Node.{bit, tru, neg, ite, Node, num, flag, sym, bound, op1, op2, op3, opn, quant}
use Rattle.logic_terms.specs.Operators.{unary_of, binary_of, ternary_of, list_of, comparison_of, connective_of, quantifier_of}
use Rattle.logic_terms.specs.View.{term, formula, terms}
use Rattle.logic_terms.specs.declared.parts.TermParts.{TermParts}
use Rattle.logic_terms.specs.declared.parts.FormulaParts.{FormulaParts}

abbrev pub term_from : TermParts → Node
term_from (TermParts.Number n) = num n
term_from (TermParts.Symbol k) = sym k
term_from (TermParts.Bound k) = bound k
term_from (TermParts.Bit p) = op1 bit (formula p.now)
term_from (TermParts.Choice p a b) = op3 ite (formula p.now) (term a.now) (term b.now)
term_from (TermParts.One o a) = op1 (unary_of o) (term a.now)
term_from (TermParts.Two o a b) = op2 (binary_of o) (term a.now) (term b.now)
term_from (TermParts.Three o a b c) = op3 (ternary_of o) (term a.now) (term b.now) (term c.now)
term_from (TermParts.List o ts) = opn (list_of o) (terms ts.now)

abbrev pub formula_from : FormulaParts → Node
formula_from (FormulaParts.Constant b) = flag b
formula_from (FormulaParts.Truth t) = op1 tru (term t.now)
formula_from (FormulaParts.Compared o a b) = op2 (comparison_of o) (term a.now) (term b.now)
formula_from (FormulaParts.Not p) = op1 neg (formula p.now)
formula_from (FormulaParts.Joined o p q) = op2 (connective_of o) (formula p.now) (formula q.now)
formula_from (FormulaParts.Quantified o f l p) = quant (quantifier_of o) (term f.now) (term l.now) (formula p.now)
