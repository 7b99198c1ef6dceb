-- The node that a term or a formula is.
use Rattle.std.specs.Prelude.{true, false, List, [], ◌∷◌, map}
use Rattle.logic_terms.specs.Node.{add, sub, mul, quo, rem, mod_by, pow, bit, tru, neg, fst, lst, fld, arith, le, eq, conj, disj, iff, sel, upd, ite, sto, fill, fields, call, all, any, Node, num, flag, sym, bound, op1, op2, op3, opn, quant, Nodes, no_nodes, node}
use Rattle.logic_terms.specs.declared.syntax.Term.{Term}
use Rattle.logic_terms.specs.declared.syntax.Formula.{Formula}
use Rattle.logic_terms.specs.declared.syntax.Formula.TheOpen.{Formula-F, Term-F}
use Rattle.logic_terms.specs.declared.syntax.Formula.TheFolds.{fold-Formula, fold-Term}

abbrev pub nodes_of : List Node → Nodes
nodes_of [] = no_nodes
nodes_of (x ∷ xs) = node x (nodes_of xs)

abbrev pub term_step : Term-F Node Node → Node
term_step (Term-F.Num n) = num n
term_step (Term-F.Sym k) = sym k
term_step (Term-F.Bound k) = bound k
term_step (Term-F.Add a b) = op2 (arith add) a b
term_step (Term-F.Sub a b) = op2 (arith sub) a b
term_step (Term-F.Mul a b) = op2 (arith mul) a b
term_step (Term-F.Quo a b) = op2 (arith quo) a b
term_step (Term-F.Rem a b) = op2 (arith rem) a b
term_step (Term-F.Mod a b) = op2 (arith mod_by) a b
term_step (Term-F.Pow a b) = op2 (arith pow) a b
term_step (Term-F.Bit p) = op1 bit p
term_step (Term-F.Ite p a b) = op3 ite p a b
term_step (Term-F.Sel a i) = op2 sel a i
term_step (Term-F.Sto a i v) = op3 sto a i v
term_step (Term-F.Fst a) = op1 fst a
term_step (Term-F.Lst a) = op1 lst a
term_step (Term-F.Fill f l v) = op3 fill f l v
term_step (Term-F.Rec ts) = opn fields (nodes_of ts)
term_step (Term-F.Fld k r) = op1 (fld k) r
term_step (Term-F.Upd k r v) = op2 (upd k) r v
term_step (Term-F.Call k ts) = opn (call k) (nodes_of ts)

abbrev pub formula_step : Formula-F Node Node → Node
formula_step Formula-F.True = flag true
formula_step Formula-F.False = flag false
formula_step (Formula-F.Tru t) = op1 tru t
formula_step (Formula-F.Le a b) = op2 le a b
formula_step (Formula-F.Eq a b) = op2 eq a b
formula_step (Formula-F.Not p) = op1 neg p
formula_step (Formula-F.And p q) = op2 conj p q
formula_step (Formula-F.Or p q) = op2 disj p q
formula_step (Formula-F.Iff p q) = op2 iff p q
formula_step (Formula-F.All l h p) = quant all l h p
formula_step (Formula-F.Any l h p) = quant any l h p

abbrev pub term : Term → Node
term = fold-Term Node Node formula_step term_step

abbrev pub formula : Formula → Node
formula = fold-Formula Node Node formula_step term_step

abbrev pub terms : List Term → Nodes
terms ts = nodes_of (map term ts)
