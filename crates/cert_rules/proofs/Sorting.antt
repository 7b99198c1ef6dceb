-- A well sorted node is closed, and names only the symbols that have a kind.
use Rattle.std.proofs.Common.{◌≡◌, refl, ◌∙◌, ap, subst, ℕ, zero, suc, ◌+◌, Bool, true, ◌&&◌, List, [], ◌∷◌, length, length-append, Option, Some, None, arith}
use Rattle.std.proofs.lemmas.Bool.{and_parts, and_from, false≢true}
use Rattle.std.specs.Prelude.{nat_lt}
use Rattle.logic_terms.specs.Node.{Op1, Op2, Op3, OpN, Node, num, flag, sym as symbol, bound, op1, op2, op3, opn, quant, Nodes, no_nodes, node}
use Rattle.logic_terms.specs.Value.{Kind, numbers, truths, arrays, records, Kinds}
use Rattle.logic_terms.specs.Binding.{is_closed}
use Rattle.logic_terms.specs.Sorting.{Signature, nth, kind1, kind2, kind3, kindn, on1, on2, on3, onn, and_kind, kind_over, node_kind, node_kinds}
use Rattle.logic_terms.proofs.SortedClosed.{sorted_closed}
use Rattle.cert_lines.specs.Symbols.{new_kinds, is_some_numbers, is_some_truths}
use Rattle.cert_rules.specs.Context.{Context, signature, next_symbol, kind_in, is_number, is_formula, all_formulas}
use Rattle.cert_rules.proofs.Names.{names_below, all_names_below, clause_below}

-- of what has a kind, this is so
abbrev pub IfSorted : {A : Type 0} → Option A → Bool → Type 0
IfSorted None b = Unit {0}
IfSorted (Some k) b = b ≡ true

so : {A : Type 0} (x : Option A) (b : Bool) → b ≡ true → IfSorted x b
so None b e = tt
so (Some k) b e = e

nth-below : (ks : List Kind) (i : ℕ) → IfSorted (nth ks i) (nat_lt i (length ks))
nth-below [] i = tt
nth-below (k ∷ ks) zero = grind arith
nth-below (k ∷ ks) (suc i) = go (nth ks i) (nth-below ks i)
  where
    go : (x : Option Kind) → IfSorted x (nat_lt i (length ks)) → IfSorted x (nat_lt (suc i) (suc (length ks)))
    go None h = tt
    go (Some j) h = grind (arith, h)

on1-below : (o : Op1) (x : Option Kind) (b : Bool) → IfSorted x b → IfSorted (on1 o x) b
on1-below o None b h = tt
on1-below o (Some k) b h = so (kind1 o k) b h

on2-below : (o : Op2) (x y : Option Kind) (b c : Bool) → IfSorted x b → IfSorted y c → IfSorted (on2 o x y) (b && c)
on2-below o None y b c h i = tt
on2-below o (Some j) None b c h i = tt
on2-below o (Some j) (Some k) b c h i = so (kind2 o j k) _ (and_from _ _ h i)

on3-below : (o : Op3) (x y z : Option Kind) (b c d : Bool) → IfSorted x b → IfSorted y c → IfSorted z d → IfSorted (on3 o x y z) (b && (c && d))
on3-below o None y z b c d h i j = tt
on3-below o (Some k) None z b c d h i j = tt
on3-below o (Some k) (Some l) None b c d h i j = tt
on3-below o (Some k) (Some l) (Some m) b c d h i j = so (kind3 o k l m) _ (and_from _ _ h (and_from _ _ i j))

onn-below : (s : Signature) (o : OpN) (x : Option Kinds) (b : Bool) → IfSorted x b → IfSorted (onn s o x) b
onn-below s o None b h = tt
onn-below s o (Some ks) b h = so (kindn s o ks) b h

over-below : (x y z : Option Kind) (b c d : Bool) → IfSorted x b → IfSorted y c → IfSorted z d → IfSorted (kind_over x y z) (b && (c && d))
over-below (Some numbers) (Some numbers) (Some truths) b c d h i j = and_from _ _ h (and_from _ _ i j)
over-below _ _ _ b c d h i j = tt

more-below : (x : Option Kind) (y : Option Kinds) (b c : Bool) → IfSorted x b → IfSorted y c → IfSorted (and_kind x y) (b && c)
more-below None y b c h i = tt
more-below (Some k) None b c h i = tt
more-below (Some k) (Some ks) b c h i = and_from _ _ h i

module _ (s : Signature) where
  mutual
    sorted-below : (js : List Kind) (p : Node) → IfSorted (node_kind s js p) (names_below (length s.symbols) p)
    sorted-below js (num n) = refl
    sorted-below js (flag b) = refl
    sorted-below js (symbol i) = nth-below s.symbols i
    sorted-below js (bound i) = so (nth js i) true refl
    sorted-below js (op1 o a) = on1-below o _ _ (sorted-below js a)
    sorted-below js (op2 o a b) = on2-below o _ _ _ _ (sorted-below js a) (sorted-below js b)
    sorted-below js (op3 o a b c) = on3-below o _ _ _ _ _ _ (sorted-below js a) (sorted-below js b) (sorted-below js c)
    sorted-below js (opn o ns) = onn-below s o _ _ (all-sorted-below js ns)
    sorted-below js (quant q l h p) = over-below _ _ _ _ _ _ (sorted-below js l) (sorted-below js h) (sorted-below (numbers ∷ js) p)

    all-sorted-below : (js : List Kind) (ns : Nodes) → IfSorted (node_kinds s js ns) (all_names_below (length s.symbols) ns)
    all-sorted-below js no_nodes = refl
    all-sorted-below js (node a ns) = more-below _ _ _ _ (sorted-below js a) (all-sorted-below js ns)

  pub names_known : (p : Node) (k : Kind) → node_kind s [] p ≡ Some k → names_below (length s.symbols) p ≡ true
  names_known p k e = subst (λ x. IfSorted x (names_below (length s.symbols) p)) e (sorted-below [] p)

-- ---- in a context

pub kinds-length : (n : ℕ) → length (new_kinds n) ≡ n
kinds-length zero = refl
kinds-length (suc n) = ap (λ k. suc k) (kinds-length n)

pub symbols-length : (c : Context) → length (signature c).symbols ≡ next_symbol c
symbols-length c =
    length-append c.goal.signature.symbols (new_kinds c.fresh) ∙ ap (λ n. length c.goal.signature.symbols + n) (kinds-length c.fresh)

pub kind_below : (c : Context) (p : Node) (k : Kind) → kind_in c p ≡ Some k → names_below (next_symbol c) p ≡ true
kind_below c p k e = subst (λ d. names_below d p ≡ true) (symbols-length c) (names_known (signature c) p k e)

pub kind_closed : (c : Context) (p : Node) (k : Kind) → kind_in c p ≡ Some k → is_closed p ≡ true
kind_closed c p k e = sorted_closed (signature c) p k e

some_numbers : (x : Option Kind) → is_some_numbers x ≡ true → x ≡ Some numbers
some_numbers (Some numbers) h = refl
some_numbers None h = absurd (false≢true h)
some_numbers (Some truths) h = absurd (false≢true h)
some_numbers (Some (arrays k)) h = absurd (false≢true h)
some_numbers (Some (records k)) h = absurd (false≢true h)

some_truths : (x : Option Kind) → is_some_truths x ≡ true → x ≡ Some truths
some_truths (Some truths) h = refl
some_truths None h = absurd (false≢true h)
some_truths (Some numbers) h = absurd (false≢true h)
some_truths (Some (arrays k)) h = absurd (false≢true h)
some_truths (Some (records k)) h = absurd (false≢true h)

pub number_kind : (c : Context) (t : Node) → is_number c t ≡ true → kind_in c t ≡ Some numbers
number_kind c t h = some_numbers (kind_in c t) h

pub formula_kind : (c : Context) (p : Node) → is_formula c p ≡ true → kind_in c p ≡ Some truths
formula_kind c p h = some_truths (kind_in c p) h

pub number_below : (c : Context) (t : Node) → is_number c t ≡ true → names_below (next_symbol c) t ≡ true
number_below c t h = kind_below c t numbers (number_kind c t h)

pub formula_below : (c : Context) (p : Node) → is_formula c p ≡ true → names_below (next_symbol c) p ≡ true
formula_below c p h = kind_below c p truths (formula_kind c p h)

pub formulas_below : (c : Context) (ps : List Node) → all_formulas c ps ≡ true → clause_below (next_symbol c) ps ≡ true
formulas_below c [] h = refl
formulas_below c (p ∷ ps) h = let e = and_parts _ _ h in and_from _ _ (formula_below c p e.0) (formulas_below c ps e.1)
