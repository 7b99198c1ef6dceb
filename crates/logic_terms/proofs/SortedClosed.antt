-- A well sorted node has no variables but those that have a kind.
use Rattle.std.proofs.Common.{◌≡◌, refl, ℕ, zero, suc, Bool, true, ◌&&◌, List, [], ◌∷◌, length, Option, Some, None, arith}
use Rattle.std.proofs.lemmas.Bool.{and_from}
use Rattle.std.specs.Prelude.{nat_lt}
use Rattle.logic_terms.specs.Node.{Op1, Op2, Op3, OpN, Node, num, flag, sym as symbol, bound, op1, op2, op3, opn, quant, Nodes, no_nodes, node}
use Rattle.logic_terms.specs.Value.{Kind, numbers, Kinds}
use Rattle.logic_terms.specs.Binding.{is_bound_below, are_bound_below, is_closed}
use Rattle.logic_terms.specs.Sorting.{Signature, nth, on1, on2, on3, onn, and_kind, kind_over, node_kind, node_kinds}

nth_below : (js : List Kind) (i : ℕ) (k : Kind) → nth js i ≡ Some k → nat_lt i (length js) ≡ true
nth_below [] i k e = absurd (cc)
nth_below (j ∷ js) zero k e = grind arith
nth_below (j ∷ js) (suc i) k e = let h : nat_lt i (length js) ≡ true = nth_below js i k e in grind (arith, h)

in1 : (o : Op1) (x : Option Kind) (k : Kind) (b : Bool) → on1 o x ≡ Some k → ((j : Kind) → x ≡ Some j → b ≡ true) → b ≡ true
in1 o None k b e f = absurd (cc)
in1 o (Some j) k b e f = f j refl

in2 : (o : Op2) (x y : Option Kind) (k : Kind) (b c : Bool) → on2 o x y ≡ Some k → ((j : Kind) → x ≡ Some j → b ≡ true) → ((j : Kind) → y ≡ Some j → c ≡ true) → (b && c) ≡ true
in2 o None y k b c e f g = absurd (cc)
in2 o (Some i) None k b c e f g = absurd (cc)
in2 o (Some i) (Some j) k b c e f g = and_from _ _ (f i refl) (g j refl)

in3 : (o : Op3) (x y z : Option Kind) (k : Kind) (b c d : Bool) → on3 o x y z ≡ Some k → ((j : Kind) → x ≡ Some j → b ≡ true) → ((j : Kind) → y ≡ Some j → c ≡ true) → ((j : Kind) → z ≡ Some j → d ≡ true) → (b && (c && d)) ≡ true
in3 o None y z k b c d e f g h = absurd (cc)
in3 o (Some i) None z k b c d e f g h = absurd (cc)
in3 o (Some i) (Some j) None k b c d e f g h = absurd (cc)
in3 o (Some i) (Some j) (Some l) k b c d e f g h = and_from _ _ (f i refl) (and_from _ _ (g j refl) (h l refl))

in_n : (s : Signature) (o : OpN) (x : Option Kinds) (k : Kind) (b : Bool) → onn s o x ≡ Some k → ((js : Kinds) → x ≡ Some js → b ≡ true) → b ≡ true
in_n s o None k b e f = absurd (cc)
in_n s o (Some js) k b e f = f js refl

in_over : (x y z : Option Kind) (k : Kind) (b c d : Bool) → kind_over x y z ≡ Some k → ((j : Kind) → x ≡ Some j → b ≡ true) → ((j : Kind) → y ≡ Some j → c ≡ true) → ((j : Kind) → z ≡ Some j → d ≡ true) → (b && (c && d)) ≡ true
in_over None y z k b c d e f g h = absurd (cc)
in_over (Some i) None z k b c d e f g h = absurd (over_second i z k e)
  where
    over_second : (i : Kind) (z : Option Kind) (k : Kind) → kind_over (Some i) None z ≡ Some k → ⊥
    over_second numbers z k e = cc
    over_second _ z k e = cc
in_over (Some i) (Some j) None k b c d e f g h = absurd (over_third i j k e)
  where
    over_third : (i j : Kind) (k : Kind) → kind_over (Some i) (Some j) None ≡ Some k → ⊥
    over_third numbers numbers k e = cc
    over_third numbers _ k e = cc
    over_third _ j k e = cc
in_over (Some i) (Some j) (Some l) k b c d e f g h = and_from _ _ (f i refl) (and_from _ _ (g j refl) (h l refl))

in_more : (x : Option Kind) (y : Option Kinds) (ks : Kinds) (b c : Bool) → and_kind x y ≡ Some ks → ((j : Kind) → x ≡ Some j → b ≡ true) → ((js : Kinds) → y ≡ Some js → c ≡ true) → (b && c) ≡ true
in_more None y ks b c e f g = absurd (cc)
in_more (Some i) None ks b c e f g = absurd (cc)
in_more (Some i) (Some js) ks b c e f g = and_from _ _ (f i refl) (g js refl)

module _ (s : Signature) where
  mutual
    pub sorted_below : (js : List Kind) (p : Node) (k : Kind) → node_kind s js p ≡ Some k → is_bound_below (length js) p ≡ true
    sorted_below js (num n) k e = refl
    sorted_below js (flag b) k e = refl
    sorted_below js (symbol i) k e = refl
    sorted_below js (bound i) k e = nth_below js i k e
    sorted_below js (op1 o a) k e = in1 o (node_kind s js a) k _ e (sorted_below js a)
    sorted_below js (op2 o a b) k e = in2 o (node_kind s js a) (node_kind s js b) k _ _ e (sorted_below js a) (sorted_below js b)
    sorted_below js (op3 o a b c) k e = in3 o (node_kind s js a) (node_kind s js b) (node_kind s js c) k _ _ _ e (sorted_below js a) (sorted_below js b) (sorted_below js c)
    sorted_below js (opn o ns) k e = in_n s o (node_kinds s js ns) k _ e (all_sorted_below js ns)
    sorted_below js (quant q l h p) k e = in_over (node_kind s js l) (node_kind s js h) (node_kind s (numbers ∷ js) p) k _ _ _ e (sorted_below js l) (sorted_below js h) (sorted_below (numbers ∷ js) p)

    pub all_sorted_below : (js : List Kind) (ns : Nodes) (ks : Kinds) → node_kinds s js ns ≡ Some ks → are_bound_below (length js) ns ≡ true
    all_sorted_below js no_nodes ks e = refl
    all_sorted_below js (node a ns) ks e = in_more (node_kind s js a) (node_kinds s js ns) ks _ _ e (sorted_below js a) (all_sorted_below js ns)

  -- so a formula of a well sorted goal is closed
  pub sorted_closed : (p : Node) (k : Kind) → node_kind s [] p ≡ Some k → is_closed p ≡ true
  sorted_closed p k e = sorted_below [] p k e
