-- A well sorted node has a value of its kind.
use Rattle.std.proofs.Common.{◌≡◌, refl, sym, ◌∙◌, ap, subst, ℕ, zero, suc, Bool, true, false, ◌&&◌, List, [], ◌∷◌, Option, Some, None, arith}
use Rattle.std.proofs.lemmas.Bool.{and_parts, and_from, false≢true}
use Rattle.std.specs.Prelude.{◌==◌, ℤ, ◌-ℤ◌, if◌then◌else◌}
use Rattle.logic_terms.specs.Node.{Op1, bit, tru, neg, fst, lst, fld, Op2, arith as compute_by, le, eq, conj, disj, iff, sel, upd, Op3, ite, sto, fill, OpN, fields, call, Node, num, flag, sym as symbol, bound, op1, op2, op3, opn, quant, Nodes, no_nodes, node}
use Rattle.logic_terms.specs.Value.{Kind, numbers, truths, arrays, records, Kinds, no_kinds, kind, Value, number, truth, array, record_of, Values, no_values, value, same_kind, same_kinds, count, default, defaults, kind_of, kinds_of, value_at, with_value, copies, as_number, as_truth, steps}
use Rattle.logic_terms.specs.Meaning.{World, meaning, meanings, bound_at, apply1, apply2, apply3, applyn, item, stored, filled, within}
use Rattle.logic_terms.specs.Sorting.{is_of, all_of, are_of, length_of, Called, Signature, nth, nth_kind, given, kind1, kind2, kind3, kind-upd, kind-call, kind_over, on1, on2, on3, onn, and_kind, node_kind, node_kinds, HasKind, IsWorldOf}

-- ---- kinds

mutual
  pub same_kind-is : (j k : Kind) → same_kind j k ≡ true → j ≡ k
  same_kind-is numbers numbers h = refl
  same_kind-is numbers truths h = absurd (false≢true h)
  same_kind-is numbers (arrays k) h = absurd (false≢true h)
  same_kind-is numbers (records k) h = absurd (false≢true h)
  same_kind-is truths truths h = refl
  same_kind-is truths numbers h = absurd (false≢true h)
  same_kind-is truths (arrays k) h = absurd (false≢true h)
  same_kind-is truths (records k) h = absurd (false≢true h)
  same_kind-is (arrays j) (arrays k) h = ap arrays (same_kind-is j k h)
  same_kind-is (arrays j) numbers h = absurd (false≢true h)
  same_kind-is (arrays j) truths h = absurd (false≢true h)
  same_kind-is (arrays j) (records k) h = absurd (false≢true h)
  same_kind-is (records j) (records k) h = ap records (same_kinds-are j k h)
  same_kind-is (records j) numbers h = absurd (false≢true h)
  same_kind-is (records j) truths h = absurd (false≢true h)
  same_kind-is (records j) (arrays k) h = absurd (false≢true h)

  pub same_kinds-are : (j k : Kinds) → same_kinds j k ≡ true → j ≡ k
  same_kinds-are no_kinds no_kinds h = refl
  same_kinds-are no_kinds (kind k ks) h = absurd (false≢true h)
  same_kinds-are (kind j js) no_kinds h = absurd (false≢true h)
  same_kinds-are (kind j js) (kind k ks) h =
      let e = and_parts _ _ h in rw (same_kind-is j k e.0, same_kinds-are js ks e.1)

mutual
  pub same_kind-refl : (k : Kind) → same_kind k k ≡ true
  same_kind-refl numbers = refl
  same_kind-refl truths = refl
  same_kind-refl (arrays k) = same_kind-refl k
  same_kind-refl (records ks) = same_kinds-refl ks

  pub same_kinds-refl : (ks : Kinds) → same_kinds ks ks ≡ true
  same_kinds-refl no_kinds = refl
  same_kinds-refl (kind k ks) = and_from _ _ (same_kind-refl k) (same_kinds-refl ks)

mutual
  pub default-kind : (k : Kind) → is_of k (default k) ≡ true
  default-kind numbers = refl
  default-kind truths = refl
  default-kind (arrays k) = and_from _ _ (same_kind-refl k) refl
  default-kind (records ks) = defaults-kinds ks

  pub defaults-kinds : (ks : Kinds) → are_of ks (defaults ks) ≡ true
  defaults-kinds no_kinds = refl
  defaults-kinds (kind k ks) = and_from _ _ (default-kind k) (defaults-kinds ks)

mutual
  pub kind_of-is : (v : Value) (k : Kind) → is_of k v ≡ true → kind_of v ≡ k
  kind_of-is (number n) numbers h = refl
  kind_of-is (truth b) truths h = refl
  kind_of-is (array m f l vs) (arrays k) h = ap arrays (sym (same_kind-is k m (and_parts _ _ h).0))
  kind_of-is (record_of vs) (records ks) h = ap records (kinds_of-are vs ks h)
  kind_of-is (number n) _ h = absurd (false≢true h)
  kind_of-is (truth n) _ h = absurd (false≢true h)
  kind_of-is (array m f l vs) _ h = absurd (false≢true h)
  kind_of-is (record_of n) _ h = absurd (false≢true h)

  pub kinds_of-are : (vs : Values) (ks : Kinds) → are_of ks vs ≡ true → kinds_of vs ≡ ks
  kinds_of-are no_values no_kinds h = refl
  kinds_of-are (value v vs) (kind k ks) h =
      let e = and_parts _ _ h in rw (kind_of-is v k e.0, kinds_of-are vs ks e.1)
  kinds_of-are no_values (kind k ks) h = absurd (false≢true h)
  kinds_of-are (value v vs) no_kinds h = absurd (false≢true h)

-- ---- parts

all-at : (k : Kind) (vs : Values) (n : ℕ) (d : Value) → all_of k vs ≡ true → is_of k d ≡ true → is_of k (value_at vs n d) ≡ true
all-at k no_values n d h e = e
all-at k (value v vs) zero d h e = (and_parts _ _ h).0
all-at k (value v vs) (suc n) d h e = all-at k vs n d (and_parts _ _ h).1 e

all-with : (k : Kind) (vs : Values) (n : ℕ) (v : Value) → all_of k vs ≡ true → is_of k v ≡ true → all_of k (with_value vs n v) ≡ true
all-with k no_values n v h e = refl
all-with k (value u vs) zero v h e = and_from _ _ e (and_parts _ _ h).1
all-with k (value u vs) (suc n) v h e = let p = and_parts _ _ h in and_from _ _ p.0 (all-with k vs n v p.1 e)

length-with : (vs : Values) (n : ℕ) (v : Value) → length_of (with_value vs n v) ≡ length_of vs
length-with no_values n v = refl
length-with (value u vs) zero v = refl
length-with (value u vs) (suc n) v = ap (λ k. suc k) (length-with vs n v)

all-copies : (k : Kind) (n : ℕ) (v : Value) → is_of k v ≡ true → all_of k (copies n v) ≡ true
all-copies k zero v e = refl
all-copies k (suc n) v e = and_from _ _ e (all-copies k n v e)

length-copies : (n : ℕ) (v : Value) → length_of (copies n v) ≡ n
length-copies zero v = refl
length-copies (suc n) v = ap (λ k. suc k) (length-copies n v)

are-at : (ks : Kinds) (vs : Values) (n : ℕ) (d : Value) → are_of ks vs ≡ true → HasKind (nth_kind ks n) (value_at vs n d)
are-at no_kinds vs n d h = tt
are-at (kind k ks) no_values n d h = absurd (false≢true h)
are-at (kind k ks) (value v vs) zero d h = (and_parts _ _ h).0
are-at (kind k ks) (value v vs) (suc n) d h = are-at ks vs n d (and_parts _ _ h).1

are-with : (ks : Kinds) (vs : Values) (n : ℕ) (j : Kind) (v : Value) → nth_kind ks n ≡ Some j → are_of ks vs ≡ true → is_of j v ≡ true → are_of ks (with_value vs n v) ≡ true
are-with no_kinds vs n j v i h e = absurd (cc)
are-with (kind k ks) no_values n j v i h e = absurd (false≢true h)
are-with (kind k ks) (value u vs) zero j v i h e =
    let same : k ≡ j = cc in and_from _ _ (subst (λ x. is_of x v ≡ true) (sym same) e) (and_parts _ _ h).1
are-with (kind k ks) (value u vs) (suc n) j v i h e =
    let p = and_parts _ _ h in and_from _ _ p.0 (are-with ks vs n j v i p.1 e)

chosen : (k : Kind) (b : Bool) (v u : Value) → is_of k v ≡ true → is_of k u ≡ true → is_of k (if b then v else u) ≡ true
chosen k true v u e f = e
chosen k false v u e f = f

-- ---- operators

given-has : (b : Bool) (k : Kind) (v : Value) → (b ≡ true → is_of k v ≡ true) → HasKind (given b k) v
given-has true k v f = f refl
given-has false k v f = tt

has : (j k : Kind) (v : Value) → j ≡ k → is_of j v ≡ true → is_of k v ≡ true
has j k v e h = subst (λ x. is_of x v ≡ true) e h

kind1-has : (o : Op1) (k : Kind) (a : Value) → is_of k a ≡ true → HasKind (kind1 o k) (apply1 o a)
kind1-has bit truths a h = refl
kind1-has bit _ a h = tt
kind1-has tru truths a h = refl
kind1-has tru _ a h = tt
kind1-has neg truths a h = refl
kind1-has neg _ a h = tt
kind1-has fst (arrays k) a h = refl
kind1-has fst _ a h = tt
kind1-has lst (arrays k) a h = refl
kind1-has lst _ a h = tt
kind1-has (fld n) (records ks) (record_of vs) h = are-at ks vs n _ h
kind1-has (fld n) (records ks) _ h = absurd (false≢true h)
kind1-has (fld n) _ a h = tt

item-has : (k : Kind) (a : Value) (i : ℤ) → is_of (arrays k) a ≡ true → is_of k (item a i) ≡ true
item-has k (array m f l vs) i h =
    let e = and_parts _ _ h in
    let d : is_of k (default m) ≡ true = subst (λ x. is_of k (default x) ≡ true) (same_kind-is k m e.0) (default-kind k) in
    chosen k (within f l i) _ _ (all-at k vs _ _ (and_parts _ _ e.1).1 d) d
item-has k (number n) i h = absurd (false≢true h)
item-has k (truth n) i h = absurd (false≢true h)
item-has k (record_of n) i h = absurd (false≢true h)

items_chosen : (k : Kind) (b : Bool) (n : ℕ) (vs us : Values) → (length_of vs == n && all_of k vs) ≡ true → (length_of us == n && all_of k us) ≡ true → (length_of (if b then vs else us) == n && all_of k (if b then vs else us)) ≡ true
items_chosen k true n vs us e f = e
items_chosen k false n vs us e f = f

stored-has : (k : Kind) (a : Value) (i : ℤ) (v : Value) → is_of (arrays k) a ≡ true → is_of k v ≡ true → is_of (arrays k) (stored a i v) ≡ true
stored-has k (array m f l vs) i v h e =
    let p = and_parts _ _ h in
    let q = and_parts _ _ p.1 in
    let n = steps (i -ℤ f) in
    let r : (length_of (with_value vs n v) == count f l && all_of k (with_value vs n v)) ≡ true =
    and_from _ _ (ap (λ x. x == count f l) (length-with vs n v) ∙ q.0) (all-with k vs n v q.1 e) in
    and_from _ _ p.0 (items_chosen k (within f l i) (count f l) _ vs r p.1)
stored-has k (number n) i v h e = absurd (false≢true h)
stored-has k (truth n) i v h e = absurd (false≢true h)
stored-has k (record_of n) i v h e = absurd (false≢true h)

filled-has : (k : Kind) (f l : ℤ) (v : Value) → is_of k v ≡ true → is_of (arrays k) (filled f l v) ≡ true
filled-has k f l v e =
    let s : same_kind k (kind_of v) ≡ true = rw (kind_of-is v k e) (same_kind-refl k) in
    let n : (length_of (copies (count f l) v) == count f l) ≡ true = ap (λ x. x == count f l) (length-copies (count f l) v) ∙ grind arith in
    and_from _ _ s (and_from _ _ n (all-copies k (count f l) v e))

upd-has : (n : ℕ) (o : Option Kind) (ks : Kinds) (k : Kind) (a b : Value) → nth_kind ks n ≡ o → is_of (records ks) a ≡ true → is_of k b ≡ true → HasKind (kind-upd o ks k) (apply2 (upd n) a b)
upd-has n None ks k a b e h i = tt
upd-has n (Some j) ks k (record_of vs) b e h i =
    given-has (same_kind j k) (records ks) _ (λ s. are-with ks vs n j b e h (has k j b (sym (same_kind-is j k s)) i))
upd-has n (Some j) ks k (number a) b e h i = absurd (false≢true h)
upd-has n (Some j) ks k (truth a) b e h i = absurd (false≢true h)
upd-has n (Some j) ks k (array m f l vs) b e h i = absurd (false≢true h)

kind2-has : (o : Op2) (j k : Kind) (a b : Value) → is_of j a ≡ true → is_of k b ≡ true → HasKind (kind2 o j k) (apply2 o a b)
kind2-has eq j k a b h i = given-has _ truths _ (λ _. refl)
kind2-has (compute_by o) numbers numbers a b h i = refl
kind2-has le numbers numbers a b h i = refl
kind2-has conj truths truths a b h i = refl
kind2-has disj truths truths a b h i = refl
kind2-has iff truths truths a b h i = refl
kind2-has sel (arrays j) numbers a b h i = item-has j a (as_number b) h
kind2-has (upd n) (records ks) k a b h i = upd-has n _ ks k a b refl h i
kind2-has _ _ _ a b h i = tt

kind3-has : (o : Op3) (i j k : Kind) (a b c : Value) → is_of i a ≡ true → is_of j b ≡ true → is_of k c ≡ true → HasKind (kind3 o i j k) (apply3 o a b c)
kind3-has ite truths j k a b c h e f =
    given-has (same_kind j k) j _ (λ s. chosen j (as_truth a) b c e (has k j c (sym (same_kind-is j k s)) f))
kind3-has sto (arrays i) numbers k a b c h e f =
    given-has (same_kind i k) (arrays i) _ (λ s. stored-has i a (as_number b) c h (has k i c (sym (same_kind-is i k s)) f))
kind3-has fill numbers numbers k a b c h e f = filled-has k (as_number a) (as_number b) c f
kind3-has _ _ _ _ a b c h e f = tt

kind-call-has : (s : Signature) (w : World) → IsWorldOf s w → (n : ℕ) (o : Option Called) (ks : Kinds) (vs : Values) → nth s.calls n ≡ o → are_of ks vs ≡ true → HasKind (kind-call o ks) (w.call n vs)
kind-call-has s w fits n None ks vs is h = tt
kind-call-has s w fits n (Some c) ks vs is h =
    given-has _ c.gives _ (λ e. fits.calls_fit n c is vs (subst (λ js. are_of js vs ≡ true) (sym (same_kinds-are c.takes ks e)) h))

on1-has : (o : Op1) (k : Option Kind) (a : Value) → HasKind k a → HasKind (on1 o k) (apply1 o a)
on1-has o None a h = tt
on1-has o (Some k) a h = kind1-has o k a h

on2-has : (o : Op2) (j k : Option Kind) (a b : Value) → HasKind j a → HasKind k b → HasKind (on2 o j k) (apply2 o a b)
on2-has o None k a b h i = tt
on2-has o (Some j) None a b h i = tt
on2-has o (Some j) (Some k) a b h i = kind2-has o j k a b h i

on3-has : (o : Op3) (i j k : Option Kind) (a b c : Value) → HasKind i a → HasKind j b → HasKind k c → HasKind (on3 o i j k) (apply3 o a b c)
on3-has o None j k a b c h e f = tt
on3-has o (Some i) None k a b c h e f = tt
on3-has o (Some i) (Some j) None a b c h e f = tt
on3-has o (Some i) (Some j) (Some k) a b c h e f = kind3-has o i j k a b c h e f

kind_over-has : (j k l : Option Kind) (b : Bool) → HasKind (kind_over j k l) (truth b)
kind_over-has (Some numbers) (Some numbers) (Some truths) b = refl
kind_over-has _ _ _ b = tt

abbrev HaveKinds : Option Kinds → Values → Type 0
HaveKinds None vs = Unit {0}
HaveKinds (Some ks) vs = are_of ks vs ≡ true

and_kind-have : (j : Option Kind) (k : Option Kinds) (v : Value) (vs : Values) → HasKind j v → HaveKinds k vs → HaveKinds (and_kind j k) (value v vs)
and_kind-have None k v vs h i = tt
and_kind-have (Some j) None v vs h i = tt
and_kind-have (Some j) (Some k) v vs h i = and_from _ _ h i

onn-has : (s : Signature) (w : World) → IsWorldOf s w → (o : OpN) (ks : Option Kinds) (vs : Values) → HaveKinds ks vs → HasKind (onn s o ks) (applyn w o vs)
onn-has s w fits o None vs h = tt
onn-has s w fits fields (Some ks) vs h = h
onn-has s w fits (call n) (Some ks) vs h = kind-call-has s w fits n _ ks vs refl h

-- the values of the variables have their kinds
abbrev pub VariablesFit : List Kind → List Value → Type 0
VariablesFit js vs = (n : ℕ) → HasKind (nth js n) (bound_at vs n)

module _ (s : Signature) (w : World) (fits : IsWorldOf s w) where
  mutual
    pub meaning-has : (js : List Kind) (vs : List Value) (p : Node) → VariablesFit js vs → HasKind (node_kind s js p) (meaning w vs p)
    meaning-has js vs (num n) v = refl
    meaning-has js vs (flag b) v = refl
    meaning-has js vs (symbol k) v = fits.symbols_fit k
    meaning-has js vs (bound k) v = v k
    meaning-has js vs (op1 o a) v = on1-has o _ _ (meaning-has js vs a v)
    meaning-has js vs (op2 o a b) v = on2-has o _ _ _ _ (meaning-has js vs a v) (meaning-has js vs b v)
    meaning-has js vs (op3 o a b c) v = on3-has o _ _ _ _ _ _ (meaning-has js vs a v) (meaning-has js vs b v) (meaning-has js vs c v)
    meaning-has js vs (opn o ns) v = onn-has s w fits o _ _ (meanings-have js vs ns v)
    meaning-has js vs (quant q l h p) v = kind_over-has (node_kind s js l) (node_kind s js h) (node_kind s (numbers ∷ js) p) _

    pub meanings-have : (js : List Kind) (vs : List Value) (ns : Nodes) → VariablesFit js vs → HaveKinds (node_kinds s js ns) (meanings w vs ns)
    meanings-have js vs no_nodes v = refl
    meanings-have js vs (node a ns) v = and_kind-have _ _ _ _ (meaning-has js vs a v) (meanings-have js vs ns v)

  -- a closed term of the kind of numbers is a number
  pub meaning-number : (t : Node) → node_kind s [] t ≡ Some numbers → meaning w [] t ≡ number (as_number (meaning w [] t))
  meaning-number t e = go _ (subst (λ o. HasKind o (meaning w [] t)) e (meaning-has [] [] t (λ n. tt)))
    where
      go : (v : Value) → is_of numbers v ≡ true → v ≡ number (as_number v)
      go (number n) h = refl
      go (truth n) h = absurd (false≢true h)
      go (array m f l vs) h = absurd (false≢true h)
      go (record_of n) h = absurd (false≢true h)
