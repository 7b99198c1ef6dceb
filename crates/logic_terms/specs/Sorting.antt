-- Well sorted terms, formulas, values and worlds; valid goals.
use Rattle.std.specs.Prelude.{◌≡◌, ℕ, zero, suc, Bool, true, false, not, ◌&&◌, ◌==◌, List, [], ◌∷◌, Option, Some, None}
use Rattle.logic_terms.specs.Node.{Op1, bit, tru, neg, fst, lst, fld, Op2, arith, le, eq, conj, disj, iff, sel, upd, Op3, ite, sto, fill, OpN, fields, call, Node, num, flag, sym, bound, op1, op2, op3, opn, quant, Nodes, no_nodes, node}
use Rattle.logic_terms.specs.Value.{Kind, numbers, truths, arrays, records, Kinds, no_kinds, kind, Value, number, truth, array, record_of, Values, no_values, value, same_kind, same_kinds, count}
use Rattle.logic_terms.specs.Meaning.{World, holds}

-- ---- values

abbrev pub length_of : Values → ℕ
length_of no_values = 0
length_of (value v vs) = suc (length_of vs)

-- a value is of a kind; an array has as many items as indices
abbrev mutual
  pub is_of : Kind → Value → Bool
  is_of numbers (number n) = true
  is_of truths (truth b) = true
  is_of (arrays k) (array m f l vs) = same_kind k m && (length_of vs == count f l && all_of k vs)
  is_of (records ks) (record_of vs) = are_of ks vs
  is_of _ _ = false

  pub all_of : Kind → Values → Bool
  all_of k no_values = true
  all_of k (value v vs) = is_of k v && all_of k vs

  pub are_of : Kinds → Values → Bool
  are_of no_kinds no_values = true
  are_of (kind k ks) (value v vs) = is_of k v && are_of ks vs
  are_of _ _ = false

-- ---- nodes

-- the arguments of a call and its answer
pub record Called : Type 0 where
  pub takes : Kinds
  pub gives : Kind

-- the kinds of the symbols and of the calls
pub record Signature : Type 0 where
  pub symbols : List Kind
  pub calls : List Called

abbrev pub nth : {A : Type 0} → List A → ℕ → Option A
nth [] n = None
nth (x ∷ xs) zero = Some x
nth (x ∷ xs) (suc n) = nth xs n

abbrev pub nth_kind : Kinds → ℕ → Option Kind
nth_kind no_kinds n = None
nth_kind (kind k ks) zero = Some k
nth_kind (kind k ks) (suc n) = nth_kind ks n

abbrev pub given : Bool → Kind → Option Kind
given true k = Some k
given false k = None

abbrev pub is_truths : Kind → Bool
is_truths truths = true
is_truths _ = false

-- the kind of an operator's value, from those of its operands
abbrev pub kind1 : Op1 → Kind → Option Kind
kind1 bit truths = Some truths
kind1 tru truths = Some truths
kind1 neg truths = Some truths
kind1 fst (arrays k) = Some numbers
kind1 lst (arrays k) = Some numbers
kind1 (fld n) (records ks) = nth_kind ks n
kind1 _ _ = None

abbrev pub kind-upd : Option Kind → Kinds → Kind → Option Kind
kind-upd None ks k = None
kind-upd (Some j) ks k = given (same_kind j k) (records ks)

abbrev pub kind2 : Op2 → Kind → Kind → Option Kind
kind2 (arith o) numbers numbers = Some numbers
kind2 le numbers numbers = Some truths
kind2 conj truths truths = Some truths
kind2 disj truths truths = Some truths
kind2 iff truths truths = Some truths
kind2 eq j k = given (same_kind j k && not (is_truths j)) truths
kind2 sel (arrays k) numbers = Some k
kind2 (upd n) (records ks) k = kind-upd (nth_kind ks n) ks k
kind2 _ _ _ = None

abbrev pub kind3 : Op3 → Kind → Kind → Kind → Option Kind
kind3 ite truths j k = given (same_kind j k) j
kind3 sto (arrays j) numbers k = given (same_kind j k) (arrays j)
kind3 fill numbers numbers k = Some (arrays k)
kind3 _ _ _ _ = None

abbrev pub kind-call : Option Called → Kinds → Option Kind
kind-call None ks = None
kind-call (Some c) ks = given (same_kinds c.takes ks) c.gives

abbrev pub kindn : Signature → OpN → Kinds → Option Kind
kindn s fields ks = Some (records ks)
kindn s (call n) ks = kind-call (nth s.calls n) ks

-- what a quantifier is, from its bounds and its body
abbrev pub kind_over : Option Kind → Option Kind → Option Kind → Option Kind
kind_over (Some numbers) (Some numbers) (Some truths) = Some truths
kind_over _ _ _ = None

abbrev pub on1 : Op1 → Option Kind → Option Kind
on1 o None = None
on1 o (Some a) = kind1 o a

abbrev pub on2 : Op2 → Option Kind → Option Kind → Option Kind
on2 o (Some a) (Some b) = kind2 o a b
on2 o _ _ = None

abbrev pub on3 : Op3 → Option Kind → Option Kind → Option Kind → Option Kind
on3 o (Some a) (Some b) (Some c) = kind3 o a b c
on3 o _ _ _ = None

abbrev pub onn : Signature → OpN → Option Kinds → Option Kind
onn s o None = None
onn s o (Some ks) = kindn s o ks

abbrev pub and_kind : Option Kind → Option Kinds → Option Kinds
and_kind (Some k) (Some ks) = Some (kind k ks)
and_kind _ _ = None

-- the kind of a node, where `js` are those of the variables; None where it is not well sorted
abbrev mutual
  pub node_kind : Signature → List Kind → Node → Option Kind
  node_kind s js (num n) = Some numbers
  node_kind s js (flag b) = Some truths
  node_kind s js (sym k) = nth s.symbols k
  node_kind s js (bound k) = nth js k
  node_kind s js (op1 o a) = on1 o (node_kind s js a)
  node_kind s js (op2 o a b) = on2 o (node_kind s js a) (node_kind s js b)
  node_kind s js (op3 o a b c) = on3 o (node_kind s js a) (node_kind s js b) (node_kind s js c)
  node_kind s js (opn o ns) = onn s o (node_kinds s js ns)
  node_kind s js (quant q l h p) = kind_over (node_kind s js l) (node_kind s js h) (node_kind s (numbers ∷ js) p)

  pub node_kinds : Signature → List Kind → Nodes → Option Kinds
  node_kinds s js no_nodes = Some no_kinds
  node_kinds s js (node a ns) = and_kind (node_kind s js a) (node_kinds s js ns)

-- ---- worlds and goals

abbrev pub HasKind : Option Kind → Value → Type 0
HasKind None v = Unit {0}
HasKind (Some k) v = is_of k v ≡ true

-- the world gives each symbol a value of its kind, and each call, at arguments of the kinds that it takes, an answer of
-- its kind
pub record IsWorldOf (s : Signature) (w : World) : Type 0 where
  pub symbols_fit : (n : ℕ) → HasKind (nth s.symbols n) (w.symbol n)
  pub calls_fit : (n : ℕ) (c : Called) → nth s.calls n ≡ Some c → (vs : Values) → are_of c.takes vs ≡ true → is_of c.gives (w.call n vs) ≡ true

abbrev pub AllHold : World → List Node → Type 0
AllHold w [] = Unit {0}
AllHold w (p ∷ ps) = (holds w [] p ≡ true) × AllHold w ps

-- what a goal states: its hypotheses imply its conclusion
pub record Problem : Type 0 where
  pub signature : Signature
  pub hypotheses : List Node
  pub conclusion : Node

-- the conclusion holds in each world in which the hypotheses hold
abbrev pub IsValid : Problem → Type 0
IsValid g = (w : World) → IsWorldOf g.signature w → AllHold w g.hypotheses → holds w [] g.conclusion ≡ true

abbrev pub are_formulas : Signature → List Node → Type 0
are_formulas s [] = Unit {0}
are_formulas s (p ∷ ps) = (node_kind s [] p ≡ Some truths) × are_formulas s ps

-- each formula is closed and well sorted for the goal's own symbols and calls
abbrev pub IsWellSorted : Problem → Type 0
IsWellSorted g = are_formulas g.signature g.hypotheses × (node_kind g.signature [] g.conclusion ≡ Some truths)
