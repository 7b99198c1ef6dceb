-- Clauses by the numbers of their parts, and hypotheses and fields by theirs.
use Rattle.std.proofs.Common.{◌≡◌, ◌≢◌, refl, sym, ◌∙◌, ap, ℕ, zero, suc, ◌<◌, ◌≤◌, ◌+◌, List, [], ◌∷◌, ◌++◌, map, length, get_or, Some, None, arith}
use Rattle.std.specs.List.{slice_get}
use Rattle.logic_terms.specs.Node.{Node, fld, op1, Nodes, no_nodes, node}
use Rattle.logic_terms.specs.Sorts.{sort, kinds_in}
use Rattle.logic_terms.specs.Binding.{negated}
use Rattle.logic_terms.specs.View.{term, terms, formula}
use Rattle.logic_terms.specs.declared.syntax.Term.{Term}
use Rattle.logic_terms.specs.declared.syntax.Formula.{Formula}
use Rattle.logic_terms.specs.declared.sort.Sort.{Sort}
use Rattle.logic_terms.proofs.Lists.{then_node, terms-push}
use Rattle.cert_rules.specs.Judged.{yields, refused, part_of}
use Rattle.cert_rules.specs.Opening.{hypothesis}
use Rattle.cert_rules.specs.Compound.{node_at, fields_from}

-- ---- parts past the last

past : (cs : List (List Node)) (n : ℕ) → length cs ≤ n → part_of cs n ≡ refused
past [] n h = refl
past (c ∷ cs) zero h = absurd (omega arith)
past (c ∷ cs) (suc n) h = past cs n (omega arith)

pub past_two : (a b : List Node) (n : ℕ) → n ≢ 0 → n ≢ 1 → part_of (a ∷ b ∷ []) n ≡ refused
past_two a b n p q = past (a ∷ b ∷ []) n (omega arith)

pub past_three : (a b c : List Node) (n : ℕ) → n ≢ 0 → n ≢ 1 → n ≢ 2 → part_of (a ∷ b ∷ c ∷ []) n ≡ refused
past_three a b c n p q r = past (a ∷ b ∷ c ∷ []) n (omega arith)

pub past_four : (a b c d : List Node) (n : ℕ) → n ≢ 0 → n ≢ 1 → n ≢ 2 → n ≢ 3 → part_of (a ∷ b ∷ c ∷ d ∷ []) n ≡ refused
past_four a b c d n p q r s = past (a ∷ b ∷ c ∷ d ∷ []) n (omega arith)

pub past_eight : (a b c d e f g h : List Node) (n : ℕ) → n ≢ 0 → n ≢ 1 → n ≢ 2 → n ≢ 3 → n ≢ 4 → n ≢ 5 → n ≢ 6 → n ≢ 7 → part_of (a ∷ b ∷ c ∷ d ∷ e ∷ f ∷ g ∷ h ∷ []) n ≡ refused
past_eight a b c d e f g h n p q r s t u v w = past (a ∷ b ∷ c ∷ d ∷ e ∷ f ∷ g ∷ h ∷ []) n (omega arith)

-- ---- hypotheses

pub hypothesis_there : (hs : List Formula) (p : Node) (k : ℕ) (h : Formula) → k < length hs → h ≡ get_or hs k h → hypothesis (map formula hs) p k ≡ yields (formula h ∷ [])
hypothesis_there [] p k h lt is = absurd (omega arith)
hypothesis_there (x ∷ hs) p zero h lt is = ap (λ y. yields (formula y ∷ [])) (sym is)
hypothesis_there (x ∷ hs) p (suc k) h lt is = hypothesis_there hs p k h (omega arith) is

pub hypothesis_last : (hs : List Formula) (p : Node) (k : ℕ) → k ≡ length hs → hypothesis (map formula hs) p k ≡ yields (negated p ∷ [])
hypothesis_last [] p zero e = refl
hypothesis_last [] p (suc k) e = absurd (omega arith)
hypothesis_last (x ∷ hs) p zero e = absurd (omega arith)
hypothesis_last (x ∷ hs) p (suc k) e = hypothesis_last hs p k (omega arith)

pub hypothesis_past : (hs : List Formula) (p : Node) (k : ℕ) → length hs < k → hypothesis (map formula hs) p k ≡ refused
hypothesis_past [] p zero h = absurd (omega arith)
hypothesis_past [] p (suc k) h = refl
hypothesis_past (x ∷ hs) p zero h = absurd (omega arith)
hypothesis_past (x ∷ hs) p (suc k) h = hypothesis_past hs p k (omega arith)

-- ---- fields

pub field_there : (ts : List Term) (k : ℕ) (t : Term) → Some t ≡ slice_get ts k → node_at (terms ts) k ≡ yields (term t)
field_there [] k t e = absurd (cc)
field_there (x ∷ ts) zero t e = let is : t ≡ x = cc in ap (λ y. yields (term y)) (sym is)
field_there (x ∷ ts) (suc k) t e = field_there ts k t e

pub field_past : (ts : List Term) (k : ℕ) → None ≡ slice_get ts k → node_at (terms ts) k ≡ refused
field_past [] k e = refl
field_past (x ∷ ts) zero e = absurd (cc)
field_past (x ∷ ts) (suc k) e = field_past ts k e

-- as many fields, from field n on
abbrev pub so_many : ℕ → ℕ → Node → Nodes
so_many n zero t = no_nodes
so_many n (suc m) t = node (op1 (fld n) t) (so_many (suc n) m t)

so_many-more : (n m : ℕ) (t : Node) → so_many n (suc m) t ≡ then_node (so_many n m t) (op1 (fld (n + m)) t)
so_many-more n zero t = let e : n ≡ n + 0 = omega arith in ap (λ k. node (op1 (fld k) t) no_nodes) e
so_many-more n (suc m) t = let e : suc n + m ≡ n + suc m = omega arith in ap (node (op1 (fld n) t)) (so_many-more (suc n) m t ∙ ap (λ k. then_node (so_many (suc n) m t) (op1 (fld k) t)) e)

so_many-kinds : (n : ℕ) (ss : List Sort) (t : Node) → so_many n (length ss) t ≡ fields_from n (kinds_in (map sort ss)) t
so_many-kinds n [] t = refl
so_many-kinds n (s ∷ ss) t = ap (node (op1 (fld n) t)) (so_many-kinds (suc n) ss t)

-- one turn of a loop over the fields
pub fields_more : (xs new : List Term) (i : ℕ) (x : Term) (t : Node) → terms xs ≡ so_many 0 i t → term x ≡ op1 (fld i) t → new ≡ xs ++ x ∷ [] → terms new ≡ so_many 0 (i + 1) t
fields_more xs new i x t before e more =
    let s : i + 1 ≡ suc i = omega arith in
    let z : 0 + i ≡ i = omega arith in
    ap terms more ∙ terms-push xs x ∙ ap (λ ns. then_node ns (term x)) before ∙ ap (then_node (so_many 0 i t)) (e ∙ ap (λ k. op1 (fld k) t) (sym z)) ∙ sym (so_many-more 0 i t) ∙ ap (λ k. so_many 0 k t) (sym s)

pub fields_all : (ss : List Sort) (xs : List Term) (i : ℕ) (t : Node) → terms xs ≡ so_many 0 i t → i ≡ length ss → terms xs ≡ fields_from 0 (kinds_in (map sort ss)) t
fields_all ss xs i t e is = e ∙ ap (λ k. so_many 0 k t) is ∙ so_many-kinds 0 ss t
