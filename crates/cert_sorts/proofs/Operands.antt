-- The kinds of some terms, one after another.
use Rattle.std.proofs.Common.{◌≡◌, refl, sym, ◌∙◌, ap, ap₂, subst, ℕ, zero, suc, ◌<◌, ◌+◌, Bool, List, [], ◌∷◌, ◌++◌, length, get_or, take, Option, Some, None, Result, IfOk, arith}
use Rattle.std.proofs.lemmas.List.{take_more}
use Rattle.logic_terms.specs.Node.{Node, Nodes, no_nodes, node}
use Rattle.logic_terms.specs.Value.{Kind, numbers, Kinds, no_kinds, kind}
use Rattle.logic_terms.specs.Sorts.{sort}
use Rattle.logic_terms.specs.Sorting.{Signature, and_kind, node_kind, node_kinds}
use Rattle.logic_terms.specs.View.{term, formula, terms}
use Rattle.logic_terms.specs.declared.syntax.Term.{Term}
use Rattle.logic_terms.specs.declared.syntax.Formula.{Formula}
use Rattle.logic_terms.specs.declared.sort.Sort.{Sort}
use Rattle.logic_terms.proofs.Lists.{then_node, terms-push}
use Rattle.cert_lines.specs.Symbols.{new_kinds}
use Rattle.cert_sorts.specs.Found.{kinds, truths_if}

abbrev then_kind : Kinds → Kind → Kinds
then_kind no_kinds k = kind k no_kinds
then_kind (kind j js) k = kind j (then_kind js k)

kinds_push : (ss : List Sort) (s : Sort) → kinds (ss ++ s ∷ []) ≡ then_kind (kinds ss) (sort s)
kinds_push [] s = refl
kinds_push (t ∷ ss) s = ap (kind (sort t)) (kinds_push ss s)

abbrev and_then_kind : Option Kinds → Option Kind → Option Kinds
and_then_kind (Some ks) (Some k) = Some (then_kind ks k)
and_then_kind _ _ = None

one_kind : (x : Option Kind) → and_kind x (Some no_kinds) ≡ and_then_kind (Some no_kinds) x
one_kind None = refl
one_kind (Some k) = refl

both_ends : (x : Option Kind) (y : Option Kinds) (z : Option Kind) → and_kind x (and_then_kind y z) ≡ and_then_kind (and_kind x y) z
both_ends None y z = refl
both_ends (Some k) None z = refl
both_ends (Some k) (Some ks) None = refl
both_ends (Some k) (Some ks) (Some j) = refl

module _ (s : Signature) (js : List Kind) where
  kinds_then : (ns : Nodes) (a : Node) → node_kinds s js (then_node ns a) ≡ and_then_kind (node_kinds s js ns) (node_kind s js a)
  kinds_then no_nodes a = one_kind (node_kind s js a)
  kinds_then (node b ns) a =
      ap (and_kind (node_kind s js b)) (kinds_then ns a) ∙ both_ends (node_kind s js b) (node_kinds s js ns) (node_kind s js a)

  -- one turn of a loop that finds the sorts of some terms
  pub operands_more : (items : List Term) (ss new : List Sort) (i : ℕ) (t : Term) (x : Sort) → i < length items → t ≡ get_or items i t → Some (kinds ss) ≡ node_kinds s js (terms (take i items)) → Some (sort x) ≡ node_kind s js (term t) → new ≡ ss ++ x ∷ [] → Some (kinds new) ≡ node_kinds s js (terms (take (i + 1) items))
  operands_more items ss new i t x h is before e more =
      let read : take (i + 1) items ≡ take i items ++ t ∷ [] = take_more items i t h ∙ ap (λ y. take i items ++ y ∷ []) (sym is) in
      ap (λ ys. Some (kinds ys)) more ∙ ap Some (kinds_push ss x) ∙ ap₂ and_then_kind before e ∙ sym (kinds_then (terms (take i items)) (term t))
      ∙ ap (node_kinds s js) (sym (terms-push (take i items) t)) ∙ ap (λ ys. node_kinds s js (terms ys)) (sym read)

  and_none : (x : Option Kind) → and_kind x None ≡ None
  and_none None = refl
  and_none (Some k) = refl

  -- where one of the terms has no sort
  pub operands_none : (items : List Term) (i : ℕ) (t : Term) → i < length items → t ≡ get_or items i t → None ≡ node_kind s js (term t) → None ≡ node_kinds s js (terms items)
  operands_none [] i t h is e = absurd (omega arith)
  operands_none (y ∷ items) zero t h is e =
      ap (λ x. and_kind x (node_kinds s js (terms items))) (e ∙ ap (λ x. node_kind s js (term x)) is)
  operands_none (y ∷ items) (suc i) t h is e =
      sym (and_none (node_kind s js (term y))) ∙ ap (and_kind (node_kind s js (term y))) (operands_none items i t (omega arith) is e)

-- under one more quantifier
pub truths_below : {E : Type 0} (s : Signature) (p : Formula) (n d : ℕ) (r : Result Bool E) → n ≡ suc d → IfOk r (λ b. truths_if b ≡ node_kind s (new_kinds n) (formula p)) → IfOk r (λ b. truths_if b ≡ node_kind s (numbers ∷ new_kinds d) (formula p))
truths_below s p n d r e h = subst (λ k. IfOk r (λ b. truths_if b ≡ node_kind s (new_kinds k) (formula p))) e h
