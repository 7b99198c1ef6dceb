-- Operands in a list, one after another.
use Rattle.std.proofs.Common.{◌≡◌, refl, sym, ◌∙◌, ap, ℕ, zero, suc, ◌+◌, ◌<◌, List, [], ◌∷◌, ◌++◌, length, get_or, take, drop, true, false, ◌&&◌, arith}
use Rattle.std.proofs.lemmas.List.{take_more}
use Rattle.logic_terms.specs.Node.{Node, Nodes, no_nodes, node}
use Rattle.logic_terms.specs.declared.syntax.Term.{Term}
use Rattle.logic_terms.specs.View.{term, terms}
use Rattle.logic_terms.specs.Binding.{put, puts}
use Rattle.logic_terms.specs.Names.{names_nothing, name_nothing}

abbrev pub then_node : Nodes → Node → Nodes
then_node no_nodes a = node a no_nodes
then_node (node b ns) a = node b (then_node ns a)

pub terms-push : (xs : List Term) (x : Term) → terms (xs ++ x ∷ []) ≡ then_node (terms xs) (term x)
terms-push [] x = refl
terms-push (y ∷ xs) x = ap (node (term y)) (terms-push xs x)

pub puts-then : (t : Node) (d : ℕ) (ns : Nodes) (a : Node) → puts t d (then_node ns a) ≡ then_node (puts t d ns) (put t d a)
puts-then t d no_nodes a = refl
puts-then t d (node b ns) a = ap (node (put t d b)) (puts-then t d ns a)

-- a loop that puts t into each of some terms
pub terms_put_more : (items xs new : List Term) (i : ℕ) (a x : Term) (t : Node) (d : ℕ) → i < length items → a ≡ get_or items i a → terms xs ≡ puts t d (terms (take i items)) → term x ≡ put t d (term a) → new ≡ xs ++ x ∷ [] → terms new ≡ puts t d (terms (take (i + 1) items))
terms_put_more items xs new i a x t d h is before e more =
    let read : take (i + 1) items ≡ take i items ++ a ∷ [] = take_more items i a h ∙ ap (λ y. take i items ++ y ∷ []) (sym is) in
    rw (more, terms-push xs x, before, e, read, terms-push (take i items) a) (sym (puts-then t d _ _))

-- a loop that copies some terms
pub terms_copy_more : (items xs new : List Term) (i : ℕ) (a x : Term) → i < length items → a ≡ get_or items i a → terms xs ≡ terms (take i items) → term x ≡ term a → new ≡ xs ++ x ∷ [] → terms new ≡ terms (take (i + 1) items)
terms_copy_more items xs new i a x h is before e more =
    let read : take (i + 1) items ≡ take i items ++ a ∷ [] = take_more items i a h ∙ ap (λ y. take i items ++ y ∷ []) (sym is) in
    rw (more, terms-push xs x, before, e, read, terms-push (take i items) a) refl

-- the terms from i on
pub terms_drop : (ts : List Term) (i : ℕ) (t : Term) → i < length ts → t ≡ get_or ts i t → terms (drop i ts) ≡ node (term t) (terms (drop (i + 1) ts))
terms_drop [] i t h is = absurd (omega arith)
terms_drop (x ∷ ts) zero t h is = ap (λ y. node (term y) (terms ts)) (sym is)
terms_drop (x ∷ ts) (suc i) t h is =
    let e : suc i + 1 ≡ suc (i + 1) = omega arith in
    terms_drop ts i t (omega arith) is ∙ ap (λ j. node (term t) (terms (drop j (x ∷ ts)))) (sym e)

-- one turn of a loop that looks for a name
pub name_nothing_ends : (ts : List Term) (i : ℕ) (t : Term) → i < length ts → t ≡ get_or ts i t → names_nothing (term t) ≡ false → name_nothing (terms (drop i ts)) ≡ false
name_nothing_ends ts i t h is e = ap name_nothing (terms_drop ts i t h is) ∙ ap (λ b. b && name_nothing (terms (drop (i + 1) ts))) e

pub name_nothing_more : (ts : List Term) (i : ℕ) (t : Term) → i < length ts → t ≡ get_or ts i t → names_nothing (term t) ≡ true → name_nothing (terms (drop i ts)) ≡ name_nothing (terms (drop (i + 1) ts))
name_nothing_more ts i t h is e = ap name_nothing (terms_drop ts i t h is) ∙ ap (λ b. b && name_nothing (terms (drop (i + 1) ts))) e
