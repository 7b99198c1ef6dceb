-- Lists of parts.
use Rattle.std.proofs.Common.{◌≡◌, refl, sym, ◌∙◌, ap, List, [], ◌∷◌, ◌++◌, map, reverse, append_assoc}
use Rattle.std.proofs.lemmas.List.{reverse-append}
use Rattle.logic_terms.specs.Node.{OpN, Node, opn, node}
use Rattle.logic_terms.specs.Value.{Kind, records, kind}
use Rattle.logic_terms.specs.View.{term, terms}
use Rattle.logic_terms.specs.Sorts.{sort, kinds_in}
use Rattle.logic_terms.specs.declared.sort.Sort.{Sort}
use Rattle.logic_terms.specs.declared.syntax.Term.{Term}
use Rattle.term_reader.specs.Reads.{tree}
use Rattle.term_reader.specs.Trees.{of_node, of_kind, nodes_in, kinds_in as kinds_of}
use Rattle.term_reader.specs.declared.part.Part.{Part}
use Rattle.term_reader.specs.declared.part.Part.TheVariants as part

-- the last item is moved over
pub turned : {A : Type 0} (all xs ys zs : List A) (x : A) → reverse all ≡ ys ++ reverse xs → xs ≡ zs ++ x ∷ [] → reverse all ≡ (ys ++ x ∷ []) ++ reverse zs
turned all xs ys zs x e f =
    e ∙ ap (λ l. ys ++ reverse l) f ∙ ap (λ l. ys ++ l) (reverse-append zs (x ∷ [])) ∙ sym (append_assoc ys (x ∷ []) (reverse zs))

pub popped : {A B : Type 0} (f : A → B) (all xs zs : List B) (ys : List A) (y : A) → all ≡ xs ++ map f (reverse ys) → xs ≡ zs ++ f y ∷ [] → all ≡ zs ++ map f (reverse (ys ++ y ∷ []))
popped f all xs zs ys y e g =
    e ∙ ap (λ l. l ++ map f (reverse ys)) g ∙ append_assoc zs (f y ∷ []) (map f (reverse ys))
    ∙ ap (λ l. zs ++ map f l) (sym (reverse-append ys (y ∷ [])))

pub nodes_back : (ts : List Term) → nodes_in (map tree (map part.Term ts)) ≡ terms ts
nodes_back [] = refl
nodes_back (t ∷ ts) = ap (node (term t)) (nodes_back ts)

pub kinds_back : (ss : List Sort) → kinds_of (map tree (map part.Sort ss)) ≡ kinds_in (map sort ss)
kinds_back [] = refl
kinds_back (s ∷ ss) = ap (kind (sort s)) (kinds_back ss)

pub nodes_made : (o : OpN) (ts : List Term) (ps : List Part) (n : Node) → n ≡ opn o (terms ts) → ps ≡ map part.Term ts → of_node n ≡ of_node (opn o (nodes_in (map tree ps)))
nodes_made o ts ps n e f =
    ap of_node (e ∙ ap (opn o) (sym (nodes_back ts) ∙ ap (λ (xs : List Part). nodes_in (map tree xs)) (sym f)))

pub kinds_made : (ss : List Sort) (ps : List Part) (k : Kind) → k ≡ records (kinds_in (map sort ss)) → ps ≡ map part.Sort ss → of_kind k ≡ of_kind (records (kinds_of (map tree ps)))
kinds_made ss ps k e f =
    ap of_kind (e ∙ ap records (sym (kinds_back ss) ∙ ap (λ (xs : List Part). kinds_of (map tree xs)) (sym f)))
