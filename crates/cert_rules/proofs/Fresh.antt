-- A symbol that a node does not name does not matter.
use Rattle.std.proofs.Common.{◌≡◌, refl, ◌∙◌, ap, ℕ, suc, Bool, true, false, List, [], ◌∷◌, arith}
use Rattle.std.proofs.lemmas.Bool.{and_parts, and_from}
use Rattle.std.specs.Prelude.{nat_lt, ◌==◌, if◌then◌else◌}
use Rattle.logic_terms.specs.Node.{OpN, fields, call, Node, num, flag, sym as symbol, bound, op1, op2, op3, opn, quant, Nodes, no_nodes, node}
use Rattle.logic_terms.specs.Value.{Value, Values, number}
use Rattle.logic_terms.specs.Sorting.{AllHold}
use Rattle.logic_terms.specs.Meaning.{World, meaning, meanings, apply1, applyn, holds}
use Rattle.logic_terms.specs.Binding.{put, puts}
use Rattle.logic_terms.proofs.Substitution.{over-same}
use Rattle.cert_rules.specs.Clause.{clause_holds, AllClausesHold}
use Rattle.cert_rules.proofs.Names.{names_below, all_names_below, clause_below, with_symbol}
use Rattle.cert_rules.proofs.NumberedClauses.{AllBelow}

other : (k d : ℕ) (u v : Value) → nat_lt k d ≡ true → (if k == d then v else u) ≡ u
other k d u v h = let e : (k == d) ≡ false = grind (arith, h) in rw e refl

module _ (w : World) (d : ℕ) (v : Value) where
  applyn-fresh : (o : OpN) (vs : Values) → applyn (with_symbol w d v) o vs ≡ applyn w o vs
  applyn-fresh fields vs = refl
  applyn-fresh (call k) vs = refl

  mutual
    pub meaning-fresh : (vs : List Value) (p : Node) → names_below d p ≡ true → meaning (with_symbol w d v) vs p ≡ meaning w vs p
    meaning-fresh vs (num n) h = refl
    meaning-fresh vs (flag b) h = refl
    meaning-fresh vs (symbol k) h = other k d (w.symbol k) v h
    meaning-fresh vs (bound k) h = refl
    meaning-fresh vs (op1 o a) h = ap (apply1 o) (meaning-fresh vs a h)
    meaning-fresh vs (op2 o a b) h = let e = and_parts _ _ h in rw (meaning-fresh vs a e.0, meaning-fresh vs b e.1)
    meaning-fresh vs (op3 o a b c) h =
        let e = and_parts _ _ h in
        let f = and_parts _ _ e.1 in
        rw (meaning-fresh vs a e.0, meaning-fresh vs b f.0, meaning-fresh vs c f.1)
    meaning-fresh vs (opn o ns) h = applyn-fresh o _ ∙ ap (applyn w o) (meanings-fresh vs ns h)
    meaning-fresh vs (quant q l u p) h =
        let e = and_parts _ _ h in
        let f = and_parts _ _ e.1 in
        over-same q _ _ _ _ (λ i. meaning (with_symbol w d v) (number i ∷ vs) p) (λ i. meaning w (number i ∷ vs) p)
        (meaning-fresh vs l e.0) (meaning-fresh vs u f.0) (λ i. meaning-fresh (number i ∷ vs) p f.1)

    pub meanings-fresh : (vs : List Value) (ns : Nodes) → all_names_below d ns ≡ true → meanings (with_symbol w d v) vs ns ≡ meanings w vs ns
    meanings-fresh vs no_nodes h = refl
    meanings-fresh vs (node a ns) h = let e = and_parts _ _ h in rw (meaning-fresh vs a e.0, meanings-fresh vs ns e.1)

  pub holds-fresh : (vs : List Value) (p : Node) → names_below d p ≡ true → holds (with_symbol w d v) vs p ≡ holds w vs p
  holds-fresh vs p h = rw (meaning-fresh vs p h) refl

  clause-fresh : (c : List Node) → clause_below d c ≡ true → clause_holds (with_symbol w d v) c ≡ clause_holds w c
  clause-fresh [] h = refl
  clause-fresh (p ∷ ps) h = let e = and_parts _ _ h in rw (holds-fresh [] p e.0, clause-fresh ps e.1)

  pub clauses-fresh : (cs : List (List Node)) → AllBelow d cs → AllClausesHold w cs → AllClausesHold (with_symbol w d v) cs
  clauses-fresh [] b h = tt
  clauses-fresh (c ∷ cs) b h = (clause-fresh c b.0 ∙ h.0, clauses-fresh cs b.1 h.1)

  pub all-fresh : (ps : List Node) → clause_below d ps ≡ true → AllHold w ps → AllHold (with_symbol w d v) ps
  all-fresh [] b h = tt
  all-fresh (p ∷ ps) b h = let e = and_parts _ _ b in (holds-fresh [] p e.0 ∙ h.0, all-fresh ps e.1 h.1)

-- ---- one symbol more

less_more : (k d : ℕ) → nat_lt k d ≡ true → nat_lt k (suc d) ≡ true
less_more k d h = grind (arith, h)

mutual
  pub below-more : (d : ℕ) (p : Node) → names_below d p ≡ true → names_below (suc d) p ≡ true
  below-more d (num n) h = refl
  below-more d (flag b) h = refl
  below-more d (symbol k) h = less_more k d h
  below-more d (bound k) h = refl
  below-more d (op1 o a) h = below-more d a h
  below-more d (op2 o a b) h = let e = and_parts _ _ h in and_from _ _ (below-more d a e.0) (below-more d b e.1)
  below-more d (op3 o a b c) h =
      let e = and_parts _ _ h in
      let f = and_parts _ _ e.1 in
      and_from _ _ (below-more d a e.0) (and_from _ _ (below-more d b f.0) (below-more d c f.1))
  below-more d (opn o ns) h = all-below-more d ns h
  below-more d (quant q l u p) h =
      let e = and_parts _ _ h in
      let f = and_parts _ _ e.1 in
      and_from _ _ (below-more d l e.0) (and_from _ _ (below-more d u f.0) (below-more d p f.1))

  pub all-below-more : (d : ℕ) (ns : Nodes) → all_names_below d ns ≡ true → all_names_below (suc d) ns ≡ true
  all-below-more d no_nodes h = refl
  all-below-more d (node a ns) h = let e = and_parts _ _ h in and_from _ _ (below-more d a e.0) (all-below-more d ns e.1)

pub clause_below-more : (d : ℕ) (c : List Node) → clause_below d c ≡ true → clause_below (suc d) c ≡ true
clause_below-more d [] h = refl
clause_below-more d (p ∷ ps) h = let e = and_parts _ _ h in and_from _ _ (below-more d p e.0) (clause_below-more d ps e.1)

pub clauses_below-more : (d : ℕ) (cs : List (List Node)) → AllBelow d cs → AllBelow (suc d) cs
clauses_below-more d [] h = tt
clauses_below-more d (c ∷ cs) h = (clause_below-more d c h.0, clauses_below-more d cs h.1)

-- ---- a term put in

below-chosen : (d : ℕ) (b : Bool) (t : Node) (k : ℕ) → names_below d t ≡ true → names_below d (if b then t else bound k) ≡ true
below-chosen d true t k h = h
below-chosen d false t k h = refl

module _ (d : ℕ) (t : Node) (known : names_below d t ≡ true) where
  mutual
    pub put-below : (n : ℕ) (p : Node) → names_below d p ≡ true → names_below d (put t n p) ≡ true
    put-below n (num z) h = refl
    put-below n (flag b) h = refl
    put-below n (symbol k) h = h
    put-below n (bound k) h = below-chosen d (k == n) t k known
    put-below n (op1 o a) h = put-below n a h
    put-below n (op2 o a b) h = let e = and_parts _ _ h in and_from _ _ (put-below n a e.0) (put-below n b e.1)
    put-below n (op3 o a b c) h =
        let e = and_parts _ _ h in
        let f = and_parts _ _ e.1 in
        and_from _ _ (put-below n a e.0) (and_from _ _ (put-below n b f.0) (put-below n c f.1))
    put-below n (opn o ns) h = puts-below n ns h
    put-below n (quant q l u p) h =
        let e = and_parts _ _ h in
        let f = and_parts _ _ e.1 in
        and_from _ _ (put-below n l e.0) (and_from _ _ (put-below n u f.0) (put-below (suc n) p f.1))

    pub puts-below : (n : ℕ) (ns : Nodes) → all_names_below d ns ≡ true → all_names_below d (puts t n ns) ≡ true
    puts-below n no_nodes h = refl
    puts-below n (node a ns) h = let e = and_parts _ _ h in and_from _ _ (put-below n a e.0) (puts-below n ns e.1)
