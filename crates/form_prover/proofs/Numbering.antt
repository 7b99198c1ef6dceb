-- The prover says the same of a goal as of the formulas before their symbols and calls are numbered anew.
use Rattle.std.proofs.Common.{◌≡◌, ℕ, refl, ap, sym, ◌∙◌, inl, inr, Bool, true, false, List, [], ◌∷◌, ◌++◌, map}
use Rattle.std.specs.Prelude.{◌&&◌, ◌||◌}
use Rattle.logic_terms.specs.Node.{fields, call, Node, num, flag, sym as symbol, bound, op1, op2, op3, opn, quant, Nodes, no_nodes, node}
use Rattle.logic_terms.specs.Goals.{symbols_in, symbols_of, calls_in, calls_of, place_in, all_symbols, all_calls, symbols_of_goal, calls_of_goal, renamed, renamed_all, numbered}
use Rattle.logic_terms.specs.Same.{same_node}
use Rattle.vc_tree.proofs.Renaming.{In, in_left, in_right, in_each_once, number_at, number_at-place_in}
use Rattle.vc_tree.proofs.Walk.{Is, last_is, is_before, in_symbols, in_calls}
use Rattle.form_prover.specs.Given.{is_empty, is_ground, computed, is_true, some_equals, some_false}
use Rattle.form_prover.specs.Formulas.{says}
use Rattle.logic_terms.proofs.SameNodes.{same_node-is, same_node-refl}

-- numbers that go forth and back
pub record Returns (f g h k : ℕ → ℕ) (symbols calls : List ℕ) : Type 0 where
  pub symbols_back : (j : ℕ) → In j symbols → h (f j) ≡ j
  pub calls_back : (j : ℕ) → In j calls → k (g j) ≡ j

on_left : (f g h k : ℕ → ℕ) (a b c d : List ℕ) → Returns f g h k (a ++ b) (c ++ d) → Returns f g h k a c
on_left f g h k a b c d r = record { symbols_back = λ j i. r.symbols_back j (in_left j a b i); calls_back = λ j i. r.calls_back j (in_left j c d i) }

on_right : (f g h k : ℕ → ℕ) (a b c d : List ℕ) → Returns f g h k (a ++ b) (c ++ d) → Returns f g h k b d
on_right f g h k a b c d r = record { symbols_back = λ j i. r.symbols_back j (in_right j a b i); calls_back = λ j i. r.calls_back j (in_right j c d i) }

mutual
  renamed-back : (f g h k : ℕ → ℕ) (p : Node) → Returns f g h k (symbols_in p) (calls_in p) → renamed h k (renamed f g p) ≡ p
  renamed-back f g h k (num n) r = refl
  renamed-back f g h k (flag b) r = refl
  renamed-back f g h k (symbol j) r = ap symbol (r.symbols_back j (inl refl))
  renamed-back f g h k (bound j) r = refl
  renamed-back f g h k (op1 o a) r = ap (op1 o) (renamed-back f g h k a r)
  renamed-back f g h k (op2 o a b) r =
      rw (
        renamed-back f g h k a (on_left f g h k (symbols_in a) (symbols_in b) (calls_in a) (calls_in b) r),
        renamed-back f g h k b (on_right f g h k (symbols_in a) (symbols_in b) (calls_in a) (calls_in b) r),
      )
  renamed-back f g h k (op3 o a b c) r =
      let s = on_right f g h k (symbols_in a) (symbols_in b ++ symbols_in c) (calls_in a) (calls_in b ++ calls_in c) r in
      rw (
        renamed-back f g h k a (on_left f g h k (symbols_in a) (symbols_in b ++ symbols_in c) (calls_in a) (calls_in b ++ calls_in c) r),
        renamed-back f g h k b (on_left f g h k (symbols_in b) (symbols_in c) (calls_in b) (calls_in c) s),
        renamed-back f g h k c (on_right f g h k (symbols_in b) (symbols_in c) (calls_in b) (calls_in c) s),
      )
  renamed-back f g h k (opn fields ns) r = ap (opn fields) (renamed_all-back f g h k ns r)
  renamed-back f g h k (opn (call j) ns) r =
      rw (
        r.calls_back j (inl refl),
        renamed_all-back f g h k ns (record { symbols_back = r.symbols_back; calls_back = λ i e. r.calls_back i (inr e) }),
      )
  renamed-back f g h k (quant q a b c) r =
      let s = on_right f g h k (symbols_in a) (symbols_in b ++ symbols_in c) (calls_in a) (calls_in b ++ calls_in c) r in
      rw (
        renamed-back f g h k a (on_left f g h k (symbols_in a) (symbols_in b ++ symbols_in c) (calls_in a) (calls_in b ++ calls_in c) r),
        renamed-back f g h k b (on_left f g h k (symbols_in b) (symbols_in c) (calls_in b) (calls_in c) s),
        renamed-back f g h k c (on_right f g h k (symbols_in b) (symbols_in c) (calls_in b) (calls_in c) s),
      )

  renamed_all-back : (f g h k : ℕ → ℕ) (ns : Nodes) → Returns f g h k (symbols_of ns) (calls_of ns) → renamed_all h k (renamed_all f g ns) ≡ ns
  renamed_all-back f g h k no_nodes r = refl
  renamed_all-back f g h k (node a ns) r =
      rw (
        renamed-back f g h k a (on_left f g h k (symbols_in a) (symbols_of ns) (calls_in a) (calls_of ns) r),
        renamed_all-back f g h k ns (on_right f g h k (symbols_in a) (symbols_of ns) (calls_in a) (calls_of ns) r),
      )

returns : (ps : List Node) (p : Node) → Is p ps
    → Returns (place_in (symbols_of_goal ps)) (place_in (calls_of_goal ps)) (number_at (symbols_of_goal ps)) (number_at (calls_of_goal ps)) (symbols_in p) (calls_in p)
returns ps p e = record {
  symbols_back = λ j h. number_at-place_in (symbols_of_goal ps) j (in_each_once j (all_symbols ps) (in_symbols ps p j e h));
  calls_back = λ j h. number_at-place_in (calls_of_goal ps) j (in_each_once j (all_calls ps) (in_calls ps p j e h));
}

numbered-back : (ps : List Node) (p : Node) → Is p ps → renamed (number_at (symbols_of_goal ps)) (number_at (calls_of_goal ps)) (numbered ps p) ≡ p
numbered-back ps p e = renamed-back (place_in (symbols_of_goal ps)) (place_in (calls_of_goal ps)) (number_at (symbols_of_goal ps)) (number_at (calls_of_goal ps)) p (returns ps p e)

-- ---- equal formulas

same_flags : (a b : Bool) → (a ≡ true → b ≡ true) → (b ≡ true → a ≡ true) → a ≡ b
same_flags true true f g = refl
same_flags true false f g = sym (f refl)
same_flags false true f g = g refl
same_flags false false f g = refl

same_refl : (p q : Node) → p ≡ q → same_node p q ≡ true
same_refl p q e = ap (same_node p) (sym e) ∙ same_node-refl p

pub same_node-numbered : (ps : List Node) (p q : Node) → Is p ps → Is q ps → same_node (numbered ps p) (numbered ps q) ≡ same_node p q
same_node-numbered ps p q d e = same_flags (same_node (numbered ps p) (numbered ps q)) (same_node p q)
    (λ h. same_refl p q (sym (numbered-back ps p d)
    ∙ ap (renamed (number_at (symbols_of_goal ps)) (number_at (calls_of_goal ps))) (same_node-is (numbered ps p) (numbered ps q) h)
    ∙ numbered-back ps q e))
    (λ h. same_refl (numbered ps p) (numbered ps q) (ap (numbered ps) (same_node-is p q h)))

-- ---- ground formulas

none_in : (xs ys : List ℕ) → is_empty (xs ++ ys) ≡ (is_empty xs && is_empty ys)
none_in [] ys = refl
none_in (x ∷ xs) ys = refl

is_empty-map : (f : ℕ → ℕ) (xs ys : List ℕ) → is_empty xs ≡ is_empty ys → is_empty (map f xs) ≡ is_empty ys
is_empty-map f [] ys e = e
is_empty-map f (x ∷ xs) ys e = e

mutual
  symbols-renamed : (f g : ℕ → ℕ) (p : Node) → is_empty (symbols_in (renamed f g p)) ≡ is_empty (symbols_in p)
  symbols-renamed f g (num n) = refl
  symbols-renamed f g (flag b) = refl
  symbols-renamed f g (symbol j) = refl
  symbols-renamed f g (bound j) = refl
  symbols-renamed f g (op1 o a) = symbols-renamed f g a
  symbols-renamed f g (op2 o a b) = rw (none_in (symbols_in (renamed f g a)) (symbols_in (renamed f g b)), none_in (symbols_in a) (symbols_in b), symbols-renamed f g a, symbols-renamed f g b)
  symbols-renamed f g (op3 o a b c) = rw (none_in (symbols_in (renamed f g a)) (symbols_in (renamed f g b) ++ symbols_in (renamed f g c)), none_in (symbols_in (renamed f g b)) (symbols_in (renamed f g c)), none_in (symbols_in a) (symbols_in b ++ symbols_in c), none_in (symbols_in b) (symbols_in c), symbols-renamed f g a, symbols-renamed f g b, symbols-renamed f g c)
  symbols-renamed f g (opn o ns) = symbols-renamed_all f g ns
  symbols-renamed f g (quant q a b c) = rw (none_in (symbols_in (renamed f g a)) (symbols_in (renamed f g b) ++ symbols_in (renamed f g c)), none_in (symbols_in (renamed f g b)) (symbols_in (renamed f g c)), none_in (symbols_in a) (symbols_in b ++ symbols_in c), none_in (symbols_in b) (symbols_in c), symbols-renamed f g a, symbols-renamed f g b, symbols-renamed f g c)

  symbols-renamed_all : (f g : ℕ → ℕ) (ns : Nodes) → is_empty (symbols_of (renamed_all f g ns)) ≡ is_empty (symbols_of ns)
  symbols-renamed_all f g no_nodes = refl
  symbols-renamed_all f g (node a ns) = rw (none_in (symbols_in (renamed f g a)) (symbols_of (renamed_all f g ns)), none_in (symbols_in a) (symbols_of ns), symbols-renamed f g a, symbols-renamed_all f g ns)

mutual
  calls-renamed : (f g : ℕ → ℕ) (p : Node) → is_empty (calls_in (renamed f g p)) ≡ is_empty (calls_in p)
  calls-renamed f g (num n) = refl
  calls-renamed f g (flag b) = refl
  calls-renamed f g (symbol j) = refl
  calls-renamed f g (bound j) = refl
  calls-renamed f g (op1 o a) = calls-renamed f g a
  calls-renamed f g (op2 o a b) = rw (none_in (calls_in (renamed f g a)) (calls_in (renamed f g b)), none_in (calls_in a) (calls_in b), calls-renamed f g a, calls-renamed f g b)
  calls-renamed f g (op3 o a b c) = rw (none_in (calls_in (renamed f g a)) (calls_in (renamed f g b) ++ calls_in (renamed f g c)), none_in (calls_in (renamed f g b)) (calls_in (renamed f g c)), none_in (calls_in a) (calls_in b ++ calls_in c), none_in (calls_in b) (calls_in c), calls-renamed f g a, calls-renamed f g b, calls-renamed f g c)
  calls-renamed f g (opn fields ns) = calls-renamed_all f g ns
  calls-renamed f g (opn (call j) ns) = refl
  calls-renamed f g (quant q a b c) = rw (none_in (calls_in (renamed f g a)) (calls_in (renamed f g b) ++ calls_in (renamed f g c)), none_in (calls_in (renamed f g b)) (calls_in (renamed f g c)), none_in (calls_in a) (calls_in b ++ calls_in c), none_in (calls_in b) (calls_in c), calls-renamed f g a, calls-renamed f g b, calls-renamed f g c)

  calls-renamed_all : (f g : ℕ → ℕ) (ns : Nodes) → is_empty (calls_of (renamed_all f g ns)) ≡ is_empty (calls_of ns)
  calls-renamed_all f g no_nodes = refl
  calls-renamed_all f g (node a ns) = rw (none_in (calls_in (renamed f g a)) (calls_of (renamed_all f g ns)), none_in (calls_in a) (calls_of ns), calls-renamed f g a, calls-renamed_all f g ns)

is_ground-renamed : (f g : ℕ → ℕ) (p : Node) → is_ground (renamed f g p) ≡ is_ground p
is_ground-renamed f g p = rw (symbols-renamed f g p, calls-renamed f g p)

-- nothing is renamed
pub record Fixes (f g : ℕ → ℕ) (symbols calls : List ℕ) : Type 0 where
  pub symbols_stay : (j : ℕ) → In j symbols → f j ≡ j
  pub calls_stay : (j : ℕ) → In j calls → g j ≡ j

stay_left : (f g : ℕ → ℕ) (a b c d : List ℕ) → Fixes f g (a ++ b) (c ++ d) → Fixes f g a c
stay_left f g a b c d r = record { symbols_stay = λ j i. r.symbols_stay j (in_left j a b i); calls_stay = λ j i. r.calls_stay j (in_left j c d i) }

stay_right : (f g : ℕ → ℕ) (a b c d : List ℕ) → Fixes f g (a ++ b) (c ++ d) → Fixes f g b d
stay_right f g a b c d r = record { symbols_stay = λ j i. r.symbols_stay j (in_right j a b i); calls_stay = λ j i. r.calls_stay j (in_right j c d i) }

mutual
  renamed-fixed : (f g : ℕ → ℕ) (p : Node) → Fixes f g (symbols_in p) (calls_in p) → renamed f g p ≡ p
  renamed-fixed f g (num n) r = refl
  renamed-fixed f g (flag b) r = refl
  renamed-fixed f g (symbol j) r = ap symbol (r.symbols_stay j (inl refl))
  renamed-fixed f g (bound j) r = refl
  renamed-fixed f g (op1 o a) r = ap (op1 o) (renamed-fixed f g a r)
  renamed-fixed f g (op2 o a b) r =
      rw (
        renamed-fixed f g a (stay_left f g (symbols_in a) (symbols_in b) (calls_in a) (calls_in b) r),
        renamed-fixed f g b (stay_right f g (symbols_in a) (symbols_in b) (calls_in a) (calls_in b) r),
      )
  renamed-fixed f g (op3 o a b c) r =
      let s = stay_right f g (symbols_in a) (symbols_in b ++ symbols_in c) (calls_in a) (calls_in b ++ calls_in c) r in
      rw (
        renamed-fixed f g a (stay_left f g (symbols_in a) (symbols_in b ++ symbols_in c) (calls_in a) (calls_in b ++ calls_in c) r),
        renamed-fixed f g b (stay_left f g (symbols_in b) (symbols_in c) (calls_in b) (calls_in c) s),
        renamed-fixed f g c (stay_right f g (symbols_in b) (symbols_in c) (calls_in b) (calls_in c) s),
      )
  renamed-fixed f g (opn fields ns) r = ap (opn fields) (renamed_all-fixed f g ns r)
  renamed-fixed f g (opn (call j) ns) r =
      rw (r.calls_stay j (inl refl), renamed_all-fixed f g ns (record { symbols_stay = r.symbols_stay; calls_stay = λ i e. r.calls_stay i (inr e) }))
  renamed-fixed f g (quant q a b c) r =
      let s = stay_right f g (symbols_in a) (symbols_in b ++ symbols_in c) (calls_in a) (calls_in b ++ calls_in c) r in
      rw (
        renamed-fixed f g a (stay_left f g (symbols_in a) (symbols_in b ++ symbols_in c) (calls_in a) (calls_in b ++ calls_in c) r),
        renamed-fixed f g b (stay_left f g (symbols_in b) (symbols_in c) (calls_in b) (calls_in c) s),
        renamed-fixed f g c (stay_right f g (symbols_in b) (symbols_in c) (calls_in b) (calls_in c) s),
      )

  renamed_all-fixed : (f g : ℕ → ℕ) (ns : Nodes) → Fixes f g (symbols_of ns) (calls_of ns) → renamed_all f g ns ≡ ns
  renamed_all-fixed f g no_nodes r = refl
  renamed_all-fixed f g (node a ns) r =
      rw (
        renamed-fixed f g a (stay_left f g (symbols_in a) (symbols_of ns) (calls_in a) (calls_of ns) r),
        renamed_all-fixed f g ns (stay_right f g (symbols_in a) (symbols_of ns) (calls_in a) (calls_of ns) r),
      )

nothing_in : (j : ℕ) (xs : List ℕ) → is_empty xs ≡ true → In j xs → ⊥
nothing_in j [] e h = h
nothing_in j (x ∷ xs) e h = cc

and_true : (a b : Bool) → (a && b) ≡ true → (a ≡ true) × (b ≡ true)
and_true true b h = (refl, h)
and_true false b h = cc

ground-renamed : (f g : ℕ → ℕ) (p : Node) → is_ground p ≡ true → renamed f g p ≡ p
ground-renamed f g p h =
    let e = and_true (is_empty (symbols_in p)) (is_empty (calls_in p)) h in
    renamed-fixed f g p (record { symbols_stay = λ j i. absurd (nothing_in j (symbols_in p) e.0 i); calls_stay = λ j i. absurd (nothing_in j (calls_in p) e.1 i) })

-- ---- what is computed

pub computed-renamed : (f g : ℕ → ℕ) (p : Node) → computed (renamed f g p) ≡ computed p
computed-renamed f g p = by (is_ground p) refl
  where
    by : (b : Bool) → is_ground p ≡ b → computed (renamed f g p) ≡ computed p
    by true e = ap computed (ground-renamed f g p e)
    by false e = let d : is_ground (renamed f g p) ≡ false = is_ground-renamed f g p ∙ e in rw (d, e)

-- ---- the prover

some_equals-numbered : (ps qs : List Node) (p : Node) → ((q : Node) → Is q qs → Is q ps) → Is p ps → some_equals (map (numbered ps) qs) (numbered ps p) ≡ some_equals qs p
some_equals-numbered ps [] p sub e = refl
some_equals-numbered ps (q ∷ qs) p sub e =
    rw (same_node-numbered ps q p (sub q (inl refl)) e, some_equals-numbered ps qs p (λ r i. sub r (inr i)) e)

some_false-numbered : (f g : ℕ → ℕ) (qs : List Node) → some_false (map (renamed f g) qs) ≡ some_false qs
some_false-numbered f g [] = refl
some_false-numbered f g (q ∷ qs) = rw (computed-renamed f g q, some_false-numbered f g qs)

-- what the prover says of the goal of a check
pub says-numbered : (hs : List Node) (p : Node)
    → (some_equals (map (numbered (hs ++ p ∷ [])) hs) (numbered (hs ++ p ∷ []) p) || is_true (computed (numbered (hs ++ p ∷ []) p)) || some_false (map (numbered (hs ++ p ∷ [])) hs))
    ≡ says hs p
says-numbered hs p =
    let ps = hs ++ p ∷ [] in
    rw (
      some_equals-numbered ps hs p (is_before hs p) (last_is hs p),
      computed-renamed (place_in (symbols_of_goal ps)) (place_in (calls_of_goal ps)) p,
      some_false-numbered (place_in (symbols_of_goal ps)) (place_in (calls_of_goal ps)) hs,
    )
