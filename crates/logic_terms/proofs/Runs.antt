-- A truth that is found is the truth in each world.
use Rattle.std.proofs.Common.{◌≡◌, refl, ◌∙◌, subst, ℕ, zero, suc, ◌-◌, Bool, true, false, not, ◌&&◌, ◌||◌, List, [], ◌∷◌}
use Rattle.std.specs.Prelude.{ℤ, pos, ◌+ℤ◌, ◌==◌, if◌then◌else◌}
use Rattle.logic_terms.specs.Node.{Op2, arith as compute_by, conj, disj, ite, fields, call, Quant, all, any, Node, num, flag, sym as symbol, bound, op1, op2, op3, opn, quant, Nodes, no_nodes, node}
use Rattle.logic_terms.specs.Value.{Value, number, truth, as_truth}
use Rattle.logic_terms.specs.Meaning.{World, meaning, meanings, apply2, ranged}
use Rattle.logic_terms.specs.Run.{Outcome, gives, wide, too_long, and_then, visit, decides, finish, run_over, parts, run, run_all, Gives}

-- an outcome that is a value is this one
abbrev pub Agrees : {A : Type 0} → Outcome A → A → Type 0
Agrees (gives a n) b = b ≡ a
Agrees wide b = Unit {0}
Agrees too_long b = Unit {0}

then-agrees : {A B : Type 0} (x : Outcome A) (f : A → ℕ → Outcome B) (a : A) (b : B) → Agrees x a → ((n : ℕ) → Agrees (f a n) b) → Agrees (and_then x f) b
then-agrees (gives c n) f a b e h = subst (λ y. Agrees (f y n) b) e (h n)
then-agrees wide f a b e h = tt
then-agrees too_long f a b e h = tt

visit-agrees : {A : Type 0} (n : ℕ) (f : ℕ → Outcome A) (a : A) → ((m : ℕ) → Agrees (f m) a) → Agrees (visit n f) a
visit-agrees n f a h = go (n == 0)
  where
    go : (b : Bool) → Agrees (if b then too_long else f (n - 1)) a
    go true = tt
    go false = h (n - 1)

checked-agrees : (z : ℤ) (n : ℕ) (b : Bool) → Agrees (if b then gives (number z) n else wide) (number z)
checked-agrees z n true = refl
checked-agrees z n false = tt

finish-agrees : (o : Op2) (a b : Value) (n : ℕ) → Agrees (finish o a b n) (apply2 o a b)
finish-agrees (compute_by o) a b n = checked-agrees _ n _
finish-agrees _ a b n = refl

conj-agrees : (a b : Value) (t : Bool) (n : ℕ) (x : Outcome Value) → as_truth a ≡ t → Agrees x b → Agrees (if not t then gives (truth t) n else and_then x (λ u s. finish conj a u s)) (truth (t && as_truth b))
conj-agrees a b true n x i e = then-agrees x _ b _ e (λ m. rw i refl)
conj-agrees a b false n x i e = refl

disj-agrees : (a b : Value) (t : Bool) (n : ℕ) (x : Outcome Value) → as_truth a ≡ t → Agrees x b → Agrees (if t then gives (truth t) n else and_then x (λ u s. finish disj a u s)) (truth (t || as_truth b))
disj-agrees a b true n x i e = refl
disj-agrees a b false n x i e = then-agrees x _ b _ e (λ m. rw i refl)

-- where the first part decides, it is the answer
decided-agrees : (o : Op2) (a b : Value) (n : ℕ) (x : Outcome Value) → Agrees x b → Agrees (if decides o a then gives (truth (as_truth a)) n else and_then x (λ u s. finish o a u s)) (apply2 o a b)
decided-agrees conj a b n x e = conj-agrees a b (as_truth a) n x refl e
decided-agrees disj a b n x e = disj-agrees a b (as_truth a) n x refl e
decided-agrees o a b n x e = then-agrees x _ b _ e (λ m. finish-agrees o a b m)

all-step : (t r : Bool) (n : ℕ) (x : Outcome Value) → Agrees x (truth r) → Agrees (if not t then gives (truth t) n else x) (truth (t && r))
all-step true r n x e = e
all-step false r n x e = refl

any-step : (t r : Bool) (n : ℕ) (x : Outcome Value) → Agrees x (truth r) → Agrees (if t then gives (truth t) n else x) (truth (t || r))
any-step true r n x e = refl
any-step false r n x e = e

over-agrees : (q : Quant) (l : ℤ) (k : ℕ) (f : ℤ → ℕ → Outcome Value) (p : ℤ → Value) → ((i : ℤ) (n : ℕ) → Agrees (f i n) (p i)) → (n : ℕ) → Agrees (run_over q l k f n) (truth (ranged q l k (λ i. as_truth (p i))))
over-agrees all l zero f p h n = refl
over-agrees any l zero f p h n = refl
over-agrees all l (suc k) f p h n =
    then-agrees (f l n) _ (p l) _ (h l n) (λ m. all-step (as_truth (p l)) _ m _ (over-agrees all (l +ℤ pos 1) k f p h m))
over-agrees any l (suc k) f p h n =
    then-agrees (f l n) _ (p l) _ (h l n) (λ m. any-step (as_truth (p l)) _ m _ (over-agrees any (l +ℤ pos 1) k f p h m))

choice-agrees : (t : Bool) (x y : Outcome Value) (a b : Value) → Agrees x a → Agrees y b → Agrees (if t then x else y) (if t then a else b)
choice-agrees true x y a b e f = e
choice-agrees false x y a b e f = f

module _ (w : World) where
  mutual
    pub parts-agree : (n : ℕ) (vs : List Value) (p : Node) → Agrees (parts n vs p) (meaning w vs p)
    parts-agree n vs (num z) = checked-agrees z n _
    parts-agree n vs (flag b) = refl
    parts-agree n vs (symbol k) = tt
    parts-agree n vs (bound k) = refl
    parts-agree n vs (op1 o a) = then-agrees _ _ (meaning w vs a) _ (visit-agrees n _ _ (λ m. parts-agree m vs a)) (λ r. refl)
    parts-agree n vs (op2 o a b) =
        then-agrees _ _ (meaning w vs a) _ (visit-agrees n _ _ (λ m. parts-agree m vs a)) (λ r.
        decided-agrees o (meaning w vs a) (meaning w vs b) r _ (visit-agrees r _ _ (λ m. parts-agree m vs b)))
    parts-agree n vs (op3 ite a b c) =
        then-agrees _ _ (meaning w vs a) _ (visit-agrees n _ _ (λ m. parts-agree m vs a)) (λ r.
        choice-agrees (as_truth (meaning w vs a)) _ _ _ _ (visit-agrees r _ _ (λ m. parts-agree m vs b)) (visit-agrees r _ _ (λ m. parts-agree m vs c)))
    parts-agree n vs (op3 o a b c) =
        then-agrees _ _ (meaning w vs a) _ (visit-agrees n _ _ (λ m. parts-agree m vs a)) (λ r.
        then-agrees _ _ (meaning w vs b) _ (visit-agrees r _ _ (λ m. parts-agree m vs b)) (λ s.
        then-agrees _ _ (meaning w vs c) _ (visit-agrees s _ _ (λ m. parts-agree m vs c)) (λ t. refl)))
    parts-agree n vs (opn fields ns) = then-agrees _ _ (meanings w vs ns) _ (run_all-agrees n vs ns) (λ r. refl)
    parts-agree n vs (opn (call k) ns) = tt
    parts-agree n vs (quant q l h p) =
        then-agrees _ _ (meaning w vs l) _ (visit-agrees n _ _ (λ m. parts-agree m vs l)) (λ r.
        then-agrees _ _ (meaning w vs h) _ (visit-agrees r _ _ (λ m. parts-agree m vs h)) (λ s.
        over-agrees q _ _ _ (λ i. meaning w (number i ∷ vs) p) (λ i t. visit-agrees t _ _ (λ m. parts-agree m (number i ∷ vs) p)) s))

    pub run_all-agrees : (n : ℕ) (vs : List Value) (ns : Nodes) → Agrees (run_all n vs ns) (meanings w vs ns)
    run_all-agrees n vs no_nodes = refl
    run_all-agrees n vs (node a ns) =
        then-agrees _ _ (meaning w vs a) _ (visit-agrees n _ _ (λ m. parts-agree m vs a)) (λ m.
        then-agrees _ _ (meanings w vs ns) _ (run_all-agrees m vs ns) (λ r. refl))

  pub run-agrees : (n : ℕ) (vs : List Value) (p : Node) → Agrees (run n vs p) (meaning w vs p)
  run-agrees n vs p = visit-agrees n _ _ (λ m. parts-agree m vs p)

  -- so the truth that is found is the formula's
  pub found-holds : (n : ℕ) (p : Node) (b : Bool) → Gives (run n [] p) (truth b) → meaning w [] p ≡ truth b
  found-holds n p b h = go (run n [] p) (run-agrees n [] p) h
    where
      go : (x : Outcome Value) → Agrees x (meaning w [] p) → Gives x (truth b) → meaning w [] p ≡ truth b
      go (gives a m) e f = e ∙ f
      go wide e f = absurd f
      go too_long e f = absurd f

  pub run-holds : (n m : ℕ) (p : Node) (b : Bool) → run n [] p ≡ gives (truth b) m → meaning w [] p ≡ truth b
  run-holds n m p b e = subst (λ x. Agrees x (meaning w [] p)) e (run-agrees n [] p)
