-- The first least of numbers, found from the last one on.
use Rattle.std.proofs.Common.{◌≡◌, refl, sym, ◌∙◌, ap, subst, ℕ, suc, ◌+◌, ◌^◌, ◌<◌, ◌≤◌, ◌⊎◌, inl, inr, Bool, true, false, List, ◌∷◌, map, length, get_or, drop, arith, nat_le}
use Rattle.std.specs.Prelude.{if◌then◌else◌, ◌&&◌}
use Rattle.std.proofs.lemmas.Bool.{false≢true}
use Rattle.std.proofs.lemmas.Bool.Decides.{nat_tests}
use Rattle.std.proofs.lemmas.List.{drop_all}
use Rattle.logic_terms.specs.declared.syntax.Term.{Term}
use Rattle.linear_prover.specs.Elimination.{is_least, first_least}
use Rattle.linear_prover.specs.declared.elimination.Least.{Least}
use Rattle.linear_prover.proofs.Steps.{dropped}

-- what is known of the numbers from an index on
pub record Known (f : Term → ℕ) (us : List Term) (i : ℕ) (l : Least) : Type 0 where
  pub least : (n : ℕ) → n < 2 ^ 128 → is_least n (map f (drop i us)) ≡ nat_le n l.count
  pub place : i < length us → l.at ≡ i + first_least (map f (drop i us))
  pub none : length us ≤ i → l.at ≡ 0

lesser_tests : (n c k m : ℕ) → m ≡ (if nat_le c k then c else k) → (nat_le n c && nat_le n k) ≡ nat_le n m
lesser_tests n c k m e = grind (arith, nat_tests)

next_least : (n c k m : ℕ) (b : Bool) → b ≡ nat_le n k → m ≡ (if nat_le c k then c else k) → (nat_le n c && b) ≡ nat_le n m
next_least n c k m b e g = ap (λ (x : Bool). nat_le n c && x) e ∙ lesser_tests n c k m g

at_count : (b : Bool) (c k : ℕ) (x y : Least) → x.count ≡ c → y.count ≡ k → (if b then x else y).count ≡ (if b then c else k)
at_count true c k x y e f = e
at_count false c k x y e f = f

at_by : (b : Bool) (i z : ℕ) (x y : Least) → x.at ≡ i → (b ≡ false → y.at ≡ i + suc z) → (if b then x else y).at ≡ i + (if b then 0 else suc z)
at_by true i z x y e f = omega arith
at_by false i z x y e f = f refl

some_left : (f : Term → ℕ) (us : List Term) (j c : ℕ) → is_least c (map f (drop j us)) ≡ false → j < length us
some_left f us j c e = elim (split j (length us)) [
  | inl h ↦ h
  | inr h ↦ absurd (false≢true (sym e ∙ ap (λ (vs : List Term). is_least c (map f vs)) (drop_all j us h)))
]
  where
    split : (a b : ℕ) → (a < b) ⊎ (b ≤ a)
    split a b = grind arith

suc_place : (a i z : ℕ) → a ≡ (i + 1) + z → a ≡ i + suc z
suc_place a i z e = omega arith

pub known_next : (f : Term → ℕ) (us : List Term) (i j : ℕ) (u : Term) (c : ℕ) (old x new : Least) → j ≡ i + 1 → i < length us → u ≡ get_or us i u → c ≡ f u → c < 2 ^ 128 → x.at ≡ i → x.count ≡ c → new ≡ (if nat_le c old.count then x else old) → Known f us j old → Known f us i new
known_next f us i j u c old x new r h e g fit at count n k =
    let w : Known f us (i + 1) old = subst (λ (z : ℕ). Known f us z old) r k in
    let d = dropped us i u h e in
    let rest = map f (drop (i + 1) us) in
    let c' = sym g in
    let counted = ap (λ (l : Least). l.count) n ∙ at_count (nat_le c old.count) c old.count x old count refl in
    let tests = w.least c fit in
    record {
      least = λ m k.
          ap (λ (vs : List Term). is_least m (map f vs)) d
          ∙ ap (λ (a : ℕ). nat_le m a && is_least m rest) c'
          ∙ next_least m c old.count new.count (is_least m rest) (w.least m k) counted;
      place = λ k.
          ap (λ (l : Least). l.at) n
          ∙ at_by (nat_le c old.count) i (first_least rest) x old at (λ t. suc_place _ i _ (w.place (some_left f us (i + 1) c (tests ∙ t))))
          ∙ ap (λ (b : Bool). i + (if b then 0 else suc (first_least rest))) (sym tests)
          ∙ ap (λ (a : ℕ). i + first_least (a ∷ rest)) g
          ∙ ap (λ (vs : List Term). i + first_least (map f vs)) (sym d);
      none = λ k. absurd (omega arith);
    }
