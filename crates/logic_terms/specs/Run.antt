-- The truth of a closed formula, found node by node, with numbers of 128 bits and a budget of nodes.
use Rattle.std.specs.Prelude.{◌≡◌, ℕ, zero, suc, ◌-◌, ◌^◌, ◌==◌, Bool, true, false, not, nat_lt, if◌then◌else◌, ℤ, pos, negsuc, ◌+ℤ◌, List, ◌∷◌}
use Rattle.logic_terms.specs.Node.{Op1, Op2, arith, conj, disj, Op3, ite, fields, call, Quant, all, any, Node, num, flag, sym, bound, op1, op2, op3, opn, quant, Nodes, no_nodes, node}
use Rattle.logic_terms.specs.Value.{Value, number, truth, record_of, Values, no_values, value, as_number, as_truth, count}
use Rattle.logic_terms.specs.Meaning.{compute, apply1, apply2, apply3, bound_at}

-- a value with what is left of the budget, or the first of two ways to stop
pub data Outcome (A : Type 0) : Type 0 where
  gives : A → ℕ → Outcome A
  wide : Outcome A
  too_long : Outcome A

-- the run gives this value
abbrev pub Gives : Outcome Value → Value → Type 0
Gives (gives a n) v = a ≡ v
Gives _ v = ⊥

abbrev pub and_then : {A B : Type 0} → Outcome A → (A → ℕ → Outcome B) → Outcome B
and_then (gives a n) f = f a n
and_then wide f = wide
and_then too_long f = too_long

-- a node that is visited takes one unit; none is visited where none is left
abbrev pub visit : {A : Type 0} → ℕ → (ℕ → Outcome A) → Outcome A
visit n f = if n == 0 then too_long else f (n - 1)

-- -2 ** 127 to 2 ** 127 - 1
abbrev pub is_narrow : ℤ → Bool
is_narrow (pos n) = nat_lt n (2 ^ 127)
is_narrow (negsuc n) = nat_lt n (2 ^ 127)

-- a number that leaves 128 bits has no value here
abbrev pub checked : ℤ → ℕ → Outcome Value
checked z n = if is_narrow z then gives (number z) n else wide

-- whether the first part gives the answer, so that the second is not visited
abbrev pub decides : Op2 → Value → Bool
decides conj v = not (as_truth v)
decides disj v = as_truth v
decides _ v = false

abbrev pub finish : Op2 → Value → Value → ℕ → Outcome Value
finish (arith o) a b n = checked (compute o (as_number a) (as_number b)) n
finish o a b n = gives (apply2 o a b) n

abbrev pub stops : Quant → Bool → Bool
stops all b = not b
stops any b = b

abbrev pub at_end : Quant → Bool
at_end all = true
at_end any = false

-- upwards to the first number that decides
abbrev pub run_over : Quant → ℤ → ℕ → (ℤ → ℕ → Outcome Value) → ℕ → Outcome Value
run_over q l zero f n = gives (truth (at_end q)) n
run_over q l (suc k) f n = and_then (f l n) (λ v m. if stops q (as_truth v) then gives (truth (as_truth v)) m else run_over q (l +ℤ pos 1) k f m)

-- the parts of an operator, left to right
abbrev pub run1 : Op1 → Outcome Value → Outcome Value
run1 o x = and_then x (λ v n. gives (apply1 o v) n)

abbrev pub run2 : Op2 → Outcome Value → (ℕ → Outcome Value) → Outcome Value
run2 o x f = and_then x (λ v n. if decides o v then gives (truth (as_truth v)) n else and_then (f n) (λ u m. finish o v u m))

-- of a choice, only the side that is chosen
abbrev pub run3 : Op3 → Outcome Value → (ℕ → Outcome Value) → (ℕ → Outcome Value) → Outcome Value
run3 ite x f g = and_then x (λ v n. if as_truth v then f n else g n)
run3 o x f g = and_then x (λ v n. and_then (f n) (λ u m. and_then (g m) (λ t k. gives (apply3 o v u t) k)))

-- the bounds once, then the body
abbrev pub run_quant : Quant → Outcome Value → (ℕ → Outcome Value) → (ℤ → ℕ → Outcome Value) → Outcome Value
run_quant q x f g = and_then x (λ v n. and_then (f n) (λ u m. run_over q (as_number v) (count (as_number v) (as_number u)) g m))

-- below a node that was visited; a symbol or a call has no value here
abbrev mutual
  pub parts : ℕ → List Value → Node → Outcome Value
  parts n vs (num z) = checked z n
  parts n vs (flag b) = gives (truth b) n
  parts n vs (sym k) = too_long
  parts n vs (bound k) = gives (bound_at vs k) n
  parts n vs (op1 o a) = run1 o (visit n (λ m. parts m vs a))
  parts n vs (op2 o a b) = run2 o (visit n (λ m. parts m vs a)) (λ k. visit k (λ m. parts m vs b))
  parts n vs (op3 o a b c) = run3 o (visit n (λ m. parts m vs a)) (λ k. visit k (λ m. parts m vs b)) (λ k. visit k (λ m. parts m vs c))
  parts n vs (opn fields ns) = and_then (run_all n vs ns) (λ us r. gives (record_of us) r)
  parts n vs (opn (call k) ns) = too_long
  parts n vs (quant q l h p) =
      run_quant q (visit n (λ m. parts m vs l)) (λ k. visit k (λ m. parts m vs h)) (λ i k. visit k (λ m. parts m (number i ∷ vs) p))

  pub run_all : ℕ → List Value → Nodes → Outcome Values
  run_all n vs no_nodes = gives no_values n
  run_all n vs (node a ns) = and_then (visit n (λ m. parts m vs a)) (λ v m. and_then (run_all m vs ns) (λ us r. gives (value v us) r))

-- the outcome of a node with this budget, where `vs` are the values of the variables, the nearest quantifier's first
abbrev pub run : ℕ → List Value → Node → Outcome Value
run n vs p = visit n (λ m. parts m vs p)

-- how many nodes may be visited
abbrev pub most_nodes : ℕ
most_nodes = 10000
