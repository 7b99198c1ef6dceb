-- Terms with one value are equal.
use Rattle.std.proofs.Common.{◌≡◌, refl, ℕ, Bool, true, false, not, []}
use Rattle.std.proofs.lemmas.Bool.{and_from}
use Rattle.std.specs.Prelude.{if◌then◌else◌}
use Rattle.logic_terms.specs.Node.{tru, eq, iff, Node, op1, op2}
use Rattle.logic_terms.specs.Value.{Kind, Value, number, truth, array, record_of, Values, no_values, value, as_truth, same_value, same_values}
use Rattle.logic_terms.specs.Sorting.{is_truths}
use Rattle.logic_terms.specs.Meaning.{World, meaning, holds}
use Rattle.logic_terms.proofs.SameNodes.{same_int-refl, same_bool-refl}
use Rattle.logic_terms.proofs.Sorted.{same_kind-refl}
use Rattle.cert_rules.specs.Clause.{equals}
use Rattle.cert_rules.proofs.Names.{names_below}

mutual
  pub same_value-refl : (v : Value) → same_value v v ≡ true
  same_value-refl (number n) = same_int-refl n
  same_value-refl (truth b) = same_bool-refl b
  same_value-refl (array k f l vs) =
      and_from _ _ (and_from _ _ (and_from _ _ (same_kind-refl k) (same_int-refl f)) (same_int-refl l)) (same_values-refl vs)
  same_value-refl (record_of vs) = same_values-refl vs

  pub same_values-refl : (vs : Values) → same_values vs vs ≡ true
  same_values-refl no_values = refl
  same_values-refl (value v vs) = and_from _ _ (same_value-refl v) (same_values-refl vs)

both : (b : Bool) → (if b then b else not b) ≡ true
both true = refl
both false = refl

pub equals-holds : (w : World) (k : Kind) (x y : Node) → meaning w [] x ≡ meaning w [] y → holds w [] (equals k x y) ≡ true
equals-holds w k x y e = go (is_truths k)
  where
    go : (b : Bool) → holds w [] (if b then op2 iff (op1 tru x) (op1 tru y) else op2 eq x y) ≡ true
    go true = rw e (both (as_truth (meaning w [] y)))
    go false = rw e (same_value-refl (meaning w [] y))

pub equals-below : (d : ℕ) (k : Kind) (x y : Node) → names_below d x ≡ true → names_below d y ≡ true → names_below d (equals k x y) ≡ true
equals-below d k x y e f = go (is_truths k)
  where
    go : (b : Bool) → names_below d (if b then op2 iff (op1 tru x) (op1 tru y) else op2 eq x y) ≡ true
    go true = and_from _ _ e f
    go false = and_from _ _ e f
