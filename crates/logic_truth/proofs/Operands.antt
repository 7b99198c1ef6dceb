-- What a term or a formula finds, once its first operands are found.
use Rattle.std.proofs.Common.{◌≡◌, refl, sym, ap, subst, ℕ, Bool, false, Result}
use Rattle.std.specs.Prelude.{if◌then◌else◌}
use Rattle.logic_terms.specs.Node.{Op2, Op3, Node}
use Rattle.logic_terms.specs.Value.{Value, truth, as_truth}
use Rattle.logic_terms.specs.Meaning.{apply3}
use Rattle.logic_terms.specs.Run.{Outcome, gives, and_then, decides, finish, run2, run3}
use Rattle.logic_terms.specs.Operators.{binary_of, comparison_of, ternary_of}
use Rattle.logic_terms.specs.declared.operators.BinaryOperator.{BinaryOperator}
use Rattle.logic_terms.specs.declared.operators.Comparison.{Comparison}
use Rattle.logic_terms.specs.declared.operators.TernaryOperator.{TernaryOperator}

-- an operator that does not decide after its first operand
goes_on : (o : Op2) (v : Value) (n : ℕ) (f : ℕ → Outcome Value) → decides o v ≡ false → run2 o (gives v n) f ≡ and_then (f n) (λ u m. finish o v u m)
goes_on o v n f h = ap (λ d. if d then gives (truth (as_truth v)) n else and_then (f n) (λ u m. finish o v u m)) h

pub binary_runs : (o : BinaryOperator) (v : Value) (n : ℕ) (f : ℕ → Outcome Value) → run2 (binary_of o) (gives v n) f ≡ and_then (f n) (λ u m. finish (binary_of o) v u m)
binary_runs (BinaryOperator.Compute o) v n f = goes_on (binary_of (BinaryOperator.Compute o)) v n f refl
binary_runs BinaryOperator.Select v n f = goes_on (binary_of BinaryOperator.Select) v n f refl
binary_runs (BinaryOperator.Update k) v n f = goes_on (binary_of (BinaryOperator.Update k)) v n f refl

pub comparison_runs : (o : Comparison) (v : Value) (n : ℕ) (f : ℕ → Outcome Value) → run2 (comparison_of o) (gives v n) f ≡ and_then (f n) (λ u m. finish (comparison_of o) v u m)
comparison_runs Comparison.AtMost v n f = goes_on (comparison_of Comparison.AtMost) v n f refl
comparison_runs Comparison.Equal v n f = goes_on (comparison_of Comparison.Equal) v n f refl

pub ternary_runs : (o : TernaryOperator) (x : Outcome Value) (f g : ℕ → Outcome Value) → run3 (ternary_of o) x f g ≡ and_then x (λ v n. and_then (f n) (λ u m. and_then (g m) (λ t k. gives (apply3 (ternary_of o) v u t) k)))
ternary_runs TernaryOperator.Store x f g = refl
ternary_runs TernaryOperator.Fill x f g = refl
