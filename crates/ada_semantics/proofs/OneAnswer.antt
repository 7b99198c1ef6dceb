-- A call has one answer and a run one outcome, whatever the budget.
use Rattle.std.proofs.Common.{◌≡◌, ℕ, ◌+◌, arith, sym, subst, ◌∙◌}
use Rattle.ada_semantics.specs.Outcome.{Res, gives, fails, short, unset}
use Rattle.ada_semantics.specs.Plain.{Plain, ends, fails as plain_fails, short as plain_short, not_a_start, reads_unset, calls_within, plain}
use Rattle.ada_semantics.specs.Budget.{Grows, Settled, Alike, AlikeRuns, OneAnswer, OneOutcome}
use Rattle.ada_semantics.proofs.GrownRunning.{calls_grow, runs_grow}

joined : {A : Type 0} (r t u : Res A) (k l : ℕ) → Grows k r u → Grows l t u → Alike r t
joined (gives a n) (gives b m) u k l w v = let e : gives a (n + k) ≡ gives b (m + l) = sym w ∙ v in cc
joined (gives a n) (fails d) u k l w v = let e : gives a (n + k) ≡ fails d = sym w ∙ v in cc
joined (gives a n) short u k l w v = tt
joined (gives a n) unset u k l w v = let e : gives a (n + k) ≡ unset = sym w ∙ v in cc
joined (fails c) (gives b m) u k l w v = let e : fails c ≡ gives b (m + l) = sym w ∙ v in cc
joined (fails c) (fails d) u k l w v = let e : fails c ≡ fails d = sym w ∙ v in cc
joined (fails c) short u k l w v = tt
joined (fails c) unset u k l w v = let e : fails c ≡ unset = sym w ∙ v in cc
joined short t u k l w v = tt
joined unset (gives b m) u k l w v = let e : unset ≡ gives b (m + l) = sym w ∙ v in cc
joined unset (fails d) u k l w v = let e : unset ≡ fails d = sym w ∙ v in cc
joined unset short u k l w v = tt
joined unset unset u k l w v = tt

pub one_answer : OneAnswer
one_answer d e n m p q s = joined _ _ (calls_within (d + e) p q s (n + m)) m n
    (calls_grow d (d + e) m p (omega arith) q s n)
    (subst (λ z. Grows n (calls_within e p q s m) (calls_within (d + e) p q s z)) (omega arith) (calls_grow e (d + e) n p (omega arith) q s m))

same_settled : (r t u : Plain) → Settled r u → Settled t u → AlikeRuns r t
same_settled plain_short t u w v = tt
same_settled (ends s) plain_short u w v = tt
same_settled (plain_fails c) plain_short u w v = tt
same_settled not_a_start plain_short u w v = tt
same_settled reads_unset plain_short u w v = tt
same_settled (ends s) (ends z) u w v = sym w ∙ v
same_settled (ends s) (plain_fails d) u w v = sym w ∙ v
same_settled (ends s) not_a_start u w v = sym w ∙ v
same_settled (ends s) reads_unset u w v = sym w ∙ v
same_settled (plain_fails c) (ends z) u w v = sym w ∙ v
same_settled (plain_fails c) (plain_fails d) u w v = sym w ∙ v
same_settled (plain_fails c) not_a_start u w v = sym w ∙ v
same_settled (plain_fails c) reads_unset u w v = sym w ∙ v
same_settled not_a_start (ends z) u w v = sym w ∙ v
same_settled not_a_start (plain_fails d) u w v = sym w ∙ v
same_settled not_a_start not_a_start u w v = sym w ∙ v
same_settled not_a_start reads_unset u w v = sym w ∙ v
same_settled reads_unset (ends z) u w v = sym w ∙ v
same_settled reads_unset (plain_fails d) u w v = sym w ∙ v
same_settled reads_unset not_a_start u w v = sym w ∙ v
same_settled reads_unset reads_unset u w v = sym w ∙ v

pub one_outcome : OneOutcome
one_outcome p q params globals n m = same_settled _ _ (plain p q params globals (n + m))
    (runs_grow p q params globals n m)
    (subst (λ z. Settled (plain p q params globals m) (plain p q params globals z)) (omega arith) (runs_grow p q params globals m n))
