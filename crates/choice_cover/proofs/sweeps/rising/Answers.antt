use Rattle.std.proofs.Common.{rules}
use Rattle.std.proofs.lemmas.List.Sorted.{answers_always}
use Rattle.choice_cover.proofs.sweeps.rising.Goals as goal

pub returns-clause-rises : goal.returns-clause-rises
returns-clause-rises c = c.in_ok-sort_by_key.ensures.sorted (λ b. b.first) (answers_always _ _ _ (λ f a r g h. search rules))
