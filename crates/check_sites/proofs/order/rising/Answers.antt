use Rattle.std.proofs.Common.{rules}
use Rattle.std.proofs.lemmas.List.Sorted.{answers_always}
use Rattle.check_sites.proofs.Compared.{compared_as}
use Rattle.check_sites.proofs.Stable.{sorted_alike, stable_alike}
use Rattle.check_sites.proofs.order.rising.Goals as goal

pub returns-clause-rises : goal.returns-clause-rises
returns-clause-rises c = sorted_alike _ (λ a b. compared_as a.key b.key) _ (c.in_ok-sort_by_key.ensures.sorted (λ s. s.key) (answers_always _ _ _ (λ f a r g h. search rules)))

pub returns-clause-stable : goal.returns-clause-stable
returns-clause-stable c = stable_alike _ (λ a b. compared_as a.key b.key) _ _ (c.sort_by_key.ensures.stable (λ s. s.key) (answers_always _ _ _ (λ f a r g h. search rules)))
