use Rattle.std.proofs.Common.{◌≤◌, ◌∙◌, ℕ, length, subst, sym}
use Rattle.spark_reader.proofs.Places.{place_told, refusal_within}
use Rattle.spark_reader.proofs.refusal.ReadRefusal.place.Goals as goal

pub returns-clause-place : goal.returns-clause-place
returns-clause-place c = λ text h. c.told_place.ensures ∙ place_told text c.args.self h

pub returns-clause-within : goal.returns-clause-within
returns-clause-within c = λ text h. subst (λ (at : ℕ). at ≤ length text) (sym c.told_place.ensures) (refusal_within text c.args.self h)
