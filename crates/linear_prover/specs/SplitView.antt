-- Forms split by the sign of a variable's coefficient.
use Rattle.std.specs.Prelude.{◌≡◌, List, [], ◌∷◌, ◌++◌, map, if◌then◌else◌}
use Rattle.std.specs.List.{filter}
use Rattle.logic_terms.specs.Node.{Node}
use Rattle.linear_prover.specs.Machine.{Made, State}
use Rattle.linear_prover.specs.Elimination.{is_positive, is_negative, is_free, positives, negatives}
use Rattle.linear_prover.specs.View.{made_of}
use Rattle.linear_prover.specs.declared.elimination.Split.{Split}
use Rattle.linear_prover.specs.declared.elimination.Opposed.{Opposed}

pub record Splits (v : Node) (xs : List Made) (s : Split) : Type 0 where
  pub positive : map made_of s.positive.items ≡ positives v xs
  pub negative : map made_of s.negative.items ≡ negatives v xs
  pub free : map made_of s.free.items ≡ filter (is_free v) xs

-- x is added where it belongs
pub record Added (v : Node) (x : Made) (old new : Split) : Type 0 where
  pub positive : map made_of new.positive.items ≡ map made_of old.positive.items ++ (if is_positive v x then x ∷ [] else [])
  pub negative : map made_of new.negative.items ≡ map made_of old.negative.items ++ (if is_negative v x then x ∷ [] else [])
  pub free : map made_of new.free.items ≡ map made_of old.free.items ++ (if is_free v x then x ∷ [] else [])

-- the forms with v are taken out
pub record Opposes (v : Node) (old : State) (o : Opposed) (new : State) : Type 0 where
  pub positive : map made_of o.positive.items ≡ positives v old.standing
  pub negative : map made_of o.negative.items ≡ negatives v old.standing
  pub rest : new ≡ record old { standing = filter (is_free v) old.standing }
