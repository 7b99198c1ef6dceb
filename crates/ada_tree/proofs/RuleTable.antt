-- The rule at a place.
use Rattle.std.proofs.Common.{◌≡◌, ℕ, zero, suc, List, [], ◌∷◌, Some, None, refl}
use Rattle.std.specs.List.{slice_get}
use Rattle.ada_tree.specs.declared.rules.Rule.{Rule}
use Rattle.ada_tree.specs.declared.rules.Rule.TheVariants as rule
use Rattle.ada_tree.specs.Made.{rule_among, rule_at, rules}

among_some : (rs : List Rule) (k : ℕ) (r : Rule) → Some r ≡ slice_get rs k → r ≡ rule_among rs k
among_some [] k r e = cc
among_some (s ∷ rs) zero r e = cc
among_some (s ∷ rs) (suc k) r e = among_some rs k r e

among_none : (rs : List Rule) (k : ℕ) → None ≡ slice_get rs k → rule.Same ≡ rule_among rs k
among_none [] k e = refl
among_none (s ∷ rs) zero e = cc
among_none (s ∷ rs) (suc k) e = among_none rs k e

pub rule_some : (k : ℕ) (r : Rule) → Some r ≡ slice_get rules k → r ≡ rule_at k
unfolding rule_at
rule_some k r e = among_some rules k r e

pub rule_none : (k : ℕ) → None ≡ slice_get rules k → rule.Same ≡ rule_at k
unfolding rule_at
rule_none k e = among_none rules k e
