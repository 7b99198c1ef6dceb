-- Verification trees, and the first false check on a way through one.
use Rattle.std.specs.Prelude.{ℕ, ◌==◌, Bool, true, false, Option, Some, None, List, [], ◌∷◌, if◌then◌else◌}
use Rattle.logic_terms.specs.Node.{Node}
use Rattle.logic_terms.specs.Value.{Kind, Value, default}
use Rattle.logic_terms.specs.Meaning.{World, holds}
use Rattle.typed_units.specs.declared.checks.SiteKey.{SiteKey}
use Rattle.vc_tree.specs.declared.AnyRole.{AnyRole}

-- A tree ends, checks or assumes a formula, lets a symbol have any value of a kind, or goes on in two ways.
pub data Tree : Type 0 where
  done : Tree
  check : SiteKey → Node → Tree → Tree
  assume : Node → Tree → Tree
  any : ℕ → Kind → AnyRole → Tree → Tree
  both : Tree → Tree → Tree

-- what a way takes at a node: a value for its symbol, or one of its two sides
pub data Choice : Type 0 where
  value_is : Value → Choice
  first_side : Choice
  second_side : Choice

abbrev pub with_symbol : World → ℕ → Value → World
with_symbol w x v = record w { symbol = λ y. if x == y then v else w.symbol y }

abbrev pub chosen_value : Kind → List Choice → Value
chosen_value k (value_is v ∷ cs) = v
chosen_value k _ = default k

abbrev pub goes_second : List Choice → Bool
goes_second (second_side ∷ cs) = true
goes_second _ = false

abbrev pub rest_of : List Choice → List Choice
rest_of [] = []
rest_of (c ∷ cs) = cs

-- The way that the choices take: it ends without a site at the end or at a false assumption, and with its site at the
-- first false check.
abbrev pub first_false : Tree → World → List Choice → Option SiteKey
first_false done w cs = None
first_false (check c p t) w cs = if holds w [] p then first_false t w cs else Some c
first_false (assume p t) w cs = if holds w [] p then first_false t w cs else None
first_false (any x k r t) w cs = first_false t (with_symbol w x (chosen_value k cs)) (rest_of cs)
first_false (both t u) w cs = if goes_second cs then first_false u w (rest_of cs) else first_false t w (rest_of cs)
