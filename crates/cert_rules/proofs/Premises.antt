-- Clauses with premises, and clauses that have one number.
use Rattle.std.proofs.Common.{◌≡◌, refl, sym, ap, subst, ℕ, Bool, true, false, ◌&&◌, ◌||◌, not, List, []}
use Rattle.std.specs.Prelude.{◌==◌, if◌then◌else◌}
use Rattle.logic_terms.specs.Node.{Node}
use Rattle.logic_terms.specs.Meaning.{World, holds}
use Rattle.logic_terms.specs.Binding.{negated}
use Rattle.cert_rules.specs.Judged.{yields, refused, only}
use Rattle.cert_rules.specs.Clause.{clause_holds}
use Rattle.cert_rules.proofs.Names.{clause_below}
use Rattle.cert_rules.proofs.NumberedClauses.{IsSound}
use Rattle.cert_rules.proofs.Opposite.{holds-negated}

-- the rest holds where the first literal does not
pub unless : (a b : Bool) → (a ≡ true → b ≡ true) → (not a || b) ≡ true
unless true b f = f refl
unless false b f = refl

pub unless_negated : (w : World) (e : Node) (b : Bool) → (holds w [] e ≡ true → b ≡ true) → (holds w [] (negated e) || b) ≡ true
unless_negated w e b f = subst (λ h. (h || b) ≡ true) (sym (holds-negated w [] e)) (unless _ b f)

pub or_else : (a b : Bool) → (a ≡ false → b ≡ true) → (a || b) ≡ true
or_else true b f = refl
or_else false b f = f refl

-- the last literal
pub last_holds : (a : Bool) → a ≡ true → (a || false) ≡ true
last_holds a e = ap (λ x. x || false) e

pub last_below : (a : Bool) → a ≡ true → (a && true) ≡ true
last_below a e = ap (λ x. x && true) e

pub only-sound : (w : World) (d k : ℕ) (c : List Node) (n : ℕ) → clause_holds w c ≡ true → clause_below d c ≡ true → IsSound w d (only k c n)
only-sound w d k c n h b = go (n == k)
  where
    go : (x : Bool) → IsSound w d (if x then yields c else refused)
    go true = (h, b)
    go false = tt
