-- The negation of a formula.
use Rattle.std.proofs.Common.{◌≡◌, refl, ◌∙◌, ℕ, Bool, true, false, not, List}
use Rattle.logic_terms.specs.Node.{neg, Node, op1}
use Rattle.logic_terms.specs.Value.{Value}
use Rattle.logic_terms.specs.Meaning.{World, holds}
use Rattle.logic_terms.specs.Binding.{negated}
use Rattle.cert_rules.proofs.Names.{names_below}

not_not : (b : Bool) → b ≡ not (not b)
not_not true = refl
not_not false = refl

pub holds-negated : (w : World) (vs : List Value) (p : Node) → holds w vs (negated p) ≡ not (holds w vs p)
holds-negated w vs (op1 neg p) = not_not _
holds-negated w vs (op1 _ p) = refl
holds-negated w vs _ = refl

pub names-negated : (d : ℕ) (p : Node) → names_below d (negated p) ≡ names_below d p
names-negated d (op1 neg p) = refl
names-negated d (op1 _ p) = refl
names-negated d _ = refl

pub negated_below : (d : ℕ) (p : Node) → names_below d p ≡ true → names_below d (negated p) ≡ true
negated_below d p h = names-negated d p ∙ h
