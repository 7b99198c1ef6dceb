-- What the clause of a hint does.
use Rattle.std.specs.Prelude.{◌≡◌, Bool, List, [], ◌∷◌}
use Rattle.logic_terms.specs.Node.{Node}
use Rattle.cert_store.specs.Assumed.{Adds, unassumed}
use Rattle.cert_store.specs.declared.propagation.Step.{Step}

-- f is what was assumed, g what is assumed then
abbrev pub Steps : Step → (Node → Bool) → (Node → Bool) → List Node → Type 0
Steps Step.AllFalse f g ps = (unassumed f ps ≡ []) × ((p : Node) → g p ≡ f p)
Steps Step.Assumed f g ps = (q : Node) × (unassumed f ps ≡ q ∷ []) × Adds q f g
Steps Step.Stuck f g ps = (q : Node) × (r : Node) × (qs : List Node) × (unassumed f ps ≡ q ∷ r ∷ qs)
