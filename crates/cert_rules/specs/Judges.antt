-- What a call that judges a line answers, against what the rule says of the line.
use Rattle.std.specs.Prelude.{◌≡◌, List, map, Result, MatchResult}
use Rattle.logic_terms.specs.Node.{Node}
use Rattle.logic_terms.specs.View.{formula}
use Rattle.logic_terms.specs.declared.syntax.Formula.{Formula}
use Rattle.cert_rules.specs.Judged.{Judged, yields, refused, too_wide}
use Rattle.cert_rules.specs.declared.fault.LineFault.{LineFault}
use Rattle.cert_rules.specs.declared.fault.LineFault.TheVariants.{NotAllowed, Wide, Starved}

-- why a line yields nothing; memory may run out anywhere
abbrev pub IsFault : {A : Type 0} → LineFault → Judged A → Type 0
IsFault NotAllowed j = j ≡ refused
IsFault Wide j = j ≡ too_wide
IsFault Starved j = Unit {0}

-- the answer is what the rule yields, or why it yields nothing
abbrev pub Judges : {A V : Type 0} → (A → V) → Judged V → Result A LineFault → Type 0
Judges view j r = MatchResult r (λ a. j ≡ yields (view a)) (λ e. IsFault e j)

abbrev pub clause : List Formula → List Node
clause ps = map formula ps
