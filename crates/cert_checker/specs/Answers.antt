-- What the checker answers, against the answer to a certificate.
use Rattle.std.specs.Prelude.{◌≡◌, ℕ, Result, MatchResult}
use Rattle.cert_lines.specs.Line.{Code}
use Rattle.cert_lines.specs.View.{code}
use Rattle.cert_lines.specs.declared.rule.Rule.{Rule}
use Rattle.cert_rules.specs.Checking.{Answer, accepted, not_allowed, leaves_range, no_end}
use Rattle.cert_rules.specs.declared.fault.LineFault.{LineFault}
use Rattle.cert_checker.specs.declared.refusal.CertRefusal.{CertRefusal}

-- memory may run out anywhere
abbrev pub IsRefusal : CertRefusal → Answer → Type 0
IsRefusal (CertRefusal.Line n rule) a = a ≡ not_allowed n (code rule)
IsRefusal (CertRefusal.Wide n) a = a ≡ leaves_range n
IsRefusal CertRefusal.NoEnd a = a ≡ no_end
IsRefusal CertRefusal.Starved a = Unit {0}

abbrev pub Answers : Answer → Result (Unit {0}) CertRefusal → Type 0
Answers a r = MatchResult r (λ _. a ≡ accepted) (λ e. IsRefusal e a)

-- why a certificate is refused for the fault of a line by this rule
abbrev pub Refuses : LineFault → ℕ → Code → CertRefusal → Type 0
Refuses LineFault.NotAllowed n k r = (rule : Rule) × ((r ≡ CertRefusal.Line n rule) × (code rule ≡ k))
Refuses LineFault.Wide n k r = r ≡ CertRefusal.Wide n
Refuses LineFault.Starved n k r = r ≡ CertRefusal.Starved
