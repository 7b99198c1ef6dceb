-- What ends a judgement at its first fault.
use Rattle.std.proofs.Common.{◌≡◌, refl, ◌∙◌, ap}
use Rattle.cert_rules.specs.Judged.{Judged, yields, refused, too_wide, and_then}
use Rattle.cert_rules.specs.Judges.{IsFault}
use Rattle.cert_rules.specs.declared.fault.LineFault.{LineFault}
use Rattle.cert_rules.specs.declared.fault.LineFault.TheVariants.{NotAllowed, Wide, Starved}

-- a fault of the first part is one of the whole
pub fault_then : {A B : Type 0} (e : LineFault) (j : Judged A) (f : A → Judged B) → IsFault e j → IsFault e (and_then j f)
fault_then NotAllowed j f h = ap (λ k. and_then k f) h
fault_then Wide j f h = ap (λ k. and_then k f) h
fault_then Starved j f h = tt

-- where the first part yields something, a fault of what comes then is one of the whole
pub fault_after : {A B : Type 0} (e : LineFault) (j : Judged A) (f : A → Judged B) (a : A) → j ≡ yields a → IsFault e (f a) → IsFault e (and_then j f)
fault_after NotAllowed j f a is h = ap (λ k. and_then k f) is ∙ h
fault_after Wide j f a is h = ap (λ k. and_then k f) is ∙ h
fault_after Starved j f a is h = tt

-- the same judgement has the same faults
pub fault_same : {A : Type 0} (e : LineFault) (j k : Judged A) → k ≡ j → IsFault e j → IsFault e k
fault_same NotAllowed j k is h = is ∙ h
fault_same Wide j k is h = is ∙ h
fault_same Starved j k is h = tt

pub then_then : {A B C : Type 0} (j : Judged A) (f : A → Judged B) (g : B → Judged C) → and_then j (λ a. and_then (f a) g) ≡ and_then (and_then j f) g
then_then (yields a) f g = refl
then_then refused f g = refl
then_then too_wide f g = refl
