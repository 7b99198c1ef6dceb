-- The answer is the first fault, or without one the usages.
use Rattle.std.proofs.Common.{◌≡◌, refl, subst, List, [], Option, Some, None, arith}
use Rattle.name_library.specs.declared.events.Event.{Event}
use Rattle.name_library.specs.declared.links.Fault.{Fault}
use Rattle.name_library.specs.declared.links.Usage.{Usage}
use Rattle.name_rules.specs.declared.program.Answer.TheVariants.{Named, Refused}
use Rattle.name_rules.specs.Faults.{answer, faults, first_of, told, usages, IsFirst}
use Rattle.name_rules.proofs.Firsts.{first}

by_fault : (o : Option Fault) (us : List Usage) (f : Fault) → told o us ≡ Refused f → o ≡ Some f
by_fault (Some g) us f h = cc
by_fault None us f h = absurd (grind arith)

without : (o : Option Fault) (us vs : List Usage) → told o us ≡ Named vs → (o ≡ None) × (vs ≡ us)
without (Some g) us vs h = absurd (grind arith)
without None us vs h = (refl, cc)

pub refused_first : (files : List (List Event)) (f : Fault) → answer files ≡ Refused f → IsFirst (Some f) (faults files)
refused_first files f h =
    let P : Option Fault → Type 0 = λ o. IsFirst o (faults files) in
    subst P (by_fault (first_of (faults files)) (usages files) f h) (first (faults files))

pub named_whole : (files : List (List Event)) (us : List Usage) → answer files ≡ Named us → (faults files ≡ []) × (us ≡ usages files)
named_whole files us h =
    let r = without (first_of (faults files)) (usages files) us h in
    let P : Option Fault → Type 0 = λ o. IsFirst o (faults files) in
    (subst P r.0 (first (faults files)), r.1)
