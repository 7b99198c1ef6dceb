-- What is found stays what it is.
use Rattle.std.proofs.Common.{◌≡◌, refl}
use Rattle.typing_rules.specs.declared.prefix.Found.{Found}
use Rattle.typing_rules.specs.declared.prefix.Found.TheVariants.{Refused, Unknown, Is}
use Rattle.typing_rules.specs.Fits.{with_found}

pub same_found : {A : Type 0} (x : Found A) → x ≡ with_found (λ y. y) x
same_found (Refused f) = refl
same_found Unknown = refl
same_found (Is a) = refl
