-- What an accepted certificate means for its goal.
use Rattle.std.specs.Prelude.{List, Result, Ok, Err, OnOk}
use Rattle.logic_terms.specs.Sorting.{Problem, IsWellSorted, IsValid}
use Rattle.cert_lines.specs.Line.{Line}
use Rattle.cert_rules.specs.Checking.{answer_to}
use Rattle.cert_rules.proofs.Sound.{certificates-sound}
use Rattle.cert_checker.specs.Answers.{Answers}
use Rattle.cert_checker.specs.declared.refusal.CertRefusal.{CertRefusal}

-- where the answer is that it is accepted, a well sorted goal is valid
pub valid_so : (g : Problem) (ls : List Line) (r : Result (Unit {0}) CertRefusal) → Answers (answer_to g ls) r → OnOk r (IsWellSorted g → IsValid g)
valid_so g ls (Ok u) h = λ sorted. certificates-sound g ls sorted h
valid_so g ls (Err e) h = tt
