use Rattle.std.proofs.Common.{◌∙◌, ap, ℕ, List, ◌∷◌, ◌+◌, drop}
use Rattle.term_reader.specs.Operators.{build}
use Rattle.term_reader.proofs.Levels.{opened_as, opening_fault}
use Rattle.term_reader.proofs.Paths.{fault_of_part}
use Rattle.term_reader.proofs.steps.open.Goals as goal

pub returns-in-Err-clause-fault : goal.returns-in-Err-clause-fault
returns-in-Err-clause-fault c = λ text whole h. (
  c.in-Err.ensures.place,
  fault_of_part text whole c.args.side _ (drop c.args.at c.args.bytes.now) (drop c.in-Err.to c.args.bytes.now) h
      (opening_fault c.args.side (drop c.args.at c.args.bytes.now) (drop (c.args.at + 1) c.args.bytes.now) (drop c.in-Err.to c.args.bytes.now) c.requires.open c.in-Err.ensures.fault),
)

pub returns-in-Ok-push-clause-ok : goal.returns-in-Ok-push-clause-ok
returns-in-Ok-push-clause-ok c = λ text whole h.
    let o = c.in-Ok.ensures in
    opened_as text whole c.args.side (build c.in-Ok.opening.operator) c.new.result _ _ (drop c.args.at c.args.bytes.now) (drop c.in-Ok.opening.to c.args.bytes.now)
    c.new.ensures c.in-Ok-push.ensures (c.requires.open ∙ ap (λ (x : List ℕ). 40 ∷ x) o.text) o.build o.ends h
