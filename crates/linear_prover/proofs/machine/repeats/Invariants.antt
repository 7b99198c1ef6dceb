use Rattle.std.proofs.Common.{◌≡◌, drop, map}
use Rattle.linear_forms.specs.View.{linear}
use Rattle.linear_prover.specs.Machine.{repeats}
use Rattle.linear_prover.specs.View.{made_of}
use Rattle.linear_prover.proofs.machine.repeats.Given as goal

abbrev pub invariant-loop-x : goal.invariant-loop-x
invariant-loop-x l = repeats (linear l.f) (map made_of (drop l.x-index l.standing)) ≡ repeats (linear l.f) (map made_of l.standing)
