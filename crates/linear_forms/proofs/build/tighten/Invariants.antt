use Rattle.std.proofs.Common.{◌≡◌, take}
use Rattle.linear_forms.specs.View.{parts}
use Rattle.linear_forms.proofs.Dividing.{lessened}
use Rattle.linear_forms.proofs.build.tighten.Given as goal

abbrev pub invariant-loop-part : goal.invariant-loop-part
invariant-loop-part l = parts l.parts ≡ lessened l.common (take l.part-index (parts l.a.parts))
