use Rattle.std.proofs.Common.{◌≡◌, drop}
use Rattle.first_form.specs.Tree.{each, param_in}
use Rattle.first_form.proofs.Each.{after}
use Rattle.first_form.proofs.procedures.params_in.Given as goal

abbrev pub invariant-loop-param : goal.invariant-loop-param
invariant-loop-param l =
    after l.names (each (param_in l.text) (drop l.param-index l.params)) ≡ each (param_in l.text) l.params
