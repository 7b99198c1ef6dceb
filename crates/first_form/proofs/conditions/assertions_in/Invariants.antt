use Rattle.std.proofs.Common.{◌≡◌, drop}
use Rattle.first_form.specs.Tree.{each, statement_in}
use Rattle.first_form.proofs.Each.{after}
use Rattle.first_form.proofs.conditions.assertions_in.Given as goal

abbrev pub invariant-loop-statement : goal.invariant-loop-statement
invariant-loop-statement l =
    after l.assertions (each (statement_in l.text) (drop l.statement-index l.statements)) ≡ each (statement_in l.text) l.statements
