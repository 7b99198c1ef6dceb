use Rattle.std.proofs.Common.{◌≡◌, length, map}
use Rattle.first_form.specs.Names.{is_among}
use Rattle.first_form.proofs.names.is_among.Given as goal

abbrev pub invariant-loop-table : goal.invariant-loop-table
invariant-loop-table l = is_among (map (λ w. w.now) l.table) l.name ≡ is_among (map (λ w. w.now) l.initial.table) l.name

abbrev pub decreases-loop-table : goal.decreases-loop-table
decreases-loop-table l = length l.table
