use Rattle.std.proofs.Common.{◌/◌, length, sym, ◌∙◌, arith}
use Rattle.name_library.specs.declared.events.Ident.{Ident}
use Rattle.name_numbers.proofs.Rising.{found_at, turn_after, turn_before}
use Rattle.name_numbers.proofs.table.NameTable.number_at.Goals as goal

pub returns-then-ident-at : goal.returns-then-ident-at
returns-then-ident-at c =
    let rest = c.loop-rest.rest.now in
    sym (found_at 0 c.args.at (length rest / 2) rest _ c.loop-rest.invariant.0 (grind arith) c.if-ident-at.true) ∙ c.loop-rest.invariant.1

pub loop-rest-preserved-then-ident-at-2 : goal.loop-rest-preserved-then-ident-at-2
loop-rest-preserved-then-ident-at-2 c =
    let rest = c.loop-rest.rest.now in
    turn_after rest c.args.at _ _ (length rest / 2) _ c.loop-rest.invariant (grind arith) c.if-ident-at-2.true

pub loop-rest-preserved : goal.loop-rest-preserved
loop-rest-preserved c =
    let rest = c.loop-rest.rest.now in
    let d : Ident = record { name = 0; at = 0 } in
    turn_before rest c.args.at _ _ (length rest / 2) d c.loop-rest.invariant (grind arith) (grind arith)
