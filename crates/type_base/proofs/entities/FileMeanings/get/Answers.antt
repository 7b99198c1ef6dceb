use Rattle.std.proofs.Common.{◌/◌, length, sym, ◌∙◌, arith}
use Rattle.type_base.specs.declared.entities.Entity.TheVariants.{Unknown}
use Rattle.type_base.specs.declared.entities.Meaning.{Meaning}
use Rattle.type_base.proofs.Meanings.{found_at, turn_after, turn_before}
use Rattle.type_base.proofs.entities.FileMeanings.get.Goals as goal

pub returns-then-found-at : goal.returns-then-found-at
returns-then-found-at c =
    let rest = c.loop-rest.rest.now in
    sym (found_at 0 c.args.at (length rest / 2) rest _ c.loop-rest.invariant.0 (grind arith) c.if-found-at.true) ∙ c.loop-rest.invariant.1

pub loop-rest-preserved-then-found-at-2 : goal.loop-rest-preserved-then-found-at-2
loop-rest-preserved-then-found-at-2 c =
    let rest = c.loop-rest.rest.now in
    turn_after rest c.args.at _ _ (length rest / 2) _ c.loop-rest.invariant (grind arith) c.if-found-at-2.true

pub loop-rest-preserved : goal.loop-rest-preserved
loop-rest-preserved c =
    let rest = c.loop-rest.rest.now in
    let d : Meaning = record { at = 0; entity = Unknown } in
    turn_before rest c.args.at _ _ (length rest / 2) d c.loop-rest.invariant (grind arith) (grind arith)
