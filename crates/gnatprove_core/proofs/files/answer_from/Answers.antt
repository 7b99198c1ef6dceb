use Rattle.std.proofs.Common.{◌∙◌, length}
use Rattle.gnatprove_core.proofs.Getting.{all_here, fault_here, got_here, missing_here}
use Rattle.gnatprove_core.proofs.files.answer_from.Goals as goal

pub returns-in-Ok-None-clause-answer : goal.returns-in-Ok-None-clause-answer
returns-in-Ok-None-clause-answer g c =
    missing_here (g.K.Keeper.told c.args.files.now) (g.K.Keeper.told c.loop-names.files) c.args.names.now c.loop-names.got c.loop-names.names.now c.name-item.result c.in-Ok-None.field-0 c.missing.result
    c.in-len1-up.len_at_least c.name-item.is c.loop-names.invariant.2 c.loop-names.invariant.0 c.in-Ok-None.ensures.found c.in-Ok-None.field-0-is c.missing.ensures

pub returns-in-Err-Failed-clause-answer : goal.returns-in-Err-Failed-clause-answer
returns-in-Err-Failed-clause-answer g c =
    fault_here (g.K.Keeper.told c.args.files.now) c.args.names.now c.loop-names.got c.loop-names.names.now c.name-item.result c.fault.result
    c.in-len1-up.len_at_least c.name-item.is c.loop-names.invariant.0 c.fault.ensures

pub loop-names-preserved : goal.loop-names-preserved
loop-names-preserved g c =
    let kept =
    got_here (g.K.Keeper.told c.args.files.now) (g.K.Keeper.told c.loop-names.files) c.args.names.now (length c.args.names.now) c.loop-names.got c.push.new.self c.loop-names.names.now
    c.name-item.result c.in_ok-copy.copy c.in-Ok-Some.bytes c.in-Ok-Some.field-0 c.in-len1-up.len_at_least c.name-item.is c.in_ok-copy.ensures c.loop-names.invariant.2 c.in-Ok-Some.ensures.found c.in-Ok-Some.field-0-is
    c.in_ok-push-in-Ok-Some.ensures.ok c.loop-names.invariant.0 c.loop-names.invariant.1 in
    (kept.0, kept.1, c.get.ensures.map ∙ c.loop-names.invariant.2, c.in-Ok-Some.ensures.cause.kept ∙ c.loop-names.invariant.3, c.get.ensures.other_count ∙ c.loop-names.invariant.4)

pub returns-clause-answer : goal.returns-clause-answer
returns-clause-answer g c =
    all_here (g.K.Keeper.told c.args.files.now) c.args.names.now c.loop-names.got c.as_slice.result.now c.loop-names.names.now c.answer_got.result
    c.in_default.len_below c.as_slice.ensures c.loop-names.invariant.0 c.answer_got.ensures
