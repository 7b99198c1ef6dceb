use Rattle.std.proofs.Common.{ap, ◌∙◌, ◌/◌, ◌%◌, ◌<◌, ◌≤◌, length, arith}
use Rattle.std.specs.Prelude.{slice_set}
use Rattle.shared_items.specs.Chunks.{chained}
use Rattle.shared_items.proofs.Chunks.{length-list_at, length-chained, kept_set, kept_same, set_at_chunk, set_at_rest, map_ok, either_way}
use Rattle.shared_items.proofs.items.SharedItems.set.Goals as goal

pub set_within-requires : goal.set_within-requires
set_within-requires g c =
    let w : c.args.at / 32 < length c.self.inside.chunks = omega (arith, c.if-chunk-len.true, c.len.ensures) in
    let e = length-list_at c.self.inside.chunks (c.args.at / 32) c.self.invariant.0 w in omega (arith, e)

pub invariant_of-self : goal.invariant_of-self
invariant_of-self g c =
    either_way c.set_within.result
    (kept_set c.self.inside.chunks c.set_within.new.self c.self.inside.rest c.self.inside.len (c.args.at / 32) (c.args.at % 32) c.args.item c.self.invariant)
    (kept_same c.self.inside.chunks c.set_within.new.self c.self.inside.rest c.self.inside.len c.self.invariant)
    c.set_within.ensures.ok c.set_within.ensures.err

pub set-requires : goal.set-requires
set-requires g c =
    let e = length-chained c.self.inside.chunks c.self.inside.rest c.self.invariant.0 in let v = ap length c.self.view_is in
    omega (arith, e, v, c.requires, c.if-chunk-len.false, c.len.ensures, c.len-else-chunk-len.ensures)

pub returns-then-chunk-len-clause-ok : goal.returns-then-chunk-len-clause-ok
returns-then-chunk-len-clause-ok g c =
    let w : c.args.at / 32 < length c.self.inside.chunks = omega (arith, c.if-chunk-len.true, c.len.ensures) in
    map_ok c.set_within.result
    (λ e. ap (λ cs. chained cs c.self.inside.rest) e ∙ set_at_chunk c.self.inside.chunks c.self.inside.rest c.args.at c.args.item c.self.invariant.0 w
    ∙ ap (λ xs. slice_set xs c.args.at c.args.item) c.self.view_is)
    c.set_within.ensures.ok

pub returns-else-chunk-len-clause-ok : goal.returns-else-chunk-len-clause-ok
returns-else-chunk-len-clause-ok g c =
    let w : length c.self.inside.chunks ≤ c.args.at / 32 = omega (arith, c.if-chunk-len.false, c.len.ensures) in
    map_ok c.set.result
    (λ e. ap (chained c.self.inside.chunks) e
    ∙ set_at_rest c.self.inside.chunks c.self.inside.rest c.args.at c.len-else-chunk-len.result c.args.item c.self.invariant.0 w c.len-else-chunk-len.ensures
    ∙ ap (λ xs. slice_set xs c.args.at c.args.item) c.self.view_is)
    c.set.ensures.ok
