use Rattle.std.proofs.Common.{sym, ◌∙◌, arith, ◌+◌, ◌-◌, ◌≡◌}
use Rattle.std.specs.Ordering.{nat_cmp}
use Rattle.std.specs.BTreeMap.{get}
use Rattle.name_library.specs.Library.{unit_at}
use Rattle.name_library.proofs.Sought.{found_more}
use Rattle.name_library.proofs.lookups.numbered.Goals as goal

pub loop-left-preserved-in_ok-insert : goal.loop-left-preserved-in_ok-insert
loop-left-preserved-in_ok-insert c = (
  omega arith,
  λ n.
      let same : (c.loop-left.left - 1) + 1 ≡ c.loop-left.left = omega arith in
      let u = c.in_ok-insert.ensures.updates.0 n in
      let i = c.loop-left.invariant.1 n in
      found_more c.args.units.now c.args.part (c.loop-left.left - 1) n c.index-units-left.result (unit_at c.args.units.now (get nat_cmp c.args.numbers n)) (get nat_cmp c.loop-left.numbers n) _
      (omega arith) c.index-units-left.is (sym c.is_part.ensures ∙ c.if-is_part.true) (rw same i) u,
)
