use Rattle.std.proofs.Common.{◌≡◌, ap, sym, ◌∙◌, arith, length, drop, List, None, ℕ, rules}
use Rattle.std.specs.Prelude.{replicate}
use Rattle.std.proofs.lemmas.List.{drop_all}
use Rattle.statement_typing.specs.declared.parts.Share.{Share}
use Rattle.static_values.specs.Owners.{count_in, owners_from}
use Rattle.static_values.proofs.Owned.{before_share, length-owners_from, no_share}
use Rattle.static_values.proofs.owners.owners.Goals as goal

pub loop-left-init : goal.loop-left-init
loop-left-init c =
    let e : c.in-Ok.count ≡ length c.args.shares.now = search rules in
    record {
      within = omega (arith, e);
      given =
          c.in_ok-owners.ensures
          ∙ ap (λ (n : ℕ). replicate n None) c.in_ok-component_count.ensures
          ∙ no_share c.in-Ok.count (count_in c.args.bounds) c.args.bounds.first
          ∙ ap (λ (ss : List Share). owners_from c.in-Ok.count ss (count_in c.args.bounds) c.args.bounds.first) (sym (drop_all c.in-Ok.count c.args.shares.now (omega (arith, e))));
    }

pub give-requires : goal.give-requires
give-requires c = ap length c.loop-left.invariant.given ∙ length-owners_from c.loop-left.left (drop c.loop-left.left c.args.shares.now) (count_in c.args.bounds) c.args.bounds.first

pub loop-left-preserved : goal.loop-left-preserved
loop-left-preserved c = record {
  within = omega (arith, c.loop-left.invariant.within);
  given = before_share _ c.loop-left.left c.index-shares-left.result c.args.shares.now (count_in c.args.bounds) c.args.bounds.first c.loop-left.owners.items c.give.new.owners.items (omega (arith, c.loop-left-test.true)) (omega (arith, c.loop-left.invariant.within, c.loop-left-test.true)) c.index-shares-left.is c.loop-left.invariant.given c.give.ensures;
}
