use Rattle.std.proofs.Common.{◌≡◌, ap, ◌∙◌, sym, subst}
use Rattle.std.specs.Prelude.{IfOk, pos}
use Rattle.logic_terms.specs.Value.{default, kind_of}
use Rattle.logic_truth.specs.Found.{found}
use Rattle.logic_truth.specs.declared.found.Found.TheVariants as v
use Rattle.logic_truth.proofs.Steps.{default_in_filled, default_below}
use Rattle.logic_truth.proofs.Whole.{defaults_more}
use Rattle.logic_truth.proofs.arrays.+default.Goals as goal

pub default_of-returns-in_ok-new-in-Filled : goal.default_of-returns-in_ok-new-in-Filled
default_of-returns-in_ok-new-in-Filled t c =
    subst (λ d. found (v.Filled (pos 1) (pos 0) d) ≡ default (kind_of (found c.args.v.now))) (sym c.in_ok-new-in-Filled.ensures)
    (default_in_filled c.args.v.now c.in-Filled.field-0 c.in-Filled.field-1 c.in-Filled.item c.in_ok-default_of-in-Filled.field-0 c.in-Filled.is (c.in_ok-default_of-in-Filled.ensures ∙ ap (λ x. default (kind_of (found x))) c.get.ensures))

pub default_of-returns-in-Stored : goal.default_of-returns-in-Stored
default_of-returns-in-Stored t c =
    subst (λ k. IfOk c.default_of-in-Stored.result (λ r. found r ≡ default k)) (ap (λ x. kind_of (found x)) c.get-in-Stored.ensures ∙ default_below c.args.v.now c.in-Stored.a c.in-Stored.field-1 c.in-Stored.field-2 c.in-Stored.is) c.default_of-in-Stored.ensures

pub defaults_of-loop-v-preserved : goal.defaults_of-loop-v-preserved
defaults_of-loop-v-preserved t c =
    defaults_more c.as_slice-v-items.result.now c.loop-v.none c.push.new.self c.loop-v.v-index c.v-item.result c.in_ok-default_of.field-0
    c.loop-v-test.true c.v-item.is c.loop-v.invariant c.in_ok-default_of.ensures c.in_ok-push.ensures.ok
