use Rattle.std.proofs.Common.{sym, ◌∙◌, ap, subst, List, map, Some, arith}
use Rattle.logic_terms.specs.View.{formula}
use Rattle.logic_terms.specs.declared.syntax.Formula.{Formula}
use Rattle.cert_store.specs.Assumed.{assumes}
use Rattle.cert_store.specs.Steps.{Steps}
use Rattle.cert_store.specs.Store.{nodes}
use Rattle.cert_store.specs.declared.propagation.Step.{Step}
use Rattle.cert_store.proofs.Going.{going_start, stops_stuck, stops_false, goes_on_false, goes_on_one}
use Rattle.cert_store.proofs.propagation.propagates.Goals as goal
use Rattle.cert_store.proofs.propagation.propagates.Goals.{in-AllFalse+else-i-hints, in-Assumed}

pub loop-i-init : goal.loop-i-init
loop-i-init c = going_start _ _ _

pub returns-then-i-hints : goal.returns-then-i-hints
returns-then-i-hints c =
    let ps = map formula c.as_slice.result.now in
    let e = sym c.in-Some.ensures ∙ ap (λ (x : List Formula). Some (map formula x)) (sym c.as_slice.ensures) in
    let s = subst (λ (s : Step). Steps s (assumes c.loop-i.assumed) (assumes c.propagate.new.assumed) ps) c.in-AllFalse.is c.in_ok-propagate.ensures in
    stops_false (nodes c.args.clauses.now) (assumes c.args.assumed) (assumes c.loop-i.assumed) c.args.hints.now c.loop-i.i c.loop-i.invariant ps c.loop-i-test.true e s.0 (omega arith)

pub returns-in-Stuck : goal.returns-in-Stuck
returns-in-Stuck c =
    let ps = map formula c.as_slice.result.now in
    let e = sym c.in-Some.ensures ∙ ap (λ (x : List Formula). Some (map formula x)) (sym c.as_slice.ensures) in
    let s = subst (λ (s : Step). Steps s (assumes c.loop-i.assumed) (assumes c.propagate.new.assumed) ps) c.in-Stuck.is c.in_ok-propagate.ensures in
    stops_stuck (nodes c.args.clauses.now) (assumes c.args.assumed) (assumes c.loop-i.assumed) c.args.hints.now c.loop-i.i c.loop-i.invariant ps c.loop-i-test.true e s.0 s.1 s.2 s.3

pub loop-i-preserved : goal.loop-i-preserved
loop-i-preserved c =
    let ps = map formula c.as_slice.result.now in
    let e = sym c.in-Some.ensures ∙ ap (λ (x : List Formula). Some (map formula x)) (sym c.as_slice.ensures) in
    elim c.match-branch-2.branch [
      | in-AllFalse+else-i-hints w ↦
          let s = subst (λ (s : Step). Steps s (assumes c.loop-i.assumed) (assumes c.propagate.new.assumed) ps) w.in-AllFalse.is c.in_ok-propagate.ensures in
          goes_on_false (nodes c.args.clauses.now) (assumes c.args.assumed) (assumes c.loop-i.assumed) c.args.hints.now c.loop-i.i c.loop-i.invariant ps c.loop-i-test.true e s.0 (omega arith) (assumes c.propagate.new.assumed) s.1
      | in-Assumed w ↦
          let s = subst (λ (s : Step). Steps s (assumes c.loop-i.assumed) (assumes c.propagate.new.assumed) ps) w.in-Assumed.is c.in_ok-propagate.ensures in
          goes_on_one (nodes c.args.clauses.now) (assumes c.args.assumed) (assumes c.loop-i.assumed) c.args.hints.now c.loop-i.i c.loop-i.invariant ps c.loop-i-test.true e s.0 s.1 (assumes c.propagate.new.assumed) s.2
    ]
