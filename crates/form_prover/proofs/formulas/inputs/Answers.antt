use Rattle.std.proofs.Common.{◌∙◌, sym, ap, List, [], ◌∷◌, ◌++◌, map}
use Rattle.std.proofs.lemmas.List.{map-append}
use Rattle.logic_terms.specs.Node.{Node}
use Rattle.logic_terms.specs.View.{formula}
use Rattle.form_prover.specs.Formulas.{input_nodes}
use Rattle.form_prover.proofs.Steps.{input_nodes_more}
use Rattle.form_prover.proofs.formulas.inputs.Goals as goal

pub loop-input-preserved : goal.loop-input-preserved
loop-input-preserved c =
    let pushed = c.in_ok-push.ensures.ok in
    let split = map-append formula c.loop-input.assumed (c.in_ok-bounds.field-0 ∷ []) in
    let before = c.loop-input.invariant in
    let one = c.in_ok-bounds.ensures in
    let more = input_nodes_more c.loop-input.input in
    ap (map formula) pushed ∙ split ∙ ap (λ (ps : List Node). ps ++ formula c.in_ok-bounds.field-0 ∷ []) before
    ∙ ap (λ (p : Node). input_nodes c.loop-input.input 0 ++ p ∷ []) one ∙ sym more
