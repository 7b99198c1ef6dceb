use Rattle.std.proofs.Common.{rules, ◌≡◌, ◌∙◌, ap}
use Rattle.std.specs.Prelude.{unsigned_abs, List, FitsSigned}
use Rattle.std.specs.Int.{w128}
use Rattle.std.proofs.lemmas.Int.{to_z-of_z}
use Rattle.logic_terms.specs.View.{term}
use Rattle.linear_forms.specs.View.{parts}
use Rattle.linear_forms.specs.declared.form.Part.{Part}
use Rattle.linear_prover.specs.Forms.{coefficient}
use Rattle.linear_prover.proofs.Factors.{factor_is}
use Rattle.linear_prover.proofs.factor.factor.Goals as goal

pub returns : goal.returns
returns c =
    let fits : FitsSigned w128 c.coefficient.result = search rules in
    let fits2 : FitsSigned w128 c.coefficient-2.result = search rules in
    let first : c.coefficient.result ≡ coefficient (term c.args.v.now) (parts c.args.f.now.parts) = c.coefficient.ensures ∙ ap (λ (ps : List Part). coefficient (term c.args.v.now) (parts ps)) c.as_slice.ensures in
    let second : c.coefficient-2.result ≡ coefficient (term c.args.v.now) (parts c.args.g.now.parts) = c.coefficient-2.ensures ∙ ap (λ (ps : List Part). coefficient (term c.args.v.now) (parts ps)) c.as_slice-2.ensures in
    factor_is c.args.v.now (coefficient (term c.args.v.now) (parts c.args.f.now.parts)) (coefficient (term c.args.v.now) (parts c.args.g.now.parts)) _ _ _ _
    (c.unsigned_abs-first.ensures.value ∙ ap unsigned_abs (to_z-of_z w128 c.coefficient.result fits ∙ first))
    (c.unsigned_abs-second.ensures.value ∙ ap unsigned_abs (to_z-of_z w128 c.coefficient-2.result fits2 ∙ second))
    c.gcd.ensures c.quotient.ensures
