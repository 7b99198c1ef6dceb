use Rattle.std.proofs.Common.{◌≡◌, ◌∙◌, ap, sym, subst, List}
use Rattle.std.specs.Prelude.{IfOk}
use Rattle.form_prover.specs.declared.rows.Row.{Row}
use Rattle.form_prover.proofs.Exact.{rows_among, one_worker_is}
use Rattle.form_prover.proofs.rows.rows_of.Goals as goal

pub returns : goal.returns
returns c =
    let rows = ap rows_among (c.as_slice.ensures ∙ c.in_ok-verdicts.ensures) ∙ sym (one_worker_is c.args.form.now) in
    subst (λ (xs : List Row). IfOk c.rows_among.result (λ rs. rs ≡ xs)) rows c.rows_among.ensures
