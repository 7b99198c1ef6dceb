use Rattle.std.proofs.Common.{rules, ap, ap₂, sym, ◌∙◌, List, ℤ}
use Rattle.std.specs.Prelude.{FitsSigned}
use Rattle.std.specs.Int.{w128}
use Rattle.std.proofs.lemmas.Int.{to_z-of_z}
use Rattle.std.proofs.lemmas.Result.{err_from_is_err_and}
use Rattle.linear_forms.specs.Form.{Monomial, scaled, gathered}
use Rattle.linear_forms.specs.Fits.{gathering_fits}
use Rattle.linear_forms.specs.View.{linear, parts}
use Rattle.linear_forms.specs.declared.form.Part.{Part}
use Rattle.linear_forms.proofs.Gathering.{fault_along}
use Rattle.linear_forms.proofs.Combining.{combining_first, combining_second}
use Rattle.linear_forms.proofs.build.add_scaled.Goals as goal

abbrev times : ℤ → List Part → List Monomial
times k ps = scaled k (parts ps)

pub returns-in_err-add_multiples : goal.returns-in_err-add_multiples
returns-in_err-add_multiples c =
    let p = err_from_is_err_and c.from_residual-in_err-add_multiples.result c.from_residual-in_err-add_multiples.ensures.1 in
    let f : FitsSigned w128 c.args.m = search rules in
    let first = ap₂ times (to_z-of_z w128 c.args.m f) c.as_slice.ensures in
    let same = ap₂ gathering_fits first (ap parts c.new-parts.ensures.items) in
    rw (p.1, p.2) (fault_along _ _ _ (λ z. combining_first c.args.m (linear c.args.a.now) c.args.n (linear c.args.b.now) (sym same ∙ z)) c.in_err-add_multiples.ensures)

pub returns-in_err-add_multiples-2 : goal.returns-in_err-add_multiples-2
returns-in_err-add_multiples-2 c =
    let p = err_from_is_err_and c.from_residual-in_err-add_multiples-2.result c.from_residual-in_err-add_multiples-2.ensures.1 in
    let f : FitsSigned w128 c.args.m = search rules in
    let g : FitsSigned w128 c.args.n = search rules in
    let first = ap₂ times (to_z-of_z w128 c.args.m f) c.as_slice.ensures in
    let second = ap₂ times (to_z-of_z w128 c.args.n g) c.as_slice-2.ensures in
    let now = c.in_ok-add_multiples.ensures.0 ∙ ap₂ gathered first (ap parts c.new-parts.ensures.items) in
    let same = ap₂ gathering_fits second now in
    rw (p.1, p.2) (fault_along _ _ _ (λ z. combining_second c.args.m (linear c.args.a.now) c.args.n (linear c.args.b.now) (sym same ∙ z)) c.in_err-add_multiples-2.ensures)
