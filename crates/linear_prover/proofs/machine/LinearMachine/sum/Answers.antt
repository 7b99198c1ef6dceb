use Rattle.std.proofs.Common.{sym, ◌∙◌, ap₂}
use Rattle.std.specs.Prelude.{ℤ}
use Rattle.std.specs.Int.{w128}
use Rattle.std.proofs.lemmas.Int.{to_z-of_z}
use Rattle.linear_forms.specs.Form.{combined}
use Rattle.linear_forms.specs.Fits.{combining_fits}
use Rattle.linear_forms.specs.View.{linear}
use Rattle.cert_lines.specs.Line.{sum_of}
use Rattle.linear_prover.specs.Machine.{with_line, appended}
use Rattle.linear_prover.specs.Elimination.{summed}
use Rattle.linear_prover.specs.View.{made_of, state}
use Rattle.linear_prover.proofs.Stating.{runs_along, summed_as}
use Rattle.linear_prover.proofs.machine.LinearMachine.sum.Goals as goal

pub returns : goal.returns
returns c =
    let m = to_z-of_z w128 c.args.m c.ranges.m in
    let n = to_z-of_z w128 c.args.n c.ranges.n in
    runs_along (appended (linear c.in-Ok.form) c.in_ok-number.number (state c.note.new.self)) (summed c.args.m (made_of c.args.x.now) c.args.n (made_of c.args.y.now) (state c.args.self.now)) c.append.new.self c.append.result
    (summed_as c.args.m (made_of c.args.x.now) c.args.n (made_of c.args.y.now) (state c.args.self.now) (state c.note.new.self) (linear c.in-Ok.form) c.in_ok-number.number c.ranges.m c.ranges.n
    (c.in-Ok.ensures.0 ∙ ap₂ (λ (p q : ℤ). combined p (linear c.args.x.now.form) q (linear c.args.y.now.form)) m n)
    (sym (ap₂ (λ (p q : ℤ). combining_fits p (linear c.args.x.now.form) q (linear c.args.y.now.form)) m n) ∙ c.in-Ok.ensures.1)
    c.in_ok-number.ensures.number
    (c.in_ok-number.ensures.noted ∙ ap₂ (λ (p q : ℤ). with_line (sum_of c.args.x.now.number p c.args.y.now.number q) (state c.args.self.now)) m n))
    c.append.ensures
