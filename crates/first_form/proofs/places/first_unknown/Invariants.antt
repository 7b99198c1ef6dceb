use Rattle.std.proofs.Common.{◌≡◌, drop}
use Rattle.first_form.specs.Places.{first_unknown}
use Rattle.first_form.proofs.Searches.{unknown_among}
use Rattle.first_form.proofs.places.first_unknown.Given as goal

abbrev pub invariant-loop-assertion : goal.invariant-loop-assertion
invariant-loop-assertion l = unknown_among l.form.params (drop l.assertion-index l.assertion-items) ≡ first_unknown l.form
