use Rattle.std.proofs.Common.{◌≡◌, List, ℕ, Bool, true, drop, sym, ap, ◌∙◌}
use Rattle.std.specs.List.{position_from}
use Rattle.first_form.specs.Names.{same_name}
use Rattle.std.proofs.lemmas.Iterator.Adapters.{position_from-zero}
use Rattle.first_form.proofs.Searches.{position_found, position_none}
use Rattle.first_form.proofs.places.position_of.Goals as goal

pub returns-then-same_name : goal.returns-then-same_name
returns-then-same_name c =
    let t : List ℕ → Bool = λ (p : List ℕ). same_name p c.args.name.now in
    let items = c.as_slice-param-items.result.now in
    let passes : t c.param-item.result ≡ true = ap t (sym c.as_bytes.ensures) ∙ ap (λ (n : List ℕ). same_name c.as_bytes.result.now n) (sym c.as_bytes-in-loop-i.ensures) ∙ sym c.same_name.ensures ∙ c.if-same_name.true in
    sym (position_found t items c.loop-i.i c.param-item.result c.loop-i-test.true c.param-item.is passes)
    ∙ ap (λ (xs : List (List ℕ)). position_from t c.loop-i.i (drop c.loop-i.i xs)) c.as_slice-param-items.ensures
    ∙ c.loop-i.invariant ∙ sym (position_from-zero t c.args.params.now)

pub returns : goal.returns
returns c =
    let t : List ℕ → Bool = λ (p : List ℕ). same_name p c.args.name.now in
    sym (position_none t c.as_slice-param-items.result.now c.loop-i.i c.loop-i-test.false)
    ∙ ap (λ (xs : List (List ℕ)). position_from t c.loop-i.i (drop c.loop-i.i xs)) c.as_slice-param-items.ensures
    ∙ c.loop-i.invariant ∙ sym (position_from-zero t c.args.params.now)
