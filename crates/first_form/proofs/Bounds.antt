-- What a form's limits say.
use Rattle.std.proofs.Common.{◌≡◌, Bool, true, false, refl, ◌≤◌, ℕ, length, arith}
use Rattle.std.specs.Prelude.{◌&&◌, nat_le}
use Rattle.std.specs.List.{list_all}
use Rattle.std.proofs.lemmas.Bool.Decides.{nat_tests}
use Rattle.first_form.specs.declared.form.FirstForm.{FirstForm}
use Rattle.first_form.specs.Names.{are_different, is_name}
use Rattle.first_form.specs.Form.{IsForm, are_assertions, are_params}

both : (a b : Bool) → (a && b) ≡ true → (a ≡ true) × (b ≡ true)
both true b h = (refl, h)
both false b h = cc

at_most : (n m : ℕ) → nat_le n m ≡ true → n ≤ m
at_most n m h = grind (arith, nat_tests)

-- there are at most eight parameters
pub few_params : (f : FirstForm) → IsForm f → length f.params ≤ 8
few_params f h =
    let ps = f.params in
    let form = both (is_name f.name && are_params ps) (are_assertions f.name f.assertions) h in
    let params = both (is_name f.name) (are_params ps) form.0 in
    let differ = both (nat_le 1 (length ps) && nat_le (length ps) 8 && list_all is_name ps) (are_different ps) params.1 in
    let named = both (nat_le 1 (length ps) && nat_le (length ps) 8) (list_all is_name ps) differ.0 in
    let few = both (nat_le 1 (length ps)) (nat_le (length ps) 8) named.0 in
    at_most (length ps) 8 few.1
