use Rattle.std.proofs.Common.{◌≡◌, ℕ, Bool, List, Option, Some, None, sym, ap, ◌∙◌, length, cond, Bor}
use Rattle.std.specs.BTreeMap.{get_by}
use Rattle.std.specs.Cmp.Lexicographic.{slice_cmp}
use Rattle.std.specs.Ordering.{nat_cmp}
use Rattle.std.proofs.lemmas.Map.Text.{is_eq-slice_cmp}
use Rattle.std.specs.Str.{bytes_eq}
use Rattle.name_numbers.specs.Places.{first_place}
use Rattle.name_numbers.proofs.Firsts.{added, known, place_new, place_stays}
use Rattle.name_numbers.proofs.numbering.place_of.Goals as goal

pub returns-in-Some : goal.returns-in-Some
returns-in-Some c names knows count =
    let e : first_place names c.args.name.now ≡ Some c.in-Some.place = sym (knows c.args.name.now) ∙ sym c.get.ensures.value ∙ sym c.copied.ensures ∙ c.in-Some.is in
    (λ text. knows text ∙ known names c.args.name.now c.in-Some.place e text, place_stays names c.args.name.now c.in-Some.place e)

pub returns : goal.returns
returns c names knows count =
    let name = c.args.name.now in
    let e : first_place names name ≡ None = sym (knows name) ∙ sym c.get.ensures.value ∙ sym c.copied.ensures ∙ c.in_default.is in (
      λ text.
          let q : Bor (List ℕ) = record { ref_ptr = (0, 0); now = text } in
          let before = get_by (λ k. slice_cmp nat_cmp text k.now) c.args.places.now in
          c.in_ok-insert.ensures.updates.0 q
          ∙ ap (λ (t : Bool). cond t (Some c.args.count) before) (is_eq-slice_cmp name text)
          ∙ ap (λ (n : ℕ). cond (bytes_eq name text) (Some n) before) (sym count)
          ∙ ap (λ (o : Option ℕ). cond (bytes_eq name text) (Some (length names)) o) (knows text)
          ∙ added names name e text,
      λ more. place_new names name e more ∙ ap (λ (n : ℕ). Some n) count,
    )
