use Rattle.std.proofs.Common.{◌≡◌, ℕ, ◌+◌, List, [], ◌++◌, length, map, take, sym, ap, ◌∙◌, append_assoc, append-nil, length-append, arith, Bor}
use Rattle.std.proofs.lemmas.List.{length-map, length-take-le, map_more, take_all}
use Rattle.name_numbers.specs.Places.{first_place}
use Rattle.name_numbers.proofs.numbering.add_names.Goals as goal

pub loop-at-init : goal.loop-at-init
loop-at-init c before knows count text = knows text ∙ ap (λ (ns : List (List ℕ)). first_place ns text) (sym (append-nil before))

pub loop-at-preserved : goal.loop-at-preserved
loop-at-preserved c before knows count text =
    let at = c.loop-at.at in
    let some : Bor (List ℕ) = record { ref_ptr = (0, 0); now = [] } in
    let front = map (λ (n : Bor (List ℕ)). n.now) (take at c.args.names.now) in
    let counted : length (before ++ front) ≡ c.args.count + at = omega (arith, length-append before front, length-map (take at c.args.names.now) (λ (n : Bor (List ℕ)). n.now), length-take-le at c.args.names.now (omega arith)) in
    (c.in_ok-place_of.ensures (before ++ front) (c.loop-at.invariant before knows count) counted).0 text
    ∙ ap (λ (ns : List (List ℕ)). first_place ns text) (append_assoc before front _ ∙ ap (λ (ns : List (List ℕ)). before ++ ns) (sym (map_more (λ (n : Bor (List ℕ)). n.now) c.args.names.now at some c.loop-at-test.true)))

pub returns : goal.returns
returns c before knows count text =
    c.loop-at.invariant before knows count text
    ∙ ap (λ (ts : List (Bor (List ℕ))). first_place (before ++ map (λ (n : Bor (List ℕ)). n.now) ts) text) (take_all c.loop-at.at c.args.names.now (omega arith))
