use Rattle.std.proofs.Common.{◌≡◌, arith, subst, take, ℕ, true, false}
use Rattle.std.specs.Prelude.{Option}
use Rattle.std.specs.Int.RustNames.{int_le, int_lt}
use mir.Syntax.{w128}
use mir.Val.{SFits}
use Rattle.std.proofs.lemmas.Int.{to_z-of_z, ints}
use Rattle.choice_cover.specs.Sweeps.{IsFirstTwice, fill}
use Rattle.choice_cover.proofs.Chosen.{all_once, missing_is, none_within, outside_is, twice_is, whole_is}
use Rattle.choice_cover.proofs.Filled.{filled_sorted, hole_sorted}
use Rattle.choice_cover.proofs.cover.found_cover.Goals as goal

pub returns-in-Some : goal.returns-in-Some
returns-in-Some c =
    let f : SFits w128 c.args.lo = c.ranges.lo in
    let g : SFits w128 c.args.hi = c.ranges.hi in
    let b = simp to_z-of_z at c.inside_front-front.ensures.before in
    let P : Option ℕ → Type 0 = IsFirstTwice (take c.inside_front-front.result c.args.ranges.now) in
    twice_is c.args.lo c.args.hi c.args.ranges.now c.inside_front-front.result c.in-Some.k c.inside_front-front.ensures.within b (subst P c.in-Some.is c.in_ok-k.ensures)

pub returns-then-front-ranges : goal.returns-then-front-ranges
returns-then-front-ranges c =
    let f : SFits w128 c.args.lo = c.ranges.lo in
    let g : SFits w128 c.args.hi = c.ranges.hi in
    let b = simp to_z-of_z at c.inside_front-front.ensures.before in
    let a = simp to_z-of_z at c.inside_front-front.ensures.first in
    let P : Option ℕ → Type 0 = IsFirstTwice (take c.inside_front-front.result c.args.ranges.now) in
    outside_is c.args.lo c.args.hi c.args.ranges.now c.inside_front-front.result (omega arith) b a (subst P c.in_default.is c.in_ok-k.ensures)

pub returns-then-hi-lo : goal.returns-then-hi-lo
returns-then-hi-lo c =
    let f : SFits w128 c.args.lo = c.ranges.lo in
    let g : SFits w128 c.args.hi = c.ranges.hi in
    let b = simp to_z-of_z at c.inside_front-front.ensures.before in
    let n : int_lt c.args.hi c.args.lo ≡ true = simp to_z-of_z at c.if-hi-lo.true in
    let P : Option ℕ → Type 0 = IsFirstTwice (take c.inside_front-front.result c.args.ranges.now) in
    whole_is c.args.lo c.args.hi c.args.ranges.now (all_once c.args.lo c.args.hi c.args.ranges.now c.inside_front-front.result (omega arith) b (subst P c.in_default.is c.in_ok-k.ensures))
    (λ v w. absurd (none_within c.args.lo c.args.hi v n w))

pub returns-then-fills : goal.returns-then-fills
returns-then-fills c =
    let f : SFits w128 c.args.lo = c.ranges.lo in
    let g : SFits w128 c.args.hi = c.ranges.hi in
    let b = simp to_z-of_z at c.inside_front-front.ensures.before in
    let P : Option ℕ → Type 0 = IsFirstTwice (take c.inside_front-front.result c.args.ranges.now) in
    let e : fill c.args.lo c.args.hi c.in_ok-sorted.sorted.items ≡ true = grind (arith, to_z-of_z, c.fills.ensures) in
    whole_is c.args.lo c.args.hi c.args.ranges.now (all_once c.args.lo c.args.hi c.args.ranges.now c.inside_front-front.result (omega arith) b (subst P c.in_default.is c.in_ok-k.ensures))
    (filled_sorted c.args.lo c.args.hi c.args.ranges.now c.in_ok-sorted.sorted.items c.in_ok-sorted.ensures.same e)

pub returns : goal.returns
returns c =
    let f : SFits w128 c.args.lo = c.ranges.lo in
    let g : SFits w128 c.args.hi = c.ranges.hi in
    let b = simp to_z-of_z at c.inside_front-front.ensures.before in
    let P : Option ℕ → Type 0 = IsFirstTwice (take c.inside_front-front.result c.args.ranges.now) in
    let h : int_lt c.args.hi c.args.lo ≡ false = simp to_z-of_z at c.if-hi-lo.false in
    let l : int_le c.args.lo c.args.hi ≡ true = grind (arith, ints) in
    let e : fill c.args.lo c.args.hi c.in_ok-sorted.sorted.items ≡ false = grind (arith, to_z-of_z, c.fills.ensures) in
    missing_is c.args.lo c.args.hi c.args.ranges.now (all_once c.args.lo c.args.hi c.args.ranges.now c.inside_front-front.result (omega arith) b (subst P c.in_default.is c.in_ok-k.ensures))
    (hole_sorted c.args.lo c.args.hi c.args.ranges.now c.in_ok-sorted.sorted.items c.in_ok-sorted.ensures.same c.in_ok-sorted.ensures.rises l e)
