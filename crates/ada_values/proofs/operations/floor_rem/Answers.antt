use Rattle.std.proofs.Common.{arith, rules, ◌≡◌, ◌+ℤ◌, FitsSigned}
use Rattle.std.specs.Int.{w128}
use Rattle.std.specs.Int.RustNames.{int_rem}
use Rattle.std.proofs.lemmas.Int.{ints, to_z-of_z}
use Rattle.ada_values.specs.Combine.{floor_mod}
use Rattle.ada_values.proofs.Division.{falls_at, rises_at, stays_above_at, stays_below_at}
use Rattle.ada_values.proofs.operations.floor_rem.Goals as goal

pub returns-then-rest-gt0 : goal.returns-then-rest-gt0
returns-then-rest-gt0 c =
    let fa = c.ranges.a in let fb = c.ranges.b in
    let is : c.wrapping_rem-rest.result ≡ int_rem c.args.a c.args.b = simp to_z-of_z at c.wrapping_rem-rest.ensures in
    let e : (c.wrapping_rem-rest.result +ℤ c.args.b) ≡ floor_mod c.args.a c.args.b = falls_at c.args.a c.args.b _ is (omega (arith, ints)) (omega (arith, ints)) in
    let fr : FitsSigned w128 c.wrapping_rem-rest.result = search rules in
    let fs : FitsSigned w128 (c.wrapping_rem-rest.result +ℤ c.args.b) = omega (arith, ints) in
    simp to_z-of_z e

pub returns-else-rest-gt0 : goal.returns-else-rest-gt0
returns-else-rest-gt0 c =
    let fa = c.ranges.a in let fb = c.ranges.b in
    let is : c.wrapping_rem-rest.result ≡ int_rem c.args.a c.args.b = simp to_z-of_z at c.wrapping_rem-rest.ensures in
    let e : c.wrapping_rem-rest.result ≡ floor_mod c.args.a c.args.b = stays_below_at c.args.a c.args.b _ is (omega (arith, ints)) (omega (arith, ints)) in
    let fr : FitsSigned w128 c.wrapping_rem-rest.result = search rules in
    simp to_z-of_z e

pub returns-then-rest-lt0 : goal.returns-then-rest-lt0
returns-then-rest-lt0 c =
    let fa = c.ranges.a in let fb = c.ranges.b in
    let is : c.wrapping_rem-rest.result ≡ int_rem c.args.a c.args.b = simp to_z-of_z at c.wrapping_rem-rest.ensures in
    let e : (c.wrapping_rem-rest.result +ℤ c.args.b) ≡ floor_mod c.args.a c.args.b = rises_at c.args.a c.args.b _ is (omega (arith, ints)) (omega (arith, ints)) in
    let fr : FitsSigned w128 c.wrapping_rem-rest.result = search rules in
    let fs : FitsSigned w128 (c.wrapping_rem-rest.result +ℤ c.args.b) = omega (arith, ints) in
    simp to_z-of_z e

pub returns-else-rest-lt0 : goal.returns-else-rest-lt0
returns-else-rest-lt0 c =
    let fa = c.ranges.a in let fb = c.ranges.b in
    let is : c.wrapping_rem-rest.result ≡ int_rem c.args.a c.args.b = simp to_z-of_z at c.wrapping_rem-rest.ensures in
    let e : c.wrapping_rem-rest.result ≡ floor_mod c.args.a c.args.b = stays_above_at c.args.a c.args.b _ is (omega (arith, ints)) (omega (arith, ints)) in
    let fr : FitsSigned w128 c.wrapping_rem-rest.result = search rules in
    simp to_z-of_z e
