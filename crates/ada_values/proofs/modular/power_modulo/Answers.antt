use Rattle.std.proofs.Common.{arith, ◌∙◌, ◌*◌}
use Rattle.std.proofs.lemmas.Nat.{mod_below}
use Rattle.ada_values.proofs.Powers.{even_turn, odd_turn}
use Rattle.ada_values.proofs.modular.power_modulo.Goals as goal
use Rattle.ada_values.proofs.modular.power_modulo.Goals.{then-left-eq1, else-left-eq1}

pub loop-left-preserved : goal.loop-left-preserved
loop-left-preserved c =
    let p = c.loop-left.power in let s = c.loop-left.square in let e = c.loop-left.left in let m = c.args.modulus in
    elim c.if-left-eq1.branch [
      | then-left-eq1 w ↦ record {
        power = rw w.power-is (mod_below (p * s) m (omega arith));
        square = mod_below (s * s) m (omega arith);
        same = rw w.power-is (odd_turn p s e m (omega arith) ∙ c.loop-left.invariant.same);
      }
      | else-left-eq1 w ↦ record {
        power = rw w.power-is c.loop-left.invariant.power;
        square = mod_below (s * s) m (omega arith);
        same = rw w.power-is (even_turn p s e m (omega arith) ∙ c.loop-left.invariant.same);
      }
    ]
