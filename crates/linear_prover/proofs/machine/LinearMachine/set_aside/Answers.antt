use Rattle.std.proofs.Common.{refl}
use Rattle.logic_terms.specs.View.{term}
use Rattle.linear_prover.specs.View.{state}
use Rattle.linear_prover.proofs.Stating.{set_aside_is}
use Rattle.linear_prover.proofs.machine.LinearMachine.set_aside.Goals as goal

pub returns : goal.returns
returns c =
    set_aside_is (state c.args.self.now) (term c.args.v) c.args.opposed.positive.items c.args.opposed.negative.items c.append.new.self.items c.args.self.now.eliminated.items c.insert.new.self.items _ refl c.in_ok-insert.ensures.items refl c.in_ok-append.ensures.items
