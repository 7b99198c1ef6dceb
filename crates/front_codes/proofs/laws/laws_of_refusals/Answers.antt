use Rattle.front_codes.proofs.Order.{before_chain, before_neither}
use Rattle.front_codes.proofs.laws.laws_of_refusals.Goals as goal

pub returns-clause-chain : goal.returns-clause-chain
returns-clause-chain c = before_chain

pub returns-clause-neither : goal.returns-clause-neither
returns-clause-neither c = before_neither
