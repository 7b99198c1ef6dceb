use Rattle.subprogram_draft.proofs.Counting.{body_by_counts, contract_by_count}
use Rattle.subprogram_draft.proofs.laws.counts.Goals as goal

pub returns-clause-contract : goal.returns-clause-contract
returns-clause-contract c = contract_by_count

pub returns-clause-body : goal.returns-clause-body
returns-clause-body c = body_by_counts
