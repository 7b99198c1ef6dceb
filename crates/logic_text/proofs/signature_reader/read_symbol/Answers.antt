use Rattle.std.proofs.Common.{sym, subst, ◌+◌}
use Rattle.logic_terms.specs.Sorts.{sort}
use Rattle.logic_terms.specs.declared.sort.Sort.{Sort}
use Rattle.term_reader.specs.Reads.{IsRead}
use Rattle.term_reader.specs.Trees.{of_kind}
use Rattle.term_reader.specs.declared.part.Side.TheVariants as side
use Rattle.logic_text.proofs.Signatures.{symbol_text, symbol_on, symbol_bad}
use Rattle.logic_text.proofs.signature_reader.read_symbol.Goals as goal

pub returns-in-Err-clause-fault : goal.returns-in-Err-clause-fault
returns-in-Err-clause-fault c = symbol_bad c.args.bytes.now c.args.at c.in-Err.fault c.requires.space c.in-Err.ensures.fault

pub returns-in-Ok-push-clause-text : goal.returns-in-Ok-push-clause-text
returns-in-Ok-push-clause-text c = λ s h.
    symbol_text c.args.symbols.now _ _ c.args.bytes.now c.args.at c.in-Ok.read.to c.in-Ok-push.ensures.ok c.requires.space
    (subst (λ (x : Sort). IsRead side.Sort (of_kind (sort x)) c.args.bytes.now (c.args.at + 1) c.in-Ok.read.to) (sym c.into_inner.ensures) c.in-Ok.ensures.ok) s h

pub returns-in-Ok-push-clause-on : goal.returns-in-Ok-push-clause-on
returns-in-Ok-push-clause-on c =
    symbol_on (sort c.in-Ok.read.sort) c.args.bytes.now c.args.at c.in-Ok.read.to c.requires.space c.in-Ok.ensures.ok
