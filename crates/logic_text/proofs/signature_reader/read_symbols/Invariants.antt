use Rattle.std.proofs.Common.{◌≡◌, ◌-◌, ◌≤◌, ◌++◌, All, length, drop}
use Rattle.logic_terms.specs.declared.goal.Role.TheVariants.{Plain}
use Rattle.logic_text.specs.Answers.{kinds_of}
use Rattle.logic_text.specs.Goals.{sorts_text}
use Rattle.term_reader.specs.Phases.{IsUpTo}
use Rattle.logic_text.specs.Phases.{InSorts}
use Rattle.logic_text.proofs.signature_reader.read_symbols.Given as goal

abbrev pub invariant-loop-alloc : goal.invariant-loop-alloc
invariant-loop-alloc l = record {
  inside : l.to ≤ length l.bytes;
  text : drop l.at l.bytes ≡ sorts_text (kinds_of l.symbols) ++ drop l.to l.bytes;
  plain : All (λ s. s.role ≡ Plain) l.symbols;
  on : IsUpTo InSorts (drop l.at l.bytes) InSorts (drop l.to l.bytes);
}

abbrev pub decreases-loop-alloc : goal.decreases-loop-alloc
decreases-loop-alloc l = length l.bytes - l.to
