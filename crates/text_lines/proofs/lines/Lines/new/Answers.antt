use Rattle.std.proofs.Common.{List, ℕ, sym, subst, arith, rules}
use Rattle.text_lines.specs.Rising.{AreAbove}
use Rattle.text_lines.proofs.Seeking.{starts_above}
use Rattle.text_lines.proofs.lines.Lines.new.Goals as goal

pub invariant_of-result : goal.invariant_of-result
invariant_of-result c = (
  subst (λ (ss : List ℕ). AreAbove c.first_of-first.result ss) (sym c.in_ok-more.ensures.value) (search (rules, starts_above)),
  omega (arith, c.in_ok-more.ensures.few, c.requires),
)
