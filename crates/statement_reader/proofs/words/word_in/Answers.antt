use Rattle.std.proofs.Common.{sym, subst, ◌∙◌, ◌≤◌, List, length}
use Rattle.ada_syntax.specs.declared.expressions.Expr.{Expr}
use Rattle.ada_syntax.specs.declared.expressions.Suffix.{Suffix}
use Rattle.statement_rules.specs.Arounds.{around_of}
use Rattle.statement_reader.proofs.Read.{suffixed}
use Rattle.statement_reader.proofs.words.word_in.Goals as goal

-- a name with suffixes is no word
pub returns-in-len1-up : goal.returns-in-len1-up
returns-in-len1-up c = suffixed (around_of c.args.around.now).word c.args.e.now c.in-Name.name (sym c.get.ensures ∙ c.in-Name.is) (subst (λ (ss : List (Suffix Expr)). 1 ≤ length ss) c.as_slice.ensures c.in-len1-up.len_at_least)
