-- Where statements stand, in the words of the rules.
use Rattle.std.specs.Prelude.{option_map}
use Rattle.name_numbers.specs.Numbers.{word_of}
use Rattle.reading_scope.specs.Scopes.{scope_of}
use Rattle.statement_rules.specs.declared.around.Around as code
use Rattle.statement_rules.specs.declared.around.Loop as inner
use Rattle.statement_rules.specs.declared.around.Returns as subprogram
use Rattle.statement_rules.specs.declared.around.Returns.TheVariants as returns
use Rattle.statement_typing.specs.Statements.{Around, Loop, Returns, a_value, nothing}

abbrev pub loop_from : inner.Loop → Loop
loop_from l = record { number = l.number; parameter = l.parameter }

abbrev pub returns_of : subprogram.Returns → Returns
returns_of returns.Nothing = nothing
returns_of (returns.Value k) = a_value k

abbrev pub around_of : code.Around → Around
around_of a = record {
  scope = scope_of a.scope.now;
  word = λ at. word_of ((scope_of a.scope.now).name at);
  returns = returns_of a.returns.now;
  loop = option_map loop_from a.inner;
}
