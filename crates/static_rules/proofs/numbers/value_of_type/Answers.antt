use Rattle.std.proofs.Common.{rules, ◌≡◌, sym, ap, ◌∙◌}
use Rattle.statement_typing.specs.Subtypes.{value_of_type}
use Rattle.static_rules.specs.Statics.{number_placed}
use Rattle.static_rules.proofs.Numbered.{value_is}
use Rattle.static_rules.proofs.numbers.value_of_type.Goals as goal

-- what is found of a number is what is found of the expression that it is placed as
pub returns-in-Number : goal.returns-in-Number
returns-in-Number c =
    let found : c.number_placed.result ≡ number_placed c.args.code c.args.place c.in-Number.number c.form.result = search rules in
    found
    ∙ ap (number_placed c.args.code c.args.place c.in-Number.number) c.form.ensures
    ∙ value_is c.args.world.now c.args.code c.args.place c.args.ty c.in-Number.number
    ∙ sym (ap (value_of_type c.args.world.now c.args.code c.args.ty c.args.place) c.in-Number.is)
