use Rattle.std.proofs.Common.{◌∙◌, ap, pos}
use Rattle.ada_values.proofs.Modulo.{residue_below}
use Rattle.ada_values.proofs.modular.residue.Goals as goal

pub returns-then-number-clause-value : goal.returns-then-number-clause-value
returns-then-number-clause-value c = ap pos c.turned.ensures.value ∙ residue_below c.args.number c.args.modulus c.requires c.if-number.true
