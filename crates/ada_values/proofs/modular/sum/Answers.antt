use Rattle.ada_values.specs.Residues.{whole}
use Rattle.ada_values.proofs.Modulo.{sum_like}
use Rattle.ada_values.proofs.modular.sum.Goals as goal

pub returns : goal.returns
returns c =
    sum_like (whole c.args.a) (whole c.args.b) c.residue.result c.residue-2.result c.args.modulus c.requires.0
    c.residue.ensures.value c.residue-2.ensures.value
