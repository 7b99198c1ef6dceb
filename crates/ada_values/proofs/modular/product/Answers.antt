use Rattle.ada_values.proofs.Modulo.{differs, product_like}
use Rattle.ada_values.proofs.modular.product.Goals as goal

pub returns : goal.returns
returns c =
    product_like c.args.a.is_below c.args.b.is_below _ c.args.a.size c.args.b.size c.args.modulus c.requires.0
    (differs c.args.a.is_below c.args.b.is_below)
