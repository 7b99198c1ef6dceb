use Rattle.std.proofs.Common.{List, length, sym, subst}
use Rattle.ada_text.specs.declared.token.Token.{Token}
use Rattle.ada_text.specs.Tokens.{AreInOrder}
use Rattle.name_numbers.proofs.Starts.{few, rising}
use Rattle.name_numbers.proofs.numbering.idents_in.Goals as goal

pub returns-in-Ok-clause-rising : goal.returns-in-Ok-clause-rising
returns-in-Ok-clause-rising c =
    rising (length c.args.text.now) c.as_slice.result.now c.idents_among.result (subst (λ (ts : List Token). AreInOrder 0 ts (length c.args.text.now)) (sym c.as_slice.ensures) c.in-Ok.ensures.order) c.idents_among.ensures.places

pub returns-in-Ok-clause-few : goal.returns-in-Ok-clause-few
returns-in-Ok-clause-few c =
    few (length c.args.text.now) c.as_slice.result.now c.idents_among.result (subst (λ (ts : List Token). AreInOrder 0 ts (length c.args.text.now)) (sym c.as_slice.ensures) c.in-Ok.ensures.order) c.idents_among.ensures.places
