use Rattle.std.proofs.Common.{◌∙◌, ◌++◌, ◌+◌, List, [], ◌∷◌, ap, append_assoc, drop, map, sym}
use Rattle.ada_values.specs.declared.shapes.Shape.{Shape}
use Rattle.type_base.specs.declared.world.Subtype.{Subtype}
use Rattle.statement_typing.specs.Units as units
use Rattle.program_parts.proofs.Dropped.{one_mapped}
use Rattle.program_parts.proofs.finished.shapes.Goals as goal

pub loop-number-preserved : goal.loop-number-preserved
loop-number-preserved c =
    let f : Subtype → Shape = λ s. units.shape_of c.args.world.now s.form in
    let xs = c.args.world.now.subtypes in
    let k = c.loop-number.number in
    let rest = map f (drop (k + 1) xs) in
    let found = c.loop-number.found in
    ap (λ (l : List Shape). l ++ rest) c.in_ok-push.ensures.ok
    ∙ append_assoc found (c.in_ok-shape_of.field-0 ∷ []) rest
    ∙ ap (λ (v : Shape). found ++ (v ∷ rest)) c.in_ok-shape_of.ensures
    ∙ ap (λ (l : List Shape). found ++ l) (sym (one_mapped f xs k c.in-Some.subtype (sym c.in-Some.ensures)))
    ∙ c.loop-number.invariant
