use Rattle.std.proofs.Common.{◌∙◌, ◌++◌, ◌+◌, List, [], ◌∷◌, ap, append-nil, append_assoc, drop, sym}
use Rattle.typed_units.specs.declared.programs.Type as subtypes
use Rattle.statement_typing.specs.Units as units
use Rattle.program_parts.proofs.Dropped.{no_subtype, one_type}
use Rattle.program_parts.proofs.finished.types.Goals as goal

pub returns-in_default-get : goal.returns-in_default-get
returns-in_default-get c =
    let found = c.loop-number.found in
    sym (append-nil found)
    ∙ ap (λ (l : List subtypes.Type). found ++ l) (sym (no_subtype c.args.names.now c.args.subtypes.now c.loop-number.number (sym c.in_default-get.ensures)))
    ∙ c.loop-number.invariant

pub loop-number-preserved : goal.loop-number-preserved
loop-number-preserved c =
    let ns = c.args.names.now in
    let ss = c.args.subtypes.now in
    let k = c.loop-number.number in
    let rest = units.types_of (drop (k + 1) ns) (drop (k + 1) ss) in
    let found = c.loop-number.found in
    ap (λ (l : List subtypes.Type). l ++ rest) c.in_ok-push.ensures.ok
    ∙ append_assoc found (c.in_ok-type_named.field-0 ∷ []) rest
    ∙ ap (λ (v : subtypes.Type). found ++ (v ∷ rest)) c.in_ok-type_named.ensures
    ∙ ap (λ (l : List subtypes.Type). found ++ l) (sym (one_type ns ss k c.in-Some.name.now c.in-Some-get.subtype (sym c.in-Some.ensures) (sym c.in-Some-get.ensures)))
    ∙ c.loop-number.invariant
