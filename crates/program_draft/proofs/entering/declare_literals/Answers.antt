use Rattle.std.proofs.Common.{ℕ, ℤ, pos, List, ap, sym, ◌+◌, ◌∙◌, add-one, arith, drop, get_or}
use Rattle.std.proofs.lemmas.Int.{ints}
use Rattle.std.proofs.lemmas.List.{drop_all, drop_more}
use Rattle.ada_text.specs.declared.token.Span.{Span}
use Rattle.statement_typing.specs.declared.draft.Draft.{Draft}
use Rattle.statement_typing.specs.Drafts.{declare, declare_literals}
use Rattle.type_base.specs.declared.entities.Entity.TheVariants as entity
use Rattle.program_draft.proofs.entering.declare_literals.Goals as goal

abbrev no_name : Span
no_name = record { from = 0; to = 0 }

-- the literals after one, whose position is z, where the next has the position n
abbrev after : ℕ → ℕ → List Span → ℕ → Draft → ℕ → ℤ → Draft
after file k names p d n z = declare_literals file k n (drop (p + 1) names) (declare file (get_or names p no_name) (entity.Literal k z) d)

pub loop-position-preserved : goal.loop-position-preserved
loop-position-preserved c =
    ap (declare_literals c.args.file c.args.subtype (c.loop-position.position + 1) (drop (c.loop-position.position + 1) c.args.names.now)) c.in_ok-declare.ensures
    ∙ ap (after c.args.file c.args.subtype c.args.names.now c.loop-position.position c.loop-position.draft (c.loop-position.position + 1)) (omega (arith, ints))
    ∙ ap (λ (n : ℕ). after c.args.file c.args.subtype c.args.names.now c.loop-position.position c.loop-position.draft n (pos c.loop-position.position)) (add-one c.loop-position.position)
    ∙ ap (λ (l : List Span). declare_literals c.args.file c.args.subtype c.loop-position.position l c.loop-position.draft) (sym (drop_more c.args.names.now c.loop-position.position no_name c.loop-position-test.true))
    ∙ c.loop-position.invariant

pub returns : goal.returns
returns c =
    ap (λ (l : List Span). declare_literals c.args.file c.args.subtype c.loop-position.position l c.loop-position.draft) (sym (drop_all c.loop-position.position c.args.names.now c.loop-position-test.false))
    ∙ c.loop-position.invariant
