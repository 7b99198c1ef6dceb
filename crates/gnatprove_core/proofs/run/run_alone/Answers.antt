use Rattle.std.proofs.Common.{◌∙◌, ap, subst, refl, ℕ, List}
use Rattle.keeper_io.specs.Pieces.{AddsPart}
use Rattle.std.specs.Io.KnownBytes.{append_known}
use Rattle.gnatprove_core.specs.declared.status.Status.TheVariants as status
use Rattle.gnatprove_core.proofs.Ending.{ends_whole, not_cut}
use Rattle.gnatprove_core.proofs.Complete.{complete}
use Rattle.gnatprove_core.proofs.Soundness.{sound}
use Rattle.gnatprove_core.proofs.run.run_alone.Goals as goal

pub returns-in-Ok-write_all-clause-ends : goal.returns-in-Ok-write_all-clause-ends
returns-in-Ok-write_all-clause-ends g c =
    ends_whole (g.K.Keeper.told c.args.files.now) c.args.words.now c.in-Ok.answer.status c.in-Ok.answer.text
    (g.S.Sink.written c.args.out.now) (g.S.Sink.written c.write_all.new.out) c.in-Ok.ensures.answer
    (c.in-Ok-write_all.ensures.whole ∙ ap (append_known (g.S.Sink.written c.args.out.now)) c.as_slice.ensures)

pub returns-in-Ok-write_all-clause-sound : goal.returns-in-Ok-write_all-clause-sound
returns-in-Ok-write_all-clause-sound g c =
    sound (g.K.Keeper.told c.args.files.now) c.args.words.now c.in-Ok.answer.status
    (g.S.Sink.written c.args.out.now) (g.S.Sink.written c.write_all.new.out)
    (ends_whole (g.K.Keeper.told c.args.files.now) c.args.words.now c.in-Ok.answer.status c.in-Ok.answer.text
    (g.S.Sink.written c.args.out.now) (g.S.Sink.written c.write_all.new.out) c.in-Ok.ensures.answer
    (c.in-Ok-write_all.ensures.whole ∙ ap (append_known (g.S.Sink.written c.args.out.now)) c.as_slice.ensures))

pub returns-in_default-clause-sound : goal.returns-in_default-clause-sound
returns-in_default-clause-sound g c =
    sound (g.K.Keeper.told c.args.files.now) c.args.words.now status.Starved (g.S.Sink.written c.args.out.now) (g.S.Sink.written c.args.out.now) refl

pub returns-clause-sound : goal.returns-clause-sound
returns-clause-sound g c =
    sound (g.K.Keeper.told c.args.files.now) c.args.words.now status.WriteFault (g.S.Sink.written c.args.out.now) (g.S.Sink.written c.write_all.new.out) (
      c.in-Ok.answer.status,
      c.in-Ok.answer.text,
      c.in-Ok.ensures.answer,
      subst (λ (t : List ℕ). AddsPart (g.S.Sink.written c.args.out.now) (g.S.Sink.written c.write_all.new.out) t) c.as_slice.ensures c.in-Err.ensures.part,
    )

pub returns-in-Ok-write_all-clause-complete : goal.returns-in-Ok-write_all-clause-complete
returns-in-Ok-write_all-clause-complete g c =
    complete (g.K.Keeper.told c.args.files.now) c.args.words.now c.in-Ok.answer.status
    (g.S.Sink.written c.args.out.now) (g.S.Sink.written c.write_all.new.out)
    (ends_whole (g.K.Keeper.told c.args.files.now) c.args.words.now c.in-Ok.answer.status c.in-Ok.answer.text
    (g.S.Sink.written c.args.out.now) (g.S.Sink.written c.write_all.new.out) c.in-Ok.ensures.answer
    (c.in-Ok-write_all.ensures.whole ∙ ap (append_known (g.S.Sink.written c.args.out.now)) c.as_slice.ensures))

pub returns-in-Ok-write_all-clause-cut : goal.returns-in-Ok-write_all-clause-cut
returns-in-Ok-write_all-clause-cut g c =
    not_cut (g.K.Keeper.told c.args.files.now) c.args.words.now c.in-Ok.answer.status c.in-Ok.answer.text c.in-Ok.ensures.answer

pub returns-clause-cut : goal.returns-clause-cut
returns-clause-cut g c = λ _. (
  c.in-Ok.answer.status,
  c.in-Ok.answer.text,
  c.in-Ok.ensures.answer,
  subst (λ (t : List ℕ). AddsPart (g.S.Sink.written c.args.out.now) (g.S.Sink.written c.write_all.new.out) t) c.as_slice.ensures c.in-Err.ensures.part,
  c.in-Ok.ensures.fault,
)

pub returns-in-Ok-write_all-clause-write_fault : goal.returns-in-Ok-write_all-clause-write_fault
returns-in-Ok-write_all-clause-write_fault g c =
    not_cut (g.K.Keeper.told c.args.files.now) c.args.words.now c.in-Ok.answer.status c.in-Ok.answer.text c.in-Ok.ensures.answer
