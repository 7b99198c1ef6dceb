use Rattle.std.proofs.Common.{◌≡◌, ◌-◌, ◌≤◌, ℕ, List, length, take, drop, ap, ◌∙◌, arith, length-drop}
use Rattle.std.proofs.lemmas.List.{take_rest}
use Rattle.std.specs.Io.KnownBytes.{append_known}
use Rattle.keeper_io.proofs.Written.{append_known-take}
use Rattle.keeper_io.proofs.sink.write_all.Goals as goal

-- the write added the next bytes of the piece
pub loop-done-preserved : goal.loop-done-preserved
loop-done-preserved g c =
    let piece : List ℕ = c.args.piece.now in
    let done : ℕ = c.loop-done.done in
    let count : ℕ = c.in_ok-done.field-0 in
    let rest : take (length piece - done) (drop done piece) ≡ drop done piece = take_rest piece done in
    let within : count ≤ length (drop done piece) = rw rest at c.in_ok-done.ensures.taken.0 in
    let added = rw rest at c.in_ok-done.ensures.bytes in (
      omega (arith, length-drop done piece, within),
      added
          ∙ ap (λ (told : _). append_known told (take count (drop done piece))) c.loop-done.invariant.1
          ∙ append_known-take (g.S.Sink.written c.args.out.now) piece done count,
      c.in_ok-done.ensures.cause.kept ∙ c.loop-done.invariant.2,
    )
