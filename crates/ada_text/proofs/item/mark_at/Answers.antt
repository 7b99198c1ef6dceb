use Rattle.std.proofs.Common.{◌≡◌, ◌≤◌, ◌∙◌, length, subst, sym}
use Rattle.std.specs.Prelude.{IfSome, Option, slice_index}
use Rattle.ada_text.specs.declared.item.Item.{Item}
use Rattle.ada_text.specs.Delimiters.{mark_at}
use Rattle.ada_text.proofs.Marks.{mark_told, mark_within}
use Rattle.ada_text.proofs.Reading.{both, mark_moves}
use Rattle.ada_text.proofs.item.mark_at.Goals as goal

pub returns-clause-value : goal.returns-clause-value
returns-clause-value c =
    let first : c.byte_at.result ≡ slice_index c.args.bytes.now 0 = c.byte_at.ensures.value in
    let second : c.byte_at-2.result ≡ slice_index c.args.bytes.now 1 = c.byte_at-2.ensures.value in
    c.mark_by.ensures ∙ rw (first, second) (mark_told c.args.bytes.now)

pub returns-clause-within : goal.returns-clause-within
returns-clause-within c =
    let first : c.byte_at.result ≡ slice_index c.args.bytes.now 0 = c.byte_at.ensures.value in
    let second : c.byte_at-2.result ≡ slice_index c.args.bytes.now 1 = c.byte_at-2.ensures.value in
    let same : c.mark_by.result ≡ mark_at c.args.bytes.now = c.mark_by.ensures ∙ rw (first, second) (mark_told c.args.bytes.now) in
    subst (λ (r : Option Item). IfSome r (λ i. (1 ≤ i.length) × (i.length ≤ length c.args.bytes.now))) (sym same) (both (mark_at c.args.bytes.now) (length c.args.bytes.now) (mark_moves c.args.bytes.now) (mark_within c.args.bytes.now))
