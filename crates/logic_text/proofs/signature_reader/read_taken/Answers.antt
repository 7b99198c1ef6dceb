use Rattle.std.proofs.Common.{◌≡◌, refl, sym, ◌∙◌, ap, ℕ, List, [], ◌∷◌, ◌++◌, drop, lit<, arith}
use Rattle.term_reader.specs.Sorts.{kind_text}
use Rattle.logic_terms.specs.Sorts.{sort}
use Rattle.term_reader.specs.Bytes.{first}
use Rattle.term_reader.proofs.Fronts.{first_is}
use Rattle.logic_text.proofs.Signatures.{argument_text, argument_on, answer_on, taken_bad, mark_bad}
use Rattle.logic_text.proofs.signature_reader.read_taken.Goals as goal

pub returns-in-Err-clause-fault : goal.returns-in-Err-clause-fault
returns-in-Err-clause-fault c = taken_bad c.args.bytes.now c.args.at c.in-Err.fault c.in-Err.ensures.fault

pub returns-in-Ok-push-clause-ok : goal.returns-in-Ok-push-clause-ok
returns-in-Ok-push-clause-ok c =
    let r = c.in-Ok.ensures.ok in
    let to = c.in-Ok.read.to in
    let b : first (drop to c.args.bytes.now) ≡ 32 = sym c.byte_at-byte.ensures ∙ c.if-byte-eq32.true in
    let f = first_is c.args.bytes.now to 32 b (lit< tt) in
    let l = f.0 in
    let m = r.before in record {
      before = omega arith;
      inside = omega arith;
      text = argument_text c.args.arguments.now _ _ c.args.bytes.now c.args.at to (c.in-Ok-push.ensures.ok ∙ ap (λ s. c.args.arguments.now ++ s ∷ []) c.into_inner.ensures) f.1 r;
      on = argument_on (sort c.in-Ok.read.sort) c.args.bytes.now c.args.at to r f.1;
    }

pub returns-then-byte-eq41-clause-ok : goal.returns-then-byte-eq41-clause-ok
returns-then-byte-eq41-clause-ok c =
    let r = c.in-Ok.ensures.ok in
    let to = c.in-Ok.read.to in
    let b : first (drop to c.args.bytes.now) ≡ 41 = sym c.byte_at-byte.ensures ∙ c.if-byte-eq41.true in
    let f = first_is c.args.bytes.now to 41 b (lit< tt) in
    let l = f.0 in
    let m = r.before in record {
      before = omega arith;
      inside = omega arith;
      same = refl;
      text = r.text ∙ ap (λ (x : List ℕ). kind_text (sort c.in-Ok.read.sort) ++ x) f.1;
      on = answer_on (sort c.in-Ok.read.sort) c.args.bytes.now c.args.at to r f.1;
    }

pub returns-else-byte-eq41-clause-fault : goal.returns-else-byte-eq41-clause-fault
returns-else-byte-eq41-clause-fault c =
    mark_bad (sort c.in-Ok.read.sort) c.args.bytes.now c.args.at c.in-Ok.read.to c.in-Ok.ensures.ok
    (λ e. c.if-byte-eq32.false (c.byte_at-byte.ensures ∙ e))
    (λ e. c.if-byte-eq41.false (c.byte_at-byte.ensures ∙ e))
