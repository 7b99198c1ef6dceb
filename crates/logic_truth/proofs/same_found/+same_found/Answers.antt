use Rattle.std.proofs.Common.{◌≡◌, ◌∙◌, ap, subst, sym, arith, of_z, ◌<◌, ◌≤◌, length}
use Rattle.std.specs.Int.{w128}
use Rattle.std.proofs.lemmas.Int.{ints}
use Rattle.std.specs.Prelude.{IfOk}
use Rattle.logic_terms.specs.Meaning.{first, last}
use Rattle.logic_truth.specs.Found.{found}
use Rattle.logic_truth.specs.Size.{size, sizes}
use Rattle.logic_truth.proofs.Alike.{alike_at, other_first, other_last}
use Rattle.logic_truth.proofs.Fields.{fields_lengths, size_at}
use Rattle.logic_truth.proofs.Whole.{found_whole}
use Rattle.logic_truth.proofs.same_found.+same_found.Goals as goal

pub same_array-returns-then-first_of : goal.same_array-returns-then-first_of
same_array-returns-then-first_of t c =
    sym (other_first (found c.args.a.now) (found c.args.b.now) c.requires.first c.requires.second
    (λ e. c.if-first_of.true (ap (of_z w128) (c.first_of.ensures ∙ e ∙ sym c.first_of-2.ensures))))

pub same_array-returns-then-last_of : goal.same_array-returns-then-last_of
same_array-returns-then-last_of t c =
    sym (other_last (found c.args.a.now) (found c.args.b.now) c.requires.first c.requires.second
    (λ e. c.if-last_of.true (ap (of_z w128) (c.last_of.ensures ∙ e ∙ sym c.last_of-2.ensures))))

pub same_array-returns : goal.same_array-returns
same_array-returns t c =
    let a = found c.args.a.now in
    let b = found c.args.b.now in
    let f : c.first_of.result ≡ c.first_of-2.result = omega (arith, ints) in
    let l : c.last_of.result ≡ c.last_of-2.result = omega (arith, ints) in
    let first_is : first a ≡ first b = sym c.first_of.ensures ∙ f ∙ c.first_of-2.ensures in
    let last_is : last a ≡ last b = sym c.last_of.ensures ∙ l ∙ c.last_of-2.ensures in
    let kind = sym c.in_ok-has_same_kind.ensures ∙ c.if-not-branch.false in
    subst (λ x. IfOk c.same_at.result (λ r. r ≡ x))
    (alike_at a b c.in_ok-places.places c.requires.first c.requires.second (found_whole c.args.a.now) (found_whole c.args.b.now) first_is last_is kind c.in_ok-places.ensures)
    c.same_at.ensures

pub same_fields-returns-then-len : goal.same_fields-returns-then-len
same_fields-returns-then-len t c =
    sym (fields_lengths c.args.a.now c.args.b.now (λ e. c.if-len.true (c.len.ensures ∙ e ∙ sym c.len-2.ensures)))

pub same_fields-same_found-requires : goal.same_fields-same_found-requires
same_fields-same_found-requires t c =
    let items = c.as_slice.result.now in
    let e : sizes items ≡ sizes c.args.a.now = ap sizes c.as_slice.ensures in
    let n : length items ≡ length c.args.a.now = ap length c.as_slice.ensures in
    let h : c.loop-i.i < length items = omega arith in
    let s : size c.index-as_slice-i.result ≤ sizes items = size_at items c.loop-i.i c.index-as_slice-i.result h c.index-as_slice-i.is in
    (omega (arith, s, e), tt)
