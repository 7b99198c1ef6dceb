use Rattle.std.proofs.Common.{◌≡◌, ℕ, List, map, ap, ◌∙◌, arith, Bor}
use Rattle.std.proofs.lemmas.List.{take_all}
use Rattle.name_resolver.specs.Resolved.{texts_of}
use Rattle.name_resolver.proofs.Placed.{same_sum}
use Rattle.name_resolver.proofs.files.tables_of.Goals as goal

pub number_names-requires : goal.number_names-requires
number_names-requires c =
    let all : map (λ (t : Bor (List ℕ)). t.now) c.as_slice-2.result.now ≡ texts_of c.args.files.now = ap (λ (ts : List (Bor (List ℕ))). map (λ (t : Bor (List ℕ)). t.now) ts) c.as_slice-2.ensures.value ∙ c.loop-file.invariant ∙ ap texts_of (take_all c.loop-file.file-index c.args.files.now c.loop-file-test.false) in
    omega (arith, same_sum c.args.files.now c.as_slice-2.result.now all, c.requires)
