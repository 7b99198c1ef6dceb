use Rattle.std.proofs.Common.{rules, ◌≡◌, ap, ◌∙◌, length, get_or, arith}
use Rattle.std.specs.Prelude.{slice_set}
use Rattle.shared_items.proofs.Chunks.{list_within, list_from, map_ok}
use Rattle.shared_items.proofs.shared.Shared+Shared+T.set_within.Goals as goal

pub index_mut-requires : goal.index_mut-requires
index_mut-requires g c =
    let w = list_within c.args.self.now c.args.list c.args.at c.requires in
    let e : length c.in-Some.lists.now.items ≡ length c.args.self.now = ap (λ v. length v.items) c.in-Some.ensures.value ∙ ap length c.self.view_is in
    omega (arith, w, e, c.in-Some.lists.now.ok.0)

pub set-requires : goal.set-requires
set-requires g c =
    let w = list_within c.args.self.now c.args.list c.args.at c.requires in
    let i : c.in-Some.lists.now.items ≡ c.args.self.now = ap (λ v. v.items) c.in-Some.ensures.value ∙ c.self.view_is in
    let f = c.index_mut.ensures.value ∙ ap (λ xs. get_or xs c.args.list c.index_mut.result.now) i ∙ list_from c.args.self.now c.args.list c.index_mut.result.now w in
    let e = ap length f in omega (arith, e, c.requires)

pub returns-in-Some-clause-ok : goal.returns-in-Some-clause-ok
returns-in-Some-clause-ok g c =
    let w = list_within c.args.self.now c.args.list c.args.at c.requires in
    let i : c.in-Some.lists.now.items ≡ c.args.self.now = ap (λ v. v.items) c.in-Some.ensures.value ∙ c.self.view_is in
    let f = c.index_mut.ensures.value ∙ ap (λ xs. get_or xs c.args.list c.index_mut.result.now) i ∙ list_from c.args.self.now c.args.list c.index_mut.result.now w in
    map_ok c.set.result
    (λ e. ap (λ xs. slice_set xs c.args.list c.set.new.self) i ∙ ap (slice_set c.args.self.now c.args.list) (e ∙ ap (λ l. slice_set l c.args.at c.args.item) f))
    c.set.ensures.ok

pub index_mut-requires-2 : goal.index_mut-requires-2
index_mut-requires-2 g c =
    let w = list_within c.args.self.now c.args.list c.args.at c.requires in
    let i : c.in_ok-lists.lists.items ≡ c.args.self.now = search rules in
    let e = ap length i in
    omega (arith, w, e, c.in_ok-lists.lists.ok.0)

pub set-requires-2 : goal.set-requires-2
set-requires-2 g c =
    let w = list_within c.args.self.now c.args.list c.args.at c.requires in
    let i : c.in_ok-lists.lists.items ≡ c.args.self.now = search rules in
    let f = c.index_mut-2.ensures.value ∙ ap (λ xs. get_or xs c.args.list c.index_mut-2.result.now) i ∙ list_from c.args.self.now c.args.list c.index_mut-2.result.now w in
    let e = ap length f in omega (arith, e, c.requires)

pub returns-clause-ok : goal.returns-clause-ok
returns-clause-ok g c =
    let w = list_within c.args.self.now c.args.list c.args.at c.requires in
    let i : c.in_ok-lists.lists.items ≡ c.args.self.now = search rules in
    let f = c.index_mut-2.ensures.value ∙ ap (λ xs. get_or xs c.args.list c.index_mut-2.result.now) i ∙ list_from c.args.self.now c.args.list c.index_mut-2.result.now w in
    ap (λ v. v.items) c.in_ok-self-inside.ensures.ok ∙ ap (λ xs. slice_set xs c.args.list c.set-2.new.self) i
    ∙ ap (slice_set c.args.self.now c.args.list) (c.in_ok-set.ensures.ok ∙ ap (λ l. slice_set l c.args.at c.args.item) f)
