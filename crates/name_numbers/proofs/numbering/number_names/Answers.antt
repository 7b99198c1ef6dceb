use Rattle.std.proofs.Common.{◌≡◌, ℕ, ◌+◌, List, [], ◌∷◌, ◌++◌, length, map, take, get_or, refl, sym, ap, ◌∙◌, subst, arith, Bor}
use Rattle.std.specs.Str.{str_to_ascii_lowercase}
use Rattle.std.proofs.lemmas.List.{map_more, take_all}
use Rattle.std.proofs.lemmas.List.Sums.{sum_by_more_le}
use Rattle.name_library.specs.declared.events.Ident.{Ident}
use Rattle.name_numbers.specs.Numbers.{identifiers, known_names, numbered, words}
use Rattle.name_numbers.specs.Places.{Reads, SoFar, lower_cased, names_so_far}
use Rattle.name_numbers.proofs.SoFar.{all, lower_at, none, one_more, sum_now}
use Rattle.name_numbers.proofs.numbering.number_names.Goals as goal

abbrev no_text : Bor (List ℕ)
no_text = record { ref_ptr = (0, 0); now = [] }

counted : length known_names ≡ 56
unfolding known_names words
counted = refl

lower : lower_cased known_names ≡ known_names
unfolding known_names words
lower = refl

pub loop-at-init : goal.loop-at-init
loop-at-init c =
    subst (λ (found : List (List Ident)). SoFar c.in_ok-places.places [] 56 found) (sym c.new-tables.ensures) (none c.in_ok-places.places 56 counted lower c.in_ok-places.ensures)

pub idents_in-requires-clause-same : goal.idents_in-requires-clause-same
idents_in-requires-clause-same c = c.as_slice-lower.ensures ∙ lower_at c.args.texts.now c.loop-at.at c.as_slice.result.now c.index-as_slice-at.result no_text (c.as_slice.ensures ∙ c.in_ok-folded.ensures) c.loop-at-test.true c.index-as_slice-at.is

pub idents_in-requires-clause-few : goal.idents_in-requires-clause-few
idents_in-requires-clause-few c =
    omega (arith, counted, c.loop-at.invariant.few, sum_now (take c.loop-at.at c.args.texts.now), sum_by_more_le (λ (t : Bor (List ℕ)). length t.now) c.args.texts.now c.loop-at.at no_text c.loop-at-test.true, c.requires)

pub overflow_add-count-in-loop-at : goal.overflow_add-count-in-loop-at
overflow_add-count-in-loop-at c =
    omega (arith, counted, c.loop-at.invariant.few, c.in_ok-idents.ensures.few, sum_now (take c.loop-at.at c.args.texts.now), sum_by_more_le (λ (t : Bor (List ℕ)). length t.now) c.args.texts.now c.loop-at.at no_text c.loop-at-test.true, c.requires)

pub loop-at-preserved : goal.loop-at-preserved
loop-at-preserved c =
    let texts = c.args.texts.now in
    let text = (get_or texts c.loop-at.at no_text).now in
    let done = map (λ (t : Bor (List ℕ)). t.now) (take c.loop-at.at texts) in
    let idents = c.in_ok-idents.idents in
    let more : done ++ text ∷ [] ≡ map (λ (t : Bor (List ℕ)). t.now) (take (c.loop-at.at + 1) texts) = sym (map_more (λ (t : Bor (List ℕ)). t.now) texts c.loop-at.at no_text c.loop-at-test.true) in
    let n = c.idents_in.new.places in
    let pushed : c.push.new.self ≡ c.loop-at.tables ++ idents ∷ [] = c.in_ok-push.ensures.ok ∙ ap (λ (is : List Ident). c.loop-at.tables ++ is ∷ []) c.new.ensures in
    let folded : c.as_slice-lower.result.now ≡ str_to_ascii_lowercase text = c.as_slice-lower.ensures ∙ lower_at c.args.texts.now c.loop-at.at c.as_slice.result.now c.index-as_slice-at.result no_text (c.as_slice.ensures ∙ c.in_ok-folded.ensures) c.loop-at-test.true c.index-as_slice-at.is in
    let reads = subst (λ (f : List ℕ). Reads (names_so_far done) f (identifiers text) n idents) folded (c.in_ok-idents.ensures.names (names_so_far done) c.loop-at.invariant.names c.loop-at.invariant.counted) in
    let next : SoFar n (done ++ text ∷ []) (c.loop-at.count + length idents) (c.loop-at.tables ++ idents ∷ []) = one_more c.loop-at.places n done c.loop-at.count c.loop-at.tables text idents c.loop-at.invariant reads c.in_ok-idents.ensures.few in
    subst (λ (ts : List (List ℕ)). SoFar n ts (c.loop-at.count + c.len.result) c.push.new.self) more (
    subst (λ (found : List (List Ident)). SoFar n (done ++ text ∷ []) (c.loop-at.count + c.len.result) found) (sym pushed) (
    subst (λ (k : ℕ). SoFar n (done ++ text ∷ []) (c.loop-at.count + k) (c.loop-at.tables ++ idents ∷ [])) (sym c.len.ensures) next
    )
    )

pub returns : goal.returns
returns c =
    let texts = c.args.texts.now in
    let whole : take c.loop-at.at texts ≡ texts = take_all c.loop-at.at texts (omega arith) in
    all c.loop-at.places _ c.loop-at.count c.loop-at.tables c.loop-at.invariant ∙ ap (λ (ts : List (Bor (List ℕ))). numbered (map (λ (t : Bor (List ℕ)). t.now) ts)) whole
