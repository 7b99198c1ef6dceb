-- The order of a program's files leaves none out.
use Rattle.std.proofs.Common.{◌≡◌, ℕ, ◌∙◌, ap, subst, List, [], ◌∷◌, ◌++◌, length, Ok, arith}
use Rattle.std.specs.List.{AllByRecursion}
use Rattle.std.proofs.lemmas.List.{length-map}
use Rattle.name_library.specs.declared.events.Ident.{Ident}
use Rattle.name_library.specs.declared.links.Usage.{Usage}
use Rattle.name_library.specs.Library.{library}
use Rattle.name_library.specs.Chains.{IsFileOrder, order}
use Rattle.name_library.proofs.Joined.{HasUnit, whole_by_number}
use Rattle.name_numbers.specs.Numbers.{known_names, names_in, number_at, numbered, numbered_by}
use Rattle.name_events.proofs.Grown.{has_unit}
use Rattle.name_rules.specs.declared.program.Answer.{Answer}
use Rattle.name_rules.specs.declared.program.Answer.TheVariants as answered
use Rattle.name_rules.specs.Faults.{answer}
use Rattle.name_rules.proofs.Circles.{in_order}
use Rattle.name_resolver.specs.declared.files.SourceFile.{SourceFile}
use Rattle.name_resolver.specs.Resolved.{all_events, events_in, events_of, order_by, resolved_by, texts_of, told}
use Rattle.syntax_view.specs.View.{source_unit}

one_has : (table : List Ident) (f : SourceFile) → HasUnit (events_in table f)
unfolding events_in
one_has table f file = has_unit (number_at table) (source_unit f.unit) file

all_have : (tables : List (List Ident)) (fs : List SourceFile) → AllByRecursion HasUnit (all_events tables fs)
all_have [] fs = tt
all_have (t ∷ ts) [] = tt
all_have (t ∷ ts) (f ∷ fs) = (one_has t f, all_have ts fs)

as_many : (tables : List (List Ident)) (fs : List SourceFile) → length tables ≡ length fs → length (all_events tables fs) ≡ length fs
as_many [] fs h = h
as_many (t ∷ ts) [] h = absurd (omega (arith, h))
as_many (t ∷ ts) (f ∷ fs) h = let rest : length (all_events ts fs) ≡ length fs = as_many ts fs (omega (arith, h)) in omega (arith, rest)

events_count : (fs : List SourceFile) → length (events_of fs) ≡ length fs
events_count fs =
    let texts : length (texts_of fs) ≡ length fs = length-map fs (λ (f : SourceFile). f.text) in
    let tables : length (numbered (texts_of fs)) ≡ length (texts_of fs) = length-map (texts_of fs) (numbered_by (known_names ++ names_in (texts_of fs))) in
    as_many (numbered (texts_of fs)) fs (tables ∙ texts)

named : (fs : List SourceFile) (found : Answer) (us : List Usage) → told fs found ≡ Ok us → found ≡ answered.Named us
named fs (answered.Refused f) us h = absurd (let g : ⊥ = cc in g)
named fs (answered.Named vs) us h = let same : vs ≡ us = cc in ap answered.Named same

pub none_left_out : (fs : List SourceFile) (us : List Usage) → resolved_by fs (events_of fs) ≡ Ok us → IsFileOrder (library (events_of fs)) (length fs) (order_by (events_of fs))
unfolding resolved_by order_by
none_left_out fs us h =
    let ess = events_of fs in
    let is = in_order ess us (named fs (answer ess) us h) in
    subst (λ (count : ℕ). IsFileOrder (library ess) count (order (library ess))) (events_count fs) (whole_by_number ess (all_have (numbered (texts_of fs)) fs) is)
