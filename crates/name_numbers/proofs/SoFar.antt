-- The numbering of one text after another.
use Rattle.std.proofs.Common.{◌≡◌, ℕ, ◌+◌, ◌-◌, ◌<◌, ◌≤◌, List, [], ◌∷◌, ◌++◌, length, map, take, drop, get_or, refl, sym, ap, ◌∙◌, subst, append_assoc, append-nil, length-append, arith, Bor}
use Rattle.std.specs.Prelude.{if◌then◌else◌}
use Rattle.std.specs.List.{sum_by}
use Rattle.std.specs.Char.{to_ascii_lowercase}
use Rattle.std.specs.Str.{bytes_eq, str_to_ascii_lowercase}
use Rattle.std.specs.BTreeMap.{BTreeMap}
use Rattle.std.proofs.lemmas.List.Sums.{sum_by-append, sum_by-cons}
use Rattle.std.proofs.lemmas.List.{drop-map, get_or-map, get_or_read, length-map, map-append, take-map}
use Rattle.ada_text.specs.declared.token.Span.{Span}
use Rattle.name_library.specs.declared.events.Ident.{Ident}
use Rattle.name_numbers.specs.Numbers.{ident_by, identifiers, known_names, names_in, number_of, numbered, numbered_by, text_at}
use Rattle.name_numbers.specs.Places.{Knows, Reads, SoFar, lower_cased, names_so_far, numbered_as, place, placed}

-- ---- lower case

text_lower : (text : List ℕ) (s : Span) → str_to_ascii_lowercase (text_at text s) ≡ text_at (str_to_ascii_lowercase text) s
text_lower text s =
    sym (take-map to_ascii_lowercase (s.to - s.from) (drop s.from text)) ∙ ap (take (s.to - s.from)) (sym (drop-map to_ascii_lowercase s.from text))

texts_lower : (text : List ℕ) (spans : List Span) → lower_cased (map (text_at text) spans) ≡ map (text_at (str_to_ascii_lowercase text)) spans
texts_lower text [] = refl
texts_lower text (s ∷ spans) = λ j. text_lower text s j ∷ texts_lower text spans j

number_lower : (names : List (List ℕ)) (text : List ℕ) → place (lower_cased names) (str_to_ascii_lowercase text) ≡ number_of names text
number_lower [] text = refl
number_lower (n ∷ names) text = ap (λ k. if bytes_eq (str_to_ascii_lowercase text) (str_to_ascii_lowercase n) then 0 else 1 + k) (number_lower names text)

ident_lower : (names : List (List ℕ)) (text : List ℕ) (s : Span) → placed (lower_cased names) (str_to_ascii_lowercase text) s ≡ ident_by names text s
ident_lower names text s =
    let e : place (lower_cased names) (text_at (str_to_ascii_lowercase text) s) ≡ number_of names (text_at text s) = ap (place (lower_cased names)) (sym (text_lower text s)) ∙ number_lower names (text_at text s) in
    λ j. record { name = e j; at = s.from }

idents_lower : (names : List (List ℕ)) (text : List ℕ) (spans : List Span) → map (placed (lower_cased names) (str_to_ascii_lowercase text)) spans ≡ map (ident_by names text) spans
idents_lower names text [] = refl
idents_lower names text (s ∷ spans) = λ j. ident_lower names text s j ∷ idents_lower names text spans j

all_lower : (names : List (List ℕ)) (texts : List (List ℕ)) → map (numbered_as (lower_cased names)) texts ≡ map (numbered_by names) texts
all_lower names [] = refl
all_lower names (t ∷ texts) = λ j. idents_lower names t (identifiers t) j ∷ all_lower names texts j

-- ---- one text more

names_append : (texts : List (List ℕ)) (text : List ℕ) → names_in (texts ++ text ∷ []) ≡ names_in texts ++ map (text_at text) (identifiers text)
names_append [] text = append-nil (map (text_at text) (identifiers text))
names_append (t ∷ texts) text =
    ap (λ ns. map (text_at t) (identifiers t) ++ ns) (names_append texts text)
    ∙ sym (append_assoc (map (text_at t) (identifiers t)) (names_in texts) (map (text_at text) (identifiers text)))

so_far_append : (texts : List (List ℕ)) (text : List ℕ) → names_so_far (texts ++ text ∷ []) ≡ names_so_far texts ++ map (text_at (str_to_ascii_lowercase text)) (identifiers text)
so_far_append texts text =
    ap (λ ns. lower_cased (known_names ++ ns)) (names_append texts text)
    ∙ ap lower_cased (sym (append_assoc known_names (names_in texts) (map (text_at text) (identifiers text))))
    ∙ map-append str_to_ascii_lowercase (known_names ++ names_in texts) (map (text_at text) (identifiers text))
    ∙ ap (λ ns. names_so_far texts ++ ns) (texts_lower text (identifiers text))

pub sum_now : (texts : List (Bor (List ℕ))) → sum_by length (map (λ t. t.now) texts) ≡ sum_by (λ t. length t.now) texts
sum_now [] = refl
sum_now (t ∷ texts) =
    sum_by-cons (length {A = ℕ}) t.now (map (λ t. t.now) texts) ∙ ap (λ n. length t.now + n) (sum_now texts) ∙ sym (sum_by-cons (λ (t : Bor (List ℕ)). length t.now) t texts)

sum_append : (texts : List (List ℕ)) (text : List ℕ) → sum_by length (texts ++ text ∷ []) ≡ sum_by length texts + length text
sum_append texts text = omega (arith, sum_by-append (length {A = ℕ}) texts (text ∷ []), sum_by-cons (length {A = ℕ}) text [])

pub none : (m : BTreeMap (Bor (List ℕ)) ℕ) (count : ℕ) → length known_names ≡ count → lower_cased known_names ≡ known_names → Knows m known_names → SoFar m [] count []
none m count counted lower knows =
    let same : names_so_far [] ≡ known_names = ap lower_cased (append-nil known_names) ∙ lower in
    record {
      counted = ap (length {A = List ℕ}) same ∙ counted;
      few = omega arith;
      names = subst (λ (ns : List (List ℕ)). Knows m ns) (sym same) knows;
      numbered = λ more. refl;
    }

pub one_more : (m n : BTreeMap (Bor (List ℕ)) ℕ) (texts : List (List ℕ)) (count : ℕ) (found : List (List Ident)) (text : List ℕ) (idents : List Ident) → SoFar m texts count found → Reads (names_so_far texts) (str_to_ascii_lowercase text) (identifiers text) n idents → length idents ≤ length text → SoFar n (texts ++ text ∷ []) (count + length idents) (found ++ idents ∷ [])
one_more m n texts count found text idents before reads few =
    let folded = str_to_ascii_lowercase text in
    let new = map (text_at folded) (identifiers text) in
    let same : names_so_far (texts ++ text ∷ []) ≡ names_so_far texts ++ new = so_far_append texts text in
    let as_many : length idents ≡ length new = ap (length {A = Ident}) (reads.1 []) ∙ length-map (identifiers text) (placed ((names_so_far texts ++ new) ++ []) folded) ∙ sym (length-map (identifiers text) (text_at folded)) in
    record {
      counted = ap (length {A = List ℕ}) same ∙ length-append (names_so_far texts) new ∙ (λ j. before.counted j + sym as_many j);
      few = omega (arith, before.few, sum_append texts text);
      names = subst (λ (ns : List (List ℕ)). Knows n ns) (sym same) reads.0;
      numbered = λ more.
          let after : names_so_far (texts ++ text ∷ []) ++ more ≡ names_so_far texts ++ (new ++ more) = ap (λ ns. ns ++ more) same ∙ append_assoc (names_so_far texts) new more in
          let front : found ≡ map (numbered_as (names_so_far (texts ++ text ∷ []) ++ more)) texts = before.numbered (new ++ more) ∙ ap (λ ns. map (numbered_as ns) texts) (sym after) in
          let last : idents ≡ numbered_as (names_so_far (texts ++ text ∷ []) ++ more) text = reads.1 more ∙ ap (λ ns. numbered_as (ns ++ more) text) (sym same) in
          (λ j. front j ++ last j ∷ []) ∙ sym (map-append (numbered_as (names_so_far (texts ++ text ∷ []) ++ more)) texts (text ∷ []));
    }

pub all : (m : BTreeMap (Bor (List ℕ)) ℕ) (texts : List (List ℕ)) (count : ℕ) (found : List (List Ident)) → SoFar m texts count found → found ≡ numbered texts
all m texts count found so_far =
    so_far.numbered [] ∙ ap (λ ns. map (numbered_as ns) texts) (append-nil (names_so_far texts)) ∙ all_lower (known_names ++ names_in texts) texts

-- the text in lower case at a place
pub lower_at : (texts : List (Bor (List ℕ))) (at : ℕ) (all : List (List ℕ)) (found : List ℕ) (d : Bor (List ℕ)) → all ≡ lower_cased (map (λ t. t.now) texts) → at < length texts → found ≡ get_or all at found → found ≡ str_to_ascii_lowercase (get_or texts at d).now
lower_at texts at all found d e h is =
    let plain = map (λ (t : Bor (List ℕ)). t.now) texts in
    let within : at < length plain = omega (arith, length-map texts (λ (t : Bor (List ℕ)). t.now)) in
    let inside : at < length all = omega (arith, ap (length {A = List ℕ}) e, length-map plain str_to_ascii_lowercase) in
    get_or_read all at found inside is []
    ∙ ap (λ (xs : List (List ℕ)). get_or xs at []) e ∙ get_or-map str_to_ascii_lowercase plain at [] [] within
    ∙ ap str_to_ascii_lowercase (get_or-map (λ (t : Bor (List ℕ)). t.now) texts at d [] h)
