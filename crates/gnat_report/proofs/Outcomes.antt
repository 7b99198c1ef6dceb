-- What a row says of its site tells the kind of check and the status.
use Rattle.std.proofs.Common.{◌≡◌, refl, sym, ◌∙◌, ap, arith, get_or, ℕ, true, List, [], ◌∷◌, ◌++◌, map, Option, Some}
use Rattle.std.specs.List.{find}
use Rattle.std.specs.Str.{bytes_eq}
use Rattle.typed_units.specs.declared.checks.CheckKind.{CheckKind}
use Rattle.typed_units.specs.declared.checks.CheckKind.TheVariants.{Overflow, Range, Index, Division, Pre, Post, Assert, Assume, InvFirst, InvKept, Variant}
use Rattle.gnat_report.specs.declared.rows.RowStatus.{RowStatus}
use Rattle.gnat_report.specs.declared.rows.RowStatus.TheVariants.{Proved, Assumed, Unproved}
use Rattle.gnat_report.specs.Text.{words_of, severity_of, outcome_of, outcome_text}
use Rattle.gnat_report.proofs.Bytes.{Lacks, lacks, Lacks-from_test, Lacks-append}

-- ---- the outcome of a text
kinds : List CheckKind
kinds =
    Overflow ∷ Range ∷ Index ∷ Division ∷ Pre ∷ Post ∷ Assert ∷ Assume ∷ InvFirst ∷ InvKept ∷ Variant ∷ []

outcomes : List (CheckKind × RowStatus)
unfolding kinds
outcomes = map (λ k. (k, Proved)) kinds ++ (map (λ k. (k, Assumed)) kinds ++ map (λ k. (k, Unproved)) kinds)

read : List ℕ → Option (CheckKind × RowStatus)
read text = find (λ o. bytes_eq (outcome_text o.0 o.1) text) outcomes

abbrev ReadsAs : CheckKind → RowStatus → Type 0
ReadsAs kind status = read (outcome_text kind status) ≡ Some (kind, status)

abbrev ReadsBack : CheckKind → Type 0
ReadsBack kind = ReadsAs kind Proved × ReadsAs kind Assumed × ReadsAs kind Unproved

reads_back : (kind : CheckKind) → ReadsBack kind
unfolding kinds outcomes read
reads_back Overflow = (refl, refl, refl)
reads_back Range = (refl, refl, refl)
reads_back Index = (refl, refl, refl)
reads_back Division = (refl, refl, refl)
reads_back Pre = (refl, refl, refl)
reads_back Post = (refl, refl, refl)
reads_back Assert = (refl, refl, refl)
reads_back Assume = (refl, refl, refl)
reads_back InvFirst = (refl, refl, refl)
reads_back InvKept = (refl, refl, refl)
reads_back Variant = (refl, refl, refl)

reads_as : (kind : CheckKind) (status : RowStatus) → ReadsAs kind status
reads_as kind Proved = (reads_back kind).0
reads_as kind Assumed = (reads_back kind).1
reads_as kind Unproved = (reads_back kind).2

pub outcome_text-injective : (k l : CheckKind) (s t : RowStatus) → outcome_text k s ≡ outcome_text l t → (k ≡ l) × (s ≡ t)
outcome_text-injective k l s t e =
    let ks : CheckKind × RowStatus = (k, s) in
    let lt : CheckKind × RowStatus = (l, t) in
    let same : Some ks ≡ Some lt = sym (reads_as k s) ∙ ap read e ∙ reads_as l t in
    let pair : ks ≡ lt = cc in
    (ap (λ p. p.0) pair, ap (λ p. p.1) pair)

-- ---- no line feed
words_lack : (kind : CheckKind) → lacks 10 (words_of kind) ≡ true
words_lack Overflow = refl
words_lack Range = refl
words_lack Index = refl
words_lack Division = refl
words_lack Pre = refl
words_lack Post = refl
words_lack Assert = refl
words_lack Assume = refl
words_lack InvFirst = refl
words_lack InvKept = refl
words_lack Variant = refl

severity_lacks : (status : RowStatus) → lacks 10 (severity_of status) ≡ true
severity_lacks Proved = refl
severity_lacks Assumed = refl
severity_lacks Unproved = refl

outcome_lacks : (status : RowStatus) → lacks 10 (outcome_of status) ≡ true
outcome_lacks Proved = refl
outcome_lacks Assumed = refl
outcome_lacks Unproved = refl

pub outcome_text_lacks : (kind : CheckKind) (status : RowStatus) → Lacks 10 (outcome_text kind status)
outcome_text_lacks kind status =
    let end = Lacks-from_test 10 (32 ∷ outcome_of status) (outcome_lacks status) in
    let kind_on = Lacks-append 10 (words_of kind) (32 ∷ outcome_of status) (Lacks-from_test 10 (words_of kind) (words_lack kind)) end in
    let colon_on = Lacks-append 10 (58 ∷ 32 ∷ []) (words_of kind ++ (32 ∷ outcome_of status)) (Lacks-from_test 10 (58 ∷ 32 ∷ []) refl) kind_on in
    Lacks-append 10 (severity_of status) (58 ∷ 32 ∷ (words_of kind ++ (32 ∷ outcome_of status)))
    (Lacks-from_test 10 (severity_of status) (severity_lacks status)) colon_on

-- ---- no error
pub outcome_is_no_error : (kind : CheckKind) (status : RowStatus) (rest : List ℕ) → outcome_text kind status ≡ 101 ∷ rest → ⊥
outcome_is_no_error kind Proved rest e = let h : 105 ≡ 101 = ap (λ t. get_or t 0 0) e in omega (arith, h)
outcome_is_no_error kind Assumed rest e = let h : 105 ≡ 101 = ap (λ t. get_or t 0 0) e in omega (arith, h)
outcome_is_no_error kind Unproved rest e = let h : 109 ≡ 101 = ap (λ t. get_or t 0 0) e in omega (arith, h)
