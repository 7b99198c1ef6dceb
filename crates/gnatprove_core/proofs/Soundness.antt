-- A line that calls a check proved is the row of a site at which no run fails first.
use Rattle.std.proofs.Common.{◌≡◌, ◌≢◌, ℕ, zero, suc, ◌<◌, ◌-◌, ◌^◌, refl, ap, sym, subst, ◌∙◌, ◌⊎◌, inl, inr, Bool, true, false, Option, Some, None, List, [], ◌∷◌, ◌++◌, ◌+◌, map, take, length, arith, append_assoc}
use Rattle.std.proofs.lemmas.Bool.{leb-true}
use Rattle.std.proofs.lemmas.List.{append_cancel_left}
use Rattle.std.specs.Prelude.{not, ◌&&◌, ◌==◌, nat_le, codes, slice_index_or, Contains, All, if◌then◌else◌}
use Rattle.std.specs.List.{list_all}
use Rattle.std.specs.Str.{bytes_eq}
use Rattle.std.specs.Io.KnownBytes.{append_known}
use Rattle.typed_units.specs.declared.checks.CheckKind.{CheckKind}
use Rattle.typed_units.specs.declared.checks.SiteKey.{SiteKey}
use Rattle.ada_semantics.specs.Plain.{fails}
use Rattle.keeper_io.specs.Maps.{Map, entry_of}
use Rattle.ada_values.specs.declared.place.Place.{Place}
use Rattle.name_resolver.specs.declared.files.SourceFile.{SourceFile}
use Rattle.spark_reader.proofs.Only.{one_tree}
use Rattle.first_form.specs.declared.form.FirstForm.{FirstForm}
use Rattle.first_form.specs.declared.form.Assertion.{Assertion}
use Rattle.first_form.specs.Places.{first_unknown}
use Rattle.first_form.specs.Spelled.{IsInFile}
use Rattle.first_form.specs.Tree.{form_of}
use Rattle.first_form.proofs.InFile.{places_are_in_file}
use Rattle.form_prover.specs.declared.verdicts.Verdict.{Verdict}
use Rattle.form_prover.specs.declared.rows.Row as prover
use Rattle.logic_terms.specs.Node.{Node}
use Rattle.ada_semantics.specs.Outcome.{site}
use Rattle.typed_units.specs.declared.checks.CheckKind.TheVariants as kind
use Rattle.form_prover.specs.Formulas.{condition_node, input_nodes, row_among, verdicts_on}
use Rattle.form_prover.proofs.Exact.{one_worker_is}
use Rattle.form_prover.proofs.Sound.{rows_hold}
use Rattle.gnat_report.specs.declared.rows.Row.{Row}
use Rattle.gnat_report.specs.declared.rows.RowStatus.TheVariants as row
use Rattle.gnat_report.specs.Text.{place_text, row_line, report_text_of}
use Rattle.std.specs.Fmt.{decimal}
use Rattle.front_codes.specs.declared.codes.Code.{Code}
use Rattle.front_codes.specs.declared.codes.Code.TheVariants as code
use Rattle.front_codes.specs.declared.codes.Refusal.{Refusal}
use Rattle.front_codes.specs.Words.{word_of}
use Rattle.gnat_report.specs.Reading.{whole_lines, IsRowName, IsPlace, IsRow}
use Rattle.gnat_report.proofs.Bytes.{Lacks, Lacks-from_test, Lacks-from_All, Lacks-append}
use Rattle.gnat_report.proofs.Lines.{cut_in}
use Rattle.gnat_report.proofs.Numbers.{decimal_lacks_feed}
use Rattle.gnat_report.proofs.Parts.{error_lines_differ, fault_lines_differ}
use Rattle.gnat_report.proofs.Reports.{lines_read_back}
use Rattle.gnatprove_core.specs.declared.status.Status.{Status}
use Rattle.gnatprove_core.specs.declared.status.Status.TheVariants as status
use Rattle.gnatprove_core.specs.Words.{are_names, is_file_byte, is_file_name, files_of}
use Rattle.gnatprove_core.specs.Texts.{error_text, read_fault_text, limit_text}
use Rattle.gnatprove_core.specs.Answers.{row_status, row_in, rows_of, Reports, AnswersForm, AnswersFrom, AnswersGot, AnswersTree, AnswersTrees, AnswersRead, AnswersSized, AnswersNamed, Answers, Ends, most_source_bytes, name_at, source_bytes}
use Rattle.gnatprove_core.proofs.Ending.{short_one}
use Rattle.gnatprove_core.proofs.Only as Only
use Rattle.unit_front.specs.declared.files.NamedBytes.{NamedBytes}
use Rattle.form_prover.specs.Sound.{NeverFailsAt}
use Rattle.gnatprove_core.specs.Sound.{Accepted, CallsProved, IsSound}

-- ---- the name of a file

file_byte_is_no : (c d : ℕ) → is_file_byte d ≡ false → is_file_byte c ≡ true → c ≢ d
file_byte_is_no c d f t e = let g : is_file_byte c ≡ false = ap is_file_byte e ∙ f in cc

both : (a b : Bool) → (a && b) ≡ true → (a ≡ true) × (b ≡ true)
both true b h = (refl, h)
both false b h = cc

all_file_bytes : (cs : List ℕ) → list_all is_file_byte cs ≡ true → IsRowName cs
all_file_bytes [] h k d lt = absurd (omega arith)
all_file_bytes (c ∷ cs) h zero d lt =
    let e = both (is_file_byte c) (list_all is_file_byte cs) h in (file_byte_is_no c 58 refl e.0, file_byte_is_no c 10 refl e.0)
all_file_bytes (c ∷ cs) h (suc k) d lt =
    let e = both (is_file_byte c) (list_all is_file_byte cs) h in all_file_bytes cs e.1 k d (omega arith)

file_name_is_row_name : (name : List ℕ) → is_file_name name ≡ true → IsRowName name
file_name_is_row_name [] h = cc
file_name_is_row_name (c ∷ cs) h =
    let e = both (not (c == 45) && list_all is_file_byte (c ∷ cs)) (nat_le (length (c ∷ cs)) 255) h in
    let d = both (not (c == 45)) (list_all is_file_byte (c ∷ cs)) e.0 in
    all_file_bytes (c ∷ cs) d.1

is_named : (b c : Bool) (names : List (List ℕ)) (x : List (List ℕ)) → (if b && c then Some names else None) ≡ Some x → (names ≡ x) × (c ≡ true)
is_named true true names x h = let d : names ≡ x = cc in (d, refl)
is_named true false names x h = cc
is_named false c names x h = cc

file_is_named : (words : List (List ℕ)) (name : List ℕ) → files_of words ≡ Some (name ∷ []) → is_file_name name ≡ true
file_is_named [] name h = cc
file_is_named (w ∷ names) name h =
    let e = is_named (bytes_eq w (codes "prove")) (are_names names) names (name ∷ []) h in
    (both (is_file_name name) true (ap are_names (sym e.0) ∙ e.1)).0

-- ---- the rows of the report

-- an element of a list is one of the list that it was made from
pub record Made {A B : Type 0} (g : A → B) (xs : List A) (k : ℕ) (y : B) : Type 0 where
  pub from : A
  pub within : k < length xs
  pub there : slice_index_or xs k from ≡ from
  pub gives : g from ≡ y

made : {A B : Type 0} (g : A → B) (xs : List A) (k : ℕ) (y : B) → k < length (map g xs) → slice_index_or (map g xs) k y ≡ y → Made g xs k y
made g [] k y h e = absurd (omega arith)
made g (x ∷ xs) zero y h e = record { from = x; within = omega arith; there = refl; gives = e }
made g (x ∷ xs) (suc k) y h e =
    let m = made g xs k y (omega arith) e in
    record { from = m.from; within = (let w = m.within in omega arith); there = m.there; gives = m.gives }

same_site_key : (c d : SiteKey) → c.place.file ≡ d.place.file → c.place.line ≡ d.place.line → c.place.column ≡ d.place.column → c.kind ≡ d.kind → c ≡ d
same_site_key c d f l m k =
    ap (λ (x : ℕ). record { place = record { file = x; line = c.place.line; column = c.place.column }; kind = c.kind }) f
    ∙ ap (λ (x : ℕ). record { place = record { file = d.place.file; line = x; column = c.place.column }; kind = c.kind }) l
    ∙ ap (λ (x : ℕ). record { place = record { file = d.place.file; line = d.place.line; column = x }; kind = c.kind }) m
    ∙ ap (λ (x : CheckKind). record { place = d.place; kind = x }) k

status_proved : (b : Bool) → row_status b ≡ row.Proved → b ≡ true
status_proved true h = refl
status_proved false h = cc

same_default : {A : Type 0} (xs : List A) (k : ℕ) (d : A) → k < length xs → slice_index_or xs k (slice_index_or xs k d) ≡ slice_index_or xs k d
same_default [] k d h = absurd (omega arith)
same_default (x ∷ xs) zero d h = refl
same_default (x ∷ xs) (suc k) d h = same_default xs k d (omega arith)

take-all : (xs : List ℕ) → take (length xs) xs ≡ xs
take-all [] = refl
take-all (x ∷ xs) = ap (λ (ys : List ℕ). x ∷ ys) (take-all xs)

append-nil : (xs : List ℕ) → xs ++ [] ≡ xs
append-nil [] = refl
append-nil (x ∷ xs) = ap (λ (ys : List ℕ). x ∷ ys) (append-nil xs)

-- pragmas and operands stand in the one file
abbrev pub AreInFile : List Assertion → Type 0
AreInFile as' = All (λ a. IsInFile a.place × IsInFile a.left.place × IsInFile a.right.place) as'

-- a site of an assertion in the one file
pub record Placed (c : SiteKey) : Type 0 where
  pub at : Place
  pub there : IsInFile at
  pub site_is : c ≡ site at kind.Assert

verdict_placed : (ps : List (List ℕ)) (hs : List Node) (as' : List Assertion) → AreInFile as' → (k : ℕ) (v : Verdict)
    → k < length (verdicts_on ps hs as') → slice_index_or (verdicts_on ps hs as') k v ≡ v → Placed v.site
verdict_placed ps hs [] h k v i e = absurd (omega arith)
verdict_placed ps hs (a ∷ as') h zero v i e =
    let within : zero < suc (length as') = omega arith in
    record { at = a.left.place; there = (h zero a within).1; site_is = ap (λ (x : Verdict). x.site) (sym e) }
verdict_placed ps hs (a ∷ as') h (suc k) v i e =
    verdict_placed ps (hs ++ condition_node ps a ∷ []) as' (λ j d l. h (suc j) d (omega (arith, l))) k v (omega (arith, i)) e

row_placed : (f : FirstForm) → AreInFile f.assertions → (k : ℕ) (r : prover.Row) → k < length (rows_of f) → slice_index_or (rows_of f) k r ≡ r → Placed r.site
row_placed f inside k r h e =
    let hs = input_nodes (length f.params) 0 in
    let vs = verdicts_on f.params hs f.assertions in
    let m = made (row_among vs) vs k r (subst (λ (rs : List prover.Row). k < length rs) (one_worker_is f) h) (subst (λ (rs : List prover.Row). slice_index_or rs k r ≡ r) (one_worker_is f) e) in
    let p = verdict_placed f.params hs f.assertions inside k m.from m.within m.there in
    record { at = p.at; there = p.there; site_is = ap (λ (x : prover.Row). x.site) (sym m.gives) ∙ p.site_is }

is_place : (c : SiteKey) → Placed c → IsPlace c.place
is_place c p = record {
  line = let e = ap (λ (d : SiteKey). d.place.line) p.site_is in let l = p.there.line in rw e l;
  column = let e = ap (λ (d : SiteKey). d.place.column) p.site_is in let l = p.there.column in rw e l;
}

all_rows : (name : List ℕ) → IsRowName name → (f : FirstForm) → AreInFile f.assertions → All IsRow (map (row_in name) (rows_of f))
all_rows name n f inside k d h =
    let m = made (row_in name) (rows_of f) k (slice_index_or (map (row_in name) (rows_of f)) k d) h (same_default (map (row_in name) (rows_of f)) k d h) in
    subst (λ (x : Row). IsRow x) m.gives (record { name = n; place = is_place m.from.site (row_placed f inside k m.from m.within m.there) })

-- ---- a report

report_sound : (name : List ℕ) → IsRowName name → (f : FirstForm) → AreInFile f.assertions → (full : List ℕ) → full ≡ report_text_of (map (row_in name) (rows_of f))
    → (k : ℕ) (c : SiteKey) → c.place.file ≡ 0 → IsPlace c.place → CallsProved (take k full) name c → NeverFailsAt f c
report_sound name n f inside full e k c z place h params globals budget fit run =
    let rows = map (row_in name) (rows_of f) in
    let line : Row = record { name = name; key = c; status = row.Proved } in
    let a = lines_read_back rows line k (all_rows name n f inside) (record { name = n; place = place })
    (subst (λ (t : List ℕ). Contains (whole_lines (take k t)) (row_line line)) e h) in
    let m = made (row_in name) (rows_of f) a.0 a.1 a.2 a.3 in
    let said = a.4 in
    let there = row_placed f inside a.0 m.from m.within m.there in
    let key : m.from.site ≡ a.1.key = ap (λ (x : Row). x.key) m.gives in
    let file : m.from.site.place.file ≡ 0 = ap (λ (s : SiteKey). s.place.file) there.site_is ∙ there.there.file in
    let same : m.from.site ≡ c = same_site_key m.from.site c (file ∙ sym z)
    (ap (λ (s : SiteKey). s.place.line) key ∙ said.line) (ap (λ (s : SiteKey). s.place.column) key ∙ said.column) (ap (λ (s : SiteKey). s.kind) key ∙ said.kind) in
    let proved : m.from.proved ≡ true = status_proved m.from.proved (ap (λ (x : Row). x.status) m.gives ∙ said.status) in
    rows_hold f m.from (a.0, m.within, m.there) proved params globals budget fit (run ∙ ap fails (sym same))

-- ---- lines that stand in place of a report

sole : (line other : List ℕ) (k : ℕ) → k < length (line ∷ []) → slice_index_or (line ∷ []) k other ≡ other → other ≡ line
sole line other zero h e = sym e
sole line other (suc k) h e = absurd (omega arith)

one_line : (line other : List ℕ) → Contains (line ∷ []) other → other ≡ line
one_line line other h = sole line other h.0 h.1 h.2

no_lines : (j : ℕ) → whole_lines (take j []) ≡ []
no_lines zero = refl
no_lines (suc j) = refl

-- a line that begins with the program's name is no row
no_row_in_line : (rest : List ℕ) → Lacks 10 rest → (text : List ℕ) → text ≡ codes "gnatprove: " ++ (rest ++ 10 ∷ []) → (k : ℕ) (r : Row) → IsRowName r.name
    → Contains (whole_lines (take k text)) (row_line r) → ⊥
no_row_in_line rest l text same k r i h =
    let line = codes "gnatprove: " ++ rest in
    let lacks : Lacks 10 line = Lacks-append 10 (codes "gnatprove: ") rest (Lacks-from_test 10 (codes "gnatprove: ") refl) l in
    let is : text ≡ line ++ 10 ∷ [] = same ∙ sym (append_assoc (codes "gnatprove: ") rest (10 ∷ [])) in
    let there = subst (λ (t : List ℕ). Contains (whole_lines (take k t)) (row_line r)) is h in
    elim (cut_in line [] k lacks) [
      | inl e ↦ let g = subst (λ (ls : List (List ℕ)). Contains ls (row_line r)) e there in absurd (omega (arith, g.1))
      | inr e ↦ fault_lines_differ r rest i
          (one_line line (row_line r) (subst (λ (ls : List (List ℕ)). Contains ls (row_line r)) (e.1 ∙ ap (λ (ls : List (List ℕ)). line ∷ ls) (no_lines e.0)) there))
    ]

no_row_in_fault : (name : List ℕ) → IsRowName name → (text : List ℕ) → text ≡ read_fault_text name → (k : ℕ) (r : Row) → IsRowName r.name
    → Contains (whole_lines (take k text)) (row_line r) → ⊥
no_row_in_fault name n text e =
    no_row_in_line (codes "read fault: " ++ name)
    (Lacks-append 10 (codes "read fault: ") name (Lacks-from_test 10 (codes "read fault: ") refl) (Lacks-from_All (λ c. (c ≢ 58) × (c ≢ 10)) 10 (λ c p. p.1) name n))
    text e

no_row_in_limit : (text : List ℕ) → text ≡ limit_text (codes "source bytes") → (k : ℕ) (r : Row) → IsRowName r.name → Contains (whole_lines (take k text)) (row_line r) → ⊥
no_row_in_limit text e = no_row_in_line (codes "limit: source bytes") (Lacks-from_test 10 (codes "limit: source bytes") refl) text e

-- nor is a line of an error
words_lack : (c : Code) → Lacks 10 (word_of c)
words_lack code.BadByte = Lacks-from_test 10 (codes "BadByte") refl
words_lack code.BadNumber = Lacks-from_test 10 (codes "BadNumber") refl
words_lack code.TooWide = Lacks-from_test 10 (codes "TooWide") refl
words_lack code.Unexpected = Lacks-from_test 10 (codes "Unexpected") refl
words_lack code.TooDeep = Lacks-from_test 10 (codes "TooDeep") refl
words_lack code.UnknownName = Lacks-from_test 10 (codes "UnknownName") refl
words_lack code.AmbiguousName = Lacks-from_test 10 (codes "AmbiguousName") refl
words_lack code.Duplicate = Lacks-from_test 10 (codes "Duplicate") refl
words_lack code.Overloaded = Lacks-from_test 10 (codes "Overloaded") refl
words_lack code.WithCycle = Lacks-from_test 10 (codes "WithCycle") refl
words_lack code.MissingBody = Lacks-from_test 10 (codes "MissingBody") refl
words_lack code.SpecMismatch = Lacks-from_test 10 (codes "SpecMismatch") refl
words_lack code.LeftOut = Lacks-from_test 10 (codes "LeftOut") refl
words_lack code.L1 = Lacks-from_test 10 (codes "L1") refl
words_lack code.L2 = Lacks-from_test 10 (codes "L2") refl
words_lack code.L3 = Lacks-from_test 10 (codes "L3") refl
words_lack code.L4 = Lacks-from_test 10 (codes "L4") refl
words_lack code.L5 = Lacks-from_test 10 (codes "L5") refl
words_lack code.L6 = Lacks-from_test 10 (codes "L6") refl
words_lack code.L7 = Lacks-from_test 10 (codes "L7") refl
words_lack code.L8 = Lacks-from_test 10 (codes "L8") refl
words_lack code.L9 = Lacks-from_test 10 (codes "L9") refl
words_lack code.L10 = Lacks-from_test 10 (codes "L10") refl
words_lack code.L11 = Lacks-from_test 10 (codes "L11") refl
words_lack code.L12 = Lacks-from_test 10 (codes "L12") refl
words_lack code.L13 = Lacks-from_test 10 (codes "L13") refl
words_lack code.L14 = Lacks-from_test 10 (codes "L14") refl
words_lack code.L15 = Lacks-from_test 10 (codes "L15") refl
words_lack code.L16 = Lacks-from_test 10 (codes "L16") refl
words_lack code.L17 = Lacks-from_test 10 (codes "L17") refl
words_lack code.L18 = Lacks-from_test 10 (codes "L18") refl
words_lack code.L19 = Lacks-from_test 10 (codes "L19") refl
words_lack code.L20 = Lacks-from_test 10 (codes "L20") refl
words_lack code.L21 = Lacks-from_test 10 (codes "L21") refl
words_lack code.L22 = Lacks-from_test 10 (codes "L22") refl
words_lack code.L23 = Lacks-from_test 10 (codes "L23") refl
words_lack code.L24 = Lacks-from_test 10 (codes "L24") refl
words_lack code.L25 = Lacks-from_test 10 (codes "L25") refl
words_lack code.L26 = Lacks-from_test 10 (codes "L26") refl
words_lack code.L27 = Lacks-from_test 10 (codes "L27") refl
words_lack code.L28 = Lacks-from_test 10 (codes "L28") refl
words_lack code.L29 = Lacks-from_test 10 (codes "L29") refl
words_lack code.L30 = Lacks-from_test 10 (codes "L30") refl
words_lack code.F1 = Lacks-from_test 10 (codes "F1") refl
words_lack code.F2 = Lacks-from_test 10 (codes "F2") refl
words_lack code.F3 = Lacks-from_test 10 (codes "F3") refl
words_lack code.F4 = Lacks-from_test 10 (codes "F4") refl
words_lack code.F5 = Lacks-from_test 10 (codes "F5") refl
words_lack code.F6 = Lacks-from_test 10 (codes "F6") refl

place_lacks : (p : Place) → Lacks 10 (place_text p)
place_lacks p =
    Lacks-append 10 (codes ":") (decimal p.line ++ (codes ":" ++ (decimal p.column ++ codes ": "))) (Lacks-from_test 10 (codes ":") refl)
    (Lacks-append 10 (decimal p.line) (codes ":" ++ (decimal p.column ++ codes ": ")) (decimal_lacks_feed p.line)
    (Lacks-append 10 (codes ":") (decimal p.column ++ codes ": ") (Lacks-from_test 10 (codes ":") refl)
    (Lacks-append 10 (decimal p.column) (codes ": ") (decimal_lacks_feed p.column) (Lacks-from_test 10 (codes ": ") refl))))

no_row_in_error : (name : List ℕ) → IsRowName name → (r : Refusal) → (text : List ℕ) → text ≡ error_text name r.place.line r.place.column (word_of r.code) → (k : ℕ) (row : Row) → IsRowName row.name
    → Contains (whole_lines (take k text)) (row_line row) → ⊥
no_row_in_error name n r text same k row i h =
    let at : Place = record { file = 0; line = r.place.line; column = r.place.column } in
    let line = name ++ (place_text at ++ (codes "error: " ++ word_of r.code)) in
    let lacks : Lacks 10 line = Lacks-append 10 name (place_text at ++ (codes "error: " ++ word_of r.code)) (Lacks-from_All (λ c. (c ≢ 58) × (c ≢ 10)) 10 (λ c p. p.1) name n)
    (Lacks-append 10 (place_text at) (codes "error: " ++ word_of r.code) (place_lacks at)
    (Lacks-append 10 (codes "error: ") (word_of r.code) (Lacks-from_test 10 (codes "error: ") refl) (words_lack r.code))) in
    let is : text ≡ line ++ 10 ∷ [] = same ∙ ends_in_feed name (place_text at) (codes "error: ") (word_of r.code) in
    let there = subst (λ (t : List ℕ). Contains (whole_lines (take k t)) (row_line row)) is h in
    elim (cut_in line [] k lacks) [
      | inl e ↦ let g = subst (λ (ls : List (List ℕ)). Contains ls (row_line row)) e there in absurd (omega (arith, g.1))
      | inr e ↦ error_lines_differ row name at (word_of r.code) i n
          (one_line line (row_line row) (subst (λ (ls : List (List ℕ)). Contains ls (row_line row)) (e.1 ∙ ap (λ (ls : List (List ℕ)). line ∷ ls) (no_lines e.0)) there))
    ]
  where
    ends_in_feed : (a b c d : List ℕ) → a ++ (b ++ (c ++ (d ++ 10 ∷ []))) ≡ (a ++ (b ++ (c ++ d))) ++ 10 ∷ []
    ends_in_feed a b c d = sym (append_assoc a (b ++ (c ++ d)) (10 ∷ []) ∙ ap (λ (x : List ℕ). a ++ x) (append_assoc b (c ++ d) (10 ∷ []) ∙ ap (λ (x : List ℕ). b ++ x) (append_assoc c d (10 ∷ []))))

-- ---- the answer

abbrev Sound : List ℕ → FirstForm → List ℕ → Type 0
Sound name f full = (k : ℕ) (c : SiteKey) → c.place.file ≡ 0 → IsPlace c.place → CallsProved (take k full) name c → NeverFailsAt f c

abbrev file_named : List ℕ → List ℕ → NamedBytes
file_named name bytes = record { name = name; bytes = bytes }

tree_sound : (name bytes : List ℕ) → IsRowName name → length bytes < 2 ^ 32 - 1 → (f : FirstForm) → Accepted bytes f → (s : Status) (full : List ℕ)
    → (us : List SourceFile) → Only.IsTreeOf bytes us → AnswersTrees (file_named name bytes ∷ []) us s full → Sound name f full
tree_sound name bytes n short f a s full us only w k c z place h =
    let answered : AnswersTree name (form_of bytes only.0.unit) s full = subst (λ (vs : List SourceFile). AnswersTrees (file_named name bytes ∷ []) vs s full) only.1 w in
    let form : form_of bytes only.0.unit ≡ Some f = ap (form_of bytes) (one_tree bytes only.0.unit a.0 only.2 a.1) ∙ a.2 in
    let answers : AnswersForm name f (first_unknown f) s full = subst (λ (o : Option FirstForm). AnswersTree name o s full) form answered in
    let reports : Reports name f s full = subst (λ (o : Option (ℕ × ℕ)). AnswersForm name f o s full) a.3 answers in
    report_sound name n f (places_are_in_file bytes a.0 f short a.2) full reports.1 k c z place h

named_or_empty : (name bytes : List ℕ) → IsRowName name → (k : ℕ) → IsRowName (name_at (file_named name bytes ∷ []) k)
named_or_empty name bytes n zero = n
named_or_empty name bytes n (suc k) = λ j d lt. absurd (omega arith)

-- a file that the rules of names refuse has the line of an error, and no row
refused_sound : (name bytes : List ℕ) → IsRowName name → (r : Refusal) → (f : FirstForm) → (full : List ℕ) → full ≡ error_text (name_at (file_named name bytes ∷ []) r.place.file) r.place.line r.place.column (word_of r.code)
    → Sound name f full
refused_sound name bytes n r f full e k c z place h =
    absurd (no_row_in_error (name_at (file_named name bytes ∷ []) r.place.file) (named_or_empty name bytes n r.place.file) r full e k (record { name = name; key = c; status = row.Proved }) n h)

read_sound : (name bytes : List ℕ) → IsRowName name → length bytes < 2 ^ 32 - 1 → (f : FirstForm) → Accepted bytes f → (s : Status) (full : List ℕ)
    → AnswersRead (file_named name bytes ∷ []) s full → Sound name f full
read_sound name bytes n short f a s full (inl w) = refused_sound name bytes n w.0 f full w.2.1
read_sound name bytes n short f a s full (inr w) = tree_sound name bytes n short f a s full w.0 (Only.only_tree bytes w.0 w.2.1.0) w.3

sized_sound : (name bytes : List ℕ) → IsRowName name → (f : FirstForm) → Accepted bytes f → (s : Status) (full : List ℕ)
    → (b : Bool) → nat_le (source_bytes (file_named name bytes ∷ [])) most_source_bytes ≡ b → AnswersSized b (file_named name bytes ∷ []) s full → Sound name f full
sized_sound name bytes n f a s full true e w k c z place h =
    read_sound name bytes n (short_one (file_named name bytes) [] (leb-true (source_bytes (file_named name bytes ∷ [])) most_source_bytes e)) f a s full w k c z place h
sized_sound name bytes n f a s full false e w k c z place h = absurd (no_row_in_limit full w.1 k (record { name = name; key = c; status = row.Proved }) n h)

from_sound : (m : Map) (name bytes : List ℕ) → IsRowName name → entry_of m name ≡ Some bytes → (f : FirstForm) → Accepted bytes f → (s : Status) (full : List ℕ)
    → AnswersFrom (Some m) [] (name ∷ []) s full → Sound name f full
from_sound m name bytes n e f a s full (inl w) k c z place h = absurd (no_row_in_fault name n full w.1 k (record { name = name; key = c; status = row.Proved }) n h)
from_sound m name bytes n e f a s full (inr (inl w)) k c z place h = let d : None ≡ Some bytes = sym w.0 ∙ e in cc
from_sound m name bytes n e f a s full (inr (inr w)) k c z place h =
    let d : Some w.0 ≡ Some bytes = sym w.1 ∙ e in
    let same : w.0 ≡ bytes = cc in
    sized_sound name bytes n f a s full (nat_le (source_bytes (file_named name bytes ∷ [])) most_source_bytes) refl
    (subst (λ (x : List ℕ). AnswersGot (file_named name x ∷ []) s full) same w.2) k c z place h

answer_sound : (m : Map) (words : List (List ℕ)) (name bytes : List ℕ) → files_of words ≡ Some (name ∷ []) → entry_of m name ≡ Some bytes → (f : FirstForm) → Accepted bytes f
    → (s : Status) (full : List ℕ) → Answers (Some m) words s full → Sound name f full
answer_sound m words name bytes w e f a s full h k c z place p =
    from_sound m name bytes (file_name_is_row_name name (file_is_named words name w)) e f a s full
    (subst (λ (o : Option (List (List ℕ))). AnswersNamed (Some m) o s full) w h) k c z place p

-- ---- what a run wrote

-- a first part of an answer, or nothing
pub record Wrote (told : Option Map) (words : List (List ℕ)) (text : List ℕ) : Type 0 where
  pub status : Status
  pub full : List ℕ
  pub answers : Answers told words status full
  pub part : ℕ
  pub text_is : text ≡ take part full

added : (old text more : List ℕ) → Some (old ++ text) ≡ append_known (Some old) more → text ≡ more
added old text more e = let d : old ++ text ≡ old ++ more = cc in append_cancel_left old text more d

whole : (told : Option Map) (words : List (List ℕ)) (s : Status) (old text : List ℕ)
    → (t : List ℕ) × Answers told words s t × (Some (old ++ text) ≡ append_known (Some old) t) → Wrote told words text
whole told words s old text w = record {
  status = s;
  full = w.0;
  answers = w.1;
  part = length w.0;
  text_is = added old text w.0 w.2 ∙ sym (take-all w.0);
}

wrote : (told : Option Map) (words : List (List ℕ)) (s : Status) (old text : List ℕ) → Ends told words s (Some old) (Some (old ++ text))
    → (text ≡ []) ⊎ Wrote told words text
wrote told words status.Starved old text e =
    let d : Some (old ++ text) ≡ append_known (Some old) [] = e ∙ ap Some (sym (append-nil old)) in inl (added old text [] d)
wrote told words status.WriteFault old text e =
    inr (record { status = e.0; full = e.1; answers = e.2; part = e.3.0; text_is = added old text (take e.3.0 e.1) e.3.2 })
wrote told words s old text e = inr (whole told words s old text e)

pub sound : (told : Option Map) (words : List (List ℕ)) (s : Status) (before after : Option (List ℕ)) → Ends told words s before after → IsSound told words before after
sound told words s before after e m name bytes old text f c t b a w entry accepted z place p params globals n fit run =
    let d = subst (λ (x : Option (List ℕ)). Ends told words s x (Some (old ++ text))) b (subst (λ (x : Option (List ℕ)). Ends told words s before x) a e) in
    elim (wrote told words s old text d) [
      | inl none ↦ nothing (subst (λ (x : List ℕ). CallsProved x name c) none p)
      | inr part ↦ answer_sound m words name bytes w entry f accepted part.status part.full
          (subst (λ (x : Option Map). Answers x words part.status part.full) t part.answers) part.part c z place
          (subst (λ (x : List ℕ). CallsProved x name c) part.text_is p) params globals n fit run
    ]
  where
    nothing : CallsProved [] name c → ⊥
    nothing h = absurd (omega (arith, h.1))
