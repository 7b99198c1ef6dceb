-- Whole lines and whole certificates.
use Rattle.std.proofs.Common.{◌≡◌, refl, sym, ◌∙◌, ap, ap₂, ℕ, ◌+◌, ◌<◌, ◌≤◌, List, [], ◌∷◌, ◌++◌, length, get_or, drop, map, append_assoc, codes, arith}
use Rattle.std.proofs.Math.Seq.{drop-length}
use Rattle.std.proofs.lemmas.List.{append-nil}
use Rattle.cert_lines.specs.Line.{Line}
use Rattle.cert_lines.specs.View.{line as line_of}
use Rattle.cert_lines.specs.declared.line.CertLine.{CertLine}
use Rattle.term_reader.specs.Bytes.{first}
use Rattle.term_reader.specs.Words.{IsNoWord, IsWordFault}
use Rattle.term_reader.specs.declared.fault.ReadFault.{ReadFault}
use Rattle.term_reader.specs.declared.fault.ReadFault.TheVariants as fault
use Rattle.term_reader.proofs.Digits.{same_tail}
use Rattle.term_reader.proofs.Rows.{IsRow, one_more}
use Rattle.term_reader.proofs.WholeTexts.{IsStart, bad_text, good_text, byte_before_end, not_end}
use Rattle.term_reader.specs.Texts.{with_end}
use Rattle.logic_text.specs.Faults.{text_fault}
use Rattle.logic_text.specs.Certs.{line_text, lines_text, cert_bytes}
use Rattle.term_reader.specs.Phases.{After, IsBad, IsUpTo, IsBadAt}
use Rattle.term_reader.proofs.Places.{bad_at, steps_at, word_at, word_bad_at}
use Rattle.term_reader.proofs.Reaching.{upto_same}
use Rattle.cert_reader.specs.Answers.{IsBadCert, IsCertFault, most_cert_bytes}
use Rattle.cert_reader.specs.Entries.{IsFields, IsLine, IsEntry}
use Rattle.logic_text.specs.Fits.{AreLines}
use Rattle.cert_reader.specs.Phases.{InLines, AtStart, ended, finish, Has, fields}
use Rattle.cert_reader.specs.Words.{word_of, words}
use Rattle.cert_reader.specs.declared.line_word.LineWord.{LineWord}
use Rattle.cert_reader.specs.declared.line_word.LineWord.TheVariants as line
use Rattle.cert_reader.proofs.Forms.{line_on, no_word_bad}
use Rattle.cert_reader.proofs.Leaves.{last_line, some_lines}

-- ---- the end of a line

pub line_end_bad : (w : LineWord) (l : CertLine) (bytes : List ℕ) (at m to : ℕ) → IsFields w l bytes at m → to ≤ length bytes → IsWordFault (10 ∷ []) (drop m bytes) (drop to bytes) → IsBadAt (Has (fields w)) bytes at (fault.BadText to)
line_end_bad w l bytes at m to r h f =
    bad_at (Has (fields w)) (Has ended) bytes at m (fault.BadText to) r.on (word_bad_at (10 ∷ []) InLines _ bytes m to some_lines h f)

pub line_ended : (w : LineWord) (l : CertLine) (bytes : List ℕ) (at m to : ℕ) → IsFields w l bytes at m → to ≡ m + 1 → to ≤ length bytes → drop m bytes ≡ (10 ∷ []) ++ drop to bytes → IsLine w l bytes at to
line_ended w l bytes at m to r n h e = let b = r.before in record {
  before = omega arith;
  inside = h;
  text = r.text ∙ ap (λ (x : List ℕ). line_text (line_of l) ++ x) e;
  on = steps_at (Has (fields w)) (Has ended) InLines bytes at m to r.on (word_at (10 ∷ []) InLines bytes m to e);
}

-- ---- the last line

not_finish : (c : ℕ) (rest : List ℕ) → (c ≡ 256 → ⊥) → (10 ∷ []) ++ (c ∷ rest) ≡ 10 ∷ (256 ∷ []) → ⊥
not_finish c rest n e = not_end c rest n (same_tail 10 10 _ _ e)

abbrev Over : List ℕ → Type 0
Over x = x ≡ 256 ∷ []

finish_in : (x : List ℕ) → After (10 ∷ []) Over x → Has finish x
finish_in x (y, h, e) = e ∙ ap (λ (z : List ℕ). 10 ∷ z) h

finish_out : (x : List ℕ) → Has finish x → After (10 ∷ []) Over x
finish_out x e = (256 ∷ [], refl, e)

finish_front : (s : List ℕ) → IsUpTo (Has finish) s (After (10 ∷ []) Over) s
finish_front s = upto_same (Has finish) (After (10 ∷ []) Over) s finish_in (λ x f. finish_out x)

pub finish_bad : (bytes : List ℕ) (at to : ℕ) → to ≤ length bytes → IsWordFault (10 ∷ []) (drop at bytes) (drop to bytes) → IsBadAt (Has finish) bytes at (fault.BadText to)
finish_bad bytes at to h f = bad_at (Has finish) (After (10 ∷ []) Over) bytes at at (fault.BadText to) (finish_front (drop at bytes)) (word_bad_at (10 ∷ []) Over (256 ∷ []) bytes at to refl h f)

pub finish_more : (bytes : List ℕ) (at to : ℕ) → drop at bytes ≡ (10 ∷ []) ++ drop to bytes → to < length bytes → get_or bytes to 0 < 256 → IsBadAt (Has finish) bytes at (fault.BadText to)
finish_more bytes at to e l b = (
  omega arith,
  record {
    front = 10 ∷ [];
    is_front = e;
    goes = (256 ∷ [], refl);
    stuck = λ rest h. not_finish (first (drop to bytes)) rest (byte_before_end bytes to l b) h;
  },
)

pub finish_text : (bytes : List ℕ) (at to : ℕ) → drop at bytes ≡ (10 ∷ []) ++ drop to bytes → to ≡ length bytes → drop at bytes ≡ 10 ∷ []
finish_text bytes at to e f = e ∙ ap (λ (x : List ℕ). (10 ∷ []) ++ x) (ap (λ (i : ℕ). drop i bytes) f ∙ drop-length bytes)

-- ---- a line with its word

pub entry_word_bad : (bytes : List ℕ) (at to : ℕ) → to ≤ length bytes → IsNoWord words (drop at bytes) (drop to bytes) → IsBadAt InLines bytes at (fault.BadText to)
entry_word_bad bytes at to h f = (h, no_word_bad (drop at bytes) (drop to bytes) f)

pub entry_bad : (w : LineWord) (bytes : List ℕ) (at m : ℕ) (f : ReadFault) → drop at bytes ≡ word_of w ++ drop m bytes → IsBadAt (Has (fields w)) bytes m f → IsBadAt InLines bytes at f
entry_bad w bytes at m f e b = bad_at InLines (Has (fields w)) bytes at m f (line_on w (drop at bytes) (drop m bytes) e) b

pub end_bad : (w : LineWord) (bytes : List ℕ) (at m : ℕ) (f : ReadFault) → w ≡ line.End → drop at bytes ≡ word_of w ++ drop m bytes → IsBadAt (Has finish) bytes m f → IsBadAt InLines bytes at f
end_bad w bytes at m f d e b =
    entry_bad line.End bytes at m f (e ∙ ap (λ (v : LineWord). word_of v ++ drop m bytes) d) b

pub end_text : (w : LineWord) (bytes : List ℕ) (at m : ℕ) → w ≡ line.End → drop at bytes ≡ word_of w ++ drop m bytes → drop m bytes ≡ 10 ∷ [] → drop at bytes ≡ codes "end" ++ (10 ∷ [])
end_text w bytes at m d e f = e ∙ ap₂ (λ (v : LineWord) (x : List ℕ). word_of v ++ x) d f

pub entry_read : (w : LineWord) (l : CertLine) (bytes : List ℕ) (at m to : ℕ) → at < m → drop at bytes ≡ word_of w ++ drop m bytes → IsLine w l bytes m to → IsEntry l bytes at to
entry_read w l bytes at m to n e r = let b = r.before in record {
  before = omega arith;
  inside = r.inside;
  text = e ∙ r.text;
  on = steps_at InLines (Has (fields w)) InLines bytes at m to (line_on w (drop at bytes) (drop m bytes) e) r.on;
}

-- ---- lines

lines_row : IsRow (λ (l : Line). line_text l ++ (10 ∷ [])) lines_text
lines_row = record { none = refl; next = λ l ls. refl }

pub line_added : (old new : List CertLine) (l : CertLine) (s m r : List ℕ) → new ≡ old ++ l ∷ [] → s ≡ lines_text (map line_of old) ++ m → m ≡ line_text (line_of l) ++ (10 ∷ r) → s ≡ lines_text (map line_of new) ++ r
line_added old new l s m r e f g =
    one_more line_of (λ (x : Line). line_text x ++ (10 ∷ [])) lines_text lines_row old new l s m r e
    (g ∙ sym (append_assoc (line_text (line_of l)) (10 ∷ []) r)) f

-- ---- whole certificates

pub cert_then : (ls : List Line) (xs : List ℕ) → cert_bytes ls ++ xs ≡ codes "cert 1\n" ++ (lines_text ls ++ (codes "end" ++ (10 ∷ xs)))
cert_then ls xs =
    append_assoc ((codes "cert 1" ++ (10 ∷ [])) ++ lines_text ls) (codes "end" ++ (10 ∷ [])) xs
    ∙ append_assoc (codes "cert 1" ++ (10 ∷ [])) (lines_text ls) ((codes "end" ++ (10 ∷ [])) ++ xs)

cert_of_start : (x : List ℕ) → AtStart x → (ls : List Line) × AreLines ls × (with_end (cert_bytes ls) ≡ x)
cert_of_start x (y, (ls, f, e), d) = (ls, f, cert_then ls (256 ∷ []) ∙ ap (λ (z : List ℕ). codes "cert 1\n" ++ z) (sym e) ∙ sym d)

start_of_cert : (ls : List Line) → AreLines ls → AtStart (with_end (cert_bytes ls))
start_of_cert ls f = (lines_text ls ++ last_line, (ls, f, refl), cert_then ls (256 ∷ []))

certs_start : IsStart AreLines cert_bytes AtStart
certs_start = record { value = cert_of_start; start = start_of_cert }

pub bad_cert : (bytes : List ℕ) (to : ℕ) → to ≤ length bytes → IsBad AtStart (drop 0 bytes) (drop to bytes) → IsBadCert bytes to
bad_cert bytes to h b = bad_text AreLines cert_bytes AtStart certs_start bytes to h b

pub cert_fault : (bytes : List ℕ) (f : ReadFault) → length bytes ≤ most_cert_bytes → IsBadAt AtStart bytes 0 f → IsCertFault bytes (text_fault f)
cert_fault bytes (fault.BadText to) l b = (l, bad_cert bytes to b.0 b.1)
cert_fault bytes fault.Starved l b = l

pub start_bad : (bytes : List ℕ) (to : ℕ) → to ≤ length bytes → IsWordFault (codes "cert 1\n") (drop 0 bytes) (drop to bytes) → IsBadAt AtStart bytes 0 (fault.BadText to)
start_bad bytes to h f = word_bad_at (codes "cert 1\n") InLines _ bytes 0 to some_lines h f

pub start_lines_bad : (bytes : List ℕ) (m : ℕ) (f : ReadFault) → drop 0 bytes ≡ codes "cert 1\n" ++ drop m bytes → IsBadAt InLines bytes m f → IsBadAt AtStart bytes 0 f
start_lines_bad bytes m f e b = bad_at AtStart InLines bytes 0 m f (word_at (codes "cert 1\n") InLines bytes 0 m e) b

pub cert_is : (ls : List Line) (bytes : List ℕ) (m : ℕ) → drop 0 bytes ≡ codes "cert 1\n" ++ drop m bytes → drop m bytes ≡ lines_text ls ++ (codes "end" ++ (10 ∷ [])) → cert_bytes ls ≡ bytes
cert_is ls bytes m e f =
    sym (append-nil (cert_bytes ls)) ∙ cert_then ls [] ∙ sym (e ∙ ap (λ (x : List ℕ). codes "cert 1\n" ++ x) f)

-- ---- what is written is not refused

pub good_cert : (ls : List Line) (at : ℕ) → AreLines ls → IsBadCert (cert_bytes ls) at → ⊥
good_cert ls at h b = good_text AreLines cert_bytes ls at h b
