-- Lines that are read.
use Rattle.std.specs.Prelude.{◌≡◌, ◌<◌, ◌≤◌, ℕ, List, ◌∷◌, ◌++◌, length, drop}
use Rattle.cert_lines.specs.View.{line}
use Rattle.cert_lines.specs.declared.line.CertLine.{CertLine}
use Rattle.logic_text.specs.Certs.{line_text}
use Rattle.term_reader.specs.Phases.{IsUpTo}
use Rattle.cert_reader.specs.Words.{word_of}
use Rattle.cert_reader.specs.Phases.{InLines, ended, Has, fields}
use Rattle.cert_reader.specs.declared.line_word.LineWord.{LineWord}

-- after its word a line stands at `at` and goes on up to its end at `to`
pub record IsFields (w : LineWord) (l : CertLine) (bytes : List ℕ) (at to : ℕ) : Type 0 where
  pub before : at < to
  pub inside : to ≤ length bytes
  pub text : word_of w ++ drop at bytes ≡ line_text (line l) ++ drop to bytes
  pub on : IsUpTo (Has (fields w)) (drop at bytes) (Has ended) (drop to bytes)

-- the same with the end of the line
pub record IsLine (w : LineWord) (l : CertLine) (bytes : List ℕ) (at to : ℕ) : Type 0 where
  pub before : at < to
  pub inside : to ≤ length bytes
  pub text : word_of w ++ drop at bytes ≡ line_text (line l) ++ (10 ∷ drop to bytes)
  pub on : IsUpTo (Has (fields w)) (drop at bytes) InLines (drop to bytes)

-- the same with its word
pub record IsEntry (l : CertLine) (bytes : List ℕ) (at to : ℕ) : Type 0 where
  pub before : at < to
  pub inside : to ≤ length bytes
  pub text : drop at bytes ≡ line_text (line l) ++ (10 ∷ drop to bytes)
  pub on : IsUpTo InLines (drop at bytes) InLines (drop to bytes)
