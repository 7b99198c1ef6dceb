-- The answers for the bytes of a certificate.
use Rattle.std.specs.Prelude.{◌≤◌, ◌^◌, ◌<◌, ℕ, List, length}
use Rattle.cert_lines.specs.Line.{Line}
use Rattle.term_reader.specs.Texts.{IsBadText}
use Rattle.logic_text.specs.Certs.{cert_bytes}
use Rattle.logic_text.specs.declared.fault.TextFault.{TextFault}
use Rattle.logic_text.specs.declared.fault.TextFault.TheVariants as fault
use Rattle.logic_text.specs.Fits.{AreLines}

-- byte `at` is the first after which no text of a certificate goes on so
abbrev pub IsBadCert : List ℕ → ℕ → Type 0
IsBadCert b at = IsBadText AreLines cert_bytes b at

-- 1 MiB
abbrev pub most_cert_bytes : ℕ
most_cert_bytes = 2 ^ 20

-- why a text is not read as a certificate; want of memory needs no other cause
abbrev pub IsCertFault : List ℕ → TextFault → Type 0
IsCertFault b fault.TooLong = most_cert_bytes < length b
IsCertFault b (fault.BadText at) = (length b ≤ most_cert_bytes) × IsBadCert b at
IsCertFault b fault.Starved = length b ≤ most_cert_bytes
