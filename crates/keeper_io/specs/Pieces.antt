-- What a sink was given, where it tells it.
use Rattle.std.specs.Prelude.{◌≡◌, ℕ, ◌<◌, ◌≤◌, List, length, take, Option, Result, IfOk, MatchResult}
use Rattle.std.specs.Io.KnownBytes.{append_known}

-- an Ok is a number of bytes within the piece, and isn't 0 unless the piece is empty
abbrev pub TakesSome : {E : Type 0} → Result ℕ E → List ℕ → Type 0
TakesSome result piece = IfOk result (λ n. (n ≤ length piece) × (0 < length piece → 0 < n))

-- an Ok of n adds the piece's first n bytes, and an error nothing
abbrev pub AddsTaken : {E : Type 0} → Option (List ℕ) → Option (List ℕ) → Result ℕ E → List ℕ → Type 0
AddsTaken old new result piece = MatchResult result (λ n. new ≡ append_known old (take n piece)) (λ _. new ≡ old)

-- a first part of the piece was added, and not all of it
abbrev pub AddsPart : Option (List ℕ) → Option (List ℕ) → List ℕ → Type 0
AddsPart old new piece = (k : ℕ) × (k < length piece) × (new ≡ append_known old (take k piece))
