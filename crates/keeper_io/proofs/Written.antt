-- What a sink tells after several writes.
use Rattle.std.proofs.Common.{◌≡◌, ℕ, ◌+◌, List, ◌++◌, take, drop, Option, None, Some, refl, sym, ap, ◌∙◌, append_assoc}
use Rattle.std.proofs.Math.Seq.{take-add}
use Rattle.std.specs.Io.KnownBytes.{append_known}

append_known-append : (old : Option (List ℕ)) (xs ys : List ℕ) → append_known (append_known old xs) ys ≡ append_known old (xs ++ ys)
append_known-append None xs ys = refl
append_known-append (Some bs) xs ys = ap Some (append_assoc bs xs ys)

-- the first k bytes of a piece, and then n of the rest
pub append_known-take : (old : Option (List ℕ)) (piece : List ℕ) (k n : ℕ) → append_known (append_known old (take k piece)) (take n (drop k piece)) ≡ append_known old (take (k + n) piece)
append_known-take old piece k n =
    append_known-append old (take k piece) (take n (drop k piece)) ∙ ap (append_known old) (sym (take-add k n piece))
