-- How large a value is that was found: what is inside it is smaller.
use Rattle.std.specs.Prelude.{ℕ, ◌+◌, List, [], ◌∷◌, map}
use Rattle.logic_truth.specs.declared.found.Found.{Found, fold-Found}
use Rattle.logic_truth.specs.declared.found.Found.TheOpen.{Found-F}

abbrev pub total : List ℕ → ℕ
total [] = 0
total (n ∷ ns) = n + total ns

abbrev pub size_step : Found-F ℕ → ℕ
size_step (Found-F.Num n) = 1
size_step (Found-F.Truth b) = 1
size_step (Found-F.Filled f l v) = 1 + v
size_step (Found-F.Stored a i v) = 1 + a + v
size_step (Found-F.Record vs) = 1 + total vs

abbrev pub size : Found → ℕ
size = fold-Found ℕ size_step

abbrev pub sizes : List Found → ℕ
sizes vs = total (map size vs)
