-- Which names are left to Standard, with clauses and use clauses.
use Rattle.std.specs.Prelude.{◌≡◌, ℕ, false, nat_lt, List, None}
use Rattle.name_library.specs.declared.library.LibraryUnit.{LibraryUnit}
use Rattle.name_library.specs.Library.{contains}
use Rattle.name_scopes.specs.declared.state.Scopes.{Scopes}
use Rattle.name_frames.specs.Frames.{innermost}
use Rattle.name_frames.specs.Meaning.{outside, standard_names}
use Rattle.name_scopes.specs.State.{frames}
use Rattle.name_scopes.specs.Steps.{meaning}

-- no scope around the place declares the name, Standard has none of it, and no with clause names it
abbrev pub IsForUse : Scopes → ℕ → Type 0
IsForUse s n = (innermost n (frames s) ≡ None) × (nat_lt n standard_names ≡ false) × (contains n s.withs ≡ false)

-- no scope says what the name stands for
abbrev pub IsFromOutside : List LibraryUnit → Scopes → ℕ → Type 0
IsFromOutside l s n = meaning l s n ≡ outside l s.withs s.top.used n
