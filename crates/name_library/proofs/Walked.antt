-- One step of the walk over a package's declarations.
use Rattle.std.proofs.Common.{◌≡◌, ℕ, sym, subst, Bool, true, false, List, [], ◌∷◌, ◌++◌, append_assoc, append-nil}
use Rattle.std.specs.Prelude.{if◌then◌else◌}
use Rattle.name_library.specs.declared.events.Event.{Event}
use Rattle.name_library.specs.declared.library.Export.{Export}
use Rattle.name_library.specs.Library.{declared_at, depth_after, exported_by, exports, is_end}

pub ended : (found : List Export) (file d : ℕ) (e : Event) (es : List Event) → is_end d e ≡ true → found ++ exports file d (e ∷ es) ≡ found
ended found file d e es h =
    let P : Bool → Type 0 = λ b. found ++ (if b then [] else (exported_by file (declared_at d e) ++ exports file (depth_after d e) es)) ≡ found in
    subst P (sym h) (append-nil found)

pub goes_on : (found : List Export) (file d : ℕ) (e : Event) (es : List Event) → is_end d e ≡ false → (found ++ exported_by file (declared_at d e)) ++ exports file (depth_after d e) es ≡ found ++ exports file d (e ∷ es)
goes_on found file d e es h =
    let P : Bool → Type 0 = λ b. (found ++ exported_by file (declared_at d e)) ++ exports file (depth_after d e) es ≡ found ++ (if b then [] else (exported_by file (declared_at d e) ++ exports file (depth_after d e) es)) in
    subst P (sym h) (append_assoc found (exported_by file (declared_at d e)) (exports file (depth_after d e) es))
