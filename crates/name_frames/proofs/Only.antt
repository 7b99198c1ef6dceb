-- The only one of several links is that of one after another.
use Rattle.std.proofs.Common.{◌≡◌, refl, Bool, true, false, List, [], ◌∷◌}
use Rattle.std.specs.Prelude.{if◌then◌else◌, ◌&&◌}
use Rattle.name_library.specs.declared.links.Link.{Link}
use Rattle.name_frames.specs.declared.meaning.Found.TheVariants.{One, Missing, Several}
use Rattle.name_frames.specs.Joined.{all_joined}
use Rattle.name_frames.specs.Profiles.{same_link}
use Rattle.name_frames.specs.Meaning.{all_same, only}

several : (xs : List Link) → all_joined Several xs ≡ Several
several [] = refl
several (x ∷ xs) = several xs

one : (a : Link) (xs : List Link) → all_joined (One a) xs ≡ (if all_same a xs then One a else Several)
one a [] = refl
one a (b ∷ xs) =
    let P : Bool → Type 0 = λ t. all_joined (if t then One a else Several) xs ≡ (if t && all_same a xs then One a else Several) in
    elim (same_link b a) as P [ true ↦ one a xs | false ↦ several xs ]

pub only_joined : (xs : List Link) → all_joined Missing xs ≡ only xs
only_joined [] = refl
only_joined (a ∷ xs) = one a xs
