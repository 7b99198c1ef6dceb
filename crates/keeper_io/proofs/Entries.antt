-- What a write of one entry does to the look-up of each name.
use Rattle.std.proofs.Common.{◌≡◌, ◌≢◌, ℕ, Bool, true, false, cond, ltb, List, [], ◌∷◌, ◌++◌, length, get_or, None, Some, refl, sym, ap, ◌∙◌, arith}
use Rattle.std.proofs.Math.ListN.{set}
use Rattle.std.proofs.lemmas.List.Folds.{find-set, find_past, find-append, find_at}
use Rattle.std.proofs.lemmas.List.Quantifiers.{position-Some}
use Rattle.std.proofs.lemmas.Option.{slice_get_past}
use Rattle.std.proofs.lemmas.Slice.Eq.{bytes_eq-Decides}
use Rattle.std.specs.Option.{option_map, option_or}
use Rattle.std.specs.List.{find, position, position_or_len}
use Rattle.std.specs.Str.{bytes_eq}
use Rattle.keeper_io.specs.declared.entry.Entry.{Entry}
use Rattle.keeper_io.specs.Maps.{Map, entry_of}

-- whether an entry has the name
abbrev named : List ℕ → Entry → Bool
named name = λ entry. bytes_eq entry.name name

named-same : (entry : Entry) → named entry.name entry ≡ true
named-same entry = (bytes_eq-Decides entry.name entry.name).1 refl

-- an entry of one name hasn't another
named-other : (entry : Entry) (name other : List ℕ) → entry.name ≡ name → other ≢ name → named other entry ≡ false
named-other entry name other same differs =
    elim (bytes_eq entry.name other) as (λ b. bytes_eq entry.name other ≡ b → b ≡ false) [
      | true ↦ λ e. absurd (differs (sym ((bytes_eq-Decides entry.name other).0 e) ∙ same))
      | false ↦ λ e. refl
    ] refl

position-Some-index : {X : Type 0} (p : X → Bool) (xs : List X) (at : ℕ) → position p xs ≡ Some at → at ≡ position_or_len p xs
position-Some-index p xs at is =
    elim (ltb (position_or_len p xs) (length xs)) as (λ b. cond b (Some (position_or_len p xs)) None ≡ Some at → at ≡ position_or_len p xs) [
      | true ↦ λ e. cc
      | false ↦ λ e. cc
    ] is

position-None-past : {X : Type 0} (p : X → Bool) (xs : List X) → position p xs ≡ None → find p xs ≡ None
position-None-past p xs is =
    find_at p xs ∙ slice_get_past xs (position_or_len p xs) (grind (arith, is))

-- the new entry in the place of the first of its name
pub entry_of-set : (map : Map) (entry : Entry) (at : ℕ) → position (λ e. bytes_eq e.name entry.name) map ≡ Some at → entry_of (set map at entry) entry.name ≡ Some entry.bytes
entry_of-set map entry at is =
    ap (option_map (λ e. e.bytes))
    (find-set (named entry.name) map at entry (position-Some-index (named entry.name) map at is) (position-Some (named entry.name) map at entry is).0 (named-same entry))

pub entry_of-set_other : (map : Map) (entry : Entry) (at : ℕ) → position (λ e. bytes_eq e.name entry.name) map ≡ Some at → (other : List ℕ) → other ≢ entry.name → entry_of (set map at entry) other ≡ entry_of map other
entry_of-set_other map entry at is other differs =
    let old : Entry = get_or map at entry in
    let old_name : old.name ≡ entry.name = (bytes_eq-Decides old.name entry.name).0 (position-Some (named entry.name) map at entry is).1 in
    ap (option_map (λ e. e.bytes))
    (find_past (named other) map at entry entry (named-other old entry.name other old_name differs) (named-other entry entry.name other refl differs))

-- the new entry behind all, where there is none of its name
pub entry_of-push : (map : Map) (entry : Entry) → position (λ e. bytes_eq e.name entry.name) map ≡ None → entry_of (map ++ entry ∷ []) entry.name ≡ Some entry.bytes
entry_of-push map entry is =
    ap (option_map (λ e. e.bytes))
    (find-append (named entry.name) map (entry ∷ [])
    ∙ ap (λ found. option_or found (find (named entry.name) (entry ∷ []))) (position-None-past (named entry.name) map is)
    ∙ ap (λ b. cond b (Some entry) None) (named-same entry))

pub entry_of-push_other : (map : Map) (entry : Entry) (other : List ℕ) → other ≢ entry.name → entry_of (map ++ entry ∷ []) other ≡ entry_of map other
entry_of-push_other map entry other differs =
    ap (option_map (λ e. e.bytes))
    (find-append (named other) map (entry ∷ [])
    ∙ ap (λ b. option_or (find (named other) map) (cond b (Some entry) None)) (named-other entry entry.name other refl differs)
    ∙ elim (find (named other) map) as (λ found. option_or found None ≡ found) [ None ↦ refl | Some e ↦ refl ])
