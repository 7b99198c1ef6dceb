-- Lists that are walked from their ends.
use Rattle.std.proofs.Common.{◌≡◌, sym, ap, ◌∙◌, ℕ, ◌+◌, ◌<◌, List, [], ◌∷◌, ◌++◌, length, get_or, drop}
use Rattle.std.specs.Prelude.{reverse}
use Rattle.std.proofs.lemmas.List.{append-nil, append_assoc, drop_more, reverse-append, reverse-reverse}
use Rattle.typed_units.specs.declared.expressions.Arm.{Arm}
use Rattle.typed_units.specs.declared.expressions.Expr.{Expr}
use Rattle.type_base.specs.Results.{truth_in}
use Rattle.type_base.specs.declared.seen.Seen.{Seen}
use Rattle.typing_rules.specs.Conditions.{chosen, number_seen, pick, static_of, truth_found}
use Rattle.condition_rules.specs.declared.branches.ReadArm.{ReadArm}
use Rattle.condition_rules.specs.Ifs.{number_read}

pub chosen_at : (as' : List (Arm Expr)) (k : ℕ) (d : Arm Expr) (e : Expr) → k < length as' → pick (truth_in (get_or as' k d).condition) (static_of (get_or as' k d).gives) (chosen (drop (k + 1) as') e) ≡ chosen (drop k as') e
chosen_at as' k d e h = ap (λ (xs : List (Arm Expr)). chosen xs e) (sym (drop_more as' k d h))

pub number_at : (as' : List ReadArm) (k : ℕ) (d : ReadArm) (s : Seen) → k < length as' → pick (truth_found (get_or as' k d).condition) (number_seen (get_or as' k d).gives.seen) (number_read (drop (k + 1) as') s) ≡ number_read (drop k as') s
number_at as' k d s h = ap (λ (xs : List ReadArm). number_read xs s) (sym (drop_more as' k d h))

pub turn_last : (xs ys : List ReadArm) (x : ReadArm) → (ys ++ (x ∷ [])) ++ reverse xs ≡ ys ++ reverse (xs ++ (x ∷ []))
turn_last xs ys x = append_assoc ys (x ∷ []) (reverse xs) ∙ ap (λ (zs : List ReadArm). ys ++ zs) (sym (reverse-append xs (x ∷ [])))

-- the last comes first
pub last_first : (xs : List ReadArm) (x : ReadArm) → reverse (xs ++ (x ∷ [])) ≡ x ∷ reverse xs
last_first xs x = reverse-append xs (x ∷ [])

pub none_left : (xs : List ReadArm) → xs ++ reverse [] ≡ xs
none_left xs = append-nil xs

pub turned_twice : (xs : List ReadArm) → reverse (reverse xs) ≡ xs
turned_twice xs = reverse-reverse xs
