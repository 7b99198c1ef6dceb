-- A map that keeps the first of each byte, as a list is walked from its end.
use Rattle.std.proofs.Common.{◌≡◌, ℕ, ◌+◌, ◌<◌, sym, ap, ◌∙◌, cond, List, length, get_or, drop, Some, arith}
use Rattle.std.specs.Prelude.{◌==◌}
use Rattle.std.specs.Ordering.{is_eq, nat_cmp}
use Rattle.std.specs.BTreeMap.{is_at}
use Rattle.std.proofs.lemmas.Bool.Decides.{nat_tests}
use Rattle.std.proofs.lemmas.List.{drop_more}
use Rattle.reading_scope.specs.declared.numbers.Numbered.{Numbered}
use Rattle.reading_scope.specs.Numbers.{numbered_at}

-- two bytes are one for the map exactly where they are for the list
same_byte : (m n : ℕ) → is_eq (nat_cmp m n) ≡ (m == n)
same_byte m n = grind (arith, nat_tests)

pub one_more : (xs : List Numbered) (k n : ℕ) (d : Numbered) → k < length xs → cond (is_at (nat_cmp (get_or xs k d).at) n) (Some (get_or xs k d).number) (numbered_at n (drop (k + 1) xs)) ≡ numbered_at n (drop k xs)
one_more xs k n d h =
    ap (λ b. cond b (Some (get_or xs k d).number) (numbered_at n (drop (k + 1) xs))) (same_byte (get_or xs k d).at n)
    ∙ ap (numbered_at n) (sym (drop_more xs k d h))
