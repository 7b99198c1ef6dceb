-- Clauses of a rule that are told apart by numbers.
use Rattle.std.proofs.Common.{◌≡◌, refl, ℕ, zero, suc, Bool, true, false, List, [], ◌∷◌}
use Rattle.logic_terms.specs.Node.{Node}
use Rattle.logic_terms.specs.Meaning.{World}
use Rattle.cert_rules.specs.Judged.{Judged, yields, refused, too_wide, part_of, when}
use Rattle.cert_rules.specs.Clause.{clause_holds, AllClausesHold}
use Rattle.cert_rules.proofs.Names.{clause_below}

-- what a rule yields is true in the world, and names symbols below d alone
abbrev pub IsSound : World → ℕ → Judged (List Node) → Type 0
IsSound w d (yields c) = (clause_holds w c ≡ true) × (clause_below d c ≡ true)
IsSound w d refused = Unit {0}
IsSound w d too_wide = Unit {0}

abbrev pub AllBelow : ℕ → List (List Node) → Type 0
AllBelow d [] = Unit {0}
AllBelow d (c ∷ cs) = (clause_below d c ≡ true) × AllBelow d cs

pub part_sound : (w : World) (d : ℕ) (cs : List (List Node)) (n : ℕ) → AllClausesHold w cs → AllBelow d cs → IsSound w d (part_of cs n)
part_sound w d [] n h b = tt
part_sound w d (c ∷ cs) zero h b = (h.0, b.0)
part_sound w d (c ∷ cs) (suc n) h b = part_sound w d cs n h.1 b.1

pub when_sound : (w : World) (d : ℕ) (b : Bool) (x : Judged (List Node)) → (b ≡ true → IsSound w d x) → IsSound w d (when b x)
when_sound w d true x f = f refl
when_sound w d false x f = tt
