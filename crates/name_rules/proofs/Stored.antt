-- What is kept for bodies, and what a unit's file gives by what it begins with.
use Rattle.std.proofs.Common.{◌≡◌, ℕ, refl, sym, ap, ◌∙◌, Bool, true, false, cond, List, Option, Some, None, arith}
use Rattle.std.specs.Ordering.{is_eq, nat_cmp}
use Rattle.std.specs.BTreeMap.{BTreeMap, get, is_at}
use Rattle.std.proofs.lemmas.Bool.Decides.{nat_tests}
use Rattle.name_library.specs.declared.events.Event.{Event}
use Rattle.name_library.specs.declared.library.LibraryUnit.{LibraryUnit}
use Rattle.name_library.specs.Chains.{own_declaration}
use Rattle.name_scopes.specs.declared.state.Scopes.{Scopes}
use Rattle.name_scopes.specs.State.{carried, start}
use Rattle.name_rules.specs.declared.files.Found.{Found}
use Rattle.name_rules.specs.Faults.{AllKept, carried_state, ended, first_found, found_from, found_in}

one : (m n : ℕ) → is_eq (nat_cmp m n) ≡ true → m ≡ n
one m n h = grind (arith, nat_tests)

same_some : (s t : Scopes) → Some s ≡ Some t → s ≡ t
same_some s t h = cc

by_test : (files : List (List Event)) (l : List LibraryUnit) (file k : ℕ) (state s : Scopes) (old : Option Scopes) (b : Bool) → is_eq (nat_cmp file k) ≡ b → state ≡ carried file (ended files l file) → (old ≡ Some s → s ≡ carried k (ended files l k)) → cond b (Some state) old ≡ Some s → s ≡ carried k (ended files l k)
by_test files l file k state s old true q e h g = sym (same_some state s g) ∙ e ∙ ap (λ n. carried n (ended files l n)) (one file k q)
by_test files l file k state s old false q e h g = h g

-- one more is kept
pub kept_more : (files : List (List Event)) (l : List LibraryUnit) (old new : BTreeMap ℕ Scopes) (file : ℕ) (state : Scopes) → AllKept files l old → ((q : ℕ) → get nat_cmp new q ≡ cond (is_at (nat_cmp file) q) (Some state) (get nat_cmp old q)) → state ≡ carried file (ended files l file) → AllKept files l new
kept_more files l old new file state a u e k s h =
    by_test files l file k state s (get nat_cmp old k) (is_eq (nat_cmp file k)) refl e (a k s) (sym (u k) ∙ h)

none_some : (s : Scopes) → None ≡ Some s → ⊥
none_some s h = grind arith

without : (k : ℕ) (old : Option Scopes) (s : Scopes) (b : Bool) → cond b None old ≡ Some s → old ≡ Some s
without k old s true h = absurd (none_some s h)
without k old s false h = h

-- one is taken
pub kept_less : (files : List (List Event)) (l : List LibraryUnit) (old new : BTreeMap ℕ Scopes) (file : ℕ) → AllKept files l old → ((q : ℕ) → get nat_cmp new q ≡ cond (is_at (nat_cmp file) q) None (get nat_cmp old q)) → AllKept files l new
kept_less files l old new file a u k s h = a k s (without k (get nat_cmp old k) s (is_eq (nat_cmp file k)) (sym (u k) ∙ h))

same_found : (f g : Found) → Some f ≡ Some g → f ≡ g
same_found f g h = cc

-- a unit that goes on from no other
pub by_first : (files : List (List Event)) (l : List LibraryUnit) (u : LibraryUnit) (found : Found) → own_declaration l u.name u.part ≡ None → Some found ≡ first_found files l u (own_declaration l u.name u.part) → found ≡ found_in files l u
by_first files l u found d h =
    let f : Some found ≡ Some (found_from files l u (start u.spot.file)) = h ∙ ap (first_found files l u) d in
    same_found found (found_from files l u (start u.spot.file)) f ∙ ap (λ o. found_from files l u (carried_state files l u.spot.file o)) (sym d)

-- a body
pub by_declaration : (files : List (List Event)) (l : List LibraryUnit) (u d : LibraryUnit) (found : Found) → own_declaration l u.name u.part ≡ Some d → found ≡ found_from files l u (carried u.spot.file (ended files l d.spot.file)) → found ≡ found_in files l u
by_declaration files l u d found o h = h ∙ ap (λ p. found_from files l u (carried_state files l u.spot.file p)) (sym o)
