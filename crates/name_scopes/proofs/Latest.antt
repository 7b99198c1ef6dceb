-- A name stands for the last declaration of it whose scope is open.
use Rattle.std.proofs.Common.{◌≡◌, refl, sym, subst, ℕ, Bool, true, false, List, [], ◌∷◌, Option, Some, None, arith}
use Rattle.std.proofs.lemmas.Bool.Decides.{nat_tests}
use Rattle.std.specs.Prelude.{if◌then◌else◌, ◌==◌, nat_lt}
use Rattle.name_library.specs.declared.events.Event.{Event}
use Rattle.name_library.specs.declared.library.LibraryUnit.{LibraryUnit}
use Rattle.name_library.specs.declared.links.Link.TheVariants.{Declared}
use Rattle.name_frames.specs.declared.entries.Entry.{Entry}
use Rattle.name_frames.specs.declared.frames.Frame.{Frame}
use Rattle.name_frames.specs.declared.frames.Owner.{Owner}
use Rattle.name_frames.specs.declared.frames.Owner.TheVariants as owner
use Rattle.name_frames.specs.declared.frames.Sight.{Sight}
use Rattle.name_frames.specs.declared.meaning.Found.{Found}
use Rattle.name_frames.specs.declared.meaning.Found.TheVariants.{One, Missing}
use Rattle.name_scopes.specs.declared.state.Scopes.{Scopes}
use Rattle.name_frames.specs.Entries.{entry_of}
use Rattle.name_frames.specs.Frames.{else_sight, hidden_as, hides, innermost, seen_as}
use Rattle.name_scopes.specs.Open.{Item, Open, StandsFor, else_item, item_named, last_declared, nothing_open, open_after}
use Rattle.name_frames.specs.Meaning.{by_scopes, by_sight, outside}
use Rattle.name_scopes.specs.State.{carried, frames, start}
use Rattle.name_scopes.specs.Steps.{after, meaning}
use Rattle.name_scopes.specs.Visible.{IsFromOutside}
use Rattle.name_scopes.proofs.Opened.{AllFrames, IsAround, Matches, NotNone, SameFound, after_is, items_of, same_found, start_is}

-- what a subprogram hides in its own profile is declared in the scope around, and is not seen
abbrev Says : Option Sight → Option Item → Type 0
Says None y = Unit {0}
Says (Some e) None = ⊥
Says (Some e) (Some i) = e.ended ≡ false

equal : (m n : ℕ) → (m == n) ≡ true → m ≡ n
equal m n h = grind (arith, nat_tests)

says_item : (e : Sight) (y rest : Option Item) → e.ended ≡ false → NotNone y → Says (Some e) (else_item y rest)
says_item e None rest h k = absurd k
says_item e (Some i) rest h k = h

says_if : (m n : ℕ) (e : Sight) (os : List Open) (b : Bool) → (m == n) ≡ b → e.ended ≡ false → NotNone (item_named m (items_of os)) → Says (if b then Some e else None) (last_declared n os)
says_if m n e [] b g h k = absurd k
says_if m n e (o ∷ os) false g h k = tt
says_if m n e (o ∷ os) true g h k =
    let P : ℕ → Type 0 = λ x. NotNone (item_named x o.items) in
    says_item e (item_named n o.items) (last_declared n os) h (subst P (equal m n g) k)

hidden_says : (n : ℕ) (w : Owner) (b : Bool) (os : List Open) → IsAround w b os → Says (if b then hidden_as n w else None) (last_declared n os)
hidden_says n w false os h = tt
hidden_says n owner.Units true os h = tt
hidden_says n (owner.Package m p) true os h = tt
hidden_says n (owner.Subprogram m p q) true os h = says_if m n (record { spot = p; ended = false; local = false }) os (m == n) refl refl h
hidden_says n owner.Block true os h = tt

-- by what is declared, or else from outside
abbrev Stood : List LibraryUnit → List ℕ → List ℕ → ℕ → Option Item → Option Sight → Type 0
Stood l withs used n (Some i) e = StandsFor i (by_scopes l withs used n e)
Stood l withs used n None e = by_scopes l withs used n e ≡ outside l withs used n

not_seen : (e : Sight) → e.ended ≡ false → by_sight e ≡ Missing
not_seen e h = let P : Bool → Type 0 = λ b. (if b then One (Declared e.spot) else Missing) ≡ Missing in subst P (sym h) refl

stood_past : (l : List LibraryUnit) (withs used : List ℕ) (n : ℕ) (x rest : Option Sight) (y : Option Item) → Says x y → Stood l withs used n y rest → Stood l withs used n y (else_sight x rest)
stood_past l withs used n None rest y h s = s
stood_past l withs used n (Some e) rest (Some i) h s = let P : Found → Type 0 = λ f. StandsFor i f in subst P (sym (not_seen e h)) tt
stood_past l withs used n (Some e) rest None h s = absurd h

stood_by : (l : List LibraryUnit) (withs used : List ℕ) (n : ℕ) (f : Frame) (x : Option Entry) (y more : Option Item) (rest : Option Sight) → SameFound x y → Says (hides n f) more → Stood l withs used n more rest → Stood l withs used n (else_item y more) (else_sight (seen_as n f x) rest)
stood_by l withs used n f None None more rest h g s = stood_past l withs used n (hides n f) rest more g s
stood_by l withs used n f None (Some i) more rest h g s = absurd h
stood_by l withs used n f (Some e) None more rest h g s = absurd h
stood_by l withs used n f (Some e) (Some i) more rest h g s =
    let P : Bool → Type 0 = λ b. StandsFor i (if b then One (Declared e.spot) else Missing) in
    elim (nat_lt e.number f.ended) as P [ true ↦ h.1 | false ↦ tt ]

stood : (l : List LibraryUnit) (withs used : List ℕ) (n : ℕ) (fs : List Frame) (os : List Open) → AllFrames fs os → Stood l withs used n (last_declared n os) (innermost n fs)
stood l withs used n [] [] a = refl
stood l withs used n [] (o ∷ os) a = absurd a
stood l withs used n (f ∷ fs) [] a = absurd a
stood l withs used n (f ∷ fs) (o ∷ os) a = stood_by l withs used n f (entry_of n f.entries) (item_named n o.items) (last_declared n os) (innermost n fs) (same_found n f.entries o.items a.1) (hidden_says n f.owner f.hidden os a.3) (stood l withs used n fs os a.2)

all_frames : (file : ℕ) (s : Scopes) (os : List Open) → Matches file s os → AllFrames (frames s) os
all_frames file s [] m = absurd m.1
all_frames file s (o ∷ os) m = m.1

meaning_is : (file : ℕ) (l : List LibraryUnit) (s : Scopes) (os : List Open) (n : ℕ) → Matches file s os → Stood l s.withs s.top.used n (last_declared n os) (innermost n (frames s))
meaning_is file l s os n m = stood l s.withs s.top.used n (frames s) os (all_frames file s os m)

declared_is : (file : ℕ) (l : List LibraryUnit) (s : Scopes) (os : List Open) (n : ℕ) (i : Item) → Matches file s os → last_declared n os ≡ Some i → StandsFor i (meaning l s n)
declared_is file l s os n i m h = let P : Option Item → Type 0 = λ y. Stood l s.withs s.top.used n y (innermost n (frames s)) in subst P h (meaning_is file l s os n m)

outside_is : (file : ℕ) (l : List LibraryUnit) (s : Scopes) (os : List Open) (n : ℕ) → Matches file s os → last_declared n os ≡ None → IsFromOutside l s n
outside_is file l s os n m h = let P : Option Item → Type 0 = λ y. Stood l s.withs s.top.used n y (innermost n (frames s)) in subst P h (meaning_is file l s os n m)

file_is : (l : List LibraryUnit) (file : ℕ) (es : List Event) → Matches file (after l (start file) es) (open_after file nothing_open es)
file_is l file es = after_is file l (start file) es nothing_open (start_is file)

body_is : (l : List LibraryUnit) (first file : ℕ) (es more : List Event) → Matches file (after l (carried file (after l (start first) es)) more) (open_after file (open_after first nothing_open es) more)
body_is l first file es more =
    let m : Matches first (after l (start first) es) (open_after first nothing_open es) = file_is l first es in
    after_is file l (carried file (after l (start first) es)) more (open_after first nothing_open es) (refl, m.1)

pub in_file : (l : List LibraryUnit) (file : ℕ) (es : List Event) (n : ℕ) (i : Item) → last_declared n (open_after file nothing_open es) ≡ Some i → StandsFor i (meaning l (after l (start file) es) n)
in_file l file es n i h = declared_is file l (after l (start file) es) (open_after file nothing_open es) n i (file_is l file es) h

pub in_body : (l : List LibraryUnit) (first file : ℕ) (es more : List Event) (n : ℕ) (i : Item) → last_declared n (open_after file (open_after first nothing_open es) more) ≡ Some i → StandsFor i (meaning l (after l (carried file (after l (start first) es)) more) n)
in_body l first file es more n i h = declared_is file l (after l (carried file (after l (start first) es)) more) (open_after file (open_after first nothing_open es) more) n i (body_is l first file es more) h

pub others : (l : List LibraryUnit) (file : ℕ) (es : List Event) (n : ℕ) → last_declared n (open_after file nothing_open es) ≡ None → IsFromOutside l (after l (start file) es) n
others l file es n h = outside_is file l (after l (start file) es) (open_after file nothing_open es) n (file_is l file es) h
