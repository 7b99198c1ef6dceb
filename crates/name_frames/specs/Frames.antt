-- Scopes that are open, and what a name stands for by what they declare (Ada RM 8.1, 8.3).
use Rattle.std.specs.Prelude.{ℕ, Bool, true, false, not, ◌==◌, nat_lt, List, [], ◌∷◌, find, Option, Some, None, is_some, if◌then◌else◌}
use Rattle.name_library.specs.declared.links.Spot.{Spot}
use Rattle.name_library.specs.Library.{same_spot}
use Rattle.name_frames.specs.declared.entries.Entry.{Entry}
use Rattle.name_frames.specs.declared.frames.Frame.{Frame}
use Rattle.name_frames.specs.declared.frames.Owner.{Owner}
use Rattle.name_frames.specs.declared.frames.Owner.TheVariants as owner
use Rattle.name_frames.specs.declared.frames.Sight.{Sight}
use Rattle.name_frames.specs.Entries.{entry_of}
use Rattle.name_frames.specs.Profiles.{no_profile}

-- a scope that has nothing yet, but the use clauses around it; with its declaration's profile for a body
abbrev pub new_frame : Owner → Option ℕ → List ℕ → Frame
new_frame o p ns = record { owner = o; entries = []; ended = 0; used = ns; begun = []; profile = no_profile; first = p; hidden = not (is_some p) }

-- inside a subprogram
abbrev pub is_local : Owner → Bool
is_local owner.Units = false
is_local (owner.Package n p) = false
is_local (owner.Subprogram n p q) = true
is_local owner.Block = true

abbrev pub owns : Spot → Owner → Bool
owns p owner.Units = false
owns p (owner.Package n q) = same_spot p q
owns p (owner.Subprogram n q r) = same_spot p q
owns p owner.Block = false

-- the place of the first spelling, where the owner has the name
abbrev pub package_named : ℕ → Owner → Option Spot
package_named n (owner.Package m p) = if m == n then Some p else None
package_named n _ = None

abbrev pub named_as : ℕ → Owner → Option Spot
named_as n (owner.Package m p) = if m == n then Some p else None
named_as n (owner.Subprogram m p q) = if m == n then Some p else None
named_as n _ = None

-- ---- what a name stands for

-- a declaration as a name in its scope sees it
abbrev pub sight : Frame → Entry → Sight
sight f e = record { spot = e.spot; ended = nat_lt e.number f.ended; local = is_local f.owner }

abbrev pub hidden_as : ℕ → Owner → Option Sight
hidden_as n (owner.Subprogram m p q) = if m == n then Some (record { spot = p; ended = false; local = false }) else None
hidden_as n _ = None

-- a subprogram's name is hidden in its own profile (Ada RM 8.3)
abbrev pub hides : ℕ → Frame → Option Sight
hides n f = if f.hidden then hidden_as n f.owner else None

abbrev pub seen_as : ℕ → Frame → Option Entry → Option Sight
seen_as n f (Some e) = Some (sight f e)
seen_as n f None = hides n f

abbrev pub seen_in : ℕ → Frame → Option Sight
seen_in n f = seen_as n f (entry_of n f.entries)

abbrev pub else_sight : Option Sight → Option Sight → Option Sight
else_sight (Some e) f = Some e
else_sight None f = f

-- the innermost declaration
abbrev pub innermost : ℕ → List Frame → Option Sight
innermost n [] = None
innermost n (f ∷ fs) = else_sight (seen_in n f) (innermost n fs)

-- the enclosing package or subprogram that is declared at a place
abbrev pub enclosing : Spot → List Frame → Option Frame
enclosing p = find (λ f. owns p f.owner)
