-- Profiles of subprograms (Ada RM 6.1), and when two are the same (Ada RM 6.3.1).
use Rattle.std.specs.Prelude.{Bool, true, false, ◌&&◌, ◌==◌, ◌++◌, List, [], ◌∷◌, Option, Some, None}
use Rattle.name_library.specs.declared.events.Mode.{Mode}
use Rattle.name_library.specs.declared.events.Mode.TheVariants as mode
use Rattle.name_library.specs.declared.links.Link.{Link}
use Rattle.name_library.specs.declared.links.Link.TheVariants.{Declared, Predefined}
use Rattle.name_library.specs.Library.{same_spot}
use Rattle.name_frames.specs.declared.profiles.Begun.{Begun}
use Rattle.name_frames.specs.declared.profiles.Formal.{Formal}
use Rattle.name_frames.specs.declared.profiles.Outcome.{Outcome}
use Rattle.name_frames.specs.declared.profiles.Outcome.TheVariants as outcome
use Rattle.name_frames.specs.declared.profiles.Profile.{Profile}

abbrev pub no_profile : Profile
no_profile = record { formals = []; outcome = outcome.Procedure }

abbrev pub same_link : Link → Link → Bool
same_link (Declared p) (Declared q) = same_spot p q
same_link (Predefined m) (Predefined n) = m == n
same_link _ _ = false

abbrev pub same_links : Option Link → Option Link → Bool
same_links (Some a) (Some b) = same_link a b
same_links None None = true
same_links _ _ = false

abbrev pub same_mode : Mode → Mode → Bool
same_mode mode.In mode.In = true
same_mode mode.Out mode.Out = true
same_mode mode.InOut mode.InOut = true
same_mode _ _ = false

abbrev pub same_formal : Formal → Formal → Bool
same_formal f g = (f.name == g.name) && same_mode f.mode g.mode && same_links f.subtype g.subtype

abbrev pub same_formals : List Formal → List Formal → Bool
same_formals [] [] = true
same_formals (f ∷ fs) (g ∷ gs) = same_formal f g && same_formals fs gs
same_formals _ _ = false

abbrev pub same_outcome : Outcome → Outcome → Bool
same_outcome outcome.Procedure outcome.Procedure = true
same_outcome (outcome.Function a) (outcome.Function b) = same_links a b
same_outcome _ _ = false

-- names, modes, subtypes and result are the same, one by one
abbrev pub same_profile : Profile → Profile → Bool
same_profile p q = same_formals p.formals q.formals && same_outcome p.outcome q.outcome

-- parameters whose mode and subtype are told
abbrev pub told : Mode → Option Link → List Formal → List Begun → List Formal
told m a fs [] = fs
told m a fs (b ∷ bs) = told m a (fs ++ record { name = b.name; spot = b.spot; mode = m; subtype = a } ∷ []) bs
