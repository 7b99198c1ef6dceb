-- Small changes of what is visible and of what is found.
use Rattle.std.specs.Prelude.{ℕ, ◌++◌, length, List, [], ◌∷◌, Option, None, if◌then◌else◌}
use Rattle.name_library.specs.declared.links.Link.{Link}
use Rattle.name_library.specs.declared.links.NameFault.{NameFault}
use Rattle.name_library.specs.declared.links.Spot.{Spot}
use Rattle.name_library.specs.Library.{contains}
use Rattle.name_frames.specs.declared.frames.Frame.{Frame}
use Rattle.name_frames.specs.declared.frames.Owner.{Owner}
use Rattle.name_frames.specs.declared.frames.Owner.TheVariants as owner
use Rattle.name_scopes.specs.declared.state.Findings.{Findings}
use Rattle.name_scopes.specs.declared.state.Scopes.{Scopes}
use Rattle.name_frames.specs.Frames.{new_frame}

-- ---- what is found

abbrev pub new_findings : ℕ → Findings
new_findings file = record { file = file; usages = []; faults = [] }

abbrev pub link_at : ℕ → Link → Findings → Findings
link_at at a d = record d { usages = d.usages ++ record { spot = record { file = d.file; at = at }; link = a } ∷ [] }

abbrev pub fault_at : NameFault → ℕ → Findings → Findings
fault_at r at d = record d { faults = d.faults ++ record { rule = r; spot = record { file = d.file; at = at } } ∷ [] }

-- the identifier at a place stands for this
abbrev pub linked : ℕ → Link → Scopes → Scopes
linked at a s = record s { findings = link_at at a s.findings }

-- a rule is broken at a place
abbrev pub broken : NameFault → ℕ → Scopes → Scopes
broken r at s = record s { findings = fault_at r at s.findings }

abbrev pub spot_in : Scopes → ℕ → Spot
spot_in s at = record { file = s.findings.file; at = at }

-- ---- scopes

-- the innermost scope first
abbrev pub frames : Scopes → List Frame
frames s = s.top ∷ s.outer

-- a scope opens, that of a body with the number of its declaration's profile
abbrev pub pushed : Owner → Option ℕ → Scopes → Scopes
pushed o p s = record s { top = new_frame o p s.top.used; outer = s.top ∷ s.outer }

abbrev pub closed : Scopes → List Frame → Scopes
closed s [] = s
closed s (f ∷ fs) = record s { top = f; outer = fs }

abbrev pub all_ended : Scopes → Scopes
all_ended s = record s { top = record s.top { ended = length s.top.entries } }

-- a list of names with one more, where it isn't there
abbrev pub with_name : ℕ → List ℕ → List ℕ
with_name n ns = if contains n ns then ns else (ns ++ n ∷ [])

-- ---- files

-- nothing is declared yet
abbrev pub start : ℕ → Scopes
start file = record {
  findings = new_findings file;
  top = new_frame owner.Units None [];
  outer = [];
  profiles = [];
  inside = None;
  withs = [];
  context = [];
  late = [];
  last = None;
}

-- what a body's file finds: all that is visible where its declaration ends (Ada RM 8.1, 10.1.2)
abbrev pub carried : ℕ → Scopes → Scopes
carried file s = record s { findings = new_findings file; context = []; late = []; last = None }
