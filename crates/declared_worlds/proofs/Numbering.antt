-- The numbers of subprograms that declarations declare.
use Rattle.std.proofs.Common.{◌≡◌, sym, ℕ, zero, suc, ◌<◌, arith, Bool, true, false, true≢false, List, [], ◌∷◌, ◌++◌, length, slice_get, Option, Some, None}
use Rattle.std.specs.Prelude.{if◌then◌else◌}
use Rattle.name_library.specs.declared.links.Spot.{Spot}
use Rattle.syntax_view.specs.Trees as tree
use Rattle.statement_typing.specs.Files.{File, rank, same_spot, spot_of}
use Rattle.statement_typing.specs.Units.{hidden_routines, is_first, routine_of, routines, routines_by, routines_in, unit_routines}
use Rattle.declared_worlds.specs.Plain.{NoSub, NoSubs, PlainBody, PlainDecls, PlainFiles, PlainForm, PlainHidden, PlainSub, PlainUnit}

-- ---- declarations each of whose subprograms has a number of which N holds, where the file's subprograms have these declaring identifiers

abbrev mutual
  pub SubNumbered : (ℕ → Type 0) → File → List Spot → tree.Sub → Type 0
  SubNumbered N f rs (tree.sub s b) = (is_first f s.name ≡ true → N (rank rs (spot_of f s.name))) × BodyNumbered N f rs b

  pub BodyNumbered : (ℕ → Type 0) → File → List Spot → tree.Body → Type 0
  BodyNumbered N f rs tree.no_body = Unit {0}
  BodyNumbered N f rs (tree.body ds ss e) = AllNumbered N f rs ds

  pub DeclNumbered : (ℕ → Type 0) → File → List Spot → tree.Decl → Type 0
  DeclNumbered N f rs (tree.declaration s x) = FormNumbered N f rs x

  pub FormNumbered : (ℕ → Type 0) → File → List Spot → tree.DeclForm → Type 0
  FormNumbered N f rs (tree.sub_decl s) = SubNumbered N f rs s
  FormNumbered N f rs (tree.type_decl n t) = Unit {0}
  FormNumbered N f rs (tree.subtype_decl n s) = Unit {0}
  FormNumbered N f rs (tree.object_decl ns o) = Unit {0}
  FormNumbered N f rs (tree.pragma_decl q) = Unit {0}
  FormNumbered N f rs (tree.use_decl ns) = Unit {0}

  pub AllNumbered : (ℕ → Type 0) → File → List Spot → tree.Decls → Type 0
  AllNumbered N f rs tree.no_decls = Unit {0}
  AllNumbered N f rs (tree.decls x xs) = DeclNumbered N f rs x × AllNumbered N f rs xs

abbrev pub HiddenNumbered : (ℕ → Type 0) → File → List Spot → Option tree.Decls → Type 0
HiddenNumbered N f rs None = Unit {0}
HiddenNumbered N f rs (Some ds) = AllNumbered N f rs ds

abbrev pub UnitNumbered : (ℕ → Type 0) → File → List Spot → tree.UnitForm → Type 0
UnitNumbered N f rs (tree.package_unit p) = AllNumbered N f rs p.declarations × HiddenNumbered N f rs p.hidden
UnitNumbered N f rs (tree.package_body_unit b) = AllNumbered N f rs b.declarations
UnitNumbered N f rs (tree.sub_unit s) = SubNumbered N f rs s

abbrev pub FileNumbered : (ℕ → Type 0) → List Spot → Option File → Type 0
FileNumbered N rs None = Unit {0}
FileNumbered N rs (Some f) = UnitNumbered N f rs f.unit.unit.form

-- ---- of any number

abbrev pub AnyNumber : ℕ → Type 0
AnyNumber q = Unit {0}

mutual
  pub any_sub : (f : File) (rs : List Spot) (s : tree.Sub) → SubNumbered AnyNumber f rs s
  any_sub f rs (tree.sub s b) = ((λ e. tt), any_body f rs b)

  any_body : (f : File) (rs : List Spot) (b : tree.Body) → BodyNumbered AnyNumber f rs b
  any_body f rs tree.no_body = tt
  any_body f rs (tree.body ds ss e) = any_decls f rs ds

  pub any_decl : (f : File) (rs : List Spot) (x : tree.Decl) → DeclNumbered AnyNumber f rs x
  any_decl f rs (tree.declaration s x) = any_form f rs x

  any_form : (f : File) (rs : List Spot) (x : tree.DeclForm) → FormNumbered AnyNumber f rs x
  any_form f rs (tree.sub_decl s) = any_sub f rs s
  any_form f rs (tree.type_decl n t) = tt
  any_form f rs (tree.subtype_decl n s) = tt
  any_form f rs (tree.object_decl ns o) = tt
  any_form f rs (tree.pragma_decl q) = tt
  any_form f rs (tree.use_decl ns) = tt

  pub any_decls : (f : File) (rs : List Spot) (ds : tree.Decls) → AllNumbered AnyNumber f rs ds
  any_decls f rs tree.no_decls = tt
  any_decls f rs (tree.decls x xs) = (any_decl f rs x, any_decls f rs xs)

any_hidden : (f : File) (rs : List Spot) (ds : Option tree.Decls) → HiddenNumbered AnyNumber f rs ds
any_hidden f rs None = tt
any_hidden f rs (Some ds) = any_decls f rs ds

pub any_unit : (f : File) (rs : List Spot) (u : tree.UnitForm) → UnitNumbered AnyNumber f rs u
any_unit f rs (tree.package_unit p) = (any_decls f rs p.declarations, any_hidden f rs p.hidden)
any_unit f rs (tree.package_body_unit b) = any_decls f rs b.declarations
any_unit f rs (tree.sub_unit s) = any_sub f rs s

pub any_file : (rs : List Spot) (m : Option File) → FileNumbered AnyNumber rs m
any_file rs None = tt
any_file rs (Some f) = any_unit f rs f.unit.unit.form

-- ---- of the program's subprograms

same_self : (s : Spot) → same_spot s s ≡ true
same_self s = grind arith

abbrev pub Ranked : List Spot → Spot → Type 0
Ranked ss s = rank ss s < length ss

if_ranked : (b : Bool) (n m : ℕ) → n < m → (if b then 0 else suc n) < suc m
if_ranked true n m h = omega arith
if_ranked false n m h = omega arith

here_if : (b : Bool) (n m : ℕ) → b ≡ true → (if b then 0 else suc n) < suc m
here_if true n m e = omega arith
here_if false n m e = absurd (true≢false (sym e))

abbrev pub Each : (Spot → Type 0) → List Spot → Type 0
Each P [] = Unit {0}
Each P (s ∷ ss) = P s × Each P ss

each_weaker : (P Q : Spot → Type 0) → ((s : Spot) → P s → Q s) → (ss : List Spot) → Each P ss → Each Q ss
each_weaker P Q f [] h = tt
each_weaker P Q f (s ∷ ss) h = (f s h.0, each_weaker P Q f ss h.1)

pub each_ranked : (ss : List Spot) → Each (Ranked ss) ss
each_ranked [] = tt
each_ranked (s ∷ ss) =
    (here_if (same_spot s s) (rank ss s) (length ss) (same_self s), each_weaker (Ranked ss) (Ranked (s ∷ ss)) (λ t h. if_ranked (same_spot s t) (rank ss t) (length ss) h) ss (each_ranked ss))

each_left : (P : Spot → Type 0) (ss ts : List Spot) → Each P (ss ++ ts) → Each P ss
each_left P [] ts h = tt
each_left P (s ∷ ss) ts h = (h.0, each_left P ss ts h.1)

each_right : (P : Spot → Type 0) (ss ts : List Spot) → Each P (ss ++ ts) → Each P ts
each_right P [] ts h = h
each_right P (s ∷ ss) ts h = each_right P ss ts h.1

lone : (P : Spot → Type 0) (b : Bool) (s : Spot) → b ≡ true → Each P (if b then s ∷ [] else []) → P s
lone P true s e h = h.0
lone P false s e h = absurd (true≢false (sym e))

-- what holds of the number of a declaring identifier
abbrev Number : (ℕ → Type 0) → List Spot → Spot → Type 0
Number N rs s = N (rank rs s)

form_without : (N : ℕ → Type 0) (f : File) (rs : List Spot) (x : tree.DeclForm) → NoSub x → FormNumbered N f rs x
form_without N f rs (tree.sub_decl s) h = absurd h
form_without N f rs (tree.type_decl n t) h = tt
form_without N f rs (tree.subtype_decl n s) h = tt
form_without N f rs (tree.object_decl ns o) h = tt
form_without N f rs (tree.pragma_decl q) h = tt
form_without N f rs (tree.use_decl ns) h = tt

all_without : (N : ℕ → Type 0) (f : File) (rs : List Spot) (ds : tree.Decls) → NoSubs ds → AllNumbered N f rs ds
all_without N f rs tree.no_decls h = tt
all_without N f rs (tree.decls (tree.declaration s x) ds) h = (form_without N f rs x h.0, all_without N f rs ds h.1)

body_without : (N : ℕ → Type 0) (f : File) (rs : List Spot) (b : tree.Body) → PlainBody b → BodyNumbered N f rs b
body_without N f rs tree.no_body h = tt
body_without N f rs (tree.body ds ss e) h = all_without N f rs ds h

sub_numbered : (N : ℕ → Type 0) (f : File) (rs : List Spot) (s : tree.Sub) → PlainSub s → Each (Number N rs) (routine_of f s) → SubNumbered N f rs s
sub_numbered N f rs (tree.sub s b) p h = ((λ e. lone (Number N rs) (is_first f s.name) (spot_of f s.name) e h), body_without N f rs b p)

form_numbered : (N : ℕ → Type 0) (f : File) (rs : List Spot) (x : tree.DeclForm) → PlainForm x → Each (Number N rs) (routines_by f x) → FormNumbered N f rs x
form_numbered N f rs (tree.sub_decl s) p h = sub_numbered N f rs s p h
form_numbered N f rs (tree.type_decl n t) p h = tt
form_numbered N f rs (tree.subtype_decl n s) p h = tt
form_numbered N f rs (tree.object_decl ns o) p h = tt
form_numbered N f rs (tree.pragma_decl q) p h = tt
form_numbered N f rs (tree.use_decl ns) p h = tt

decls_numbered : (N : ℕ → Type 0) (f : File) (rs : List Spot) (ds : tree.Decls) → PlainDecls ds → Each (Number N rs) (routines_in f ds) → AllNumbered N f rs ds
decls_numbered N f rs tree.no_decls p h = tt
decls_numbered N f rs (tree.decls (tree.declaration s x) ds) p h =
    (form_numbered N f rs x p.0 (each_left (Number N rs) (routines_by f x) (routines_in f ds) h), decls_numbered N f rs ds p.1 (each_right (Number N rs) (routines_by f x) (routines_in f ds) h))

hidden_numbered : (N : ℕ → Type 0) (f : File) (rs : List Spot) (ds : Option tree.Decls) → PlainHidden ds → Each (Number N rs) (hidden_routines f ds) → HiddenNumbered N f rs ds
hidden_numbered N f rs None p h = tt
hidden_numbered N f rs (Some ds) p h = decls_numbered N f rs ds p h

unit_numbered : (N : ℕ → Type 0) (f : File) (rs : List Spot) (u : tree.UnitForm) → PlainUnit u → Each (Number N rs) (unit_routines f u) → UnitNumbered N f rs u
unit_numbered N f rs (tree.package_unit p) h i =
    let ss = routines_in f p.declarations in
    let ts = hidden_routines f p.hidden in
    (decls_numbered N f rs p.declarations h.0 (each_left (Number N rs) ss ts i), hidden_numbered N f rs p.hidden h.1 (each_right (Number N rs) ss ts i))
unit_numbered N f rs (tree.package_body_unit b) h i = decls_numbered N f rs b.declarations h i
unit_numbered N f rs (tree.sub_unit s) h i = sub_numbered N f rs s h i

pub file_numbered : (N : ℕ → Type 0) (rs : List Spot) (fs : List File) → PlainFiles fs → Each (Number N rs) (routines fs) → (n : ℕ) → FileNumbered N rs (slice_get fs n)
file_numbered N rs [] p h n = tt
file_numbered N rs (f ∷ fs) p h zero = unit_numbered N f rs f.unit.unit.form p.0 (each_left (Number N rs) (unit_routines f f.unit.unit.form) (routines fs) h)
file_numbered N rs (f ∷ fs) p h (suc n) = file_numbered N rs fs p.1 (each_right (Number N rs) (unit_routines f f.unit.unit.form) (routines fs) h) n
