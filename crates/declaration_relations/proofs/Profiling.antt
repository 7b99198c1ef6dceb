-- Profiles that are accepted obey their rules.
use Rattle.std.proofs.Common.{◌≡◌, sym, ap, subst, ℕ, true, Option, Some, None, List, [], ◌∷◌, map}
use Rattle.std.specs.Prelude.{◌||◌, not}
use Rattle.ada_values.specs.declared.place.Place.{Place}
use Rattle.front_codes.specs.declared.codes.Code.TheVariants as code
use Rattle.syntax_view.specs.Trees as tree
use Rattle.typed_units.specs.declared.programs.Mode.{Mode}
use Rattle.typed_units.specs.declared.programs.Mode.TheVariants as mode
use Rattle.type_base.specs.Scope.{Scope}
use Rattle.type_base.specs.declared.world.Subtype.{Subtype}
use Rattle.type_base.specs.Lookups.{form_at, form_in, subtype_at}
use Rattle.typing_rules.specs.declared.prefix.Found.TheVariants as found
use Rattle.statement_typing.specs.declared.parts.Formals.{Formals}
use Rattle.statement_typing.specs.declared.parts.Noted.{Noted}
use Rattle.statement_typing.specs.declared.parts.Noted.TheVariants.{Known, New}
use Rattle.statement_typing.specs.Checks.{all_of}
use Rattle.statement_typing.specs.Routines.{formals, formals_of, is_out, marked_subtype, mode_of, named_subtype, profile, result_mark, result_subtype}
use Rattle.statement_typing.specs.Subtypes.{indicated, is_constrained, name_place}
use Rattle.typing_relations.proofs.Accepting.{Finds, both_finds, found_as, then_finds, with_finds}
use Rattle.declaration_relations.specs.Indicates.{Indicates}
use Rattle.declaration_relations.specs.Profiles as rule
use Rattle.declaration_relations.specs.Profiles.{AllFormals, HasFormals, HasProfile, HasResult, SuitsMode}
use Rattle.declaration_relations.proofs.Indicating.{Indicated, definite_at, indicated_finds}
use Rattle.declaration_relations.proofs.Keeping.{all_are, first_and, none_and, unless_keeps}

-- a subtype of the world by its name
pub record Marked (c : Scope) (s : tree.SubInd) (k : ℕ) : Type 0 where
  pub indicates : Indicates c s (Known k)
  pub subtype : Subtype
  pub is : subtype_at c.world k ≡ Some subtype

named_finds : (c : Scope) (s : tree.SubInd) (p : Place) (n : Noted) → Indicated c s n → Finds (named_subtype p n) (Marked c s)
named_finds c s p (Known k) h = record { indicates = h.indicates; subtype = h.subtype; is = h.is }
named_finds c s p (New x) h = tt

pub marked_finds : (c : Scope) (s : tree.SubInd) → Finds (marked_subtype c s) (Marked c s)
marked_finds c s = then_finds (Indicated c s) (Marked c s) (indicated c code.L27 s) (named_subtype (name_place c s.name)) (indicated_finds c code.L27 s) (λ n h. named_finds c s (name_place c s.name) n h)

suits : (m : Mode) (o : Option Subtype) (x : Subtype) → o ≡ Some x → (not (is_out m) || is_constrained (form_in o)) ≡ true → SuitsMode m x.form
suits mode.Out o x e h = definite_at o x e h
suits mode.In o x e h = tt
suits mode.InOut o x e h = tt

formals_by : (c : Scope) (q : tree.Param) (k : ℕ) → Marked c q.subtype k → Finds (formals_of c.world (c.place q.span.from) q.names (mode_of q.mode) k) (HasFormals c q)
formals_by c q k h =
    unless_keeps (HasFormals c q) (not (is_out (mode_of q.mode)) || is_constrained (form_at c.world k)) code.L27 (c.place q.span.from) (record { names = q.names; mode = mode_of q.mode; subtype = k })
    (λ e. rule.has_formals k h.subtype.form h.indicates (ap form_in h.is) (suits (mode_of q.mode) (subtype_at c.world k) h.subtype h.is e))

formals_finds : (c : Scope) (q : tree.Param) → Finds (formals c q) (HasFormals c q)
formals_finds c q =
    then_finds (Marked c q.subtype) (HasFormals c q) (marked_subtype c q.subtype) (formals_of c.world (c.place q.span.from) q.names (mode_of q.mode)) (marked_finds c q.subtype) (λ k h. formals_by c q k h)

formals_are : (c : Scope) (qs : List tree.Param) (xs : List Formals) → map (formals c) qs ≡ map found.Is xs → AllFormals c qs xs
formals_are c [] xs e = subst (AllFormals c []) (sym (none_and xs e)) rule.no_more
formals_are c (q ∷ qs) xs e =
    let f = first_and (formals c q) (map (formals c) qs) xs e in
    subst (AllFormals c (q ∷ qs)) (sym f.together)
    (rule.one_more q qs f.first f.others (found_as (HasFormals c q) (formals c q) f.first f.is_first (formals_finds c q)) (formals_are c qs f.others f.are_others))

result_finds : (c : Scope) (n : Option tree.Name) → Finds (result_subtype c n) (HasResult c n)
result_finds c None = rule.procedure
result_finds c (Some n) = with_finds (Marked c (result_mark c n)) (HasResult c (Some n)) Some (marked_subtype c (result_mark c n)) (marked_finds c (result_mark c n)) (λ k h. rule.function n k h.indicates)

pub profile_finds : (c : Scope) (h : tree.Heading) → Finds (profile c h) (HasProfile c h)
profile_finds c h =
    both_finds (λ fs. map (formals c) h.params ≡ map found.Is fs) (HasResult c h.result) (HasProfile c h) (λ fs r. record { formals = fs; result = r }) (all_of (map (formals c) h.params)) (result_subtype c h.result)
    (all_are (map (formals c) h.params)) (result_finds c h.result) (λ fs r e i. record { formals = formals_are c h.params fs e; result = i })
