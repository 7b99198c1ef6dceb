-- What is read of an object's subtype is sound, and a declaration goes on with what it enters.
use Rattle.std.proofs.Common.{◌≡◌, ℕ, Bool, List, Option, Result, Ok, Err, refl, subst, sym}
use Rattle.std.specs.Prelude.{IfOk, OnOk}
use Rattle.std.specs.List.{All}
use Rattle.ada_text.specs.declared.token.Span.{Span}
use Rattle.ada_values.specs.declared.place.Place.{Place}
use Rattle.type_base.specs.Moduli.{HasModulus}
use Rattle.type_base.specs.Scope.{Scope}
use Rattle.syntax_view.specs.Trees as tree
use Rattle.typing_rules.specs.declared.prefix.Found.{Found}
use Rattle.statement_typing.specs.declared.draft.Draft.{Draft}
use Rattle.statement_typing.specs.declared.parts.Noted.{Noted}
use Rattle.statement_typing.specs.Drafts.{Entered}
use Rattle.statement_typing.specs.Files.{Home}
use Rattle.statement_typing.specs.Objects.{entered_by, object_subtype, object_with}
use Rattle.sound_subtypes.specs.Sound.{IfIs, IsSound}
use Rattle.sound_subtypes.proofs.Kept.{sound_object}

pub read_is_sound : {E : Type 0} (r : Result (Found Noted) E) (c d : Scope) (p : Place) (s : tree.SubInd)
    → c ≡ d → All HasModulus d.world.subtypes → IfOk r (λ f. f ≡ object_subtype c p s) → IfOk r (λ f. IfIs IsSound f)
read_is_sound (Ok f) c d p s i h e = sound_object f c p s e (subst (λ (x : Scope). All HasModulus x.world.subtypes) (sym i) h)
read_is_sound (Err x) c d p s i h e = tt

pub is_entered : (e : Entered) (k : ℕ) (d : Draft) → k ≡ e.number → d ≡ e.draft → record { number = k; draft = d } ≡ e
is_entered e k d i j =
    subst (λ (n : ℕ). record { number = n; draft = d } ≡ e) (sym i)
    (subst (λ (n : Draft). record { number = e.number; draft = n } ≡ e) (sym j) refl)

pub goes_on : {A E : Type 0} (r : Result A E) (h : Home) (p : Place) (b : Bool) (ss : List Span) (v : Option tree.Expr) (f g : Found Noted) (d n : Draft) (e : Entered)
    → f ≡ g → e ≡ entered_by f d → OnOk r (n ≡ object_with h p b ss v f e) → OnOk r (n ≡ object_with h p b ss v g (entered_by g d))
goes_on r h p b ss v f g d n e i j x =
    subst (λ (k : Found Noted). OnOk r (n ≡ object_with h p b ss v k (entered_by k d))) i
    (subst (λ (m : Entered). OnOk r (n ≡ object_with h p b ss v f m)) j x)
