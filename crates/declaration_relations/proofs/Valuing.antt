-- Values of objects that are accepted obey their rules.
use Rattle.std.proofs.Common.{◌≡◌, refl, subst, ℕ, Bool, true, false, Option, Some, None}
use Rattle.ada_values.specs.declared.place.Place.{Place}
use Rattle.front_codes.specs.declared.codes.Code.TheVariants as code
use Rattle.syntax_view.specs.Trees as tree
use Rattle.typed_units.specs.declared.expressions.Expr.{Expr}
use Rattle.typed_units.specs.declared.expressions.Fitted.{Fitted}
use Rattle.typed_units.specs.declared.operators.Bounds.{Bounds}
use Rattle.type_base.specs.Scope.{Scope}
use Rattle.type_base.specs.declared.seen.Want.TheVariants as want
use Rattle.typing_rules.specs.declared.prefix.Found.{Found}
use Rattle.typing_rules.specs.declared.prefix.Found.TheVariants as found
use Rattle.statement_typing.specs.Asked.{place_of}
use Rattle.statement_typing.specs.Objects.{given, initial, settled_value}
use Rattle.statement_typing.specs.Values.{settled, static_value}
use Rattle.typing_relations.proofs.Accepting.{Finds, finds_map, with_finds}
use Rattle.statement_relations.specs.Asks.{IsFor}
use Rattle.statement_relations.proofs.Asking.{is_for}
use Rattle.declaration_relations.specs.Values as rule
use Rattle.declaration_relations.specs.Values.{HasValue, Settles, Starts}
use Rattle.declaration_relations.proofs.Settling.{has_value}

given_finds : (c : Scope) (b : Bool) (k : ℕ) (e : tree.Expr) → Finds (given c (want.Subtype k) k e) (λ x. Starts c b k (Some e) (Some x))
given_finds c b k e = finds' (given c (want.Subtype k) k e) (is_for c code.L8 true k e)
  where
    finds' : (x : Found (Fitted Expr)) → Finds x (IsFor c true k e) → Finds x (λ y. Starts c b k (Some e) (Some y))
    finds' (found.Refused f) h = tt
    finds' found.Unknown h = tt
    finds' (found.Is y) h = rule.with_value e y h

pub starts_finds : (c : Scope) (p : Place) (b : Bool) (k : ℕ) (e : Option tree.Expr) → Finds (initial c p b (want.Subtype k) k e) (Starts c b k e)
starts_finds c p true k (Some e) = with_finds (λ x. Starts c true k (Some e) (Some x)) (Starts c true k (Some e)) Some (given c (want.Subtype k) k e) (given_finds c true k e) (λ x h. h)
starts_finds c p false k (Some e) = with_finds (λ x. Starts c false k (Some e) (Some x)) (Starts c false k (Some e)) Some (given c (want.Subtype k) k e) (given_finds c false k e) (λ x h. h)
starts_finds c p true k None = tt
starts_finds c p false k None = rule.without refl

-- ---- at package level

settled_by : (p : Place) (o : Option Bounds) (x : Expr) → Finds (settled p (record { bounds = o; value = x })) (λ v. Settles (Some (record { bounds = o; value = x })) (Some v))
settled_by p None x =
    finds_map (HasValue x) (λ v. Settles (Some (record { bounds = None; value = x })) (Some v)) (λ v h. rule.settles (record { bounds = None; value = x }) v refl h) (static_value x) (has_value x)
settled_by p (Some b) x = tt

abbrev IsNone : {A : Type 0} → Option A → Type 0
IsNone None = Unit {0}
IsNone (Some x) = ⊥

-- without an expression nothing is given
none_given : (c : Scope) (p : Place) (b : Bool) (k : ℕ) (f : Option (Fitted Expr)) → initial c p b (want.Subtype k) k None ≡ found.Is f → IsNone f
none_given c p true k f e = refused e
  where
    refused : {A : Type 0} → initial c p true (want.Subtype k) k None ≡ found.Is f → A
    refused i = cc
none_given c p false k f e =
    let same : None ≡ f = cc in
    subst IsNone same tt

without : (f : Option (Fitted Expr)) → IsNone f → Settles f None
without None h = rule.without_value
without (Some x) h = absurd h

pub settles_finds : (c : Scope) (p : Place) (b : Bool) (k : ℕ) (e : Option tree.Expr) (f : Option (Fitted Expr)) → initial c p b (want.Subtype k) k e ≡ found.Is f → Finds (settled_value c e f) (Settles f)
settles_finds c p b k None f i = without f (none_given c p b k f i)
settles_finds c p b k (Some e) None i = rule.without_value
settles_finds c p b k (Some e) (Some x) i =
    with_finds (λ v. Settles (Some x) (Some v)) (Settles (Some x)) Some (settled (place_of c e) x) (settled_by (place_of c e) x.bounds x.value) (λ v h. h)
