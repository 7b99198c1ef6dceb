-- What the rules say of statements is what they make of expressions that have been read.
use Rattle.std.proofs.Common.{◌≡◌, refl, ap, ℕ, Option, Some, None}
use Rattle.ada_values.specs.declared.place.Place.{Place}
use Rattle.front_codes.specs.declared.codes.Code.TheVariants.{L9}
use Rattle.name_numbers.specs.declared.words.Word.{Word}
use Rattle.name_numbers.specs.declared.words.Word.TheVariants as word
use Rattle.syntax_view.specs.Trees as tree
use Rattle.type_base.specs.declared.seen.Want.TheVariants as want
use Rattle.type_base.specs.Scope.{Scope}
use Rattle.typed_units.specs.declared.statements.Action.TheVariants as action
use Rattle.typed_units.specs.declared.statements.Direction.{Direction}
use Rattle.typing_rules.specs.declared.prefix.Found.{Found}
use Rattle.typing_rules.specs.declared.prefix.Found.TheVariants.{Refused, Unknown, Is}
use Rattle.typing_rules.specs.declared.prefix.Part.{Part}
use Rattle.typing_rules.specs.Fits.{with_found}
use Rattle.typing_rules.specs.Reading.{item_seen, seen}
use Rattle.statement_typing.specs.Asked.{item_place, place_of}
use Rattle.statement_typing.specs.Aspects.{item_condition}
use Rattle.statement_typing.specs.Pragmas.{checked_by, moved_value, way_by}
use Rattle.statement_typing.specs.Statements.{Around, Returns, a_value, nothing, return_of, returned, value_for}
use Rattle.statement_rules.specs.Reads as read

pub value_is : (c : Scope) (g : Found Part) (e : tree.Expr) → value_for c g e ≡ read.value_for_read c.world g (place_of c e) (seen c (read.value_want g) e)
value_is c (Is g) e = refl
value_is c Unknown e = refl
value_is c (Refused f) e = refl

pub returned_is : (c : Scope) (k : Found ℕ) (e : tree.Expr) → returned c k e ≡ read.returned_read c.world k (place_of c e) (seen c (read.returned_want k) e)
returned_is c (Is k) e = refl
returned_is c Unknown e = refl
returned_is c (Refused f) e = refl

pub return_is : (a : Around) (p : Place) (r : Returns) (e : tree.Expr) → return_of a p r (Some e) ≡ read.return_read a.scope.world r (place_of a.scope e) (seen a.scope (read.return_want r) e)
return_is a p nothing e = refl
return_is a p (a_value k) e = ap (with_found action.Give) (returned_is a.scope k e)

pub way_is : (c : Scope) (p : Place) (d : Option Direction) (i : tree.Item) → way_by c p d i ≡ read.way_by p d (moved_value c.world (item_place c i) (item_seen c want.Free i))
way_is c p (Some d) i = refl
way_is c p None i = refl

pub checked_is : (c : Scope) (p : Place) (w : Option Word) (i : tree.Item) → checked_by c p w i ≡ read.checked_by p w (item_condition c L9 i)
checked_is c p None i = refl
checked_is c p (Some word.SparkMode) i = refl
checked_is c p (Some word.Pure) i = refl
checked_is c p (Some word.Preelaborate) i = refl
checked_is c p (Some word.Assert) i = refl
checked_is c p (Some word.Assume) i = refl
checked_is c p (Some word.LoopInvariant) i = refl
checked_is c p (Some word.LoopVariant) i = refl
checked_is c p (Some word.Pre) i = refl
checked_is c p (Some word.Post) i = refl
checked_is c p (Some word.Global) i = refl
checked_is c p (Some word.First) i = refl
checked_is c p (Some word.Last) i = refl
checked_is c p (Some word.Length) i = refl
checked_is c p (Some word.Succ) i = refl
checked_is c p (Some word.Pred) i = refl
checked_is c p (Some word.Pos) i = refl
checked_is c p (Some word.Val) i = refl
checked_is c p (Some word.Old) i = refl
checked_is c p (Some word.Result) i = refl
checked_is c p (Some word.LoopEntry) i = refl
checked_is c p (Some word.On) i = refl
checked_is c p (Some word.Check) i = refl
checked_is c p (Some word.Increases) i = refl
checked_is c p (Some word.Decreases) i = refl
checked_is c p (Some word.Input) i = refl
checked_is c p (Some word.Output) i = refl
checked_is c p (Some word.InOut) i = refl
