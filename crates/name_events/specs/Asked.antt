-- What a walk asks of pragmas, aspects and profiles.
use Rattle.std.specs.Prelude.{ℕ, Bool, true, false, ◌==◌, not, ◌&&◌, Option, Some, None}
use Rattle.ada_text.specs.declared.token.Span.{Span}
use Rattle.name_events.specs.declared.asked.Given.{Given}
use Rattle.name_events.specs.declared.asked.Given.TheVariants as given
use Rattle.name_events.specs.declared.words.PragmaKind.{PragmaKind}
use Rattle.name_events.specs.declared.words.PragmaKind.TheVariants as pragma
use Rattle.name_events.specs.declared.words.Region.{Region}
use Rattle.name_events.specs.declared.words.Region.TheVariants as region
use Rattle.name_numbers.specs.declared.words.Word.{Word}
use Rattle.name_numbers.specs.declared.words.Word.TheVariants as word
use Rattle.name_numbers.specs.Numbers.{word_of}
use Rattle.name_uses.specs.Asked.{is_selector, sole_choice, sole_item}
use Rattle.syntax_view.specs.Trees.{Suffixes, no_suffixes, suffixes, Args, no_args, args, Arg, arg, ArgChoice, Value, no_value, value, Item}

-- ---- names of subtypes

-- identifiers and points alone follow
abbrev pub are_selectors : Suffixes → Bool
are_selectors no_suffixes = true
are_selectors (suffixes s ss) = is_selector s && are_selectors ss

-- ---- what is given to a pragma or an aspect

abbrev pub given_alone : Option Span → Given
given_alone (Some s) = given.Identifier s
given_alone None = given.Other

abbrev pub given_choice : ArgChoice → Value → Given
given_choice c no_value = given_alone (sole_choice c)
given_choice c (value v) = given.Other

abbrev pub given_arg : Arg → Given
given_arg (arg s c v) = given_choice c v

abbrev pub given_args : Args → Given
given_args no_args = given.Nothing
given_args (args a no_args) = given_arg a
given_args (args a (args b as')) = given.Other

abbrev pub given_value : Option Item → Given
given_value None = given.Nothing
given_value (Some i) = given_alone (sole_item i)

abbrev pub is_on : Option Word → Bool
is_on (Some word.On) = true
is_on _ = false

-- nothing, or `On`
abbrev pub switches_on : (ℕ → ℕ) → Given → Bool
switches_on n given.Nothing = true
switches_on n (given.Identifier s) = is_on (word_of (n s.from))
switches_on n given.Other = false

-- nothing, or the name that has the number
abbrev pub names_unit : (ℕ → ℕ) → ℕ → Given → Bool
names_unit n m given.Nothing = true
names_unit n m (given.Identifier s) = n s.from == m
names_unit n m given.Other = false

-- ---- words

abbrev pub pragma_kind : Option Word → PragmaKind
pragma_kind (Some word.SparkMode) = pragma.Mode
pragma_kind (Some word.Pure) = pragma.Category
pragma_kind (Some word.Preelaborate) = pragma.Category
pragma_kind (Some word.Assert) = pragma.Check
pragma_kind (Some word.Assume) = pragma.Check
pragma_kind (Some word.LoopInvariant) = pragma.Check
pragma_kind (Some word.LoopVariant) = pragma.Check
pragma_kind _ = pragma.Other

abbrev pub is_check : PragmaKind → Bool
is_check pragma.Check = true
is_check _ = false

abbrev pub is_private : Region → Bool
is_private region.Private = true
is_private _ = false

abbrev pub is_subprogram : Region → Bool
is_subprogram region.Subprogram = true
is_subprogram _ = false

-- Pure and Preelaborate of a package (Ada RM 10.2.1)
abbrev pub is_category : (ℕ → ℕ) → Region → Given → Bool
is_category n (region.Visible m) g = names_unit n m g
is_category n region.Private g = false
is_category n region.Body g = false
is_category n region.Subprogram g = false

-- SPARK_Mode of a package or a subprogram's body (SPARK RM 1.4)
abbrev pub is_heading : (ℕ → ℕ) → Region → PragmaKind → Given → Bool
is_heading n r pragma.Mode g = not (is_private r) && switches_on n g
is_heading n r pragma.Category g = is_category n r g
is_heading n r pragma.Check g = false
is_heading n r pragma.Other g = false
