-- The subtypes of an integer type.
use Rattle.std.specs.Prelude.{ℕ, suc, Some, None, List}
use Rattle.ada_values.specs.declared.scalars.Scalar.{Scalar}
use Rattle.type_base.specs.declared.world.Discrete.{Discrete}
use Rattle.type_base.specs.declared.world.Form.TheVariants as form
use Rattle.statement_typing.specs.declared.draft.Draft.{Draft}
use Rattle.statement_typing.specs.Drafts.{Entered, next_subtype, with_subtype}

-- An entry with the base range, and after it the first subtype, whose type it stands for.
abbrev pub with_integer : List ℕ → Discrete → Scalar → Draft → Entered
with_integer name c x d = record {
  number = suc (next_subtype d);
  draft = with_subtype (Some name) (record { of = next_subtype d; form = form.Number c x })
      (with_subtype None (record { of = next_subtype d; form = form.Number c (record x { lo = x.base_lo; hi = x.base_hi }) }) d);
}
