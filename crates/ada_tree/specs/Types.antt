-- What becomes of type definitions and subtype indications (Ada RM 3.2.2, 3.4, 3.5.1, 3.5.4, 3.6, 3.8).
use Rattle.std.specs.Prelude.{List, ◌∷◌, Some, None, []}
use Rattle.ada_syntax.specs.declared.declarations.IndexForm.TheVariants as index_form
use Rattle.ada_syntax.specs.declared.declarations.TypeForm.TheVariants as type_form
use Rattle.tree_parts.specs.declared.type_parts.TypePart.TheVariants as type_part
use Rattle.tree_parts.specs.declared.parts.Part.{Part}
use Rattle.tree_parts.specs.declared.parts.Part.TheVariants as part
use Rattle.ada_tree.specs.declared.rules.TypeFormRule.{TypeFormRule}
use Rattle.ada_tree.specs.declared.rules.TypeFormRule.TheVariants as type_form'
use Rattle.ada_tree.specs.declared.rules.CompositeRule.{CompositeRule}
use Rattle.ada_tree.specs.declared.rules.CompositeRule.TheVariants as composite'
use Rattle.ada_tree.specs.declared.rules.IndexRule.{IndexRule}
use Rattle.ada_tree.specs.declared.rules.IndexRule.TheVariants as index'
use Rattle.ada_tree.specs.declared.rules.SubtypeRule.{SubtypeRule}
use Rattle.ada_tree.specs.declared.rules.SubtypeRule.TheVariants as subtype'
use Rattle.tree_parts.specs.Ends.{bounds_end}
use Rattle.tree_parts.specs.Operations.{joined, span_of}
use Rattle.tree_parts.specs.Parts.{◌!◌, after, bounds_of, component_of, components_of, expr_of, index_form_of, index_of, name_of, names_of, place_of, sub_ind_of}

-- Below, the parts after the parts of a production are taken from the front, and what the rule makes of them is put there.

abbrev pub type_form_rule : TypeFormRule → List Part → List Part
-- TypeDef = range Simple .. Simple
type_form_rule type_form'.Range s = part.Type (type_part.TypeDef (record { span = joined (place_of (s ! 0)) (span_of (expr_of (s ! 3))); form = type_form.Range (record { low = (expr_of (s ! 1)); high = (expr_of (s ! 3)) }) })) ∷ after 4 s
-- TypeDef = mod Simple
type_form_rule type_form'.Modular s = part.Type (type_part.TypeDef (record { span = joined (place_of (s ! 0)) (span_of (expr_of (s ! 1))); form = type_form.Modular (expr_of (s ! 1)) })) ∷ after 2 s
-- TypeDef = ( Id Ids )
type_form_rule type_form'.Enumeration s = part.Type (type_part.TypeDef (record { span = joined (place_of (s ! 0)) (place_of (s ! 3)); form = type_form.Enumeration ((place_of (s ! 1)) ∷ (names_of (s ! 2))) })) ∷ after 4 s
-- TypeDef = new SubInd
type_form_rule type_form'.Derived s = part.Type (type_part.TypeDef (record { span = joined (place_of (s ! 0)) (sub_ind_of (s ! 1)).span; form = type_form.Derived (sub_ind_of (s ! 1)) })) ∷ after 2 s

abbrev pub composite_rule : CompositeRule → List Part → List Part
-- TypeDef = array ( Index ) of SubInd
composite_rule composite'.Array s = part.Type (type_part.TypeDef (record { span = joined (place_of (s ! 0)) (sub_ind_of (s ! 5)).span; form = type_form.Array (index_of (s ! 2)) (sub_ind_of (s ! 5)) })) ∷ after 6 s
-- TypeDef = record Comp Comps end record
composite_rule composite'.Record s = part.Type (type_part.TypeDef (record { span = joined (place_of (s ! 0)) (place_of (s ! 4)); form = type_form.Record ((component_of (s ! 1)) ∷ (components_of (s ! 2))) })) ∷ after 5 s

abbrev pub index_rule : IndexRule → List Part → List Part
-- Index = Simple IdxTail
index_rule index'.Index s = part.Type (type_part.Index (record { first = (expr_of (s ! 0)); form = (index_form_of (s ! 1)) })) ∷ after 2 s
-- IdxTail = .. Simple
index_rule index'.IndexUpTo s = part.Type (type_part.IndexForm (index_form.UpTo (expr_of (s ! 1)))) ∷ after 2 s
-- IdxTail =
index_rule index'.IndexAlone s = part.Type (type_part.IndexForm index_form.Alone) ∷ s
-- Box = <>
index_rule index'.IndexUnconstrained s = part.Type (type_part.IndexForm index_form.Unconstrained) ∷ after 1 s
-- Box = Simple .. Simple
index_rule index'.IndexWithin s = part.Type (type_part.IndexForm (index_form.Within (record { low = (expr_of (s ! 0)); high = (expr_of (s ! 2)) }))) ∷ after 3 s

abbrev pub subtype_rule : SubtypeRule → List Part → List Part
-- Comp = Id Ids : SubInd ;
subtype_rule subtype'.Component s = part.Type (type_part.Component (record { span = joined (place_of (s ! 0)) (place_of (s ! 4)); names = (place_of (s ! 0)) ∷ (names_of (s ! 1)); subtype = (sub_ind_of (s ! 3)) })) ∷ after 5 s
-- Comps = Comp Comps
subtype_rule subtype'.Components s = part.Type (type_part.Components ((component_of (s ! 0)) ∷ (components_of (s ! 1)))) ∷ after 2 s
-- Comps =
subtype_rule subtype'.NoComponents s = part.Type (type_part.Components []) ∷ s
-- SubInd = Name SubTail
subtype_rule subtype'.SubInd s = part.Type (type_part.SubInd (record { span = joined (name_of (s ! 0)).span (bounds_end (bounds_of (s ! 1)) (name_of (s ! 0)).span); name = (name_of (s ! 0)); bounds = (bounds_of (s ! 1)) })) ∷ after 2 s
-- SubTail = range Simple .. Simple
subtype_rule subtype'.SomeBounds s = part.Type (type_part.Bounds (Some (record { low = (expr_of (s ! 1)); high = (expr_of (s ! 3)) }))) ∷ after 4 s
-- SubTail =
subtype_rule subtype'.NoBounds s = part.Type (type_part.Bounds None) ∷ s
