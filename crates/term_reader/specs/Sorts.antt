-- The text of a sort.
use Rattle.std.specs.Prelude.{ℕ, List, [], ◌++◌, codes}
use Rattle.logic_terms.specs.Value.{Kind, numbers, truths, arrays, records, Kinds, no_kinds, kind}

-- a letter and the parts in brackets, one space between two parts
abbrev mutual
  pub kind_text : Kind → List ℕ
  kind_text numbers = codes "N"
  kind_text truths = codes "B"
  kind_text (arrays k) = codes "(A" ++ (codes " " ++ kind_text k) ++ codes ")"
  kind_text (records ks) = codes "(R" ++ spaced_kinds ks ++ codes ")"

  -- each with a space before it
  pub spaced_kinds : Kinds → List ℕ
  spaced_kinds no_kinds = []
  spaced_kinds (kind k ks) = (codes " " ++ kind_text k) ++ spaced_kinds ks
