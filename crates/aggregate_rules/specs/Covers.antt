-- What ranges are for bounds, in the words of the rules of aggregates.
use Rattle.choice_cover.specs.declared.cover.Cover.{Cover}
use Rattle.choice_cover.specs.declared.cover.Cover.TheVariants as cover
use Rattle.typing_rules.specs.Aggregates.{Cover as CoverOf, missing, outside, twice, whole}

abbrev pub cover_as : Cover → CoverOf
cover_as (cover.Outside n) = outside n
cover_as (cover.Twice n) = twice n
cover_as cover.Missing = missing
cover_as cover.Whole = whole
