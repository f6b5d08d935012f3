use Rattle.std.proofs.Common.{◌≡◌, drop, map}
use Rattle.bib_syntax.specs.Views.{field_of}
use Rattle.edit_convert.specs.Conversions.{defines_month}
use Rattle.edit_convert.proofs.joining.defines_month.Given as goal

abbrev pub invariant-abbreviations : goal.invariant-abbreviations
invariant-abbreviations l = defines_month (map field_of l.abbreviations) ≡ defines_month (map field_of (drop l.pair-index l.abbreviations))
