use Rattle.std.proofs.Common.{◌≡◌, drop, map}
use Rattle.bib_syntax.specs.Views.{field_of}
use Rattle.edit_convert.specs.Conversions.{keep_comments}
use Rattle.edit_convert.proofs.joining.keep_comments.Given as goal

abbrev pub invariant-fields : goal.invariant-fields
invariant-fields l = keep_comments l.text (map field_of l.fields) ≡ keep_comments l.text (map field_of (drop l.at l.fields))
