use Rattle.std.proofs.Common.{◌≡◌, drop}
use Rattle.edit_accents.specs.Recoded.{has_other_form}
use Rattle.edit_accents.proofs.recoding.has_other_form.Given as goal

abbrev pub invariant-bytes : goal.invariant-bytes
invariant-bytes l = has_other_form l.form l.text ≡ has_other_form l.form (drop l.byte-index l.byte-items)
