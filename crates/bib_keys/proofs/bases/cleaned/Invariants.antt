use Rattle.std.proofs.Common.{◌≡◌, ◌++◌, drop}
use Rattle.std.specs.Prelude.{string_bytes}
use Rattle.bib_keys.specs.Bases.{cleaned, cleaned_after}
use Rattle.bib_keys.proofs.bases.cleaned.Given as goal

abbrev pub invariant-bytes : goal.invariant-bytes
invariant-bytes l = cleaned l.text ≡ string_bytes l.out ++ cleaned_after l.last (drop l.byte-index l.text)
