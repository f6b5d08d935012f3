use Rattle.std.proofs.Common.{◌≡◌, ◌++◌, ◌-◌, length}
use Rattle.std.specs.Str.{chars, IsUtf8}
use Rattle.bib_text.proofs.TextFacts.{ahead}
use Rattle.bib_from_csl.specs.FromItems.{key_text}
use Rattle.bib_from_csl.proofs.writing.key_of.Given as goal

abbrev pub invariant-id : goal.invariant-id
invariant-id l =
    (l.scanner.text ≡ l.id)
    × IsUtf8 (ahead l.scanner)
    × (l.key ++ key_text (chars (ahead l.scanner)) ≡ key_text (chars l.id))

abbrev pub decreases-id : goal.decreases-id
decreases-id l = length l.scanner.text - l.scanner.at
