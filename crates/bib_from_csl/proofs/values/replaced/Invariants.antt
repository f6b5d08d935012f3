use Rattle.std.proofs.Common.{◌≡◌, ◌++◌, ◌-◌, length}
use Rattle.std.specs.Str.{chars, IsUtf8}
use Rattle.bib_text.proofs.TextFacts.{ahead}
use Rattle.bib_from_csl.specs.Values.{replaced}
use Rattle.bib_from_csl.proofs.values.replaced.Given as goal

abbrev pub invariant-text : goal.invariant-text
invariant-text l =
    (l.scanner.text ≡ l.text)
    × IsUtf8 (ahead l.scanner)
    × (l.out ++ replaced l.replaced l.with (chars (ahead l.scanner)) ≡ replaced l.replaced l.with (chars l.text))

abbrev pub decreases-text : goal.decreases-text
decreases-text l = length l.scanner.text - l.scanner.at
