use Rattle.std.proofs.Common.{◌≡◌, ◌++◌, ◌-◌, length}
use Rattle.std.specs.Str.{chars, IsUtf8}
use Rattle.bib_text.proofs.TextFacts.{ahead}
use Rattle.bib_csl.specs.Markup.{loosened}
use Rattle.bib_csl.proofs.tags.without_ties.Given as goal

abbrev pub invariant-text : goal.invariant-text
invariant-text l =
    (l.scanner.text ≡ l.text)
    × IsUtf8 (ahead l.scanner)
    × (l.out ++ loosened (chars (ahead l.scanner)) ≡ loosened (chars l.text))

abbrev pub decreases-text : goal.decreases-text
decreases-text l = length l.scanner.text - l.scanner.at
