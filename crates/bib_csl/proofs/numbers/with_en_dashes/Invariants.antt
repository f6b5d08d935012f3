use Rattle.std.proofs.Common.{◌≡◌, ◌++◌, ◌-◌, false, length}
use Rattle.std.specs.Str.{chars, IsUtf8}
use Rattle.bib_text.proofs.TextFacts.{ahead}
use Rattle.bib_csl.specs.Numbers.{pages_from}
use Rattle.bib_csl.proofs.numbers.with_en_dashes.Given as goal

abbrev pub invariant-text : goal.invariant-text
invariant-text l =
    (l.scanner.text ≡ l.text)
    × IsUtf8 (ahead l.scanner)
    × (l.out ++ pages_from l.follows_dash (chars (ahead l.scanner)) ≡ pages_from false (chars l.text))

abbrev pub decreases-text : goal.decreases-text
decreases-text l = length l.scanner.text - l.scanner.at
