use Rattle.std.proofs.Common.{◌≡◌, ◌++◌, ◌-◌, ◌≤◌, length}
use Rattle.std.specs.Str.{chars, IsUtf8}
use Rattle.bib_text.proofs.TextFacts.{ahead}
use Rattle.bib_csl.specs.Sentence.{cased_from, title_start}
use Rattle.bib_csl.proofs.sentence.title_in_sentence_case.Given as goal

abbrev pub invariant-title : goal.invariant-title
invariant-title l =
    (l.scanner.text ≡ l.title)
    × IsUtf8 (ahead l.scanner)
    × (l.out ++ cased_from l.at (chars (ahead l.scanner)) ≡ cased_from title_start (chars l.title))
    × (l.at.depth ≤ l.scanner.at)

abbrev pub decreases-title : goal.decreases-title
decreases-title l = length l.scanner.text - l.scanner.at
