use Rattle.std.proofs.Common.{◌≡◌, ◌++◌, ◌-◌, [], None, length, reverse}
use Rattle.std.specs.Str.{chars, IsUtf8}
use Rattle.bib_text.proofs.TextFacts.{ahead}
use Rattle.bib_csl.specs.Markup.{marked_from}
use Rattle.bib_csl.proofs.tags.without_commands.Given as goal

abbrev pub invariant-text : goal.invariant-text
invariant-text l =
    (l.scanner.text ≡ l.text)
    × IsUtf8 (ahead l.scanner)
    × (l.out ++ marked_from l.has_tags (reverse l.names) l.name (chars (ahead l.scanner)) ≡ marked_from l.has_tags [] None (chars l.text))

abbrev pub decreases-text : goal.decreases-text
decreases-text l = length l.scanner.text - l.scanner.at
