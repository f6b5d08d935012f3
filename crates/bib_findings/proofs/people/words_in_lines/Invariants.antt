use Rattle.std.proofs.Common.{◌≡◌, map}
use Rattle.std.specs.List.{flat_map}
use Rattle.std.specs.Prelude.{string_bytes}
use Rattle.bib_findings.specs.People.{word_in_lines}
use Rattle.bib_findings.proofs.people.words_in_lines.Given as goal

-- the lines are those of the first words
abbrev pub invariant-words : goal.invariant-words
invariant-words l = string_bytes l.lines ≡ flat_map word_in_lines (map (λ word. word.now) l.yielded)
