use Rattle.std.proofs.Common.{◌≡◌, drop, map}
use Rattle.std.specs.List.{list_any}
use Rattle.bib_findings.specs.StandardNumbers.{is_wrong_number}
use Rattle.bib_findings.proofs.standard_numbers.has_wrong_word.Given as goal

-- one of the words from this one on is wrong exactly if one of all words is
abbrev pub invariant-words : goal.invariant-words
invariant-words l =
    list_any (is_wrong_number l.is_serial) (map (λ word. word.now) (drop l.word-index l.words))
    ≡ list_any (is_wrong_number l.is_serial) (map (λ word. word.now) l.words)
