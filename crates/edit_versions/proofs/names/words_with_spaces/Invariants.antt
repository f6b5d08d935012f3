use Rattle.edit_versions.proofs.WordFacts.{AreWords}
use Rattle.edit_versions.proofs.names.words_with_spaces.Given as goal

-- the words so far are those of the characters so far
abbrev pub invariant-text : goal.invariant-text
invariant-text l = AreWords l.yielded l.words l.is_after
