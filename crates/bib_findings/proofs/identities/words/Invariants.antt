use Rattle.std.proofs.Common.{length}
use Rattle.std.specs.Prelude.{chars, string_bytes}
use Rattle.bib_findings.proofs.WordFacts.{AreWordsLeft}
use Rattle.bib_findings.proofs.identities.words.Given as goal

-- the result is the text so far, followed by the text of the remaining characters after the current word
abbrev pub invariant-characters : goal.invariant-characters
invariant-characters l = AreWordsLeft l.is_first (chars l.lowercase) (length l.yielded) (string_bytes l.text) (string_bytes l.word)
