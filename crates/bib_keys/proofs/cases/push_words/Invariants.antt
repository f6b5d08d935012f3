use Rattle.std.proofs.Common.{◌≡◌, ◌++◌, take}
use Rattle.std.specs.Prelude.{string_bytes}
use Rattle.std.specs.List.{flat_map}
use Rattle.bib_keys.specs.Words.{in_case}
use Rattle.bib_keys.proofs.cases.push_words.Given as goal

abbrev pub invariant-words : goal.invariant-words
invariant-words l = string_bytes l.out ≡ string_bytes l.initial.out ++ flat_map (in_case l.case) (take l.word-index l.words)
