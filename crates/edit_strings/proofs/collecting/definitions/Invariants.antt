use Rattle.std.proofs.Common.{◌≡◌, ℕ, List, take}
use Rattle.std.specs.String.{string_bytes}
use Rattle.bib_syntax.specs.Reading.{FileReading}
use Rattle.edit_strings.specs.Collected.{definition_lines, known_name}
use Rattle.edit_strings.specs.Collecting.{known_in, string_texts}
use Rattle.edit_strings.specs.Views.{lent_texts}
use Rattle.edit_strings.proofs.collecting.definitions.Given as goal

abbrev pub invariant-names : goal.invariant-names
invariant-names l =
    (says : FileReading) → ((text : List ℕ) → known_in l.known text ≡ known_name says text)
    → string_bytes l.new
    ≡ definition_lines says l.line_end (string_texts (take l.index l.names)) (lent_texts (take l.index l.texts))
