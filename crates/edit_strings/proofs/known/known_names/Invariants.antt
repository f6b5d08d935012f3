use Rattle.std.proofs.Common.{◌≡◌, ℕ, List, map, take}
use Rattle.std.specs.List.{find}
use Rattle.std.specs.Option.{option_map}
use Rattle.bib_syntax.specs.Views.{field_of, file_of}
use Rattle.edit_strings.specs.Collected.{is_reusable}
use Rattle.edit_strings.specs.Collecting.{known_in}
use Rattle.edit_strings.proofs.known.known_names.Given as goal

abbrev pub invariant-definitions : goal.invariant-definitions
invariant-definitions l = (text : List ℕ)
    → known_in l.known text
    ≡ option_map (λ f. f.name.text)
    (find (is_reusable (file_of l.raw) text) (map field_of (take l.definition-index l.raw.abbreviations.items)))
