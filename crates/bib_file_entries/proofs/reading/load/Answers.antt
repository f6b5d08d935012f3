use Rattle.std.proofs.Common.{ap, map, ◌∙◌}
use Rattle.bib_abbreviations.specs.Abbreviations.{definition_in}
use Rattle.bib_syntax.specs.Views.{field_of}
use Rattle.bib_file_entries.proofs.reading.load.Goals as goal
use Rattle.bib_abbreviations.proofs.AbbreviationFacts.{definitions_same}

pub returns-clause-loaded : goal.returns-clause-loaded
returns-clause-loaded c =
    let same =
    definitions_same
    (λ name.
    c.in_ok-definitions.ensures name ∙ ap (λ pairs. definition_in (map field_of pairs) name) c.as_slice.ensures.value) in
    rw (← same) c.load_entries.ensures.loaded

pub returns-clause-refused : goal.returns-clause-refused
returns-clause-refused c =
    let same =
    definitions_same
    (λ name.
    c.in_ok-definitions.ensures name ∙ ap (λ pairs. definition_in (map field_of pairs) name) c.as_slice.ensures.value) in
    rw (← same) c.load_entries.ensures.refused
