use Rattle.std.proofs.Common.{ap, map, ◌∙◌}
use Rattle.bib_abbreviations.specs.Abbreviations.{definition_in}
use Rattle.bib_syntax.specs.Views.{field_of}
use Rattle.bib_file_entries.proofs.keeping.keep.Goals as goal
use Rattle.bib_abbreviations.proofs.AbbreviationFacts.{definitions_same}

pub returns-clause-kept : goal.returns-clause-kept
returns-clause-kept c =
    let same =
    definitions_same
    (λ name.
    c.in_ok-definitions.ensures name ∙ ap (λ pairs. definition_in (map field_of pairs) name) c.deref.ensures.value) in
    rw (← same, ← c.deref-2.ensures.value) c.keep_entries.ensures.kept
