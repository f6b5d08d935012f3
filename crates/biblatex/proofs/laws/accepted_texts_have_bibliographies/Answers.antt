use Rattle.biblatex.proofs.ResolvedFacts.{bibliography_of}
use Rattle.biblatex.proofs.laws.accepted_texts_have_bibliographies.Goals as goal

pub returns-clause-has : goal.returns-clause-has
returns-clause-has c text accepted =
    let loaded = bibliography_of accepted.accepted in
    (loaded.0, record { says = accepted.says; reading = accepted.reading; loaded = loaded.1 })

pub returns-clause-accepted : goal.returns-clause-accepted
returns-clause-accepted c text bibliography is = record { says = is.says; reading = is.reading; accepted = is.loaded.accepted }
