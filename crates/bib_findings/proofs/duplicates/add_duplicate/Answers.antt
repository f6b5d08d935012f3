use Rattle.std.proofs.Common.{◌≡◌, List, ◌++◌, ap, ◌∙◌, map, length}
use Rattle.std.specs.Prelude.{option_and_then, slice_get}
use Rattle.std.specs.BTreeMap.{get_by_text}
use Rattle.std.specs.String.{string_bytes}
use Rattle.bib_syntax.specs.Reading.{EntryReading}
use Rattle.bib_syntax.specs.Views.{entry_reading_of}
use Rattle.bib_findings.specs.Identities.{identities}
use Rattle.bib_findings.specs.Seen.{alike_among, remembered, stored_indices}
use Rattle.bib_findings.proofs.SeenFacts.{finds_same, first_more, on_ok, on_ok_more, still_there}
use Rattle.bib_findings.proofs.duplicates.add_duplicate.Goals as goal

pub returns-clause-there : goal.returns-clause-there
returns-clause-there c =
    on_ok c.add_same.result
    (still_there (get_by_text c.args.seen.now) (get_by_text c.remember.new.seen) (length c.args.said.now)
    (map string_bytes c.in_ok-identities.identities.items) c.args.index c.requires.there c.requires.within c.in_ok-remember.ensures)

pub returns-clause-first : goal.returns-clause-first
returns-clause-first c =
    on_ok c.add_same.result
    (λ earlier.
    first_more (get_by_text c.args.seen.now) (get_by_text c.remember.new.seen) c.args.said.now earlier c.args.index
    c.index-said-index.result c.requires.there c.requires.within c.index-said-index.is
    (λ id.
    c.in_ok-remember.ensures id
    ∙ ap (λ ids. remembered ids c.args.index id (stored_indices (get_by_text c.args.seen.now id))) c.in_ok-identities.ensures))

pub returns-clause-added : goal.returns-clause-added
returns-clause-added c =
    let said : List EntryReading = map entry_reading_of c.args.said.now in
    let one : EntryReading = entry_reading_of c.index-said-index.result in
    let found : option_and_then (slice_get said) c.in_ok-first.first ≡ alike_among (get_by_text c.args.seen.now) said one (identities one) =
    c.in_ok-first.ensures.first
    ∙ ap (alike_among (get_by_text c.args.seen.now) said one)
    (ap (map string_bytes) c.deref.ensures.value ∙ c.in_ok-identities.ensures) in
    on_ok_more c.add_same.result
    (λ appended earlier are.
    appended
    ∙ ap (λ l. c.args.found.now.items ++ l)
    (finds_same (get_by_text c.args.seen.now) c.args.said.now earlier c.args.index c.index-said-index.result
    (option_and_then (slice_get said) c.in_ok-first.first) c.requires.within c.index-said-index.is found are))
    c.add_same.ensures
