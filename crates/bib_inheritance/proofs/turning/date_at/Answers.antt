use Rattle.std.proofs.Common.{◌≡◌, ◌∙◌, false, true, None, cond, List, ap, sym, subst, map, option_map, rules}
use Rattle.std.specs.Prelude.{IfOk}
use Rattle.bib_chunks.specs.Styled.{styled}
use Rattle.bib_inheritance.specs.EntryTexts.{EntryTexts}
use Rattle.bib_inheritance.specs.InheritableDate.{date_for, last_date, looks_for_date}
use Rattle.bib_inheritance.specs.Resolving.{at_index, texts_of_entries}
use Rattle.bib_inheritance.proofs.TurnFacts.{texts_at_index}
use Rattle.bib_inheritance.proofs.turning.date_at.Goals as goal

-- an entry that has a date, or needs none, inherits none
none_needed : (own : EntryTexts) (references : List EntryTexts) → looks_for_date own ≡ false → date_for own references ≡ None
none_needed own references is = ap (λ b. cond b (last_date references) None) is

-- an entry that lacks a required date inherits that of the last reference whose date can be inherited
one_needed : (own : EntryTexts) (references : List EntryTexts) → looks_for_date own ≡ true → date_for own references ≡ last_date references
one_needed own references is = ap (λ b. cond b (last_date references) None) is

pub returns-then-not-looks_for_date-clause-date : goal.returns-then-not-looks_for_date-clause-date
returns-then-not-looks_for_date-clause-date c =
    let entries = c.args.entries.now in
    let here = texts_at_index entries c.args.index c.index-entries-index.result c.requires.index c.index-entries-index.is in
    let references = map (at_index (texts_of_entries entries)) c.args.indices.now in
    sym (none_needed (at_index (texts_of_entries entries) c.args.index) references (ap looks_for_date here ∙ search rules))

pub returns-clause-date : goal.returns-clause-date
returns-clause-date c =
    let entries = c.args.entries.now in
    let here = texts_at_index entries c.args.index c.index-entries-index.result c.requires.index c.index-entries-index.is in
    let references = map (at_index (texts_of_entries entries)) c.args.indices.now in
    subst (λ found. IfOk c.last_date.result (λ date. option_map styled date ≡ found))
    (sym (one_needed (at_index (texts_of_entries entries) c.args.index) references (ap looks_for_date here ∙ search rules)))
    c.last_date.ensures.last
