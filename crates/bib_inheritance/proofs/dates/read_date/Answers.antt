use Rattle.std.proofs.Common.{◌<◌, ◌∙◌, Some, length, length-set, arith, refl, sym, subst}
use Rattle.std.proofs.lemmas.Option.{slice_get_read}
use Rattle.bib_inheritance.specs.InheritableDate.{IsInheritableDate}
use Rattle.bib_inheritance.specs.EntryTexts.{EntryTexts}
use Rattle.bib_inheritance.proofs.DateFacts.{dates_more, reads_more}
use Rattle.bib_inheritance.proofs.TurnFacts.{texts_at_index}
use Rattle.bib_inheritance.proofs.dates.read_date.Goals as goal

pub returns-clause-dates : goal.returns-clause-dates
returns-clause-dates c =
    let within : c.args.index < length c.args.dates.now = omega (arith, c.requires.index, c.requires.dates.as_many) in
    let entries = c.args.entries.now in
    let entry = c.index-entries-index.result in
    let at = texts_at_index entries c.args.index entry c.requires.index c.index-entries-index.is in
    record {
      as_many = length-set c.args.dates.now c.args.index (Some c.in_ok-date.date) ∙ c.requires.dates.as_many;
      right = dates_more entries c.args.dates.now c.args.index c.in_ok-date.date within
          (record {
            is = subst (λ (s : EntryTexts). IsInheritableDate s.fields c.in_ok-date.date) (sym at) c.in_ok-date.ensures.read;
            entry = entry;
            there = slice_get_read entries (length entries) c.args.index entry refl c.requires.index c.index-entries-index.is;
            lies = c.in_ok-date.ensures.placed;
          })
          c.requires.dates.right;
    }

pub returns-clause-added : goal.returns-clause-added
returns-clause-added c = λ other.
    reads_more c.args.dates.now c.args.index other c.in_ok-date.date
    (omega (arith, c.requires.index, c.requires.dates.as_many))
