use Rattle.std.proofs.Common.{rules}
use Rattle.bib_entry.proofs.DateFacts.{is_set_date}
use Rattle.bib_entry.proofs.entry.Entry.set_date_with_prefix.Goals as goal

pub returns : goal.returns
returns c =
    is_set_date _ _ c.args.prefix c.args.self.now c.set_as.new.self c.remove-year.new.self c.remove-month.new.self
    c.remove-day.new.self c.date.result.now c.year.result.now c.month.result.now c.day.result.now
    (search rules) (search rules) c.date.ensures c.year.ensures c.month.ensures c.day.ensures
    c.remove-year.ensures.removed c.remove-month.ensures.removed c.remove-day.ensures.removed
