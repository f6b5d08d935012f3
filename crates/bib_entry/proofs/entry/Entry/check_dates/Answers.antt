use Rattle.bib_entry.proofs.ReportFacts.{adds_dates}
use Rattle.bib_entry.proofs.entry.Entry.check_dates.Goals as goal

pub returns : goal.returns
returns c =
    adds_dates _ _ _ _ c.args.reported.now.items c.check_date.new.reported.items c.check_date-2.new.reported.items
    c.check_date-3.new.reported.items c.check_date-4.new.reported.items
    (c.in_ok-check_date.ensures) (c.in_ok-check_date-2.ensures) (c.in_ok-check_date-3.ensures) (c.in_ok-check_date-4.ensures)
