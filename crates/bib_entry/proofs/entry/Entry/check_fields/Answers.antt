use Rattle.bib_entry.proofs.ReportFacts.{adds_fields, adds_pagination, adds_gender, adds_ranges, adds_number}
use Rattle.bib_entry.proofs.entry.Entry.check_fields.Goals as goal

pub returns : goal.returns
returns c =
    adds_fields _ _ _ _ _ _ c.args.reported.now.items c.check_as.new.reported.items c.check_as-2.new.reported.items
    c.check_as-3.new.reported.items c.check_as-4.new.reported.items c.check_as-5.new.reported.items
    c.check_as-6.new.reported.items
    (adds_pagination _ _ _ _ (c.in_ok-check_as.ensures)) (adds_gender _ _ _ _ (c.in_ok-check_as-2.ensures))
    (adds_ranges _ _ _ _ (c.in_ok-check_as-3.ensures))
    (adds_pagination _ _ _ _ (c.in_ok-check_as-4.ensures)) (adds_number _ _ _ _ (c.in_ok-check_as-5.ensures))
    (adds_number _ _ _ _ (c.in_ok-check_as-6.ensures))
