use Rattle.std.proofs.Common.{rules}
use Rattle.bib_entry.proofs.ReportFacts.{reported_all}
use Rattle.bib_entry.proofs.entry.Entry.malformed_fields.Goals as goal

pub returns : goal.returns
returns c = reported_all c.args.self.now c.check_fields.new.reported.items c.check_dates.new.reported.items (search rules) (search rules)
