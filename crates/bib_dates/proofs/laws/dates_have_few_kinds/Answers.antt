use Rattle.bib_dates.proofs.KindFacts.{has_date_kind, promised_date, promised_or_unread, promised_three_fields}
use Rattle.bib_dates.proofs.laws.dates_have_few_kinds.Goals as goal

pub returns-clause-error : goal.returns-clause-error
returns-clause-error c = has_date_kind

pub returns-clause-promised : goal.returns-clause-promised
returns-clause-promised c = promised_or_unread

pub returns-clause-date : goal.returns-clause-date
returns-clause-date c = promised_date

pub returns-clause-three_fields : goal.returns-clause-three_fields
returns-clause-three_fields c = promised_three_fields
