use Rattle.std.proofs.Common.{ap}
use Rattle.std.specs.Option.{option_map}
use Rattle.bib_dates.specs.Readings.{readable_value}
use Rattle.bib_dates.specs.Written.{date_text}
use Rattle.bib_dates.proofs.DatesReread.{text_survives}
use Rattle.bib_dates.proofs.laws.dates_survive.Goals as goal

pub returns-clause-read : goal.returns-clause-read
returns-clause-read c = text_survives

pub returns-clause-written : goal.returns-clause-written
returns-clause-written c d kept = ap (λ reading. option_map date_text (readable_value reading)) (text_survives d kept)
