-- Machinery: words of private contracts.
-- The prefixes of the names of dates.
use Rattle.std.specs.Prelude.{ℕ, List, codes}
use Rattle.bib_entry.specs.declared.dates.Prefix.{Prefix}
use Rattle.bib_entry.specs.declared.dates.Prefix.TheVariants.{Plain, Event, Orig, Url}

-- the text of a prefix
abbrev pub date_prefix : Prefix → List ℕ
date_prefix Plain = codes ""
date_prefix Event = codes "event"
date_prefix Orig = codes "orig"
date_prefix Url = codes "url"
