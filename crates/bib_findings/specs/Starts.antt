-- Machinery: words of private contracts.
-- Raw entries by the offsets at which they begin.
use Rattle.std.specs.Prelude.{◌≡◌, ℕ, List, option_map}
use Rattle.std.specs.Borrow.{Bor}
use Rattle.std.specs.BTreeMap.{BTreeMap, get}
use Rattle.std.specs.Ordering.{nat_cmp}
use Rattle.bib_syntax.specs.Reading.{EntryReading}
use Rattle.bib_syntax.specs.Views.{entry_reading_of}
use Rattle.bib_syntax.specs.declared.raw.RawEntry.{RawEntry}
use Rattle.bib_text.specs.declared.spanned.Spanned.{Spanned}
use Rattle.bib_findings.specs.Cuts.{entry_from}

-- whether each offset has the first entry that begins there, and no other offset has an entry
abbrev pub AreEntriesByStart : BTreeMap ℕ (Bor (Spanned RawEntry)) → List EntryReading → Type 0
AreEntriesByStart entries said =
    (start : ℕ) → option_map (λ e. entry_reading_of e.now) (get nat_cmp entries start) ≡ entry_from said start
