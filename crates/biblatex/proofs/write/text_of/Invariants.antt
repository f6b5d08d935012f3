use Rattle.std.proofs.Common.{◌≡◌, take}
use Rattle.std.specs.Prelude.{◌==◌, string_bytes}
use Rattle.bib_entry.specs.WrittenEntries.{entry_in, entries_text}
use Rattle.biblatex.proofs.write.text_of.Given as goal

abbrev pub invariant-entries : goal.invariant-entries
invariant-entries l =
    (string_bytes l.out ≡ entries_text (entry_in l.dialect) (take l.entry-index l.entries)) × (l.is_first ≡ (l.entry-index == 0))
