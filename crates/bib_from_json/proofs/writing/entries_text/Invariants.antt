use Rattle.std.proofs.Common.{◌≡◌, ◌++◌, drop}
use Rattle.bib_from_json.specs.WrittenSources.{sources_from, entries_source}
use Rattle.bib_from_json.proofs.writing.entries_text.Given as goal

abbrev pub invariant-entries : goal.invariant-entries
invariant-entries l = l.out ++ sources_from l.first (drop l.entry-index l.entries) ≡ entries_source l.entries
