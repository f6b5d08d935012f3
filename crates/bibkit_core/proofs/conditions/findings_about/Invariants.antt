use Rattle.std.proofs.Common.{◌≡◌, map}
use Rattle.std.specs.Prelude.{filter}
use Rattle.bib_syntax.specs.Views.{entry_reading_of}
use Rattle.bibkit_core.specs.Conditions.{is_about}
use Rattle.bibkit_core.proofs.conditions.findings_about.Given as goal

abbrev pub invariant-found : goal.invariant-found
invariant-found l = l.kept.items ≡ filter (is_about l.skipped (map entry_reading_of l.entries)) l.yielded
